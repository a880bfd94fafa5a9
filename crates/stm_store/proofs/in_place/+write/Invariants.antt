use Rattle.std.proofs.Common.{◌+◌, ◌*◌, length}
use Rattle.stm_store.proofs.in_place.+write.Given as goal

-- each call of write_part has fewer parts after it, and each of write_pages by write_page fewer writes
abbrev pub decreases-write_part : goal.decreases-write_part
decreases-write_part l = 4 * (length l.parts.now + length l.writes.now) + 3

abbrev pub decreases-write_pages : goal.decreases-write_pages
decreases-write_pages l = 4 * (length l.parts.now + length l.writes.now) + 2

abbrev pub decreases-write_page : goal.decreases-write_page
decreases-write_page l = 4 * (length l.parts.now + length l.writes.now) + 1
