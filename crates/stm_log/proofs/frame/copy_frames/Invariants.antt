use Rattle.std.proofs.Common.{◌≡◌, take}
use Rattle.stm_log.proofs.frame.copy_frames.Given as goal

-- those so far are copied
abbrev pub invariant-loop-frame : goal.invariant-loop-frame
invariant-loop-frame l = l.copied.items ≡ take l.frame-index l.frame-items
