use Rattle.std.proofs.Common.{◌≡◌, rules}
use Rattle.stm_journal.proofs.cached.replace.Goals as goal

pub returns-clause-past : goal.returns-clause-past
returns-clause-past c =
    let disk : c.in_ok-to_vec.field-0.items ≡ c.args.content.now.disk.items = search rules in
    let cache : c.in_ok-to_vec-2.field-0.items ≡ c.args.content.now.cache.items = search rules in
    (record { disk = c.in_ok-to_vec.field-0; cache = c.in_ok-to_vec-2.field-0 }, disk, cache, c.in_ok-push.ensures.items)
