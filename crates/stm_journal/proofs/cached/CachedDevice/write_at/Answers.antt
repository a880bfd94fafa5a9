use Rattle.std.proofs.Common.{◌≡◌, ◌∙◌, ap, refl, rules}
use Rattle.stm_journal.specs.Device.{overwritten}
use Rattle.stm_journal.specs.declared.cached.Content.{Content}
use Rattle.stm_journal.proofs.KeptContents.{append_leaves, elapses_to, unwritten_leaves, write_leaves}
use Rattle.stm_journal.proofs.cached.CachedDevice.write_at.Goals as goal

pub returns-clause-crash : goal.returns-clause-crash
returns-clause-crash c honest =
    let p = c.args.self.now.content in
    let is = c.in_ok-replace.ensures.ok in
    let disk : c.in_ok-to_vec.field-0.items ≡ p.disk.items = search rules in
    let cache : c.in_ok-rewritten.field-0.items ≡ overwritten c.args.at c.args.bytes.now p.cache.items = search rules in
    write_leaves p c.replace.new.content c.args.at c.args.bytes.now (c.requires honest) (ap (λ (k : Content). k.disk.items) is ∙ disk)
    (ap (λ (k : Content). k.cache.items) is ∙ cache)

pub returns-in_err-to_vec-clause-zeros : goal.returns-in_err-to_vec-clause-zeros
returns-in_err-to_vec-clause-zeros c honest either at_end only file left =
    let p = c.args.self.now.content in
    unwritten_leaves p p c.args.bytes.now only refl refl file left

pub returns-in_err-rewritten-clause-zeros : goal.returns-in_err-rewritten-clause-zeros
returns-in_err-rewritten-clause-zeros c honest either at_end only file left =
    let p = c.args.self.now.content in
    unwritten_leaves p p c.args.bytes.now only refl refl file left

pub returns-in_err-replace-clause-zeros : goal.returns-in_err-replace-clause-zeros
returns-in_err-replace-clause-zeros c honest either at_end only file left =
    let is = c.in_err-replace.ensures.err in
    unwritten_leaves c.args.self.now.content c.replace.new.content c.args.bytes.now only (ap (λ (k : Content). k.disk.items) is)
    (ap (λ (k : Content). k.cache.items) is) file left

pub returns-clause-zeros : goal.returns-clause-zeros
returns-clause-zeros c honest either at_end only file left =
    let p = c.args.self.now.content in
    let is = c.in_ok-replace.ensures.ok in
    let disk : c.in_ok-to_vec.field-0.items ≡ p.disk.items = search rules in
    let cache : c.in_ok-rewritten.field-0.items ≡ overwritten c.args.at c.args.bytes.now p.cache.items = search rules in
    append_leaves p c.replace.new.content c.args.at c.args.bytes.now at_end only (ap (λ (k : Content). k.disk.items) is ∙ disk)
    (ap (λ (k : Content). k.cache.items) is ∙ cache) file left

pub returns-clause-time : goal.returns-clause-time
returns-clause-time c honest =
    let past = c.in_ok-replace.ensures.past in
    elapses_to past.0 c.args.self.now.content past.1 past.2 c.args.self.now.past.items c.replace.new.past.items c.replace.new.content past.3
