use Rattle.std.proofs.Common.{◌≡◌, ◌∙◌, ap, inl, inr, refl, rules, take}
use Rattle.stm_journal.specs.declared.cached.Content.{Content}
use Rattle.stm_journal.proofs.KeptContents.{cut_leaves, elapses_to}
use Rattle.stm_journal.proofs.cached.CachedDevice.cut.Goals as goal

pub returns-in_err-to_vec-clause-crash : goal.returns-in_err-to_vec-clause-crash
returns-in_err-to_vec-clause-crash c settled honest =
    let p = c.args.self.now.content in
    cut_leaves p c.args.len (c.requires.within honest) p (c.requires.durable honest (settled honest)) refl (inl refl)

pub returns-in_err-to_vec-2-clause-crash : goal.returns-in_err-to_vec-2-clause-crash
returns-in_err-to_vec-2-clause-crash c settled honest =
    let p = c.args.self.now.content in
    cut_leaves p c.args.len (c.requires.within honest) p (c.requires.durable honest (settled honest)) refl (inl refl)

pub returns-in_err-replace-clause-crash : goal.returns-in_err-replace-clause-crash
returns-in_err-replace-clause-crash c settled honest =
    let p = c.args.self.now.content in
    let is = c.in_err-replace.ensures.err in
    cut_leaves p c.args.len (c.requires.within honest) c.replace.new.content (c.requires.durable honest (settled honest))
    (ap (λ (k : Content). k.disk.items) is) (inl (ap (λ (k : Content). k.cache.items) is))

pub returns-clause-crash : goal.returns-clause-crash
returns-clause-crash c settled honest =
    let p = c.args.self.now.content in
    let is = c.in_ok-replace.ensures.ok in
    let disk : c.in_ok-to_vec.field-0.items ≡ p.disk.items = search rules in
    let cache : c.in_ok-to_vec-2.field-0.items ≡ take c.args.len p.cache.items = search rules in
    cut_leaves p c.args.len (c.requires.within honest) c.replace.new.content (c.requires.durable honest (settled honest))
    (ap (λ (k : Content). k.disk.items) is ∙ disk) (inr (ap (λ (k : Content). k.cache.items) is ∙ cache))

pub returns-clause-time : goal.returns-clause-time
returns-clause-time c honest =
    let past = c.in_ok-replace.ensures.past in
    elapses_to past.0 c.args.self.now.content past.1 past.2 c.args.self.now.past.items c.replace.new.past.items c.replace.new.content past.3
