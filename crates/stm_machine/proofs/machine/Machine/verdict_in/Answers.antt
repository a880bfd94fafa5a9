use Rattle.std.proofs.Common.{◌≡◌, ◌∙◌, Some, sym, ap, subst}
use Rattle.std.specs.Option.{option_copied}
use Rattle.std.specs.Prelude.{IfOk}
use Rattle.stm_store.specs.Cells.{plains}
use Rattle.stm_waiting.specs.Entries.{kept_at}
use Rattle.stm_machine.specs.Keeping.{IsVerdictUnder}
use Rattle.stm_machine.specs.Machine.{Parts, IsAt}
use Rattle.stm_events.specs.SlowDesk.{Slow}
use Rattle.stm_machine.proofs.Keeping.{kept_covered, if_verdict}
use Rattle.stm_machine.proofs.JobsHandedOut.{kept_waits}
use Rattle.stm_machine.proofs.machine.Machine.verdict_in.Goals as goal

pub unreachable-requires : goal.unreachable-requires
unreachable-requires c =
    let s = c.requires.waits.0 in let h = c.requires.waits.1 in
    let k = subst (λ (m : Parts). IsAt m s) (sym c.self.view_is) h in
    kept_waits _ s k c.args.ticket c.requires.waits.2 (sym c.get.ensures ∙ ap option_copied c.in-None.is)

pub try_block_in-requires : goal.try_block_in-requires
try_block_in-requires c =
    let s = c.requires.waits.0 in let h = c.requires.waits.1 in
    let k = subst (λ (m : Parts). IsAt m s) (sym c.self.view_is) h in
    let e : kept_at c.args.ticket c.self.inside.waiting ≡ Some c.in-Some.waiting.now = sym c.get.ensures ∙ ap option_copied c.in-Some.is in
    let same = subst (λ (m : Parts). c.args.frozen.now ≡ plains m.store) (sym c.self.view_is) c.requires.store in
    rw (same, c.block.ensures) (kept_covered _ s c.args.ticket c.in-Some.waiting.now k e)

pub returns : goal.returns
returns c =
    let e : kept_at c.args.ticket c.self.inside.waiting ≡ Some c.in-Some.waiting.now = sym c.get.ensures ∙ ap option_copied c.in-Some.is in
    let same = subst (λ (m : Parts). c.args.frozen.now ≡ plains m.store) (sym c.self.view_is) c.requires.store in
    subst (λ (m : Parts). IfOk c.try_block_in.result (λ v. (s : Slow) → IsAt m s → IsVerdictUnder s c.args.ticket v c.try_block_in.new.scratch)) c.self.view_is
    (if_verdict _ c.args.ticket c.in-Some.waiting.now c.args.frozen.now c.try_block_in.new.scratch c.try_block_in.result e same
    (rw c.block.ensures at c.try_block_in.ensures.verdict) (rw c.block.ensures at c.try_block_in.ensures.reads))
