use Rattle.std.proofs.Common.{◌≡◌, ◌<◌, [], length, refl, inl, inr, rules, subst}
use Rattle.stm_history.specs.declared.check.Stage.{Stage}
use Rattle.stm_history.specs.declared.fault.HistoryFault.TheVariants.{BadHeader}
use Rattle.stm_history.specs.Stages.{Reached}
use Rattle.stm_history.proofs.ReadToTheEnd.{no_bytes, read_history}
use Rattle.stm_history.proofs.RefusedLines.{ends_early, early_stops, before_strange, blocks_strange, cells_strange, declaring_strange}
use Rattle.stm_history.proofs.check.Checker.end.Goals as goal

pub returns-then-not-is_empty-clause-fault : goal.returns-then-not-is_empty-clause-fault
returns-then-not-is_empty-clause-fault c = λ taken h.
    let some : 0 < length c.args.self.now.line.items = search rules in
    ends_early _ _ _ taken _ c.strange_fault.ensures h (inl some)

pub returns-then-not-is_empty-clause-stops : goal.returns-then-not-is_empty-clause-stops
returns-then-not-is_empty-clause-stops c = λ taken h. early_stops _ _ _ taken _ c.strange_fault.ensures h

pub returns-in-Before-clause-stops : goal.returns-in-Before-clause-stops
returns-in-Before-clause-stops c = λ taken h. early_stops _ _ _ taken BadHeader (λ p i. before_strange _ _ p c.in-Before.is i) h

pub returns-in-Declaring-clause-fault : goal.returns-in-Declaring-clause-fault
returns-in-Declaring-clause-fault c = λ taken h. ends_early _ _ _ taken BadHeader (λ p i. declaring_strange _ _ _ _ _ p c.in-Declaring.is i) h (inr refl)

pub returns-in-Declaring-clause-stops : goal.returns-in-Declaring-clause-stops
returns-in-Declaring-clause-stops c = λ taken h. early_stops _ _ _ taken BadHeader (λ p i. declaring_strange _ _ _ _ _ p c.in-Declaring.is i) h

pub returns-in-AtCells-clause-fault : goal.returns-in-AtCells-clause-fault
returns-in-AtCells-clause-fault c = λ taken h. ends_early _ _ _ taken BadHeader (λ p i. cells_strange _ _ _ _ _ p c.in-AtCells.is i) h (inr refl)

pub returns-in-AtBlocks-clause-fault : goal.returns-in-AtBlocks-clause-fault
returns-in-AtBlocks-clause-fault c = λ taken h. ends_early _ _ _ taken BadHeader (λ p i. blocks_strange _ _ _ _ _ p c.in-AtBlocks.is i) h (inr refl)

pub returns-in-Running-clause-done : goal.returns-in-Running-clause-done
returns-in-Running-clause-done c = λ taken h.
    let zero : length c.args.self.now.line.items ≡ 0 = search rules in
    let none : c.args.self.now.line.items ≡ [] = no_bytes c.args.self.now.line.items zero in
    let r = subst (λ (s : Stage). Reached s c.args.self.now.whole c.args.self.now.line.items taken) c.in-Running.is h in
    let k = read_history c.in-Running.format c.in-Running.table c.in-Running.checkpoint c.in-Running.replayer c.args.self.now.whole c.args.self.now.line.items taken r none in
    (record { format = c.in-Running.format; table = c.in-Running.table; checkpoint = c.in-Running.checkpoint }, k.history, k.whole, c.numbers.ensures _ k.history k.follows)
