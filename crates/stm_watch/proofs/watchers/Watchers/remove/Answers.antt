use Rattle.std.proofs.Common.{◌≡◌, ℕ, List, Bool, true, false, ◌&&◌, not, refl, ap, ◌∙◌, rules}
use Rattle.std.specs.Prelude.{nat_eq}
use Rattle.stm_queue.specs.SortedTickets.{IsRising, member}
use Rattle.stm_queue.proofs.InvariantPreserved.{delete_rising, member_delete}
use Rattle.stm_watch.proofs.watchers.Watchers.remove.Goals as goal

turned : (a b : Bool) → (a && b) ≡ (b && a)
turned true true = refl
turned true false = refl
turned false true = refl
turned false false = refl

pub invariant_of-self-in-Many : goal.invariant_of-self-in-Many
invariant_of-self-in-Many c =
    let ts = c.deref_mut.result.now.items in
    let r : IsRising c.deref_mut.result.now.items = search rules in
    rw c.take_out.ensures.items (delete_rising c.args.ticket ts r)

pub returns-in-Many-clause-others : goal.returns-in-Many-clause-others
returns-in-Many-clause-others c = λ u.
    let ts = c.deref_mut.result.now.items in
    let e : c.deref_mut.result.now.items ≡ c.in-Many.tickets.value.items = search rules in
    rw (c.take_out.ensures.items, ← c.self.view_is, c.in-Many.is)
    (member_delete u c.args.ticket ts ∙ turned (not (nat_eq u c.args.ticket)) (member u ts)
    ∙ ap (λ (xs : List ℕ). member u xs && not (nat_eq u c.args.ticket)) e)
