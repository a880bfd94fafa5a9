-- A verdict that the machine made itself and keeps.
use Rattle.std.proofs.Common.{◌≡◌, ℕ, false, List, Some, refl, sym, ap, ◌∙◌}
use Rattle.std.specs.Prelude.{Result, Ok, Err, IfOk, OnOk}
use Rattle.stm_terms.specs.declared.values.Value.{Value}
use Rattle.stm_terms.specs.declared.verdicts.Verdict.{Verdict}
use Rattle.stm_terms.specs.ReadSet.{reads_of}
use Rattle.stm_terms.specs.Verdict.{verdict}
use Rattle.stm_terms.specs.Changes.{cell_value}
use Rattle.stm_terms.specs.declared.kinds.Ty.{Ty}
use Rattle.stm_store.specs.declared.cell.Cell.{Cell}
use Rattle.stm_store.specs.Cells.{plains, Covers}
use Rattle.stm_check.specs.TypedBlock.{Block}
use Rattle.stm_eval.specs.Messages.{Holds}
use Rattle.stm_watch.specs.Pairs.{Pairs, WithReads}
use Rattle.stm_queue.specs.Queue.{without_ticket}
use Rattle.stm_events.specs.declared.event.What.TheVariants.{Installed}
use Rattle.stm_waiting.specs.declared.waiting.Held.{Held}
use Rattle.stm_waiting.specs.declared.waiting.Waiting.{Waiting}
use Rattle.stm_events.specs.SlowDesk.{Slow, under, is_current, find_waiter, after, Allows}
use Rattle.stm_waiting.specs.Entries.{kept_at, with_held}
use Rattle.stm_machine.specs.Machine.{Parts, IsAt}
use Rattle.stm_machine.specs.QueueAndIndex.{due_of}
use Rattle.stm_machine.specs.Keeping.{IsVerdictUnder, MayKeep}
use Rattle.stm_machine.proofs.Calls.{waits}
use Rattle.stm_machine.proofs.Delivery.{not_current}
use Rattle.stm_machine.proofs.MovesFollowEvents.{stands_install}
use Rattle.stm_machine.proofs.States.{IsLike, covered_at, moves_to, like_at, same_verdict, same_store}

-- the store has the variables that a waiting block names
pub kept_covered : (m : Parts) (s : Slow) (t : ℕ) (x : Waiting) → IsAt m s → kept_at t m.entries ≡ Some x → Covers (plains m.store) x.block.uses
kept_covered m s t x k e =
    let p = waits t x m.entries s.waiters k.stands.entries_are e in
    rw (k.stands.store_is, p.same.block) (covered_at m s k t p.one p.found)

has_verdict : (m : Parts) (s : Slow) (t : ℕ) (x : Waiting) (v : Verdict) (cells : List (Ty × Value)) (reads : List (ℕ × Value)) → IsAt m s → kept_at t m.entries ≡ Some x
    → cells ≡ plains m.store → verdict (cell_value cells) x.block.tree ≡ Some v → reads ≡ reads_of (cell_value cells) x.block.tree → IsVerdictUnder s t v reads
has_verdict m s t x v cells reads k e c f g =
    let p = waits t x m.entries s.waiters k.stands.entries_are e in
    let same : cells ≡ plains s.store = c ∙ ap plains k.stands.store_is in
    record { one = p.one; found = p.found; verdict = rw (← same, ← p.same.block) f; reads_are = rw (← same, ← p.same.block) g }

pub if_verdict : {E : Type 0} (m : Parts) (t : ℕ) (x : Waiting) (cells : List (Ty × Value)) (reads : List (ℕ × Value)) (r : Result Verdict E) → kept_at t m.entries ≡ Some x → cells ≡ plains m.store
    → IfOk r (λ v. verdict (cell_value cells) x.block.tree ≡ Some v) → OnOk r (reads ≡ reads_of (cell_value cells) x.block.tree) → IfOk r (λ v. (s : Slow) → IsAt m s → IsVerdictUnder s t v reads)
if_verdict m t x cells reads (Ok v) e c f g = λ s k. has_verdict m s t x v cells reads k e c f g
if_verdict m t x cells reads (Err refused) e c f g = tt

same_reads : (store store' : List Cell) (b b' : Block) → store' ≡ store → b' ≡ b → reads_of (under store) b.tree ≡ reads_of (under store') b'.tree
same_reads store store' b b' e f = rw (e, f) refl

-- what may be kept at one state of the machine may be kept at each
keep_alike : (m : Parts) (s s' : Slow) (t : ℕ) (v : Verdict) (reads : List (ℕ × Value)) → IsAt m s → MayKeep s t v reads → IsAt m s' → MayKeep s' t v reads
keep_alike m s s' t v reads k c k' =
    let l : IsLike c.1.one (find_waiter t s'.waiters) = like_at m s s' k k' t c.1.one c.1.found in
    let same = same_store m s s' k k' in (
      sym (k'.stands.queue t) ∙ k.stands.queue t ∙ c.0,
      record {
        one = l.other;
        found = l.found;
        verdict = same_verdict s.store s'.store c.1.one.block l.other.block v same l.block c.1.verdict;
        reads_are = c.1.reads_are ∙ same_reads s.store s'.store c.1.one.block l.other.block same l.block;
      },
    )

pub moves_keep : (m : Parts) (s s' : Slow) (watch' : Pairs) (t : ℕ) (v : Verdict) (reads : List (ℕ × Value)) → IsAt m s → MayKeep s t v reads → IsAt m s' → WithReads m.watch t reads watch'
    → (Allows s' (Installed t v) × IsAt (record m { entries = with_held t (record { reads = reads; verdict = v }) m.entries; pending = without_ticket t m.pending; watch = watch' }) (after s' (Installed t v)))
moves_keep m s s' watch' t v reads k c k' q =
    let h : Held = record { reads = reads; verdict = v } in
    let d : MayKeep s' t v reads = keep_alike m s s' t v reads k c k' in
    let one = d.1.one in
    let stale : is_current one ≡ false = not_current (find_waiter t s'.waiters) one (due_of (find_waiter t s'.waiters)) d.1.found refl d.0 in
    let holds : Holds one.block.tree (under s'.store) h.reads h.verdict = record { verdict_is = d.1.verdict; reads_are = sym d.1.reads_are } in
    let may : Allows s' (Installed t h.verdict) = rw d.1.found (record { not_current = stale; verdict_is = d.1.verdict }) in
    moves_to m _ s' (Installed t h.verdict) k' may (stands_install s' m watch' t one h k'.stands d.1.found stale holds q)
