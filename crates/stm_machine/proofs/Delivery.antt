-- A message that is not refused says what its block does on the present store.
use Rattle.std.proofs.Common.{◌≡◌, ◌≢◌, ℕ, ℤ, Bool, true, false, not, cond, List, [], ◌∷◌, Option, Some, None, refl, sym, ap, subst, ◌∙◌, arith, eqb-true}
use Rattle.std.specs.Prelude.{nat_eq, Result, Err}
use Rattle.std.specs.Ordering.{int_eq}
use Rattle.std.proofs.lemmas.Bool.Decides.{Decides-int_eq}
use Rattle.stm_terms.specs.declared.values.Ref.{Ref}
use Rattle.stm_terms.specs.declared.values.Ref.TheVariants.{Old, New}
use Rattle.stm_terms.specs.declared.values.Value.{Value}
use Rattle.stm_terms.specs.declared.values.Value.TheVariants.{Int, Bool as Truth, Unit as Nil, Var}
use Rattle.stm_terms.specs.UnlessNoMemory.{RefusedAs}
use Rattle.stm_terms.specs.Value.{same_value, same_ref}
use Rattle.stm_terms.specs.Changes.{Variables, find}
use Rattle.stm_store.specs.declared.cell.Cell.{Cell}
use Rattle.stm_check.specs.TypedBlock.{Block}
use Rattle.stm_eval.specs.declared.message.Evaluated.{Evaluated}
use Rattle.stm_eval.specs.Messages.{Agrees, Holds}
use Rattle.stm_eval.specs.EvaluatedFields.{message_ticket, message_block, message_reads, message_verdict}
use Rattle.stm_watch.specs.Pairs.{Pairs, WithReads}
use Rattle.stm_queue.specs.Queue.{Entry, has_ticket, without_ticket}
use Rattle.stm_queue.proofs.Membership.{has_marked}
use Rattle.stm_events.specs.declared.event.What.TheVariants.{Installed}
use Rattle.stm_events.specs.SlowDesk.{Waiter, Slow, under, is_current, find_waiter, after, Allows}
use Rattle.stm_waiting.specs.declared.waiting.Held.{Held}
use Rattle.stm_events.specs.declared.errors.DeliverError.{DeliverError}
use Rattle.stm_events.specs.declared.errors.DeliverError.TheVariants as deliver
use Rattle.stm_waiting.specs.Entries.{with_held}
use Rattle.stm_machine.specs.Machine.{Parts, IsAt, MayDeliver}
use Rattle.stm_machine.specs.QueueAndIndex.{due_of}
use Rattle.stm_events.specs.Refusals.{has_value, differing, overtaken_first, install_first, DeliveryRefusedAt, pending_left}
use Rattle.stm_machine.proofs.MovesFollowEvents.{stands_install}
use Rattle.stm_machine.proofs.States.{IsLike, moves_to, like_at, same_store}

-- ---- values found equal are equal
ref_equal : (r q : Ref) → same_ref r q ≡ true → r ≡ q
ref_equal (Old i) (Old j) e = ap Old (eqb-true i j e)
ref_equal (Old i) (New j) e = cc
ref_equal (New i) (Old j) e = cc
ref_equal (New i) (New j) e = ap New (eqb-true i j e)

int_equal : (x y : ℤ) → int_eq x y ≡ true → x ≡ y
int_equal x y e = grind (arith, Decides-int_eq x y)

pub value_equal : (x y : Value) → same_value x y ≡ true → x ≡ y
value_equal (Int x) (Int y) e = ap Int (int_equal x y e)
value_equal (Int x) (Truth y) e = cc
value_equal (Int x) Nil e = cc
value_equal (Int x) (Var y) e = cc
value_equal (Truth true) (Int y) e = cc
value_equal (Truth true) (Truth y) e = ap Truth (sym e)
value_equal (Truth true) Nil e = cc
value_equal (Truth true) (Var y) e = cc
value_equal (Truth false) (Int y) e = cc
value_equal (Truth false) (Truth true) e = cc
value_equal (Truth false) (Truth false) e = refl
value_equal (Truth false) Nil e = cc
value_equal (Truth false) (Var y) e = cc
value_equal Nil (Int y) e = cc
value_equal Nil (Truth y) e = cc
value_equal Nil Nil e = refl
value_equal Nil (Var y) e = cc
value_equal (Var x) (Int y) e = cc
value_equal (Var x) (Truth y) e = cc
value_equal (Var x) Nil e = cc
value_equal (Var x) (Var y) e = ap Var (ref_equal x y e)

value_there : (o : Option Value) (v : Value) → has_value o v ≡ true → o ≡ Some v
value_there (Some x) v e = ap Some (value_equal x v e)
value_there None v e = cc

agrees_step : (b c : Bool) (S : Variables) (r : ℕ × Value) (rs : List (ℕ × Value)) (i : ℕ) (v : Value) → has_value (S r.0) r.1 ≡ b → nat_eq r.0 i ≡ c
    → (differing S rs ≡ None → find i rs ≡ Some v → S i ≡ Some v) → cond b (differing S rs) (Some r.0) ≡ None → cond c (Some r.1) (find i rs) ≡ Some v → S i ≡ Some v
agrees_step false c S r rs i v h n more d e = cc
agrees_step true true S r rs i v h n more d e =
    let q : r.1 ≡ v = cc in
    subst (λ (j : ℕ). S j ≡ Some v) (eqb-true r.0 i n) (value_there (S r.0) r.1 h ∙ ap Some q)
agrees_step true false S r rs i v h n more d e = more d e

pub none_differs : (S : Variables) (reads : List (ℕ × Value)) → differing S reads ≡ None → Agrees reads S
none_differs S [] d i v e = cc
none_differs S (r ∷ rs) d i v e = agrees_step (has_value (S r.0) r.1) (nat_eq r.0 i) S r rs i v refl refl (λ g. none_differs S rs g i v) d e

-- ---- what it is refused for
pub refused_gone : (A : Type 0) (store : List Cell) (full : Bool) (o : Option Waiter) (block : Block) (reads : List (ℕ × Value)) → o ≡ None → DeliveryRefusedAt {A = A} store full o block reads (Err deliver.Gone)
refused_gone A store full o block reads e = rw e refl

pub refused_other : (A : Type 0) (store : List Cell) (full : Bool) (o : Option Waiter) (w : Waiter) (block : Block) (reads : List (ℕ × Value)) → o ≡ Some w → w.block.tree ≢ block.tree
    → DeliveryRefusedAt {A = A} store full o block reads (Err deliver.OtherBlock)
refused_other A store full o w block reads e n = rw e (λ m. refl, λ m. absurd (n m))

pub refused_same : {A : Type 0} (store : List Cell) (full : Bool) (o : Option Waiter) (w : Waiter) (block : Block) (reads : List (ℕ × Value)) (r : Option DeliverError) (result : Result A DeliverError) → o ≡ Some w → w.block.tree ≡ block.tree
    → install_first store full w reads ≡ r → RefusedAs deliver.NoMemory r result → DeliveryRefusedAt store full o block reads result
refused_same store full o w block reads r result e s i f = rw e (λ m. absurd (m s), λ m. rw i f)

pub first_already : (store : List Cell) (full : Bool) (w : Waiter) (reads : List (ℕ × Value)) → is_current w ≡ true → install_first store full w reads ≡ Some deliver.Already
first_already store full w reads c = rw c refl

pub first_overtaken : (store : List Cell) (full : Bool) (w : Waiter) (reads : List (ℕ × Value)) (i : ℕ) → is_current w ≡ false → differing (under store) reads ≡ Some i → install_first store full w reads ≡ Some (deliver.Overtaken i)
first_overtaken store full w reads i c d = rw (c, d) refl

pub first_full : (store : List Cell) (full : Bool) (w : Waiter) (reads : List (ℕ × Value)) → is_current w ≡ false → differing (under store) reads ≡ None → full ≡ true → install_first store full w reads ≡ Some deliver.HistoryFull
first_full store full w reads c d f = rw (c, d, f) refl

pub first_room : (store : List Cell) (full : Bool) (w : Waiter) (reads : List (ℕ × Value)) → is_current w ≡ false → differing (under store) reads ≡ None → full ≡ false → install_first store full w reads ≡ None
first_room store full w reads c d f = rw (c, d, f) refl

pub first_none : (store : List Cell) (w : Waiter) (reads : List (ℕ × Value)) → is_current w ≡ false → differing (under store) reads ≡ None → install_first store false w reads ≡ None
first_none store w reads c d = rw (c, d) refl

flip_true : (a b : Bool) → b ≡ not a → b ≡ true → a ≡ false
flip_true true b e h = cc
flip_true false b e h = refl

flip_false : (a b : Bool) → b ≡ not a → b ≡ false → a ≡ true
flip_false true b e h = refl
flip_false false b e h = cc

pub not_current : (o : Option Waiter) (w : Waiter) (b : Bool) → o ≡ Some w → b ≡ due_of o → b ≡ true → is_current w ≡ false
not_current o w b f e h = flip_true (is_current w) b (e ∙ ap due_of f) h

pub current : (o : Option Waiter) (w : Waiter) (b : Bool) → o ≡ Some w → b ≡ due_of o → b ≡ false → is_current w ≡ true
current o w b f e h = flip_false (is_current w) b (e ∙ ap due_of f) h

-- ---- a message that may be delivered
pub record IsDue (store : List Cell) (w : Waiter) (reads : List (ℕ × Value)) : Type 0 where
  pub stale : is_current w ≡ false
  pub agrees : differing (under store) reads ≡ None

due_by : (c : Bool) (d : Option ℕ) → cond c (Some deliver.Already) (overtaken_first d false) ≡ None → (c ≡ false) × (d ≡ None)
due_by true d e = cc
due_by false (Some i) e = cc
due_by false None e = (refl, refl)

is_due : (store : List Cell) (w : Waiter) (reads : List (ℕ × Value)) → install_first store false w reads ≡ None → IsDue store w reads
is_due store w reads e = let p = due_by (is_current w) (differing (under store) reads) e in record { stale = p.0; agrees = p.1 }

-- then it may be delivered at each state of the machine
deliver_alike : (m : Parts) (s s' : Slow) (message : Evaluated) → IsAt m s → MayDeliver s message → IsAt m s' → MayDeliver s' message
deliver_alike m s s' message k d k' =
    let l : IsLike d.one (find_waiter (message_ticket message) s'.waiters) = like_at m s s' k k' (message_ticket message) d.one d.found in
    let p : IsDue s.store d.one (message_reads message) = is_due s.store d.one (message_reads message) d.allowed in
    record {
      one = l.other;
      found = l.found;
      same = ap (λ b. b.tree) l.block ∙ d.same;
      allowed = first_none s'.store l.other (message_reads message) (l.current ∙ p.stale) (rw (same_store m s s' k k') p.agrees);
    }

pub moves_deliver : (m : Parts) (s s' : Slow) (watch' : Pairs) (message : Evaluated) → IsAt m s → MayDeliver s message → IsAt m s'
    → ((S : Variables) → Agrees (message_reads message) S → Holds (message_block message).tree S (message_reads message) (message_verdict message))
    → WithReads m.watch (message_ticket message) (message_reads message) watch'
    → (Allows s' (Installed (message_ticket message) (message_verdict message))
    × IsAt (record m { entries = with_held (message_ticket message) (record { reads = message_reads message; verdict = message_verdict message }) m.entries; pending = without_ticket (message_ticket message) m.pending; watch = watch' })
    (after s' (Installed (message_ticket message) (message_verdict message))))
moves_deliver m s s' watch' message k d k' truth q =
    let t = message_ticket message in
    let block = message_block message in
    let h : Held = record { reads = message_reads message; verdict = message_verdict message } in
    let a : MayDeliver s' message = deliver_alike m s s' message k d k' in
    let p : IsDue s'.store a.one h.reads = is_due s'.store a.one h.reads a.allowed in
    let there : Holds block.tree (under s'.store) h.reads h.verdict = truth (under s'.store) (none_differs (under s'.store) h.reads p.agrees) in
    let holds : Holds a.one.block.tree (under s'.store) h.reads h.verdict = subst (λ x. Holds x (under s'.store) h.reads h.verdict) (sym a.same) there in
    let may : Allows s' (Installed t h.verdict) = rw a.found (record { not_current = p.stale; verdict_is = holds.verdict_is }) in
    moves_to m _ s' (Installed t h.verdict) k' may (stands_install s' m watch' t a.one h k'.stands a.found p.stale holds q)

-- its ticket is queued or out
pub deliver_queued : (m : Parts) (s : Slow) (message : Evaluated) → IsAt m s → MayDeliver s message → has_ticket (message_ticket message) m.pending ≡ true
deliver_queued m s message k d =
    k.stands.queue (message_ticket message) ∙ ap due_of d.found ∙ ap not (is_due s.store d.one (message_reads message) d.allowed).stale

-- ---- the queue after a message that was overtaken
pub has_left : (u t : ℕ) (e : DeliverError) (es : List Entry) → has_ticket u (pending_left e t es) ≡ has_ticket u es
has_left u t (deliver.Overtaken i) es = has_marked u t false es
has_left u t deliver.Gone es = refl
has_left u t deliver.OtherBlock es = refl
has_left u t deliver.Already es = refl
has_left u t deliver.HistoryFull es = refl
has_left u t deliver.NoMemory es = refl
