-- Running a block atomically keeps the desk what its history makes.
use Rattle.std.proofs.Common.{◌≡◌, ℕ, ◌+◌, ◌<◌, ◌≤◌, true, false, List, [], ◌∷◌, ◌++◌, map, length, Option, Some, refl, sym, ap, subst, ◌∙◌, arith, length-append, append_assoc}
use Rattle.std.specs.Prelude.{◌≢◌, Bool, None, nat_le, nat_lt, Result, Ok, Err, IfErr}
use Rattle.std.proofs.lemmas.Bool.Decides.{nat_tests}
use Rattle.stm_terms.specs.declared.verdicts.Verdict.{Verdict}
use Rattle.stm_store.specs.Cells.{plains, Fits}
use Rattle.stm_store.specs.Tables.{Declared}
use Rattle.stm_check.specs.TypedBlock.{Block}
use Rattle.stm_queue.specs.Queue.{Entry, has_ticket}
use Rattle.stm_queue.proofs.Merging.{removed_with}
use Rattle.stm_events.specs.declared.event.Event.{Event}
use Rattle.stm_events.specs.declared.event.What.{What}
use Rattle.stm_events.specs.declared.event.What.TheVariants.{Submitted, Installed, Finished}
use Rattle.stm_events.specs.Laws.{SubmittedAreWellTyped}
use Rattle.stm_events.specs.Refusals.{overflows, missing, submit_first, submit_refused}
use Rattle.stm_events.specs.SlowAtomically.{atomically, AllowsEach}
use Rattle.stm_events.specs.SlowDesk.{Slow, verdict_on, is_blocks, after, state_from, LegalFrom}
use Rattle.stm_terms.specs.Limits.{max_clients, max_waiting}
use Rattle.stm_events.specs.SlowDrain.{after_all}
use Rattle.stm_events.proofs.Folds.{state-append}
use Rattle.stm_events.proofs.TypedStores.{submitted-append}
use Rattle.stm_events.proofs.Atomically.{whats_waiting, whats_ending}
use Rattle.stm_machine.specs.Atomic.{IsRunPlan, PlansRun}
use Rattle.stm_machine.proofs.Calls.{next_absent}
use Rattle.stm_machine.specs.Checkpoints.{CheckpointView, start_of}
use Rattle.stm_machine.specs.Machine.{Parts, IsAt, event}
use Rattle.stm_machine.specs.QueueAndIndex.{with_tickets}
use Rattle.stm_desk.specs.declared.errors.AtomicError.{AtomicError}
use Rattle.stm_desk.specs.declared.errors.AtomicError.TheVariants as atomic
use Rattle.stm_desk.specs.DeskView.{DeskView, state_of, lacks_room}
use Rattle.stm_desk.specs.Kept.{DeskInvariant}
use Rattle.stm_desk.specs.Refusals.{atomic_first, atomic_refusal, atomic_refusal_before, IsAtomicError}
use Rattle.stm_desk.specs.Settling.{with_whats}

-- ---- the desk keeps what its history makes
legal_whats : (s : Slow) (client : ℕ) (whats : List What) → client < max_clients → AllowsEach s whats → LegalFrom s (map (event client) whats)
legal_whats s client [] l a = tt
legal_whats s client (x ∷ xs) l a = (record { client = l; what = a.0 }, legal_whats (after s x) client xs l a.1)

legal_more : (s : Slow) (es more : List Event) → LegalFrom s es → LegalFrom (state_from s es) more → LegalFrom s (es ++ more)
legal_more s [] more l q = q
legal_more s (e ∷ es) more l q = (l.0, legal_more (after s e.what) es more l.1 q)

state_whats : (s : Slow) (client : ℕ) (whats : List What) → state_from s (map (event client) whats) ≡ after_all s whats
state_whats s client [] = refl
state_whats s client (x ∷ xs) = state_whats (after s x) client xs

length_events : (client : ℕ) (whats : List What) → length (map (event client) whats) ≡ length whats
length_events client [] = refl
length_events client (x ∷ xs) = let h = length_events client xs in omega arith

module _ (table : List Declared) (checkpoint : Option CheckpointView) (limit : ℕ) (history : List Event) (m : Parts) (k : DeskInvariant table checkpoint limit history m) where
  abbrev now : Slow
  now = state_from (start_of table checkpoint) history

  -- the machine moved through these, and the history has their events more
  pub kept_moves : (client : ℕ) (whats : List What) (new : Parts) → client < max_clients → length history + length whats ≤ limit → SubmittedAreWellTyped (map (event client) whats)
      → AllowsEach now whats → IsAt new (after_all now whats) → DeskInvariant table checkpoint limit (history ++ map (event client) whats) new
  kept_moves client whats new low room typed a at =
      let more = map (event client) whats in
      let len : length (history ++ more) ≡ length history + length whats = (let h = length-append history more in let g = length_events client whats in omega arith) in
      let small = k.small in
      record {
        start = k.start;
        legal = record { each = legal_more (start_of table checkpoint) history more k.legal.each (legal_whats now client whats low a); few = omega arith };
        at = subst (λ (x : Slow). IsAt new x) (sym (state-append (start_of table checkpoint) history more ∙ state_whats now client whats)) at;
        few = omega arith;
        small = k.small;
        typed = submitted-append history more k.typed typed;
      }

pub two_more : (h : List Event) (a b : Event) → (h ++ a ∷ []) ++ b ∷ [] ≡ h ++ a ∷ b ∷ []
two_more h a b = append_assoc h (a ∷ []) (b ∷ [])

pub three_more : (h : List Event) (a b c : Event) → ((h ++ a ∷ []) ++ b ∷ []) ++ c ∷ [] ≡ h ++ a ∷ b ∷ c ∷ []
three_more h a b c = append_assoc (h ++ a ∷ []) (b ∷ []) (c ∷ []) ∙ append_assoc h (a ∷ []) (b ∷ c ∷ [])

pub has_room : (limit n k : ℕ) → nat_lt limit (n + k) ≡ false → n + k ≤ limit
has_room limit n k e = grind (arith, nat_tests)

-- ---- what the call leaves
next_free : (m : Parts) (s : Slow) (pending : List Entry) → IsAt m s → m.pending ≡ pending → has_ticket s.next pending ≡ false
next_free m s pending k same =
    subst (λ (ps : List Entry). has_ticket s.next ps ≡ false) same (subst (λ (t : ℕ). has_ticket t m.pending ≡ false) k.stands.next_is (next_absent m s k))

pub waited : (d : DeskView) (m : Parts) (client : ℕ) (block : Block) (v : Verdict) → IsAt m (state_of d) → m.pending ≡ d.pending → verdict_on (state_of d).store block ≡ Some v → is_blocks v ≡ true
    → record d { history = (d.history ++ event client (Submitted (state_of d).next block) ∷ []) ++ event client (Installed (state_of d).next v) ∷ [] } ≡ with_whats d client (atomically (state_of d) block)
waited d m client block v k same is blocks =
    let s = state_of d in
    let t = s.next in
    let free = next_free m s d.pending k same in
    ap (λ (ps : List Entry). record d { history = (d.history ++ event client (Submitted t block) ∷ []) ++ event client (Installed t v) ∷ []; pending = ps }) (sym (removed_with t false d.pending free))
    ∙ ap (with_whats d client) (sym (whats_waiting s block v k.possible is blocks))

-- what is planned at a desk's state, by what the desk shows of itself
pub is_planned : (m : Parts) {d e : DeskView} {v w : Verdict} {n : ℕ} {stale : List ℕ} → IsAt m (state_of d) → d ≡ e → PlansRun m v n stale → w ≡ v → Fits (plains (state_of e).store) v → is_blocks v ≡ false → overflows (state_of e).store (Some v) ≡ false
    → IsRunPlan (state_of d) w n stale
is_planned m {d = d} {v = v} k e plans is fits ends room =
    rw is (
    plans (state_of d) k (subst (λ (x : DeskView). Fits (plains (state_of x).store) v) (sym e) fits) ends
    (subst (λ (x : DeskView). overflows (state_of x).store (Some v) ≡ false) (sym e) room))

pub ended_whats : (m : Parts) (s : Slow) (block : Block) (v : Verdict) (n : ℕ) (stale : List ℕ) → IsAt m s → verdict_on s.store block ≡ Some v → IsRunPlan s v n stale
    → atomically s block ≡ Submitted s.next block ∷ Installed s.next v ∷ Finished s.next v n stale ∷ []
ended_whats m s block v n stale k is p =
    whats_ending s block v k.possible stale is p.ends p.listed ∙ ap (λ (l : ℕ). Submitted s.next block ∷ Installed s.next v ∷ Finished s.next v l stale ∷ []) (sym p.first_new_is)

pub ended : (d : DeskView) (m : Parts) (client : ℕ) (block : Block) (v : Verdict) (n : ℕ) (stale : List ℕ) → IsAt m (state_of d) → m.pending ≡ d.pending → verdict_on (state_of d).store block ≡ Some v → IsRunPlan (state_of d) v n stale
    → record d { history = ((d.history ++ event client (Submitted (state_of d).next block) ∷ []) ++ event client (Installed (state_of d).next v) ∷ []) ++ event client (Finished (state_of d).next v n stale) ∷ []; pending = with_tickets stale d.pending }
    ≡ with_whats d client (atomically (state_of d) block)
ended d m client block v n stale k same is p =
    let s = state_of d in
    let t = s.next in
    let free = next_free m s d.pending k same in
    ap (λ (ps : List Entry). record d { history = ((d.history ++ event client (Submitted t block) ∷ []) ++ event client (Installed t v) ∷ []) ++ event client (Finished t v n stale) ∷ []; pending = with_tickets stale ps }) (sym (removed_with t false d.pending free))
    ∙ ap (with_whats d client) (sym (ended_whats m s block v n stale k is p))

pub not_full : (limit n k : ℕ) → nat_lt limit (n + k) ≡ false → 0 < k → nat_le limit n ≡ false
not_full limit n k e l = grind (arith, nat_tests)

-- ---- which error comes
-- a reason that holds is due, if it isn't that memory ran out
pub is_reason : (d : DeskView) (b : Block) (e : AtomicError) → atomic_refusal d b ≡ Some e → e ≢ atomic.NoMemory → IsAtomicError d b e
is_reason d b (atomic.Foreign i) h n = h
is_reason d b atomic.WaitingFull h n = h
is_reason d b atomic.HistoryFull h n = h
is_reason d b atomic.CellsFull h n = h
is_reason d b atomic.NoMemory h n = absurd (n refl)

-- memory may run out once no reason shows
is_due : (d : DeskView) (b : Block) (e : AtomicError) → atomic_refusal_before d b ≡ None → (e ≢ atomic.NoMemory → atomic_refusal d b ≡ Some e) → IsAtomicError d b e
is_due d b (atomic.Foreign i) p h = h (λ q. cc)
is_due d b atomic.WaitingFull p h = h (λ q. cc)
is_due d b atomic.HistoryFull p h = h (λ q. cc)
is_due d b atomic.CellsFull p h = h (λ q. cc)
is_due d b atomic.NoMemory p h = p

pub are_due : {A : Type 0} (d : DeskView) (b : Block) (r : Result A AtomicError) → atomic_refusal_before d b ≡ None → IfErr r (λ e. e ≢ atomic.NoMemory → atomic_refusal d b ≡ Some e) → IfErr r (IsAtomicError d b)
are_due d b (Ok x) p h = tt
are_due d b (Err e) p h = is_due d b e p h

first_before : (o : Option ℕ) (many full : Bool) → submit_first o many false ≡ None → full ≡ false → atomic_first o many full false ≡ None
first_before (Some i) many full m f = cc
first_before None true full m f = cc
first_before None false full m f = rw f refl

-- nothing refuses it that shows before it is evaluated
pub none_before : (d : DeskView) (b : Block) → submit_refused (state_of d) false b ≡ None → lacks_room d 2 ≡ false → atomic_refusal_before d b ≡ None
none_before d b may room = first_before (missing (plains (state_of d).store) b.uses) (nat_le max_waiting (length (state_of d).waiters)) (lacks_room d 2) may room
