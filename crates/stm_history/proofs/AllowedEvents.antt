-- What an allowed event says of the state before it: no question is refused, and its fields are the answers.
use Rattle.std.proofs.Common.{◌≡◌, ◌≢◌, ℕ, ◌+◌, ◌<◌, ◌≤◌, false, List, [], ◌∷◌, ◌++◌, length, Option, Some, None, Result, Ok, Err, OnOk, IfOk, is_some, refl, sym, ap, ◌∙◌, subst, arith, length-append}
use Rattle.std.specs.Prelude.{IsSomeAnd, IfSome, option_map}
use Rattle.stm_terms.specs.declared.kinds.Ty.{Ty}
use Rattle.stm_terms.specs.declared.values.Value.{Value}
use Rattle.stm_terms.specs.declared.verdicts.Verdict.{Verdict}
use Rattle.stm_terms.specs.UnlessNoMemory.{RefusedAs}
use Rattle.stm_store.specs.Cells.{plains}
use Rattle.stm_store.specs.Naming.{Named}
use Rattle.stm_store.specs.Tables.{Declared}
use Rattle.stm_check.specs.TypedBlock.{Block}
use Rattle.stm_eval.specs.declared.message.Evaluated.{Evaluated}
use Rattle.stm_eval.specs.EvaluatedFields.{message_ticket, message_block, message_reads, message_verdict}
use Rattle.stm_events.specs.declared.errors.DeliverError.{DeliverError}
use Rattle.stm_events.specs.declared.errors.DeliverError.TheVariants as deliver
use Rattle.stm_events.specs.declared.event.Event.{Event}
use Rattle.stm_events.specs.declared.event.What.{What}
use Rattle.stm_events.specs.declared.event.What.TheVariants.{Submitted, Installed, Finished, Cancelled, Declared as DeclaredLate, Labelled}
use Rattle.stm_events.specs.Refusals.{differing, install_first, DeliveryRefusedAt, DeliveryRefusedAs}
use Rattle.stm_events.specs.SlowDesk.{Waiter, Slow, under, verdict_on, find_waiter, without_waiter, stale_after, waking, MayInstall, MayFinish, Allows, after}
use Rattle.stm_terms.specs.Limits.{max_events, max_clients}
use Rattle.stm_events.specs.States.{IsLegalFrom}
use Rattle.stm_events.proofs.Folds.{legal_split, state-push, legal-push}
use Rattle.stm_events.proofs.Rising.{next_le}
use Rattle.stm_machine.specs.Checkpoints.{CheckpointView, IsCheckpoint, checkpoint_state, max_next}
use Rattle.stm_machine.specs.JobsHandedOut.{IsPresent, block_at}
use Rattle.stm_machine.specs.Machine.{Parts, IsAt, HasTicketLeft, MovesBy, event}
use Rattle.stm_machine.specs.Plans.{IsPlan}
use Rattle.stm_source.specs.LaterNames.{NamesFollow}
use Rattle.stm_source.proofs.LaterNames.{equal_names, names_trans}
use Rattle.stm_event_lines.specs.Fits.{FitsNames}
use Rattle.stm_event_lines.proofs.LaterNames.{names_after_event}
use Rattle.stm_history.specs.declared.replayer.Replayer.{Replayer}
use Rattle.stm_history.specs.Following.{Follows}
use Rattle.stm_history_text.specs.Starts.{Start, first_state, names_after, state_after_start}

-- ---- a history with one event more
module _ (start : Start) (history : List Event) (client : ℕ) (what : What) (a : IsLegalFrom (first_state start) (history ++ event client what ∷ [])) where
  -- the slow desk allows it
  pub allowed : Allows (state_after_start start history) what
  allowed = (legal_split (first_state start) history (event client what) a.each).allowed.what

  pub client_low : client < max_clients
  client_low = (legal_split (first_state start) history (event client what) a.each).allowed.client

  pub before_full : length history < max_events
  before_full = let l = length-append history (event client what ∷ []) in omega (arith, a.few, l)

-- it is legal where the event is allowed and there is room for it
pub legal_next : (start : Start) (history : List Event) (client : ℕ) (what : What) → IsLegalFrom (first_state start) history → length history < max_events → client < max_clients → Allows (state_after_start start history) what
    → IsLegalFrom (first_state start) (history ++ event client what ∷ [])
legal_next start history client what legal room low a = record {
  each = legal-push (first_state start) history (event client what) legal.each (record { client = low; what = a });
  few = omega (arith, length-append history (event client what ∷ []));
}

-- a ticket is left where there is room for an event
pub ticket_left : (start : Start) (history : List Event) → (first_state start).next ≤ max_next → length history < max_events → HasTicketLeft (state_after_start start history)
ticket_left start history tickets room = let low = next_le (first_state start) history in omega arith

-- the blocks that were kept were checked over some of the names after one event more
blocks_next : (start : Start) (history : List Event) (e : Event) (old new : List Named) → NamesFollow old (names_after start history) → new ≡ old → NamesFollow new (names_after start (history ++ e ∷ []))
blocks_next start history e old new f same =
    let s = state_after_start start history in
    let before : NamesFollow new s.names = subst (λ (ns : List Named). NamesFollow ns s.names) (sym same) f in
    subst (λ (t : Slow). NamesFollow new t.names) (sym (state-push (first_state start) history e)) (names_trans new s.names (after s e.what).names before (names_after_event s e.what))

-- what went through a history went on by an allowed event
pub follows_next : (start : Start) (history : List Event) (e : Event) (old new : Replayer) → Follows start history old → length history < max_events → e.client < max_clients
    → Allows (state_after_start start history) e.what → IsAt new.machine (after (state_after_start start history) e.what) → new.events ≡ old.events + 1 → IfSome new.copy (λ cells. cells ≡ plains new.machine.store)
    → ((es : List Event) → IfSome old.kept (λ events. events.items ≡ es) → IfSome new.kept (λ events. events.items ≡ es ++ e ∷ [])) → new.blocks ≡ old.blocks → Follows start (history ++ e ∷ []) new
follows_next start history e old new f room low a at counted copied kept blocks = record {
  legal = legal_next start history e.client e.what f.legal room low a;
  at = subst (IsAt new.machine) (sym (state-push (first_state start) history e)) at;
  tickets = f.tickets;
  counted = (let before = f.counted in let longer = length-append history (e ∷ []) in omega arith);
  copied = copied;
  kept = kept history f.kept;
  blocks = blocks_next start history e old.blocks new.blocks f.blocks blocks;
}

-- a replayer follows the history also after a line was read over the names after it
pub follows_read : (start : Start) (history : List Event) (r : Replayer) (blocks : List Named) → Follows start history r → blocks ≡ names_after start history → Follows start history (record r { blocks = blocks })
follows_read start history r blocks f same = record {
  legal = f.legal;
  at = f.at;
  tickets = f.tickets;
  counted = f.counted;
  copied = f.copied;
  kept = f.kept;
  blocks = equal_names blocks (names_after start history) same;
}

-- what begins with a machine at the start of a history goes through that history
pub begun_at : {E : Type 0} (r : Result Replayer E) (start : Start) (m : Parts) → IfOk r (λ x. (S : Start) → IsAt m (first_state S) → (first_state S).next ≤ max_next → Follows S [] x)
    → IsAt m (first_state start) → (first_state start).next ≤ max_next → IfOk r (λ x. Follows start [] x)
begun_at (Ok x) start m h at low = h start at low
begun_at (Err e) start m h at low = tt

pub begun_from : {E : Type 0} (r : Result Replayer E) (c : CheckpointView) (m : Parts) → IfOk r (λ x. (S : Start) → IsAt m (first_state S) → (first_state S).next ≤ max_next → Follows S [] x) → IsAt m (checkpoint_state c) → IsCheckpoint c
    → IfOk r (λ x. (F : ℕ) (T : List Declared) → Follows (record { format = F; table = T; checkpoint = Some c }) [] x)
begun_from (Ok x) c m h at is = λ F T. h (record { format = F; table = T; checkpoint = Some c }) at is.tickets
begun_from (Err e) c m h at is = tt

-- an event that was read fits the names after the history
pub fits_after : {E : Type 0} (r : Result Event E) (old : Replayer) (names : List Named) → ((start : Start) (history : List Event) → Follows start history old → names ≡ names_after start history)
    → IfOk r (λ e. FitsNames names e) → IfOk r (λ e. (start : Start) (history : List Event) → Follows start history old → FitsNames (names_after start history) e)
fits_after (Ok e) old names known f = λ start history h. subst (λ (ns : List Named). FitsNames ns e) (known start history h) f
fits_after (Err x) old names known f = tt

-- ---- refusals
-- a call that isn't refused lacked memory only
pub only_memory : (A : Type 0) {E : Type 0} (no_memory : E) (o : Option E) (e : E) → o ≡ None → RefusedAs {A = A} no_memory o (Err e) → e ≡ no_memory
only_memory A no_memory None e none r = r
only_memory A no_memory (Some reason) e none r = cc

-- what is done isn't refused
pub not_refused : {A E : Type 0} (no_memory : E) (o : Option E) (x : A) → RefusedAs no_memory o (Ok x) → o ≡ None
not_refused no_memory None x r = refl
not_refused no_memory (Some reason) x r = cc

-- an error that isn't for lack of memory is the reason
pub refused_for : (A : Type 0) {E : Type 0} (no_memory : E) (o : Option E) (e : E) → RefusedAs {A = A} no_memory o (Err e) → e ≢ no_memory → o ≡ Some e
refused_for A no_memory None e r n = absurd (n r)
refused_for A no_memory (Some reason) e r n = cc

-- ---- submit
pub submit_moves : (t u : ℕ) (a b : Block) (m n : Parts) → MovesBy (Submitted t a) m n → t ≡ u → a ≡ b → MovesBy (Submitted u b) m n
submit_moves t u a b m n moved e f = subst (λ (x : ℕ). MovesBy (Submitted x b) m n) e (subst (λ (x : Block). MovesBy (Submitted t x) m n) f moved)

-- ---- finish
-- the fields are those of the block
pub record AreSame (v u : Verdict) (n m : ℕ) (k l : List ℕ) : Type 0 where
  pub verdicts : v ≡ u
  pub firsts : n ≡ m
  pub tickets : k ≡ l

some_same : {A : Type 0} (x y : A) (o : Option A) → o ≡ Some x → o ≡ Some y → x ≡ y
some_same x y o e f = cc

finish_same_by : (s : Slow) (t : ℕ) (v u : Verdict) (n m : ℕ) (k l : List ℕ) (o : Option Waiter) → IsSomeAnd o (λ w. MayFinish s t w v n k) → IsSomeAnd o (λ w. MayFinish s t w u m l) → AreSame v u n m k l
finish_same_by s t v u n m k l None f g = absurd f
finish_same_by s t v u n m k l (Some w) f g =
    let e : v ≡ u = some_same v u (verdict_on s.store w.block) f.verdict_is g.verdict_is in
    record {
      verdicts = e;
      firsts = f.first_new ∙ sym g.first_new;
      tickets = f.listed ∙ ap (λ (x : Verdict). stale_after (waking s.rule s.store x) (without_waiter t s.waiters)) e ∙ sym g.listed;
    }

-- what is planned is allowed
pub plan_allowed : (s : Slow) (t : ℕ) (v : Verdict) (n : ℕ) (stale : List ℕ) → IsPlan s t v n stale → Allows s (Finished t v n stale)
plan_allowed s t v n stale p = subst (λ (o : Option Waiter). IsSomeAnd o (λ w. MayFinish s t w v n stale)) (sym p.found) p.may

-- an allowed finish has the fields of the plan
pub finish_same : (s : Slow) (t : ℕ) (v u : Verdict) (n m : ℕ) (k l : List ℕ) → IsPlan s t v n k → Allows s (Finished t u m l) → AreSame v u n m k l
finish_same s t v u n m k l p a = finish_same_by s t v u n m k l (find_waiter t s.waiters) (plan_allowed s t v n k p) a

-- ---- install
-- a message of the present store is not refused if its verdict may be installed
install_by : (A : Type 0) (s : Slow) (v : Verdict) (e : DeliverError) (w : Waiter) (o : Option Waiter) (m : Evaluated) → o ≡ Some w → IsSomeAnd o (λ w. MayInstall s w v) → message_block m ≡ w.block
    → differing (under s.store) (message_reads m) ≡ None → DeliveryRefusedAt {A = A} s.store false o (message_block m) (message_reads m) (Err e) → e ≡ deliver.NoMemory
install_by A s v e w None m f a b d k = absurd a
install_by A s v e w (Some x) m f a b d k =
    let q : x ≡ w = cc in
    let trees : x.block.tree ≡ (message_block m).tree = ap (λ (y : Waiter). y.block.tree) q ∙ ap (λ (y : Block). y.tree) (sym b) in
    only_memory A deliver.NoMemory (install_first s.store false x (message_reads m)) e (rw (a.not_current, d) refl) (k.1 trees)

pub install_only_memory : (A : Type 0) (s : Slow) (v : Verdict) (e : DeliverError) (m : Evaluated) → Allows s (Installed (message_ticket m) v) → IsPresent s (message_ticket m) m
    → DeliveryRefusedAs {A = A} s false (message_ticket m) (message_block m) (message_reads m) (Err e) → e ≡ deliver.NoMemory
install_only_memory A s v e m a p k = install_by A s v e p.one (find_waiter (message_ticket m) s.waiters) m p.found a p.block p.differs k

install_same_by : (s : Slow) (v u : Verdict) (w : Waiter) (o : Option Waiter) → o ≡ Some w → IsSomeAnd o (λ w. MayInstall s w v) → verdict_on s.store w.block ≡ Some u → u ≡ v
install_same_by s v u w None f m e = absurd m
install_same_by s v u w (Some x) f m e =
    let q : x ≡ w = cc in
    some_same u v (verdict_on s.store w.block) e (ap (λ (y : Waiter). verdict_on s.store y.block) (sym q) ∙ m.verdict_is)

-- an allowed verdict is the one that the message brings
pub install_same : (s : Slow) (v : Verdict) (m : Evaluated) → Allows s (Installed (message_ticket m) v) → IsPresent s (message_ticket m) m → message_verdict m ≡ v
install_same s v m a p = install_same_by s v (message_verdict m) p.one (find_waiter (message_ticket m) s.waiters) p.found a p.verdict

one_waits : (s : Slow) (v : Verdict) (o : Option Waiter) → IsSomeAnd o (λ w. MayInstall s w v) → option_map (λ w. w.block) o ≢ None
one_waits s v None m e = m
one_waits s v (Some w) m e = cc

pub block_waits : (s : Slow) (t : ℕ) (v : Verdict) → Allows s (Installed t v) → block_at s t ≢ None
block_waits s t v a = one_waits s v (find_waiter t s.waiters) a

-- ---- the store stays, but for a finish and a declaration
abbrev pub KeepsStore : What → Type 0
KeepsStore (Submitted t b) = Unit {0}
KeepsStore (Installed t v) = Unit {0}
KeepsStore (Finished t v n stale) = ⊥
KeepsStore (Cancelled t) = Unit {0}
KeepsStore (DeclaredLate name kind value) = ⊥
KeepsStore (Labelled t label) = Unit {0}

after_keeps : (s : Slow) (what : What) → KeepsStore what → (after s what).store ≡ s.store
after_keeps s (Submitted t b) k = refl
after_keeps s (Installed t v) k = refl
after_keeps s (Finished t v n stale) k = absurd k
after_keeps s (Cancelled t) k = refl
after_keeps s (DeclaredLate name kind value) k = absurd k
after_keeps s (Labelled t label) k = refl

store_kept : (s : Slow) (what : What) (m n : Parts) → KeepsStore what → IsAt m s → MovesBy what m n → n.store ≡ m.store
store_kept s what m n k h moved = (moved s h).1.stands.store_is ∙ after_keeps s what k ∙ sym h.stands.store_is

-- a copy of the store stays one
pub copy_kept : {E : Type 0} (r : Result Unit E) (s : Slow) (what : What) (m n : Parts) (copy : Option (List (Ty × Value))) → KeepsStore what → IsAt m s → OnOk r (MovesBy what m n)
    → IfSome copy (λ cells. cells ≡ plains m.store) → OnOk r (IfSome copy (λ cells. cells ≡ plains n.store))
copy_kept (Ok x) s what m n None k h moved c = tt
copy_kept (Ok x) s what m n (Some cells) k h moved c = c ∙ ap plains (sym (store_kept s what m n k h moved))
copy_kept (Err e) s what m n copy k h moved c = tt

made_by_copy : (s : Slow) (what : What) (m n : Parts) (copy : Option (List (Ty × Value))) → KeepsStore what → IsAt m s → MovesBy what m n → copy ≡ Some (plains m.store) → IfSome copy (λ cells. cells ≡ plains n.store)
made_by_copy s what m n None k h moved c = tt
made_by_copy s what m n (Some cells) k h moved c =
    let same : cells ≡ plains m.store = cc in
    same ∙ ap plains (sym (store_kept s what m n k h moved))

pub copy_made : {E : Type 0} (r : Result Unit E) (s : Slow) (what : What) (m n : Parts) (copy : Option (List (Ty × Value))) → KeepsStore what → IsAt m s → OnOk r (MovesBy what m n) → OnOk r (copy ≡ Some (plains m.store))
    → OnOk r (IfSome copy (λ cells. cells ≡ plains n.store))
copy_made (Ok x) s what m n copy k h moved c = made_by_copy s what m n copy k h moved c
copy_made (Err e) s what m n copy k h moved c = tt

pub map_none : {A B : Type 0} (f : A → B) (o : Option A) → is_some o ≡ false → option_map f o ≡ None
map_none f None e = refl
map_none f (Some x) e = cc
