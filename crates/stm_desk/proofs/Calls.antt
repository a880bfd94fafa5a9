-- Why a call is refused, and that a call keeps the desk what its history makes.
use Rattle.std.proofs.Common.{◌≡◌, ℕ, ◌+◌, ◌<◌, ◌≤◌, Bool, false, List, [], ◌∷◌, ◌++◌, length, Option, Some, None, refl, sym, ap, subst, arith, length-append}
use Rattle.std.specs.Prelude.{nat_le, Result, Ok, Err, IfErr}
use Rattle.std.proofs.lemmas.Bool.{leb-false}
use Rattle.stm_terms.specs.UnlessNoMemory.{RefusedAs}
use Rattle.stm_store.specs.Tables.{Declared}
use Rattle.stm_terms.specs.declared.kinds.Ty.{Ty}
use Rattle.stm_terms.specs.declared.values.Value.{Value}
use Rattle.stm_check.specs.TypedBlock.{Block}
use Rattle.stm_events.specs.declared.event.Event.{Event}
use Rattle.stm_events.specs.declared.event.What.{What}
use Rattle.stm_events.specs.SlowDesk.{Slow, state_from}
use Rattle.stm_terms.specs.Limits.{max_clients}
use Rattle.stm_events.specs.Refusals.{submit_refused, late_declare_refused, label_refused, cancel_refused}
use Rattle.stm_events.specs.Laws.{SubmitsWellTyped}
use Rattle.stm_events.proofs.Folds.{state-push, legal-push}
use Rattle.stm_events.proofs.Rising.{next_le}
use Rattle.stm_events.proofs.TypedStores.{submitted-append}
use Rattle.stm_machine.specs.Checkpoints.{CheckpointView, start_of, max_next}
use Rattle.stm_machine.specs.Machine.{Parts, IsAt, HasTicketLeft, MovesBy, event}
use Rattle.stm_desk.specs.Kept.{DeskInvariant}
use Rattle.stm_desk.proofs.Starts.{start_next}

-- ---- refusals
-- where nothing refuses a call, it succeeds or memory ran out
pub unless_memory : {A E : Type 0} (no_memory : E) (o : Option E) (r : Result A E) → o ≡ None → IfErr r (λ e. e ≡ no_memory) → RefusedAs no_memory o r
unless_memory no_memory o r n h = rw n h

abbrev as_error : (B : Type 0) {E : Type 0} → E → Result B E
as_error B e = Err e

same_error : {A E : Type 0} (e r : E) (x y : Result A E) → x ≡ Err e → y ≡ Err r → x ≡ y → e ≡ r
same_error e r (Ok x) y p q h = cc
same_error e r (Err x) (Ok y) p q h = cc
same_error e r (Err x) (Err y) p q h = cc

-- a refusal says nothing of what a success returns
pub refused_alike : (A B : Type 0) {E : Type 0} (no_memory : E) (o : Option E) (e : E) → RefusedAs {A = A} no_memory o (Err e) → RefusedAs {A = B} no_memory o (Err e)
refused_alike A B no_memory None e h = h
refused_alike A B no_memory (Some r) e h = ap (as_error B) (same_error e r (as_error A e) (as_error A r) refl refl h)

module _ (table : List Declared) (checkpoint : Option CheckpointView) (limit : ℕ) (history : List Event) (m : Parts) (k : DeskInvariant table checkpoint limit history m) where
  abbrev full : Bool
  full = nat_le limit (length history)

  abbrev start : Slow
  start = start_of table checkpoint

  abbrev now : Slow
  now = state_from start history

  pub ticket_left : full ≡ false → HasTicketLeft now
  ticket_left e =
      let few : length history < limit = leb-false limit (length history) e in
      let small = k.small in
      let first : start.next ≤ max_next = start_next table checkpoint k.start in
      let low : now.next ≤ start.next + length history = next_le start history in
      omega arith

  pub may_submit : (block : Block) → full ≡ false → submit_refused now full block ≡ None → submit_refused now false block ≡ None
  may_submit block r e = subst (λ (b : Bool). submit_refused now b block ≡ None) r e

  pub may_declare : (name : List ℕ) (kind : Ty) (value : Value) → full ≡ false → late_declare_refused now full name kind value ≡ None → late_declare_refused now false name kind value ≡ None
  may_declare name kind value r e = subst (λ (b : Bool). late_declare_refused now b name kind value ≡ None) r e

  pub may_label : (t : ℕ) → full ≡ false → label_refused now full t ≡ None → label_refused now false t ≡ None
  may_label t r e = subst (λ (b : Bool). label_refused now b t ≡ None) r e

  pub may_cancel : (t : ℕ) → full ≡ false → cancel_refused now full t ≡ None → cancel_refused now false t ≡ None
  may_cancel t r e = subst (λ (b : Bool). cancel_refused now b t ≡ None) r e

  -- the machine moved, and the history has the event more
  pub kept_move : (client : ℕ) (what : What) (new : Parts) → client < max_clients → full ≡ false → SubmitsWellTyped what → MovesBy what m new → DeskInvariant table checkpoint limit (history ++ event client what ∷ []) new
  kept_move client what new low e typed moves =
      let moved = moves now k.at in
      let l : length history < limit = leb-false limit (length history) e in
      let s = k.small in
      let len : length (history ++ event client what ∷ []) ≡ length history + 1 = length-append history (event client what ∷ []) in
      record {
        start = k.start;
        legal = record { each = legal-push start history (event client what) k.legal.each (record { client = low; what = moved.0 }); few = omega arith };
        at = subst (λ (x : Slow). IsAt new x) (sym (state-push start history (event client what))) moved.1;
        few = omega arith;
        small = k.small;
        typed = submitted-append history (event client what ∷ []) k.typed (typed, tt);
      }
