use Rattle.std.proofs.Common.{◌≡◌, ℕ, List, IsTrue, Option, Some, None, IfSome, refl, sym, ap, ◌∙◌, subst, codes}
use Rattle.std.specs.Prelude.{option_map, option_and_then}
use Rattle.serde_json.specs.Data.{Data}
use Rattle.serde_json.specs.View.{view}
use Rattle.stm_store.specs.Naming.{Named}
use Rattle.stm_check.specs.TypedBlock.{Block}
use Rattle.stm_events.specs.Delivered.{Delivered}
use Rattle.stm_events.specs.declared.kept_cause.KeptCause.{KeptCause}
use Rattle.stm_events.specs.Labels.{is_label}
use Rattle.stm_event_lines.specs.declared.checkpoint.WaitingBlock.{WaitingBlock}
use Rattle.stm_event_lines.specs.CheckpointFields.{waiting_of, cause_field, label_field, delivery_of}
use Rattle.stm_event_lines.specs.CheckpointLines.{FitsCause, FitsDelivery}
use Rattle.stm_event_lines.specs.Fields.{text_field, number_field}
use Rattle.stm_source.specs.CompiledBlock.{block_of_text}
use Rattle.stm_event_lines.proofs.Checkpoints.{own_block}
use Rattle.stm_event_lines.proofs.checkpoint.waiting_of.Goals as goal

-- what is made of three parts that are found one after another
of_three : {A B C D : Type 0} (f : A → B → C → D) (a : Option A) (b : Option B) (c : Option C)
    → option_map (λ (s : A × B × C). f s.0 s.1 s.2) (option_and_then (λ x. option_and_then (λ y. option_map (λ z. (x, y, z)) c) b) a)
    ≡ option_and_then (λ x. option_and_then (λ y. option_map (λ z. f x y z) c) b) a
of_three f None b c = refl
of_three f (Some x) None c = refl
of_three f (Some x) (Some y) None = refl
of_three f (Some x) (Some y) (Some z) = refl

-- the waiting block whose parts are those that the value has
found : (known : List Named) (d : Data) (ticket : ℕ) (block : Block) (s : Option KeptCause × List ℕ × Option Delivered)
    → number_field (codes "ticket") d ≡ Some ticket
    → option_and_then (block_of_text known) (text_field (codes "block") d) ≡ Some block
    → option_and_then (λ cause. option_and_then (λ label. option_map (λ delivery. (cause, label, delivery)) (delivery_of d)) (label_field d)) (cause_field d) ≡ Some s
    → Some (record { ticket = ticket; block = block; cause = s.0; label = s.1; delivery = s.2 }) ≡ waiting_of known d
found known d ticket block s t b e =
    let make : Option KeptCause → List ℕ → Option Delivered → WaitingBlock
    = λ x y z. record { ticket = ticket; block = block; cause = x; label = y; delivery = z } in
    let state = ap (option_map (λ (s : Option KeptCause × List ℕ × Option Delivered). make s.0 s.1 s.2)) e in
    rw (t, b) (sym state ∙ of_three make (cause_field d) (label_field d) (delivery_of d))

pub returns-in-Some-3-clause-value : goal.returns-in-Some-3-clause-value
returns-in-Some-3-clause-value c =
    found c.args.known.now (view c.args.json.now) _ _ _ (sym c.in-Some.ensures.value) (sym c.in_ok-block.ensures ∙ c.in-Some-2.is)
    (sym c.in_ok-cause.ensures.value ∙ c.in-Some-3.is)

pub returns-in-Some-3-clause-fits : goal.returns-in-Some-3-clause-fits
returns-in-Some-3-clause-fits c =
    let text = text_field (codes "block") (view c.args.json.now) in
    let e : option_and_then (block_of_text c.args.known.now) text ≡ Some c.in-Some-2.block = sym c.in_ok-block.ensures ∙ c.in-Some-2.is in
    let state = subst (λ (o : Option (Option KeptCause × List ℕ × Option Delivered)). IfSome o (λ s. FitsCause s.0 × IsTrue (is_label s.1) × FitsDelivery s.2)) c.in-Some-3.is c.in_ok-cause.ensures.fits in (
      c.in-Some.ensures.fits,
      own_block c.args.known.now text c.in-Some-2.block e,
      state.0,
      state.2,
      state.1,
    )
