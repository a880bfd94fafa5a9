use Rattle.std.proofs.Common.{◌≡◌, Some, sym, ◌∙◌, subst}
use Rattle.std.specs.Prelude.{codes, is_some, nat_eq}
use Rattle.serde_json.specs.Find.{get}
use Rattle.serde_json.specs.View.{view}
use Rattle.stm_event_lines.specs.declared.read.Header.{Header}
use Rattle.stm_event_lines.specs.Fields.{header_of}
use Rattle.stm_event_lines.specs.Lines.{IsFormat, declaring_format}
use Rattle.stm_event_lines.proofs.ReadLoosely.{not_both}
use Rattle.stm_event_lines.proofs.loose.header_read.Goals as goal
use Rattle.stm_event_lines.proofs.loose.header_read.Goals.{else-is_format-via-then-is_format+else-not-is_of_checkpoint, else-is_format-via-else-is_format}

pub returns-else-is_format-clause-same : goal.returns-else-is_format-clause-same
returns-else-is_format-clause-same c = λ h f e none.
    let some : Some c.in-Some.header ≡ header_of (view c.args.json.now) = sym c.in-Some.is ∙ c.header_of.ensures.value in
    let same : c.in-Some.header ≡ h = cc in
    elim c.else-is_format.branch [
      | else-is_format-via-then-is_format+else-not-is_of_checkpoint w ↦
          absurd (not_both (nat_eq (c.in-Some.header).format declaring_format) (is_some (get (codes "next") (view c.args.json.now))) none
          (sym w.is_of_checkpoint.ensures ∙ w.if-not-is_of_checkpoint.false))
      | else-is_format-via-else-is_format w ↦
          let read : IsFormat (c.in-Some.header).format = subst (λ (x : Header). IsFormat x.format) (sym same) f.0 in
          let yes = c.is_format.ensures.1 read in
          absurd (cc (yes, w.if-is_format.false))
    ]
