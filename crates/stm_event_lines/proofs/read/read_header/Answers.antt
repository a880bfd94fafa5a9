use Rattle.std.proofs.Common.{◌≡◌, Some, None, Err, sym, ap, ◌∙◌, subst}
use Rattle.std.proofs.lemmas.Slice.Eq.{bytes_eq-Decides}
use Rattle.serde_json.specs.View.{view}
use Rattle.stm_event_lines.specs.declared.read.Header.{Header}
use Rattle.stm_event_lines.specs.Lines.{IsFormat, header_line}
use Rattle.stm_event_lines.specs.Fields.{header_of}
use Rattle.stm_event_lines.proofs.ReadsBack.{header_unread, header_is}
use Rattle.stm_event_lines.proofs.read.read_header.Goals as goal
use Rattle.stm_event_lines.proofs.read.read_header.Goals.{else-is_format-via-then-is_format+else-eq, else-is_format-via-else-is_format}

pub returns-in-Err : goal.returns-in-Err
returns-in-Err c = λ b y f e. header_unread c.args.line.now y.format y.vars f.0 f.1 e (c.in-Err.ensures.bad (ap (λ x. Err x) b))

pub returns-in_default : goal.returns-in_default
returns-in_default c = λ _ y f e.
    let h = header_is c.args.line.now y.format y.vars (view c.in-Ok.json) f.0 f.1 e c.in-Ok.ensures.ok in
    let none : None ≡ header_of (view c.in-Ok.json) = sym c.in_default.is ∙ c.header_of.ensures.value in
    cc

pub returns : goal.returns
returns c = λ _ y f e.
    let h = header_is c.args.line.now y.format y.vars (view c.in-Ok.json) f.0 f.1 e c.in-Ok.ensures.ok in
    let some : Some c.in-Some.header ≡ header_of (view c.in-Ok.json) = sym c.in-Some.is ∙ c.header_of.ensures.value in
    let same : c.in-Some.header ≡ record { format = y.format; vars = y.vars } = cc in
    elim c.else-is_format.branch [
      | else-is_format-via-then-is_format+else-eq w ↦
          let text : w.as_bytes.result.now ≡ c.args.line.now = w.as_bytes.ensures.value ∙ c.in_ok-again.ensures ∙ ap (λ (x : Header). header_line x.format x.vars) same ∙ e in
          let yes = (bytes_eq-Decides w.as_bytes.result.now c.args.line.now).1 text in
          cc (yes, w.if-eq.ensures)
      | else-is_format-via-else-is_format w ↦
          let read : IsFormat (c.in-Some.header).format = subst (λ (x : Header). IsFormat x.format) (sym same) f.0 in
          let yes = c.is_format.ensures.1 read in
          cc (yes, w.if-is_format.false)
    ]
