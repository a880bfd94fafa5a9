use Rattle.std.proofs.Common.{◌≡◌, true, [], refl, sym, arith, inr}
use Rattle.std.specs.Prelude.{string_bytes}
use Rattle.std.proofs.lemmas.Grind.{common_steps}
use Rattle.stm_history.specs.Progress.{at_header, with_cells}
use Rattle.stm_history.proofs.Explanations.{head_line}
use Rattle.stm_history.proofs.explaining.checkpoint_header_due.Goals as goal

pub returns : goal.returns
returns c =
    let h = c.args.header in
    let head : c.is_head.result ≡ true = let no = c.if-not-is_head.false in grind (arith, common_steps) in
    head_line at_header (string_bytes c.in_ok-text.text) c.short_line.result
    (with_cells h.format h.next h.vars h.waiting [] [], inr (h.format, h.next, h.vars, h.waiting, c.requires, c.is_head.ensures.0 head, sym c.in_ok-text.ensures, refl)) c.short_line.ensures
