use Rattle.std.proofs.Common.{[], refl, sym, arith, inl}
use Rattle.std.specs.Prelude.{string_bytes}
use Rattle.stm_history.specs.Progress.{at_header, with_table}
use Rattle.stm_history.proofs.Explanations.{head_line}
use Rattle.stm_history.proofs.explaining.header_due.Goals as goal

pub returns : goal.returns
returns c =
    let h = c.args.header in
    head_line at_header (string_bytes c.in_ok-text.text) c.short_line.result
    (with_table h.format h.vars [], inl (h.format, h.vars, c.requires, sym c.in_ok-text.ensures, omega (arith, c.if-header-gt-MAX_CELLS.false), refl)) c.short_line.ensures
