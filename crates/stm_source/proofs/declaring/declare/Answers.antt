use Rattle.std.proofs.Common.{◌≡◌, Err, rules, sym}
use Rattle.stm_parse.specs.Declarations.{declaration_of}
use Rattle.stm_source.specs.declared.refusal.Refusal.TheVariants.{Declaring}
use Rattle.stm_source.proofs.DeclaredTexts.{declares, declares_not}
use Rattle.stm_source.proofs.declaring.declare.Goals as goal

pub returns : goal.returns
returns c =
    declares c.args.table.now c.declare.new.self c.args.text.now c.as_str.result.now (declaration_of c.in_ok-declaration.declaration) c.in_ok-value.value c.in_ok-number.number
    c.in_ok-declaration.ensures.answer (sym c.in_ok-value.ensures) (search rules) c.in_ok-number.ensures.refused c.in_ok-number.ensures.done.0 c.in_ok-number.ensures.done.1

pub returns-in_err-number : goal.returns-in_err-number
returns-in_err-number c =
    let is : c.from_residual-in_err-number.result ≡ Err (Declaring c.in_err-number.field-0.0) = search rules in
    rw is (declares_not c.args.table.now c.declare.new.self c.args.text.now c.as_str.result.now (declaration_of c.in_ok-declaration.declaration) c.in_ok-value.value c.in_err-number.field-0.0
    c.in_ok-declaration.ensures.answer (sym c.in_ok-value.ensures) (search rules) c.in_err-number.ensures.refused c.in_err-number.ensures.unchanged)
