use Rattle.std.proofs.Common.{◌≡◌, sym, subst, Err, ◌≢◌, rules}
use Rattle.stm_parse.specs.declared.fault.ParseFault.TheVariants as fault
use Rattle.stm_parse.specs.ParseResult.{IsReported}
use Rattle.stm_parse.specs.TypeFunction.{IsWholeType, type_reader, parsed_type}
use Rattle.stm_parse.proofs.FaultReported.{early_is_memory, ok_text, only_this, stop_reported, stop_is_memory}
use Rattle.stm_parse.proofs.TypeAnswers.{good_whole_type, early_type, ok_type, stop_type}
use Rattle.stm_parse.proofs.type_text.parse_type.Goals as goal

pub returns-in-Ok-clause-right : goal.returns-in-Ok-clause-right
returns-in-Ok-clause-right c =
    let e = rw c.deref.ensures.value at c.in-Ok.ensures.gives in
    ok_text type_reader IsWholeType good_whole_type c.args.text.now c.in_ok-toks.toks.items c.in_ok-toks.ensures.right c.in-Ok.ty e

pub returns-in-Ok-clause-only : goal.returns-in-Ok-clause-only
returns-in-Ok-clause-only c =
    let e = rw c.deref.ensures.value at c.in-Ok.ensures.gives in
    λ t h. only_this type_reader IsWholeType good_whole_type c.args.text.now c.in_ok-toks.toks.items c.in_ok-toks.ensures.right t c.in-Ok.ty h e

pub returns-in-Ok-clause-answer : goal.returns-in-Ok-clause-answer
returns-in-Ok-clause-answer c =
    let e = rw c.deref.ensures.value at c.in-Ok.ensures.gives in
    ok_type c.args.text.now c.in_ok-toks.toks.items c.in_ok-toks.ensures.right c.in-Ok.ty e

pub returns-clause-right : goal.returns-clause-right
returns-clause-right c =
    let e = rw c.deref.ensures.value at c.in-Err.ensures.gives in
    subst (IsReported IsWholeType c.args.text.now) (sym (rw c.deref-in-Err.ensures.value at c.fault_of_failure.ensures)) (stop_reported type_reader IsWholeType good_whole_type c.args.text.now c.in_ok-toks.toks.items c.in_ok-toks.ensures.right c.in-Err.stop e)

pub returns-clause-only : goal.returns-clause-only
returns-clause-only c =
    let e = rw c.deref.ensures.value at c.in-Err.ensures.gives in
    λ t h. rw (rw c.deref-in-Err.ensures.value at c.fault_of_failure.ensures) (stop_is_memory type_reader IsWholeType good_whole_type c.args.text.now c.in_ok-toks.toks.items c.in_ok-toks.ensures.right t h c.in-Err.stop e)

pub returns-clause-answer : goal.returns-clause-answer
returns-clause-answer c =
    let e = rw c.deref.ensures.value at c.in-Err.ensures.gives in
    subst (λ x. x ≢ fault.NoMemory → parsed_type c.args.text.now ≡ Err x) (sym (rw c.deref-in-Err.ensures.value at c.fault_of_failure.ensures)) (stop_type c.args.text.now c.in_ok-toks.toks.items c.in_ok-toks.ensures.right c.in-Err.stop e)

pub returns-in_err-toks-clause-answer : goal.returns-in_err-toks-clause-answer
returns-in_err-toks-clause-answer c = search (early_type c.args.text.now _ c.in_err-toks.ensures.right, rules)

pub returns-in_err-toks-clause-only : goal.returns-in_err-toks-clause-only
returns-in_err-toks-clause-only c = λ t h. search (early_is_memory c.args.text.now h.0 h.1 _ c.in_err-toks.ensures.right, rules)
