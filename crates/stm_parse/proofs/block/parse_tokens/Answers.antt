use Rattle.std.proofs.Common.{◌≡◌, sym, ap, ◌∙◌, subst, Ok, Err, ◌≢◌}
use Rattle.stm_terms.specs.ParsedAst.{raw_act_of}
use Rattle.stm_terms.specs.ParsedBlock.{IsParsed}
use Rattle.stm_parse.specs.Grammar.{IsBlock}
use Rattle.stm_parse.specs.declared.fault.ParseFault.TheVariants as fault
use Rattle.stm_parse.specs.ParseResult.{IsTextOf, IsReported}
use Rattle.stm_parse.specs.Descent.{block_reader}
use Rattle.stm_parse.specs.ParseFunction.{parsed_block}
use Rattle.stm_parse.proofs.CallsExact.{ok_block, stop_block}
use Rattle.stm_parse.proofs.TreeNamesAndSize.{kept_block}
use Rattle.stm_parse.proofs.FaultReported.{text_of, ok_text, only_this, stop_reported, stop_is_memory}
use Rattle.stm_parse.proofs.WholeTextRead.{good_block}
use Rattle.stm_parse.proofs.block.parse_tokens.Goals as goal

pub of_parts-requires : goal.of_parts-requires
of_parts-requires c =
    let e = c.in-Ok.ensures in
    let fits = c.requires.right in
    let k = kept_block c.args.text.now c.args.toks.now (raw_act_of c.in-Ok.action) (text_of block_reader IsBlock good_block c.args.text.now c.args.toks.now fits (raw_act_of c.in-Ok.action) e) c.requires.names fits.2 in
    subst (λ t. IsParsed t (raw_act_of c.in-Ok.action)) (sym c.in_ok-own-in-Ok.ensures.ok) (record { ascii = c.requires.ascii; spans = k.0; names = k.1; few = k.2 })

pub returns-in_ok-own-in-Ok-clause-right : goal.returns-in_ok-own-in-Ok-clause-right
returns-in_ok-own-in-Ok-clause-right c =
    let e = c.in-Ok.ensures in
    subst (IsTextOf IsBlock c.args.text.now) (sym c.of_parts.ensures.tree) (ok_text block_reader IsBlock good_block c.args.text.now c.args.toks.now c.requires.right (raw_act_of c.in-Ok.action) e)

pub returns-in_ok-own-in-Ok-clause-only : goal.returns-in_ok-own-in-Ok-clause-only
returns-in_ok-own-in-Ok-clause-only c =
    let e = c.in-Ok.ensures in
    λ t h. c.of_parts.ensures.tree ∙ only_this block_reader IsBlock good_block c.args.text.now c.args.toks.now c.requires.right t (raw_act_of c.in-Ok.action) h e

pub returns-in-Err-clause-right : goal.returns-in-Err-clause-right
returns-in-Err-clause-right c =
    let e = c.in-Err.ensures in
    subst (IsReported IsBlock c.args.text.now) (sym (c.fault_of_failure.ensures)) (stop_reported block_reader IsBlock good_block c.args.text.now c.args.toks.now c.requires.right c.in-Err.stop e)

pub returns-in-Err-clause-only : goal.returns-in-Err-clause-only
returns-in-Err-clause-only c =
    let e = c.in-Err.ensures in
    λ t h. rw (c.fault_of_failure.ensures) (stop_is_memory block_reader IsBlock good_block c.args.text.now c.args.toks.now c.requires.right t h c.in-Err.stop e)

pub returns-in_ok-own-in-Ok-clause-answer : goal.returns-in_ok-own-in-Ok-clause-answer
returns-in_ok-own-in-Ok-clause-answer c =
    let e = c.in-Ok.ensures in
    ok_block c.args.text.now c.args.toks.now c.requires.right (raw_act_of c.in-Ok.action) e ∙ ap Ok (sym c.of_parts.ensures.tree)

pub returns-in-Err-clause-answer : goal.returns-in-Err-clause-answer
returns-in-Err-clause-answer c =
    let e = c.in-Err.ensures in
    subst (λ x. x ≢ fault.NoMemory → parsed_block c.args.text.now ≡ Err x) (sym (c.fault_of_failure.ensures)) (stop_block c.args.text.now c.args.toks.now c.requires.right c.in-Err.stop e)
