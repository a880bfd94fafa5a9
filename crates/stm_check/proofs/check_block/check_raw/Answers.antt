use Rattle.std.proofs.Common.{◌≤◌, Ok, sym, ap, ◌∙◌, string_bytes, arith, rules}
use Rattle.stm_terms.specs.Ast.{act_of}
use Rattle.stm_terms.specs.ParsedAst.{raw_act_of, actions}
use Rattle.stm_terms.specs.Typing.{makes, result_type}
use Rattle.stm_check.proofs.TypedBlockInvariant.{kept_type, kept_small}
use Rattle.stm_check.proofs.BlocksOfChecks.{block_made, block_refused}
use Rattle.stm_check.proofs.check_block.check_raw.Goals as goal

pub of_checked-requires : goal.of_checked-requires
of_checked-requires c =
    let says = rw c.as_str.ensures.value at c.in_ok-action.ensures.says in
    let small : makes (act_of c.in_ok-action.action) ≤ actions (raw_act_of c.args.raw.now) =
    kept_small c.args.known.now (string_bytes c.args.text) (raw_act_of c.args.raw.now) (act_of c.in_ok-action.action) (result_type c.in_ok-action.kind) says in
    record {
      typed = kept_type c.args.known.now (string_bytes c.args.text) (raw_act_of c.args.raw.now) (act_of c.in_ok-action.action) (result_type c.in_ok-action.kind) c.in_ok-action.uses.items says c.in_ok-action.ensures.uses;
      few = omega (arith, small, c.requires.few);
    }

pub returns : goal.returns
returns c =
    let says = rw c.as_str.ensures.value at c.in_ok-action.ensures.says in
    block_made c.args.known.now (string_bytes c.args.text) (raw_act_of c.args.raw.now) (act_of c.in_ok-action.action) c.in_ok-action.kind c.in_ok-action.uses.items says c.in_ok-action.ensures.uses
    ∙ ap Ok (sym c.of_checked.ensures)

pub returns-in_err-action : goal.returns-in_err-action
returns-in_err-action c =
    let says = rw c.as_str.ensures.value at c.in_err-action.ensures.says in
    search (block_refused c.args.known.now (string_bytes c.args.text) (raw_act_of c.args.raw.now) _ says, rules)
