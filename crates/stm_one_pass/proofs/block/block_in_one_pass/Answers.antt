use Rattle.std.proofs.Common.{string_bytes}
use Rattle.stm_terms.specs.Ast.{act_of}
use Rattle.stm_terms.specs.Typing.{result_type}
use Rattle.stm_check.proofs.TypedBlockInvariant.{kept_type}
use Rattle.stm_one_pass.proofs.BlockSteps.{block_read_from, few_makes}
use Rattle.stm_one_pass.proofs.block.block_in_one_pass.Goals as goal

pub of_checked-requires : goal.of_checked-requires
of_checked-requires c =
    let s = c.in-Some in
    record {
      typed = kept_type c.args.known.now c.args.text.now s.ensures.tree.tree (act_of s.action) (result_type s.kind) _ s.ensures.tree.found s.ensures.uses;
      few = few_makes c.args.known.now c.args.text.now c.args.toks.now (act_of s.action) (result_type s.kind) c.requires.right c.requires.names s.ensures.tree;
    }

pub returns : goal.returns
returns c =
    let s = c.in-Some in
    rw c.of_checked.ensures (block_read_from c.args.known.now c.args.text.now c.args.toks.now (act_of s.action) (string_bytes c.in-Ok.own) s.kind _ c.requires.right s.ensures.tree s.ensures.uses c.in-Ok.ensures.ok)
