-- What was read of the parts is the witness for the whole.
use Rattle.std.proofs.Common.{arith, rules, refl, sym, ◌-◌}
use Rattle.stm_terms.specs.Typing.{int_ty}
use Rattle.stm_parse.specs.Grammar.{widest, span_of}
use Rattle.stm_parse.specs.declared.token.Mark.TheVariants as mark
use Rattle.stm_parse.specs.Descent.{tier_at, action_at, paren_at, body_at}
use Rattle.stm_one_pass.proofs.ActionSteps.{closed_read, block_read, or_else_read, if_read, sequence_read, bind_read, let_read, catch_read, action_at_word, paren_closed, body_bound, body_let, body_sequence, as_action, as_body, as_inner_body, as_inner_paren}
use Rattle.stm_one_pass.proofs.actions.+actions.Goals as goal

pub action-returns-else-levels-eq0-clause-reads : goal.action-returns-else-levels-eq0-clause-reads
action-returns-else-levels-eq0-clause-reads t c =
    rw (action_at_word c.args.levels (c.args.levels - 1) c.args.toks.now c.in-Some.rest.now c.in-Some.first.now mark.Do (search rules) (search rules) (omega arith) refl) c.block.ensures.reads

pub action-returns-else-levels-eq0-2-clause-reads : goal.action-returns-else-levels-eq0-2-clause-reads
action-returns-else-levels-eq0-2-clause-reads t c =
    rw (action_at_word c.args.levels (c.args.levels - 1) c.args.toks.now c.in-Some.rest.now c.in-Some.first.now mark.If (search rules) (search rules) (omega arith) refl) c.if_then_else.ensures.reads

pub action-returns-else-levels-eq0-3-clause-reads : goal.action-returns-else-levels-eq0-3-clause-reads
action-returns-else-levels-eq0-3-clause-reads t c =
    rw (action_at_word c.args.levels (c.args.levels - 1) c.args.toks.now c.in-Some.rest.now c.in-Some.first.now mark.OrElse (search rules) (search rules) (omega arith) refl) c.or_else.ensures.reads

pub action-returns-else-levels-eq0-4-clause-reads : goal.action-returns-else-levels-eq0-4-clause-reads
action-returns-else-levels-eq0-4-clause-reads t c =
    rw (action_at_word c.args.levels (c.args.levels - 1) c.args.toks.now c.in-Some.rest.now c.in-Some.first.now mark.Catch (search rules) (search rules) (omega arith) refl) c.catch.ensures.reads

pub action-returns-else-levels-eq0-5-clause-reads : goal.action-returns-else-levels-eq0-5-clause-reads
action-returns-else-levels-eq0-5-clause-reads t c =
    rw (action_at_word c.args.levels (c.args.levels - 1) c.args.toks.now c.in-Some.rest.now c.in-Some.first.now mark.LParen (search rules) (search rules) (omega arith) refl) c.closed.ensures.reads

pub closed-returns-clause-reads : goal.closed-returns-clause-reads
closed-returns-clause-reads t c = closed_read c.args.checker.now (action_at c.args.levels) c.args.toks.now _ _ _ _ _ _ c.in-Some.ensures.reads c.in-Ok.ensures.gives

pub paren-returns-clause-reads : goal.paren-returns-clause-reads
paren-returns-clause-reads t c =
    rw (paren_closed c.args.levels (c.args.levels - 1) c.args.toks.now c.in-Some.rest.now c.in-Some.first.now (search rules) (grind arith) (omega arith) refl) c.closed.ensures.reads

pub block-returns-clause-reads : goal.block-returns-clause-reads
block-returns-clause-reads t c = block_read c.args.checker.now (body_at c.args.levels) c.args.place c.args.toks.now _ _ _ _ _ _ _ c.in-Ok.ensures.gives c.in-Some.ensures.reads c.in-Ok-expect.ensures.gives

pub or_else-returns-clause-reads : goal.or_else-returns-clause-reads
or_else-returns-clause-reads t c =
    as_action c.args.checker.now _ _ _ _ _ _ c.whole.result c.whole.ensures.tree c.whole.ensures.kind c.whole.ensures.rest
    (or_else_read c.args.checker.now (paren_at c.args.levels) c.args.place c.args.toks.now _ _ _ _ _ _ _ _ _ _ c.in-Some.ensures.reads c.in-Some-paren.ensures.reads (sym c.in-Some-join.ensures))

pub if_then_else-returns-clause-reads : goal.if_then_else-returns-clause-reads
if_then_else-returns-clause-reads t c =
    as_action c.args.checker.now _ _ _ _ _ _ c.whole.result c.whole.ensures.tree c.whole.ensures.kind c.whole.ensures.rest
    (if_read c.args.checker.now (tier_at widest c.args.levels) (action_at c.args.levels) c.args.place c.args.toks.now _ _ _ _ _ _ _ _ _ _ _ _ _ _ _ _ c.in-Some.ensures.reads (grind arith) c.in-Ok.ensures.gives c.in-Some-action.ensures.reads c.in-Ok-expect.ensures.gives c.in-Some-action-2.ensures.reads (sym c.in-Some-join.ensures))

pub catch-returns-clause-reads : goal.catch-returns-clause-reads
catch-returns-clause-reads t c =
    as_action c.args.checker.now _ _ _ _ _ _ c.whole.result c.whole.ensures.tree c.whole.ensures.kind c.whole.ensures.rest
    (catch_read c.args.checker.now (paren_at c.args.levels) c.in-Ok.name c.args.place c.args.toks.now _ _ _ _ _ _ _ _ _ _ _ c.in-Some.ensures.reads c.in-Ok.ensures.gives c.in-Some-handler.ensures.reads (sym c.in-Some-join.ensures))

pub body-returns-then-is_name_kind-clause-reads : goal.body-returns-then-is_name_kind-clause-reads
body-returns-then-is_name_kind-clause-reads t c =
    rw (body_bound c.args.levels c.args.toks.now c.in-Some.rest.now c.in-Some.first.now c.requires.low (search rules) (grind arith)) c.bound.ensures.reads

pub body-returns-then-is-clause-reads : goal.body-returns-then-is-clause-reads
body-returns-then-is-clause-reads t c =
    rw (body_let c.args.levels c.args.toks.now c.in-Some.rest.now c.in-Some.first.now c.requires.low (search rules) (grind arith) (grind arith)) c.let_bound.ensures.reads

pub body-returns-clause-reads : goal.body-returns-clause-reads
body-returns-clause-reads t c =
    rw (body_sequence c.args.levels c.args.toks.now c.in-Some.rest.now c.in-Some.first.now c.requires.low (search rules) (grind arith) (grind arith)) c.sequence.ensures.reads

pub bound-returns-clause-reads : goal.bound-returns-clause-reads
bound-returns-clause-reads t c =
    as_body c.args.checker.now _ _ _ _ _ _ c.whole.result c.whole.ensures.tree c.whole.ensures.kind c.whole.ensures.rest
    (bind_read c.args.checker.now (action_at c.args.levels) (body_at c.args.levels) (span_of c.args.name.now) c.args.toks.now _ _ _ _ _ _ _ _ _ _ _ c.in-Ok.ensures.gives (rw c.in-Some-kind.is at c.in-Some.ensures.reads) c.in-Ok-expect.ensures.gives c.in-Some-inner.ensures.reads)

pub let_bound-returns-clause-reads : goal.let_bound-returns-clause-reads
let_bound-returns-clause-reads t c =
    as_body c.args.checker.now _ _ _ _ _ _ c.whole.result c.whole.ensures.tree c.whole.ensures.kind c.whole.ensures.rest
    (let_read c.args.checker.now (tier_at widest c.args.levels) (body_at c.args.levels) c.in-Ok.name c.args.toks.now _ _ _ _ _ _ _ _ _ _ _ _ c.in-Ok.ensures.gives c.in-Ok-expect.ensures.gives c.in-Some.ensures.reads c.in-Ok-expect-2.ensures.gives c.in-Some-inner.ensures.reads)

pub sequence-returns-clause-reads : goal.sequence-returns-clause-reads
sequence-returns-clause-reads t c =
    as_body c.args.checker.now _ _ _ _ _ _ c.whole.result c.whole.ensures.tree c.whole.ensures.kind c.whole.ensures.rest
    (sequence_read c.args.checker.now (action_at c.args.levels) (body_at c.args.levels) c.args.toks.now _ _ _ _ _ _ _ _ _ _ c.in-Some.ensures.reads c.in-Some-accept.ensures.value c.in-Some-body.ensures.reads)

pub inner-returns-clause-reads : goal.inner-returns-clause-reads
inner-returns-clause-reads t c = as_inner_body c.args.checker.now _ (span_of c.args.name.now) c.args.kind (body_at c.args.levels c.args.toks.now) _ _ c.body.result c.body.ensures.reads refl refl (rw c.in-Some.ensures refl)

pub handler-returns-clause-reads : goal.handler-returns-clause-reads
handler-returns-clause-reads t c = as_inner_paren c.args.checker.now _ (span_of c.args.name.now) int_ty (paren_at c.args.levels c.args.toks.now) _ _ c.paren.result c.paren.ensures.reads refl refl (rw c.in-Some.ensures refl)
