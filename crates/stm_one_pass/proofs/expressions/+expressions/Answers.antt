-- What was read of the parts is the witness for the whole.
use Rattle.std.proofs.Common.{arith, rules, refl, inl, inr, ◌-◌}
use Rattle.stm_terms.specs.Ast.{term_of}
use Rattle.stm_terms.specs.ParsedAst as raw
use Rattle.stm_parse.proofs.Climbing.{tier_from_atom, climb_ends, climb_leaves, climb_more, climbs_by_bounds}
use Rattle.stm_parse.specs.Grammar.{grouping_of}
use Rattle.stm_one_pass.proofs.ExpressionSteps.{both_found, both_uses, atom_short, atom_bracketed}
use Rattle.stm_one_pass.proofs.expressions.+expressions.Goals as goal

pub climb-returns-in_default-clause-reads : goal.climb-returns-in_default-clause-reads
climb-returns-in_default-clause-reads t c = λ e before found uses. record {
  tree = e;
  read = climb_ends c.args.from c.args.width c.args.levels e c.args.toks.now c.requires.low c.in_default.ensures.value;
  found = found;
  uses = uses;
}

pub climb-returns-then-own-from-clause-reads : goal.climb-returns-then-own-from-clause-reads
climb-returns-then-own-from-clause-reads t c = λ e before found uses. record {
  tree = e;
  read = let s = c.in-Some in climb_leaves c.args.from c.args.width c.args.levels e c.args.toks.now s.own s.op s.rest.now c.requires.low s.ensures.value
      (elim c.then-own-from.either [ inl below ↦ inl below | inr over ↦ inr over.1 ]);
  found = found;
  uses = uses;
}

pub climb-returns-clause-reads : goal.climb-returns-clause-reads
climb-returns-clause-reads t c = λ e before found uses.
    let s = c.in-Some in
    let m = climb_more c.args.from c.args.width c.args.levels e c.args.toks.now s.own s.op s.rest.now (grouping_of s.own) c.requires.low s.ensures.value (omega arith) (omega arith) refl in
    rw m (c.climb_past.ensures.reads e before found uses)

pub tier-returns-clause-reads : goal.tier-returns-clause-reads
tier-returns-clause-reads t c =
    let a = c.in-Some.ensures.reads in
    rw (tier_from_atom c.args.width c.args.levels c.args.toks.now, a.read) (c.climb.ensures.reads a.tree _ a.found a.uses)

pub atom-returns-then-not-is-clause-reads : goal.atom-returns-then-not-is-clause-reads
atom-returns-then-not-is-clause-reads t c =
    rw (atom_short c.args.levels c.args.toks.now c.in-Some.rest.now c.in-Some.first.now (search rules) (grind arith)) c.short.ensures.reads

pub atom-returns-clause-reads : goal.atom-returns-clause-reads
atom-returns-clause-reads t c =
    rw (atom_bracketed c.args.levels (c.args.levels - 1) c.args.toks.now c.in-Some.rest.now c.in-Some.first.now (search rules) (grind arith) (omega arith) refl) c.bracketed.ensures.reads

pub climb_past-returns-clause-reads : goal.climb_past-returns-clause-reads
climb_past-returns-clause-reads t c = λ e before found uses.
    let k = c.args.checker.now in
    let r = c.in-Some.ensures.reads in
    let j = c.in-Some-joined.ensures in
    let b = c.bounds-inner.ensures in
    rw (climbs_by_bounds (grouping_of c.args.own) c.args.own c.args.width c.args.levels e c.args.op c.args.toks.now, ← b.right, ← b.next, r.read) (
    c.climb.ensures.reads (raw.bin c.args.op e r.tree) before
    (rw (j.tree, j.kind) (both_found k c.args.op e r.tree _ _ _ _ found r.found j.left j.right))
    (rw j.tree (both_uses k c.args.op (term_of c.args.left) (term_of c.in-Some.right) before _ _ uses r.uses)))
