-- One level or tier deeper, and one operator after another.
use Rattle.std.proofs.Common.{arith, refl, inl, inr}
use Rattle.stm_parse.specs.Grammar.{grouping_of}
use Rattle.stm_parse.specs.Descent.{atom_at}
use Rattle.stm_terms.specs.ParsedAst.{raw_term_of}
use Rattle.stm_parse.proofs.DepthLevels.{inside_none, inside_some}
use Rattle.stm_parse.proofs.Climbing.{tier_from_atom, climb_ends, climb_leaves, climb_more, climbs_by_bounds}
use Rattle.stm_parse.proofs.expression.+expressions.Goals as goal

pub atom-returns-in_err-inner-clause-gives : goal.atom-returns-in_err-inner-clause-gives
unfolding atom_at
atom-returns-in_err-inner-clause-gives t c = grind (arith, inside_none)

pub atom-returns-clause-gives : goal.atom-returns-clause-gives
unfolding atom_at
atom-returns-clause-gives t c = grind (arith, inside_some)

pub tier-returns-in_err-first-clause-gives : goal.tier-returns-in_err-first-clause-gives
tier-returns-in_err-first-clause-gives t c = grind (arith, tier_from_atom)

pub tier-returns-clause-gives : goal.tier-returns-clause-gives
tier-returns-clause-gives t c = grind (arith, tier_from_atom)

pub climb-returns-in_default-clause-gives : goal.climb-returns-in_default-clause-gives
climb-returns-in_default-clause-gives t c = climb_ends c.args.from c.args.width c.args.levels (raw_term_of c.args.left) c.args.toks.now c.requires.low c.in_default.ensures.value

pub climb-returns-then-own-from-clause-gives : goal.climb-returns-then-own-from-clause-gives
climb-returns-then-own-from-clause-gives t c =
    let s = c.in-Some in
    climb_leaves c.args.from c.args.width c.args.levels (raw_term_of c.args.left) c.args.toks.now s.own s.op s.rest.now c.requires.low s.ensures.value
    (elim c.then-own-from.either [ inl below ↦ inl below | inr over ↦ inr over.1 ])

pub climb-returns-clause-gives : goal.climb-returns-clause-gives
climb-returns-clause-gives t c =
    let s = c.in-Some in
    let e = climb_more c.args.from c.args.width c.args.levels (raw_term_of c.args.left) c.args.toks.now s.own s.op s.rest.now (grouping_of s.own) c.requires.low s.ensures.value (omega arith) (omega arith) refl in
    rw e c.climb_past.ensures.gives

pub climb_past-returns-in_err-right-clause-gives : goal.climb_past-returns-in_err-right-clause-gives
climb_past-returns-in_err-right-clause-gives t c =
    let b = c.bounds-inner.ensures in
    rw (climbs_by_bounds (grouping_of c.args.own) c.args.own c.args.width c.args.levels (raw_term_of c.args.left) c.args.op c.args.toks.now, ← b.right, ← b.next) (grind arith)

pub climb_past-returns-clause-gives : goal.climb_past-returns-clause-gives
climb_past-returns-clause-gives t c =
    let b = c.bounds-inner.ensures in
    rw (climbs_by_bounds (grouping_of c.args.own) c.args.own c.args.width c.args.levels (raw_term_of c.args.left) c.args.op c.args.toks.now, ← b.right, ← b.next) (grind arith)
