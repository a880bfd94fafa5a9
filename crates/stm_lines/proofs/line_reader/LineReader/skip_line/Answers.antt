use Rattle.std.proofs.Common.{◌++◌, refl, arith}
use Rattle.std.proofs.lemmas.Result.{err_from_is_err_and}
use Rattle.stm_lines.proofs.CallsInTurn.{CountsCalls-trans}
use Rattle.stm_lines.proofs.TakenParts.{TakesPartOfLine-all, TakesPartOfLine-kept, TakesPartOfLine-refilled, TakesLastLine-ended, TakesWholeLine-more}
use Rattle.stm_lines.proofs.line_reader.LineReader.skip_line.Goals as goal

pub returns-then-skip_part-clause-read : goal.returns-then-skip_part-clause-read
returns-then-skip_part-clause-read g c =
    let h = c.parts.invariant.begun in
    let s = rw c.if-skip_part.true at c.skip_part.ensures in
    (h.0 ++ s.0, TakesWholeLine-more _ _ _ _ _ _ _ h.1 s.1 refl s.2)

pub returns-in_err-fill-clause-read : goal.returns-in_err-fill-clause-read
returns-in_err-fill-clause-read g c =
    let p = err_from_is_err_and c.from_residual.result c.from_residual.ensures.1 in
    let h = c.parts.invariant.begun in
    let s = rw c.if-skip_part.false at c.skip_part.ensures in
    let begun = TakesPartOfLine-kept _ _ _ _ _ _ (TakesPartOfLine-all _ _ _ _ _ _ h.1 s.0 refl s.1) s.1 c.in_err-fill.ensures.kept c.in_err-fill.ensures.none in
    rw (p.1, p.2, c.in_err-fill.ensures.fault) (refl, h.0 ++ c.parts.self.chunk, (begun, c.in_err-fill.ensures.none))

pub returns-then-not-branch-clause-read : goal.returns-then-not-branch-clause-read
returns-then-not-branch-clause-read g c =
    let h = c.parts.invariant.begun in
    let s = rw c.if-skip_part.false at c.skip_part.ensures in
    let e = c.in_ok-fill.ensures.end c.if-not-branch.true in
    (h.0 ++ c.parts.self.chunk, TakesLastLine-ended _ _ _ _ (TakesPartOfLine-refilled _ _ _ _ _ _ (TakesPartOfLine-all _ _ _ _ _ _ h.1 s.0 refl s.1) s.1 c.in_ok-fill.ensures.bytes) e.0 e.1)

pub parts-preserved : goal.parts-preserved
parts-preserved g c =
    let h = c.parts.invariant.begun in
    let s = rw c.if-skip_part.false at c.skip_part.ensures in
    record {
      begun = (h.0 ++ c.parts.self.chunk, TakesPartOfLine-refilled _ _ _ _ _ _ (TakesPartOfLine-all _ _ _ _ _ _ h.1 s.0 refl s.1) s.1 c.in_ok-fill.ensures.bytes);
      same_line = c.parts.invariant.same_line;
      fewer = omega (arith, c.in_ok-fill.ensures.fewer, c.in_ok-fill.ensures.few, c.parts.invariant.fewer);
      called = CountsCalls-trans c.parts.invariant.called c.in_ok-fill.ensures.called;
    }
