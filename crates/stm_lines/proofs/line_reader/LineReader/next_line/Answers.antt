use Rattle.std.proofs.Common.{eqb-true, sym, vec_len, arith}
use Rattle.std.proofs.lemmas.List.{nil_from_length}
use Rattle.std.proofs.lemmas.Result.{err_from_is_err_and}
use Rattle.stm_lines.proofs.CallsInTurn.{CountsCalls-trans}
use Rattle.stm_lines.proofs.TakenParts.{TakesPartOfLine-kept, TakesPartOfLine-refilled, TakesLastLine-ended, whole_taken, too_long_taken, all_taken, not_empty}
use Rattle.stm_lines.proofs.line_reader.LineReader.next_line.Goals as goal

pub returns-in_err-take_part-clause-read : goal.returns-in_err-take_part-clause-read
returns-in_err-take_part-clause-read g c =
    let p = err_from_is_err_and c.from_residual.result c.from_residual.ensures.1 in
    rw (p.1, p.2, c.in_err-take_part.ensures.fault, c.in_err-take_part.ensures.same_line, c.in_err-take_part.ensures.same_chunk) c.parts.invariant.begun

pub returns-in-Whole-clause-shorter : goal.returns-in-Whole-clause-shorter
returns-in-Whole-clause-shorter g c =
    let s = whole_taken c.args.limit c.in_ok-take_part.field-0 _ _ c.parts.self.line.items c.take_part.new.line.items c.parts.self.chunk c.take_part.new.chunk c.parts.invariant.begun c.in-Whole.is c.in_ok-take_part.ensures.part in
    omega (arith, c.parts.invariant.fewer, s.2)

pub returns-in-Whole-clause-read : goal.returns-in-Whole-clause-read
returns-in-Whole-clause-read g c =
    let s = whole_taken c.args.limit c.in_ok-take_part.field-0 _ _ c.parts.self.line.items c.take_part.new.line.items c.parts.self.chunk c.take_part.new.chunk c.parts.invariant.begun c.in-Whole.is c.in_ok-take_part.ensures.part in
    (s.0, s.1)

pub returns-in-TooLong-clause-shorter : goal.returns-in-TooLong-clause-shorter
returns-in-TooLong-clause-shorter g c =
    let s = too_long_taken c.args.limit c.in_ok-take_part.field-0 _ _ c.parts.self.line.items c.take_part.new.line.items c.parts.self.chunk c.take_part.new.chunk c.parts.invariant.begun c.in-TooLong.is c.in_ok-take_part.ensures.part in
    omega (arith, c.parts.invariant.fewer, s.2)

pub returns-in-TooLong-clause-read : goal.returns-in-TooLong-clause-read
returns-in-TooLong-clause-read g c =
    let s = too_long_taken c.args.limit c.in_ok-take_part.field-0 _ _ c.parts.self.line.items c.take_part.new.line.items c.parts.self.chunk c.take_part.new.chunk c.parts.invariant.begun c.in-TooLong.is c.in_ok-take_part.ensures.part in
    (s.0, s.1)

pub returns-in_err-fill-clause-read : goal.returns-in_err-fill-clause-read
returns-in_err-fill-clause-read g c =
    let p = err_from_is_err_and c.from_residual-in_err-fill.result c.from_residual-in_err-fill.ensures.1 in
    let s = all_taken c.args.limit c.in_ok-take_part.field-0 _ _ c.parts.self.line.items c.take_part.new.line.items c.parts.self.chunk c.take_part.new.chunk c.parts.invariant.begun c.in-More.is c.in_ok-take_part.ensures.part in
    rw (p.1, p.2, c.in_err-fill.ensures.fault) (
      TakesPartOfLine-kept _ _ _ c.take_part.new.line.items c.take_part.new.chunk c.fill.new.chunk s.0 s.4 c.in_err-fill.ensures.kept c.in_err-fill.ensures.none,
      c.in_err-fill.ensures.none,
    )

pub returns-then-is_empty-clause-read : goal.returns-then-is_empty-clause-read
returns-then-is_empty-clause-read g c =
    let s = all_taken c.args.limit c.in_ok-take_part.field-0 _ _ c.parts.self.line.items c.take_part.new.line.items c.parts.self.chunk c.take_part.new.chunk c.parts.invariant.begun c.in-More.is c.in_ok-take_part.ensures.part in
    let e = c.in_ok-fill.ensures.end c.if-not-branch.true in
    let n = eqb-true (vec_len c.take_part.new.line) 0 (sym c.if-is_empty.ensures) in
    let line = c.take_part.new.line.items in (
      TakesLastLine-ended _ _ line c.fill.new.chunk (TakesPartOfLine-refilled _ _ _ line c.take_part.new.chunk c.fill.new.chunk s.0 s.4 c.in_ok-fill.ensures.bytes) e.0 e.1,
      nil_from_length line (omega (arith, n, c.take_part.new.line.ok.0)),
    )

pub returns-else-is_empty-clause-read : goal.returns-else-is_empty-clause-read
returns-else-is_empty-clause-read g c =
    let s = all_taken c.args.limit c.in_ok-take_part.field-0 _ _ c.parts.self.line.items c.take_part.new.line.items c.parts.self.chunk c.take_part.new.chunk c.parts.invariant.begun c.in-More.is c.in_ok-take_part.ensures.part in
    let e = c.in_ok-fill.ensures.end c.if-not-branch.true in
    let n = not_empty (vec_len c.take_part.new.line) c.if-is_empty.ensures in
    let line = c.take_part.new.line.items in (
      TakesLastLine-ended _ _ line c.fill.new.chunk (TakesPartOfLine-refilled _ _ _ line c.take_part.new.chunk c.fill.new.chunk s.0 s.4 c.in_ok-fill.ensures.bytes) e.0 e.1,
      omega (arith, n, c.take_part.new.line.ok.0),
      s.1,
    )

pub parts-preserved : goal.parts-preserved
parts-preserved g c =
    let i = c.parts.invariant in
    let s = all_taken c.args.limit c.in_ok-take_part.field-0 _ _ c.parts.self.line.items c.take_part.new.line.items c.parts.self.chunk c.take_part.new.chunk c.parts.invariant.begun c.in-More.is c.in_ok-take_part.ensures.part in
    record {
      begun = TakesPartOfLine-refilled _ _ _ c.take_part.new.line.items c.take_part.new.chunk c.fill.new.chunk s.0 s.4 c.in_ok-fill.ensures.bytes;
      short = s.1;
      fewer = omega (arith, c.in_ok-fill.ensures.fewer, c.in_ok-fill.ensures.few, i.fewer, s.2);
      buffered = λ f. absurd ((i.buffered f).0 s.3);
      called = CountsCalls-trans i.called c.in_ok-fill.ensures.called;
    }
