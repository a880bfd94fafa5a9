use Rattle.std.proofs.Common.{◌+◌, arith, refl, sym, subst}
use Rattle.stm_parse.specs.Front as front
use Rattle.stm_parse.specs.declared.fault.ParseFault.TheVariants as fault
use Rattle.stm_parse.proofs.LexerTurn.{AreSeen, seen_all, seen_classes, seen_rise, seen_names, seen_blank, seen_found, seen_bad}
use Rattle.stm_parse.proofs.lexer.cut_lexemes.Goals as goal

pub loop-place-preserved-in-Blank : goal.loop-place-preserved-in-Blank
loop-place-preserved-in-Blank c =
    (omega arith, seen_blank c.args.bytes.now c.loop-place.place c.loop-place.out.items c.loop-place.invariant.1 c.loop-place-test.true c.in-Blank.ensures.front)

pub loop-place-preserved : goal.loop-place-preserved
loop-place-preserved c =
    let w = c.in-Found.ensures.within in
    (omega arith, subst (AreSeen c.args.bytes.now (c.loop-place.place + c.in-Found.n)) (sym c.in_ok-push-in-Found.ensures.items) (seen_found c.args.bytes.now c.loop-place.place c.loop-place.out.items c.loop-place.invariant.1 c.loop-place-test.true c.in-Found.sym c.in-Found.n c.in-Found.ensures.front c.in-Found.ensures.sym w.0 w.1))

pub returns-in-BadByte-clause-cuts : goal.returns-in-BadByte-clause-cuts
returns-in-BadByte-clause-cuts c = λ n. seen_bad c.args.bytes.now c.loop-place.place c.loop-place.out.items c.loop-place.invariant.1 c.loop-place-test.true front.BadByte (fault.BadByte c.loop-place.place) c.in-BadByte.ensures.front (λ go. refl)

pub returns-in-LongName-clause-cuts : goal.returns-in-LongName-clause-cuts
returns-in-LongName-clause-cuts c = λ n. seen_bad c.args.bytes.now c.loop-place.place c.loop-place.out.items c.loop-place.invariant.1 c.loop-place-test.true front.LongName (fault.NameTooLong c.loop-place.place) c.in-LongName.ensures.front (λ go. refl)

pub returns-in-BadNumber-clause-cuts : goal.returns-in-BadNumber-clause-cuts
returns-in-BadNumber-clause-cuts c = λ n. seen_bad c.args.bytes.now c.loop-place.place c.loop-place.out.items c.loop-place.invariant.1 c.loop-place-test.true front.BadNumber (fault.BadNumber c.loop-place.place) c.in-BadNumber.ensures.front (λ go. refl)

pub returns-clause-cuts : goal.returns-clause-cuts
returns-clause-cuts c = seen_all c.args.bytes.now c.loop-place.place c.loop-place.out.items c.loop-place.invariant.1 c.loop-place-test.false

pub returns-clause-names : goal.returns-clause-names
returns-clause-names c = seen_names c.args.bytes.now c.loop-place.place c.loop-place.out.items c.loop-place.invariant.1 c.loop-place.invariant.0

pub returns-clause-classes : goal.returns-clause-classes
returns-clause-classes c = seen_classes c.args.bytes.now c.loop-place.place c.loop-place.out.items c.loop-place.invariant.1 c.loop-place-test.false

pub returns-clause-rising : goal.returns-clause-rising
returns-clause-rising c = seen_rise c.args.bytes.now c.loop-place.place c.loop-place.out.items c.loop-place.invariant.1 c.loop-place.invariant.0
