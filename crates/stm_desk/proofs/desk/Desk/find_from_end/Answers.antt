use Rattle.std.proofs.Common.{◌-◌, ◌≤◌, length, refl, sym, subst, arith}
use Rattle.std.specs.HashSet.{contains}
use Rattle.std.specs.Prelude.{nat_eq}
use Rattle.stm_events.specs.declared.event.Event.{Event}
use Rattle.stm_events.specs.KeptCauses.{kept_cause_of}
use Rattle.stm_desk.specs.Causes.{cause_listed, reads_under, IsSought}
use Rattle.stm_desk.specs.ReasonsByEvents.{IsWritable}
use Rattle.stm_desk.proofs.Seeking.{none_missing, writable_at, sought_before, sought_all}
use Rattle.stm_desk.proofs.desk.Desk.find_from_end.Goals as goal

pub returns-then-is_empty : goal.returns-then-is_empty
returns-then-is_empty c = λ t.
    sought_all t (reads_under c.args.self.now t) c.args.events.now c.loop-i.i (contains nat_eq c.args.missing.now t) (kept_cause_of t c.args.causes.now) (contains nat_eq c.loop-i.missing t) (kept_cause_of t c.loop-i.causes)
    (none_missing c.loop-i.missing.keys t (c.if-is_empty.ensures.0 refl)) (c.loop-i.invariant.sought t)

pub find_by-requires : goal.find_by-requires
find_by-requires c =
    let i = c.loop-i.i in
    let events = c.args.events.now in
    let within : i ≤ length events = c.loop-i.invariant.within in
    subst (λ (e : Event). IsWritable e.what) c.index-events-i.is (writable_at events (i - 1) c.index-events-i.result c.requires (omega arith) c.index-events-i.is)

pub loop-i-preserved : goal.loop-i-preserved
loop-i-preserved c =
    let i = c.loop-i.i in
    let events = c.args.events.now in
    let e = c.index-events-i.result in
    let within : i ≤ length events = c.loop-i.invariant.within in
    record {
      within = omega arith;
      sought = λ t.
          let reads = reads_under c.args.self.now t in
          let here = subst (λ (x : Event). IsSought (contains nat_eq c.loop-i.missing t) (kept_cause_of t c.loop-i.causes) (cause_listed t reads x.what) (contains nat_eq c.find_by.new.missing t) (kept_cause_of t c.find_by.new.causes))
          (sym c.index-events-i.is) (c.in_ok-find_by.ensures t) in
          sought_before t reads events i (i - 1) e (contains nat_eq c.args.missing.now t) (kept_cause_of t c.args.causes.now) (contains nat_eq c.loop-i.missing t) (kept_cause_of t c.loop-i.causes)
          (contains nat_eq c.find_by.new.missing t) (kept_cause_of t c.find_by.new.causes) (omega arith) (omega arith) c.index-events-i.is (c.loop-i.invariant.sought t) here;
    }
