use Rattle.std.proofs.Common.{◌<◌, ◌≤◌, length, get_or, rules}
use Rattle.std.specs.HashSet.{contains}
use Rattle.std.specs.Prelude.{nat_eq}
use Rattle.std.proofs.lemmas.List.{drop_more}
use Rattle.stm_events.specs.KeptCauses.{kept_cause_of}
use Rattle.stm_desk.specs.Causes.{cause_by, cause_in_list, reads_under}
use Rattle.stm_desk.proofs.Seeking.{list_goes_on, list_ends}
use Rattle.stm_desk.proofs.desk.Desk.find_in_list.Goals as goal

pub loop-ticket-preserved : goal.loop-ticket-preserved
loop-ticket-preserved c = λ t.
    let stale = c.args.stale.now in
    let i = c.loop-ticket.ticket-index in
    let cause = cause_by c.args.finish c.args.first_new c.args.verdict.now (reads_under c.args.self.now t) in
    let within : i < length stale = search rules in
    list_goes_on t cause stale i (get_or stale i 0) (contains nat_eq c.args.missing.now t) (kept_cause_of t c.args.causes.now) (cause_in_list t cause stale) (contains nat_eq c.loop-ticket.missing t) (kept_cause_of t c.loop-ticket.causes)
    (contains nat_eq c.find_for.new.missing t) (kept_cause_of t c.find_for.new.causes) (drop_more stale i 0 within) (c.in_ok-find_for.ensures t) (c.loop-ticket.invariant t)

pub returns : goal.returns
returns c = λ t.
    let stale = c.args.stale.now in
    let i = c.loop-ticket.ticket-index in
    let cause = cause_by c.args.finish c.args.first_new c.args.verdict.now (reads_under c.args.self.now t) in
    let past : length stale ≤ i = search rules in
    list_ends t cause stale i (contains nat_eq c.args.missing.now t) (kept_cause_of t c.args.causes.now) (cause_in_list t cause stale) (contains nat_eq c.loop-ticket.missing t) (kept_cause_of t c.loop-ticket.causes) past (c.loop-ticket.invariant t)
