use Rattle.std.proofs.Common.{◌≡◌, ◌∙◌, ℕ, List, Option, Some, None, sym, ap, subst}
use Rattle.std.specs.Prelude.{IfOk, is_some, option_map, if◌then◌else◌}
use Rattle.std.specs.Option.{option_copied}
use Rattle.stm_store.specs.Cells.{StoreIsTyped}
use Rattle.stm_store.specs.Tables.{declared_cells}
use Rattle.stm_events.specs.declared.event.Event.{Event}
use Rattle.stm_events.specs.declared.status.Status.{Status}
use Rattle.stm_events.specs.BlockStatus.{shown}
use Rattle.stm_events.specs.SlowDesk.{is_blocks, find_waiter}
use Rattle.stm_machine.specs.Checkpoints.{CheckpointView, start_of}
use Rattle.stm_desk.specs.declared.desk.Desk.TheInside.{Inside}
use Rattle.stm_desk.specs.DeskView.{DeskView, state_of}
use Rattle.stm_desk.specs.Kept.{DeskInvariant}
use Rattle.stm_desk.specs.Reasons.{kept_cause_at, WaitReason, NotEvaluated, Waits, CanFinish, reason_of}
use Rattle.stm_desk.specs.ReasonsByEvents.{EachIsWritable, reason_listed, shown_reason}
use Rattle.stm_desk.specs.Causes.{last_with}
use Rattle.stm_desk.proofs.CausesTold.{each_is_writable}
use Rattle.stm_desk.proofs.Starts.{typed_history}
use Rattle.stm_desk.proofs.ListedReasons.{IsListedReason, stands_stale}
use Rattle.stm_desk.proofs.ReasonsByEvents.{no_waiter, no_reason, unread, stands_new, stands_current, has_reason}
use Rattle.stm_desk.proofs.Views.{view_of}
use Rattle.stm_desk.proofs.desk.Desk.why.Goals as goal

-- a block that waits has a reason
has_one : (d : Inside) (x : DeskView) (t : ℕ) → view_of d ≡ x → DeskInvariant d.table d.checkpoint d.limit d.history.items d.machine → StoreIsTyped (declared_cells d.table)
    → is_some (reason_of x t) ≡ is_some (find_waiter t (state_of x).waiters)
has_one d x t e k typed =
    subst (λ (y : DeskView). is_some (reason_of y t) ≡ is_some (find_waiter t (state_of y).waiters)) e (has_reason (view_of d) t k.start (typed_history _ _ _ _ _ k typed))

pub returns-in_default-clause-reason : goal.returns-in_default-clause-reason
returns-in_default-clause-reason c =
    let d = view_of c.self.inside in
    let k = c.self.invariant.0 in
    let none : None ≡ reason_of d c.args.ticket = no_reason d c.args.ticket (no_waiter d c.args.ticket (c.in_default.ensures (state_of d) k.at)) in
    subst (λ (x : DeskView). None ≡ reason_of x c.args.ticket) c.self.view_is none

pub returns-in_default-reads-clause-reason : goal.returns-in_default-reads-clause-reason
returns-in_default-reads-clause-reason c =
    let d = view_of c.self.inside in
    let k = c.self.invariant.0 in
    subst (λ (x : DeskView). Some NotEvaluated ≡ reason_of x c.args.ticket) c.self.view_is
    (unread d c.args.ticket (shown c.in-Some.status) (c.in-Some.ensures (state_of d) k.at) (c.in_default-reads.ensures.then (state_of d) k.at))

pub returns-in-New-clause-reason : goal.returns-in-New-clause-reason
returns-in-New-clause-reason c =
    let d = view_of c.self.inside in
    let k = c.self.invariant.0 in
    subst (λ (x : DeskView). Some NotEvaluated ≡ reason_of x c.args.ticket) c.self.view_is
    (stands_new d c.args.ticket (ap (λ (s : Status). Some (shown s)) (sym c.in-New.is) ∙ c.in-Some.ensures (state_of d) k.at))

pub stale_reason-requires : goal.stale_reason-requires
stale_reason-requires c =
    let history = c.self.inside.history.items in
    let start = start_of c.self.inside.table c.self.inside.checkpoint in
    subst EachIsWritable (sym c.deref.ensures.value) (each_is_writable start history (typed_history _ _ _ _ _ c.self.invariant.0 c.len-variables.ensures.table.typed))

pub returns-in-Stale-clause-reason : goal.returns-in-Stale-clause-reason
returns-in-Stale-clause-reason c =
    let d = view_of c.self.inside in
    let k = c.self.invariant.0 in
    let t = c.args.ticket in
    let reads = c.in-Some-reads.reads.now in
    let p : IsListedReason d t reads =
    stands_stale d t (Some c.in-Stale.field-0.now) reads k.start (typed_history _ _ _ _ _ k c.len-variables.ensures.table.typed)
    (ap (λ (s : Status). Some (shown s)) (sym c.in-Stale.is) ∙ c.in-Some.ensures (state_of d) k.at)
    (c.in-Some-reads.ensures.then (state_of d) k.at)
    in
    let same : Some (reason_listed reads (kept_cause_at t (option_copied c.as_ref.result)) (last_with t c.deref.result.now)) ≡ reason_of c.args.self.now t =
    ap (λ (h : List Event). Some (reason_listed reads (kept_cause_at t (option_copied c.as_ref.result)) (last_with t h))) c.deref.ensures.value
    ∙ ap (λ (o : Option CheckpointView). Some (reason_listed reads (kept_cause_at t o) (last_with t d.history))) c.as_ref.ensures.value
    ∙ subst (λ (x : DeskView). Some (reason_listed reads (kept_cause_at t d.checkpoint) (last_with t d.history)) ≡ reason_of x t) c.self.view_is p
    in
    subst (λ (x : Option WaitReason). IfOk c.stale_reason.result (λ r. option_map shown_reason r ≡ x)) same c.stale_reason.ensures

pub returns-in-Current-clause-reason : goal.returns-in-Current-clause-reason
returns-in-Current-clause-reason c =
    let d = view_of c.self.inside in
    let k = c.self.invariant.0 in
    let reads = c.in-Some-reads.reads.now in
    let verdict = c.in-Current.verdict.now in
    ap Some c.current_reason.ensures
    ∙ subst (λ (x : DeskView). Some (if is_blocks verdict then Waits reads else CanFinish) ≡ reason_of x c.args.ticket) c.self.view_is
    (stands_current d c.args.ticket verdict reads
    (ap (λ (s : Status). Some (shown s)) (sym c.in-Current.is) ∙ c.in-Some.ensures (state_of d) k.at)
    (λ w f current. c.in-Some-reads.ensures.present (state_of d) k.at w f current))

pub returns-in_default-clause-waits : goal.returns-in_default-clause-waits
returns-in_default-clause-waits c = has_one c.self.inside _ c.args.ticket c.self.view_is c.self.invariant.0 c.len-variables.ensures.table.typed

pub returns-in_default-reads-clause-waits : goal.returns-in_default-reads-clause-waits
returns-in_default-reads-clause-waits c = has_one c.self.inside _ c.args.ticket c.self.view_is c.self.invariant.0 c.len-variables.ensures.table.typed

pub returns-in-New-clause-waits : goal.returns-in-New-clause-waits
returns-in-New-clause-waits c = has_one c.self.inside _ c.args.ticket c.self.view_is c.self.invariant.0 c.len-variables.ensures.table.typed

pub returns-in-Stale-clause-waits : goal.returns-in-Stale-clause-waits
returns-in-Stale-clause-waits c = has_one c.self.inside _ c.args.ticket c.self.view_is c.self.invariant.0 c.len-variables.ensures.table.typed

pub returns-in-Current-clause-waits : goal.returns-in-Current-clause-waits
returns-in-Current-clause-waits c = has_one c.self.inside _ c.args.ticket c.self.view_is c.self.invariant.0 c.len-variables.ensures.table.typed
