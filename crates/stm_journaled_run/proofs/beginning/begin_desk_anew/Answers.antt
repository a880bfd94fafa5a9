use Rattle.std.proofs.Common.{◌≡◌, Some, ap, subst}
use Rattle.stm_machine.specs.Checkpoints.{MayStart}
use Rattle.stm_commands.specs.Checkpointing.{begun_anew}
use Rattle.stm_journaled_run.proofs.RecordedEvents.{anew_none, anew_begins, anew_fits, anew_kept_if, begun_run}
use Rattle.stm_journaled_run.proofs.Results.{on_ok}
use Rattle.stm_journaled_run.proofs.Refused.{consoles_kept}
use Rattle.stm_journaled_run.proofs.beginning.begin_desk_anew.Goals as goal

pub begin_anew-requires-clause-fit : goal.begin_anew-requires-clause-fit
begin_anew-requires-clause-fit g c =
    let d = begun_anew c.args.desk.now in
    let k = c.args.checkpoint.now in
    let is : Some k ≡ d.desk.checkpoint = ap Some c.requires.taken in
    let known = rw c.names.ensures at c.len-names.ensures.known in
    let cells = rw c.store.ensures at c.cells_in_range.ensures in
    let blocks = rw c.blocks-2.ensures at c.blocks_in_range.ensures in
    rw (c.format_for-format.ensures, c.table.ensures) (anew_fits d k is (anew_begins _ d c.requires.may c.checkpoints_fit.ensures k is (subst (MayStart d.desk.table) is c.requires.start) known cells blocks))

pub returns-clause-kept : goal.returns-clause-kept
returns-clause-kept g c =
    let d = begun_anew c.args.desk.now in
    let k = c.args.checkpoint.now in
    let is : Some k ≡ d.desk.checkpoint = ap Some c.requires.taken in
    let begins = rw (c.format_for-format.ensures, c.table.ensures) at c.begin_anew.ensures.begins in
    anew_kept_if g.D.Device.disk c.args.file.now c.begin_anew.new.self d k c.begin_anew.result is (anew_none _ d c.requires.may) begins

pub returns-clause-may_begin : goal.returns-clause-may_begin
returns-clause-may_begin g c =
    let d = begun_anew c.args.desk.now in
    let k = c.args.checkpoint.now in
    let is : Some k ≡ d.desk.checkpoint = ap Some c.requires.taken in
    let known = rw c.names.ensures at c.len-names.ensures.known in
    let cells = rw c.store.ensures at c.cells_in_range.ensures in
    let blocks = rw c.blocks-2.ensures at c.blocks_in_range.ensures in
    on_ok c.begin_anew.result _ (anew_begins _ d c.requires.may c.checkpoints_fit.ensures k is (subst (MayStart d.desk.table) is c.requires.start) known cells blocks)

pub returns-clause-refused : goal.returns-clause-refused
returns-clause-refused g c = consoles_kept g.D.Device.disk c.args.file.now c.begin_anew.new.self _ _ c.begin_anew.result c.begin_anew.ensures.begins

pub returns-clause-any_moment : goal.returns-clause-any_moment
returns-clause-any_moment g c = λ honest m.
    let D = g.D.Device.disk in
    let f = c.args.file.now in
    let d = begun_anew c.args.desk.now in
    let k = c.args.checkpoint.now in
    let is : Some k ≡ d.desk.checkpoint = ap Some c.requires.taken in
    let run = rw c.format_for-format.ensures at (c.begin_anew.ensures.any_moment honest) in
    begun_run D f c.begin_anew.new.self.journal.device m.committed d k is (anew_none _ d m) (m.kept.1 honest) run
