use Rattle.std.proofs.Common.{Bool, true, ◌∙◌, ap, length, take, refl, sym, subst, arith}
use Rattle.stm_history_text.specs.Starts.{lent_start}
use Rattle.stm_journal.specs.Text.{IsWhole}
use Rattle.stm_history_file.specs.Durable.{batch_text}
use Rattle.stm_history_file.proofs.Texts.{IsWhole-batch, batch_short, front_of}
use Rattle.stm_history_file.proofs.Crashes.{recorded, leaves, left, own_run, own_left}
use Rattle.stm_history_file.proofs.recording.HistoryFile.record.Goals as goal

pub add_batch-requires-clause-lines : goal.add_batch-requires-clause-lines
add_batch-requires-clause-lines g c =
    subst IsWhole (sym (c.deref.ensures.value ∙ c.in-Ok.ensures.ok)) (IsWhole-batch c.args.self.now.begun (lent_start c.args.self.now.format c.args.table.now c.args.checkpoint) c.requires.fit.0 c.args.events.now c.requires.fit.1)

pub add_batch-requires-clause-at_rest : goal.add_batch-requires-clause-at_rest
add_batch-requires-clause-at_rest g c honest = (c.requires.kept honest).1.at_rest

pub returns-in-Ok-add_batch-clause-recorded : goal.returns-in-Ok-add_batch-clause-recorded
returns-in-Ok-add_batch-clause-recorded g c =
    let D = g.D.Device.disk in
    let s = c.args.self.now in
    let start = lent_start s.format c.args.table.now c.args.checkpoint in
    let events = c.args.events.now in
    let done = c.in-Ok-add_batch.ensures in
    let long = ap length c.in-Ok.ensures.ok in
    record {
      kept = λ honest H keeps.
          recorded D s start H events keeps c.deref.result.now (c.deref.ensures.value ∙ c.in-Ok.ensures.ok)
          (record { journal = c.add_batch.new.journal; begun = true; format = s.format }) refl refl (done.at_rest honest) (done.added honest);
      begun = refl;
      short = λ z fit. batch_short s.begun start z events fit (omega (arith, long));
    }

pub returns-in-Ok-add_batch-clause-any_moment : goal.returns-in-Ok-add_batch-clause-any_moment
returns-in-Ok-add_batch-clause-any_moment g c =
    let D = g.D.Device.disk in
    let s = c.args.self.now in
    let start = lent_start c.args.self.now.format c.args.table.now c.args.checkpoint in
    let events = c.args.events.now in
    let batch = c.deref.result.now in
    let is = c.deref.ensures.value ∙ c.in-Ok.ensures.ok in
    let z = c.requires.fit.0 in
    let fit = (c.requires.fit.1).fit in
    let small = ap length c.deref.ensures.value in
    let new = c.add_batch.new.journal.device in
    let run = c.add_batch.ensures in
    record {
      left = λ honest H keeps. (
        leaves D s start H events keeps batch is z fit (omega (arith, small)) new (run.any_moment honest),
        left D s start H events keeps batch is z fit (omega (arith, small)) (D.seen new) (run.left honest),
      );
      own = λ honest some H keeps. (
        own_run D s start H events some keeps new batch is
            (leaves D s start H events keeps batch is z fit (omega (arith, small)) new (run.any_moment honest))
            (λ none. run.begun_moment none some honest),
        own_left D s start H events some keeps batch (D.seen new) is
            (left D s start H events keeps batch is z fit (omega (arith, small)) (D.seen new) (run.left honest))
            (λ none. run.begun_left none some honest),
      );
    }

pub returns-clause-any_moment : goal.returns-clause-any_moment
returns-clause-any_moment g c =
    let D = g.D.Device.disk in
    let s = c.args.self.now in
    let start = lent_start c.args.self.now.format c.args.table.now c.args.checkpoint in
    let events = c.args.events.now in
    let batch = c.deref.result.now in
    let is = c.deref.ensures.value ∙ c.in-Ok.ensures.ok in
    let z = c.requires.fit.0 in
    let fit = (c.requires.fit.1).fit in
    let small = ap length c.deref.ensures.value in
    let new = c.add_batch.new.journal.device in
    let run = c.add_batch.ensures in
    record {
      left = λ honest H keeps. (
        leaves D s start H events keeps batch is z fit (omega (arith, small)) new (run.any_moment honest),
        left D s start H events keeps batch is z fit (omega (arith, small)) (D.seen new) (run.left honest),
      );
      own = λ honest some H keeps. (
        own_run D s start H events some keeps new batch is
            (leaves D s start H events keeps batch is z fit (omega (arith, small)) new (run.any_moment honest))
            (λ none. run.begun_moment none some honest),
        own_left D s start H events some keeps batch (D.seen new) is
            (left D s start H events keeps batch is z fit (omega (arith, small)) (D.seen new) (run.left honest))
            (λ none. run.begun_left none some honest),
      );
    }

pub add_batch-requires-clause-front : goal.add_batch-requires-clause-front
add_batch-requires-clause-front g c none =
    let start = lent_start c.args.self.now.format c.args.table.now c.args.checkpoint in
    ap (take 10) (c.deref.ensures.value ∙ c.in-Ok.ensures.ok ∙ ap (λ (b : Bool). batch_text b start c.args.events.now) none)
    ∙ front_of start c.args.events.now
