use Rattle.std.proofs.Common.{◌≡◌, [], Err, ap}
use Rattle.stm_history_text.specs.Starts.{lent_start}
use Rattle.stm_history_file.specs.Durable.{HistoryKept, IsOldOrNew}
use Rattle.stm_history_file.proofs.Beginnings.{begun_run, begun_left, own_begun_run, own_begun_left}
use Rattle.stm_history_file.proofs.Texts.{IsWhole-history}
use Rattle.stm_history_file.proofs.recording.HistoryFile.begin.Goals as goal

pub returns-in-Err-clause-any_moment : goal.returns-in-Err-clause-any_moment
returns-in-Err-clause-any_moment g c = record {
  left = λ honest H keeps.
      c.in-Err.ensures.any_moment.left honest H
      (record { at_rest = keeps.at_rest; text = keeps.text; none = keeps.none; format_is = λ e. absurd (cc (e, c.requires.none)) });
  own = λ honest some H keeps.
      c.in-Err.ensures.any_moment.own honest some H
      (record { at_rest = keeps.at_rest; text = keeps.text; none = keeps.none; format_is = λ e. absurd (cc (e, c.requires.none)) });
}

pub returns-in-Err-Unfinished-clause-any_moment : goal.returns-in-Err-Unfinished-clause-any_moment
returns-in-Err-Unfinished-clause-any_moment g c =
    let D = g.D.Device.disk in
    let f = record c.args.self.now { format = c.args.format } in
    let start = lent_start c.args.format c.args.table.now c.args.checkpoint in
    let whole = IsWhole-history start c.requires.fit.0 [] c.requires.fit.1 in
    let new = c.begin_anew.new.self.journal.device in
    record {
      left = λ honest H keeps. (
          let kept : HistoryKept D f start H = record { at_rest = keeps.at_rest; text = keeps.text; none = keeps.none; format_is = λ e. absurd (cc (e, c.requires.none)) } in
          let long = (c.in-Err-TooLong.ensures.fault honest).cause.too_long (ap Err c.in-Err-TooLong.field-0-is) in
          let same : c.record.new.self ≡ f = (c.in-Err-TooLong.ensures.refused long).1 in
          let run = rw same at (c.begin_anew.ensures.any_moment honest) in
          let either : IsOldOrNew D c.record.new.self c.begin_anew.new.self start [] c.in-Err-Unfinished.error =
          rw c.in-Err-Unfinished.field-0-is at c.in-Err-Unfinished.ensures.begins in
          let left = rw same at (either.seen honest) in
          (begun_run D f start H c.requires.none kept whole new run, begun_left D f start H c.requires.none kept whole (D.seen new) left));
      own = λ honest some H keeps. (
          let kept : HistoryKept D f start H = record { at_rest = keeps.at_rest; text = keeps.text; none = keeps.none; format_is = λ e. absurd (cc (e, c.requires.none)) } in
          let long = (c.in-Err-TooLong.ensures.fault honest).cause.too_long (ap Err c.in-Err-TooLong.field-0-is) in
          let same : c.record.new.self ≡ f = (c.in-Err-TooLong.ensures.refused long).1 in
          let run = rw same at (c.begin_anew.ensures.any_moment honest) in
          let either : IsOldOrNew D c.record.new.self c.begin_anew.new.self start [] c.in-Err-Unfinished.error =
          rw c.in-Err-Unfinished.field-0-is at c.in-Err-Unfinished.ensures.begins in
          let left = rw same at (either.seen honest) in
          (own_begun_run D f start H c.requires.none kept whole some new run, own_begun_left D f start H c.requires.none kept whole (D.seen new) left));
    }
