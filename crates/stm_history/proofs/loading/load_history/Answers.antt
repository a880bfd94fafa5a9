use Rattle.std.proofs.Common.{subst}
use Rattle.stm_events.specs.SlowDesk.{Slow}
use Rattle.stm_events.specs.States.{IsLegalFrom}
use Rattle.stm_history.specs.Loading.{IsWholeHistory, loaded_start}
use Rattle.stm_history_text.specs.Starts.{first_state}
use Rattle.stm_history.proofs.ReadToTheEnd.{at_taken, blocks_of_text, events_typed, first_is, may_start}
use Rattle.stm_history.proofs.loading.load_history.Goals as goal

pub returns-in-Ok : goal.returns-in-Ok
returns-in-Ok g c =
    let done = c.in-Ok.ensures.done in
    let h = c.into_loaded.result in
    let s = loaded_start h in
    let is : IsWholeHistory s done.0 h.events.items = c.into_loaded.ensures.history done.0 done.2 in (
      record {
        resumable = record {
          start = may_start s is.start;
          legal = subst (λ (z : Slow). IsLegalFrom z h.events.items) (first_is h.format h.table h.checkpoint c.into_loaded.ensures.latest) is.legal;
          machine = c.into_loaded.ensures.at;
          text = (done.0, is);
          typed = events_typed s.format (first_state s) h.events.items is.events;
        };
        latest = c.into_loaded.ensures.latest;
        blocks = blocks_of_text s is.start;
      },
      at_taken (g.R.Read.remaining c.args.reader.now) done.0 (λ bytes. IsWholeHistory s bytes h.events.items) done.1 is,
    )
