use Rattle.std.proofs.Common.{ℕ, sym, subst, ◌∙◌}
use Rattle.stm_history.specs.declared.check.Stage.{Stage}
use Rattle.stm_history.specs.Stages.{KeepsEvents, Reached}
use Rattle.stm_history_text.specs.Starts.{GoesByPresentRule}
use Rattle.stm_history.proofs.ReadToTheEnd.{loaded_at, loaded_history}
use Rattle.stm_history.proofs.check.Checker.into_loaded.Goals as goal

pub returns-clause-history : goal.returns-clause-history
returns-clause-history c = λ taken h.
    let stage = sym c.into_stage.ensures.same ∙ c.in-Running.is in
    let reached = subst (λ (s : Stage). Reached s c.args.self.whole c.args.self.line.items taken) stage h in
    loaded_history c.in-Running.format c.in-Running.table c.in-Running.checkpoint c.in-Running.replayer _ _ taken _ _ _ _ reached c.requires.line c.loaded_of.ensures.format c.loaded_of.ensures.table c.loaded_of.ensures.checkpoint c.loaded_of.ensures.events

pub returns-clause-latest : goal.returns-clause-latest
returns-clause-latest c =
    let loaded = subst KeepsEvents (sym c.into_stage.ensures.same ∙ c.in-Running.is) c.requires.stage in
    let format = sym c.loaded_of.ensures.format in
    let checkpoint = sym c.loaded_of.ensures.checkpoint in
    subst (λ (k : ℕ). GoesByPresentRule k c.loaded_of.result.checkpoint) format (subst (GoesByPresentRule c.in-Running.format) checkpoint loaded.0)

pub returns-clause-at : goal.returns-clause-at
returns-clause-at c =
    let stage = sym c.into_stage.ensures.same ∙ c.in-Running.is in
    let taken = (c.requires.reached).0 in
    let reached = subst (λ (s : Stage). Reached s c.args.self.whole c.args.self.line.items taken) stage (c.requires.reached).1 in
    let loaded = subst KeepsEvents stage c.requires.stage in
    loaded_at c.in-Running.format c.in-Running.table c.in-Running.checkpoint c.in-Running.replayer _ _ taken _ _ _ _ reached c.requires.line loaded.0 c.loaded_of.ensures.machine c.loaded_of.ensures.table c.loaded_of.ensures.checkpoint c.loaded_of.ensures.events
