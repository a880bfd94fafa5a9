-- The options of a run.
use Rattle.std.specs.Prelude.{◌≤◌, ◌<◌}
use Rattle.stm_terms.specs.Limits.{max_levels, max_events, max_workers}
use Rattle.stm_options.specs.declared.options.Options.{Options}

-- Each option of a run, or of a storm, is in its range.
pub record AreRunOptions (o : Options) : Type 0 where
  pub some_worker : 0 < o.workers
  pub few_workers : o.workers ≤ max_workers
  pub few_levels : o.levels ≤ max_levels
  pub few_events : o.max_events ≤ max_events
  pub some_event : 1 ≤ o.checkpoint_every
  pub few_between : o.checkpoint_every ≤ max_events

-- the options of a run if its words say nothing of them
abbrev pub default_options : Options
default_options = record { workers = 2; levels = 0; max_events = max_events; checkpoint_every = 500000 }
