use Rattle.std.proofs.Common.{refl}
use Rattle.stm_journal.specs.Text.{recovered}
use Rattle.stm_history_file.proofs.RepairedFiles.{has_loaded, format_of_loaded, is_repaired, is_unrepaired, repair_cause}
use Rattle.stm_history_file.proofs.resuming.repaired.Goals as goal

pub returns-in-Ok-clause-opened : goal.returns-in-Ok-clause-opened
returns-in-Ok-clause-opened g c =
    let D = g.D.Device.disk in
    let is = c.in-Ok.ensures in
    let format = c.format_of-format in
    record {
      resumable = c.requires.resumable;
      blocks = c.requires.blocks;
      loaded = c.requires.text;
      kept = λ settled honest.
          has_loaded D (record { journal = record { device = c.repair.new.device; len = c.args.found.kept; sync = c.args.sync }; begun = c.is_some-begun.result; format = format.result })
          (recovered (D.seen c.args.device)) c.args.loaded c.is_some-begun.ensures format.ensures.some
          (c.requires.text honest) (is.repaired honest) (is.at_rest settled honest c.args.sync);
      format = format_of_loaded format.result c.args.loaded format.ensures.none format.ensures.some c.requires.format;
      sync = refl;
      dropped = c.requires.found.dropped;
      may_open = λ honest. is_repaired _ _ _ _ (c.requires.own honest) (c.requires.found.dropped honest) is.refused;
      any_moment = is.any_moment;
    }

pub returns-in-Err-clause-failed : goal.returns-in-Err-clause-failed
returns-in-Err-clause-failed g c =
    let is = c.in-Err.ensures in
    record {
      reported = λ honest. tt;
      cause = λ honest. repair_cause _ _ _ _ _ _ (c.requires.found.dropped honest) (is.fault honest).cause;
      unchanged = λ file. absurd file;
      refused = λ honest. is_unrepaired _ _ _ _ (c.requires.own honest) (c.requires.found.dropped honest) is.refused;
      any_moment = is.any_moment;
      same_lines = is.left;
    }
