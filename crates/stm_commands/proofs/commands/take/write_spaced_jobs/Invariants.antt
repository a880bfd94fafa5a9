use Rattle.std.proofs.Common.{◌≡◌, ◌+◌, ◌++◌, map, drop, string_bytes}
use Rattle.stm_terms.specs.Texts.{spaced}
use Rattle.stm_commands.specs.Jobs.{job_text, numbered}
use Rattle.stm_commands.proofs.commands.take.write_spaced_jobs.Given as goal

abbrev pub invariant-loop-job : goal.invariant-loop-job
invariant-loop-job l =
    (l.number ≡ l.first + l.job-index)
    × (string_bytes l.out ++ spaced job_text (numbered l.number (map (λ j. j.ticket) (drop l.job-index l.jobs))) ≡ string_bytes l.fn.out ++ spaced job_text (numbered l.first (map (λ j. j.ticket) l.jobs)))
