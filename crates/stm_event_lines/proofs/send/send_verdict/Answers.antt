use Rattle.stm_event_lines.proofs.send.send_verdict.Goals as goal

pub returns-in-Commits : goal.returns-in-Commits
returns-in-Commits g c = rw (c.in-Commits.is, ← c.as_slice.ensures, ← c.as_slice-in-Commits.ensures) c.send_commits.ensures
