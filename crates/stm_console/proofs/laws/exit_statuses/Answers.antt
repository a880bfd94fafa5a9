use Rattle.stm_console.proofs.StatusProofs.{few, refused_kept, taken, judged, wrong_file}
use Rattle.stm_console.proofs.laws.exit_statuses.Goals as goal

pub returns-clause-few : goal.returns-clause-few
returns-clause-few c = few

pub returns-clause-wrong_words : goal.returns-clause-wrong_words
returns-clause-wrong_words c = refused_kept

pub returns-clause-taken : goal.returns-clause-taken
returns-clause-taken c = taken

pub returns-clause-judged : goal.returns-clause-judged
returns-clause-judged c = judged

pub returns-clause-wrong_file : goal.returns-clause-wrong_file
returns-clause-wrong_file c = wrong_file
