use Rattle.std.proofs.Common.{Ok, Err, sym, ◌∙◌, subst}
use Rattle.std.proofs.lemmas.Result.{err_from_is_err_and}
use Rattle.clap.specs.Words.{HasKind}
use Rattle.stm_command_line.proofs.WordAnswers.{IsAnsweredByClap, clap_answered, default_in_range, requested, run_requested, run_unanswered, words_answered}
use Rattle.stm_command_line.proofs.command_line.read_words.Goals as goal

pub returns-then-is_plain_run-clause-words : goal.returns-then-is_plain_run-clause-words
returns-then-is_plain_run-clause-words g c =
    let asks = sym c.is_plain_run.ensures ∙ c.if-is_plain_run.true in
    (run_unanswered _ asks, rw c.standard.ensures (sym (run_requested _ asks)), rw c.standard.ensures default_in_range)

pub returns-in_err-matches-clause-words : goal.returns-in_err-matches-clause-words
returns-in_err-matches-clause-words g c =
    let p = err_from_is_err_and c.from_residual-in_err-matches.result c.from_residual-in_err-matches.ensures.1 in
    let h = clap_answered _ _ _ c.in_ok-command.ensures c.try_get_matches_from.ensures.kinds in
    rw p.1 (subst (HasKind _) (sym p.2) (subst (IsAnsweredByClap _) c.in_err-matches.was h))

pub returns-in-Ok-clause-words : goal.returns-in-Ok-clause-words
returns-in-Ok-clause-words g c = (
  words_answered {T = Unit {0}} _ _ _ c.in_ok-matches.matches (Ok tt) c.in_ok-command.ensures c.try_get_matches_from.ensures.kinds c.in_ok-matches.was
      c.in_ok-matches.ensures.matches c.in-Ok.ensures,
  requested _ _ c.in_ok-matches.matches _ c.in_ok-command.ensures c.in_ok-matches.ensures.matches c.request_of.ensures.said,
  c.request_of.ensures.range,
)

pub returns-clause-words : goal.returns-clause-words
returns-clause-words g c =
    words_answered {T = Unit {0}} _ _ _ c.in_ok-matches.matches (Err c.in-Err.error) c.in_ok-command.ensures c.try_get_matches_from.ensures.kinds c.in_ok-matches.was
    c.in_ok-matches.ensures.matches c.in-Err.ensures
