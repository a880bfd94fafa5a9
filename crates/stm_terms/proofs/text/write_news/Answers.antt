use Rattle.std.proofs.Common.{subst, sym, [], append-nil, string_bytes}
use Rattle.std.proofs.lemmas.Result.{err_from_is_err_and}
use Rattle.stm_terms.specs.Texts.{AppendsText, new_text}
use Rattle.stm_terms.proofs.Appending.{AppendsText-fails, AppendsText-more, list_text-first}
use Rattle.stm_terms.proofs.text.write_news.Goals as goal

pub returns-in_err-write_value-in-len1-up : goal.returns-in_err-write_value-in-len1-up
returns-in_err-write_value-in-len1-up c =
    let p = err_from_is_err_and c.from_residual.result c.from_residual.ensures.1 in
    subst (AppendsText c.from_residual.result (string_bytes c.args.out.now) (string_bytes c.write_value.new.out))
    (sym (list_text-first new_text c.args.news.now _ c.in-len1-up.len_at_least))
    (AppendsText-fails _ _ _ _ _ [] _ _ p.1 (sym (append-nil _)) c.in_err-write_value-in-len1-up.ensures)

pub returns-in_ok-write_value-in-len1-up : goal.returns-in_ok-write_value-in-len1-up
returns-in_ok-write_value-in-len1-up c =
    subst (AppendsText c.write_news_spaced.result (string_bytes c.args.out.now) (string_bytes c.write_news_spaced.new.out))
    (sym (list_text-first new_text c.args.news.now _ c.in-len1-up.len_at_least))
    (AppendsText-more _ _ _ _ _ _ c.in_ok-write_value-in-len1-up.ensures c.write_news_spaced.ensures)
