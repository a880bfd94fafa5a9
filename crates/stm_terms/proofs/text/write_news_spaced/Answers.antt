use Rattle.std.proofs.Common.{rules, codes, subst, sym, ◌++◌, append_assoc, string_bytes}
use Rattle.std.proofs.lemmas.Result.{err_from_is_err_and}
use Rattle.stm_terms.specs.Texts.{AppendsText, new_text}
use Rattle.stm_terms.proofs.Appending.{AppendsText-fails, spaced-next}
use Rattle.stm_terms.proofs.text.write_news_spaced.Goals as goal

pub returns-in_err-write_value : goal.returns-in_err-write_value
returns-in_err-write_value c =
    let p = err_from_is_err_and c.from_residual-in_err-write_value.result c.from_residual-in_err-write_value.ensures.1 in
    let k = c.loop-new.invariant in
    subst (AppendsText c.from_residual-in_err-write_value.result (string_bytes c.args.out.now) (string_bytes c.write_value.new.out))
    (sym (spaced-next new_text c.args.news.now c.loop-new.new-index _ k.0 (search rules) k.2))
    (AppendsText-fails _ _ _ _ _ (k.0 ++ codes " ") _ _ p.1 (search (rules, append_assoc)) c.in_err-write_value.ensures)
