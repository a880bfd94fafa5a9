use Rattle.std.proofs.Common.{rules, codes, ◌++◌, append_assoc, string_bytes, refl}
use Rattle.std.proofs.lemmas.Result.{err_from_is_err_and}
use Rattle.stm_terms.specs.Texts.{changes_text, result_text}
use Rattle.stm_terms.proofs.Appending.{AppendsText-more_of, AppendsText-fails_of}
use Rattle.stm_terms.proofs.text.write_commit.Goals as goal

pub returns-in_err-write_changes : goal.returns-in_err-write_changes
returns-in_err-write_changes c =
    let p = err_from_is_err_and c.from_residual-in_err-write_changes.result c.from_residual-in_err-write_changes.ensures.1 in
    AppendsText-fails_of _ _ (string_bytes c.args.out.now) (string_bytes c.push_str.new.self) (string_bytes c.write_changes.new.out) (codes "commits writes ") (changes_text c.args.writes.now c.args.news.now) (result_text c.args.value) _ p.1
    (search rules) c.in_err-write_changes.ensures refl

pub returns : goal.returns
returns c =
    AppendsText-more_of _ (string_bytes c.args.out.now) (string_bytes c.write_changes.new.out) (string_bytes c.write_result.new.out) (codes "commits writes " ++ changes_text c.args.writes.now c.args.news.now) (result_text c.args.value) _
    (search (rules, append_assoc)) c.write_result.ensures refl
