use Rattle.std.proofs.Common.{rules, codes, ◌++◌, append_assoc}
use Rattle.stm_terms.specs.Texts.{changes_text, list_text, write_text}
use Rattle.stm_terms.proofs.Appending.{AppendsText-more}
use Rattle.stm_terms.proofs.text.write_changes.Goals as goal

pub returns : goal.returns
unfolding changes_text
returns c = AppendsText-more _ _ _ _ (list_text write_text c.args.writes.now ++ codes " news ") _ (search (rules, append_assoc)) c.write_news.ensures
