use Rattle.std.proofs.Common.{◌≡◌, ◌++◌, List, ℕ, drop, string_bytes}
use Rattle.stm_terms.specs.Texts.{new_text, spaced}
use Rattle.stm_terms.proofs.text.write_news_spaced.Given as goal

abbrev pub invariant-loop-new : goal.invariant-loop-new
invariant-loop-new l =
    (done : List ℕ) × (string_bytes l.out ≡ string_bytes l.initial.out ++ done) × (spaced new_text l.news ≡ done ++ spaced new_text (drop l.new-index l.news))
