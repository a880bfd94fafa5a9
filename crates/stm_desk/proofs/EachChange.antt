-- The changes of reads, one read after another.
use Rattle.std.proofs.Common.{◌≡◌, ℕ, ◌+◌, ◌<◌, List, ◌++◌, length, get_or, drop, sym, ap, ◌∙◌, append_assoc}
use Rattle.std.proofs.lemmas.List.{drop_more}
use Rattle.stm_terms.specs.declared.values.Value.{Value}
use Rattle.stm_terms.specs.Changes.{Variables}
use Rattle.stm_desk.specs.declared.reason.Change.{Change}
use Rattle.stm_desk.specs.Reasons.{change_to, changes_from}

pub change_more : (rs : List (ℕ × Value)) (left : Variables) (i : ℕ) (r : ℕ × Value) (cs new : List Change) → i < length rs → cs ++ changes_from (drop i rs) left ≡ changes_from rs left
    → new ≡ cs ++ change_to (get_or rs i r).0 (get_or rs i r).1 (left (get_or rs i r).0) → new ++ changes_from (drop (i + 1) rs) left ≡ changes_from rs left
change_more rs left i r cs new l so is =
    let here = get_or rs i r in
    let rest = changes_from (drop (i + 1) rs) left in
    ap (λ (xs : List Change). xs ++ rest) is
    ∙ append_assoc cs (change_to here.0 here.1 (left here.0)) rest
    ∙ ap (λ (xs : List (ℕ × Value)). cs ++ changes_from xs left) (sym (drop_more rs i r l))
    ∙ so
