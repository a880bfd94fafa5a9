-- Work upon work.
use Rattle.std.proofs.Common.{◌≡◌, true, List, [], ◌∷◌, ◌++◌, ap, ◌∙◌, append_assoc}
use Rattle.std.proofs.lemmas.Bool.{and_from, and_parts}
use Rattle.stm_events.specs.declared.event.Event.{Event}
use Rattle.stm_pool.specs.Own.{Known}
use Rattle.stm_pool.specs.Worked.{OnlyDelivers, are_installed}

are_installed-append : (xs ys : List Event) → are_installed xs ≡ true → are_installed ys ≡ true → are_installed (xs ++ ys) ≡ true
are_installed-append [] ys p q = q
are_installed-append (x ∷ xs) ys p q =
    let t = and_parts _ _ p in and_from _ _ t.0 (are_installed-append xs ys t.1 q)

pub worked_on : (a b c : Known) → OnlyDelivers a b → OnlyDelivers b c → OnlyDelivers a c
worked_on a b c p q = record {
  client = q.client ∙ p.client;
  seen = q.seen ∙ p.seen;
  added = p.added ++ q.added;
  own = q.own ∙ ap (λ l. l ++ q.added) p.own ∙ append_assoc a.own p.added q.added;
  installed = are_installed-append p.added q.added p.installed q.installed;
}
