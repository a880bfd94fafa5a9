-- The pairs of the index: as a list in their order, and as a set.
use Rattle.std.proofs.Common.{◌≡◌, ℕ, zero, suc, ◌+◌, add-one, Bool, true, false, not, ◌&&◌, ◌||◌, List, [], ◌∷◌, ◌<◌, ◌≤◌, length, get_or, eqb-true, refl, sym, ap, ap₂, ◌∙◌, arith}
use Rattle.std.specs.Prelude.{nat_eq, slice_index}
use Rattle.std.specs.FinSet as set
use Rattle.std.specs.Ordering.{nat_cmp, ordering_then, is_eq}
use Rattle.std.specs.List.{list_any, dedup, Contains}
use Rattle.std.specs.Cmp.{IsTotalOrder, nat_cmp_total, nat_eq_equiv}
use Rattle.std.proofs.lemmas.Cmp.{on_total, then_total}
use Rattle.std.proofs.lemmas.List.Kept.{Contains-dedup_nat, Contains-from_dedup}
use Rattle.std.proofs.lemmas.Map.Lookups.{exact_pairs, exact_unsigned}
use Rattle.std.proofs.lemmas.Map.Views.{Contains-from_any, list_any-from_Contains}
use Rattle.std.proofs.lemmas.Bool.{false≢true, or_right}
use Rattle.std.specs.BTreeMap.{is_at}
use Rattle.std.proofs.lemmas.Bool.Decides.{nat_tests}
use Rattle.stm_terms.specs.declared.values.Value.{Value}
use Rattle.stm_watch.specs.Pairs.{pair_cmp, Pairs, has_pair, is_pair_of, watches}
use Rattle.std.specs.List.Sorted.{IsStrictlyIncreasing}
use Rattle.stm_queue.specs.SortedTickets.{RisesAbove, IsRising}
use Rattle.stm_watch.specs.declared.table.Table.{Table}
use Rattle.stm_watch.specs.Tabled.{pairs_of, holds}
use Rattle.stm_watch.proofs.TableLemmas.{lists, lists_holds}

-- ---- the set and its list
pair_cmp_total : IsTotalOrder pair_cmp
pair_cmp_total = then_total (on_total (λ p. p.0) nat_cmp_total) (on_total (λ p. p.1) nat_cmp_total)

same_pair : (v w t u : ℕ) → is_eq (ordering_then (nat_cmp v w) (nat_cmp t u)) ≡ (nat_eq v w && nat_eq t u)
same_pair v w t u = grind (arith, nat_tests)

contains_lists : (ps : List (ℕ × ℕ)) (v t : ℕ) → list_any (is_at (pair_cmp (v, t))) ps ≡ lists ps v t
contains_lists [] v t = refl
contains_lists (p ∷ ps) v t = ap₂ (λ a b. a || b) (same_pair v p.0 t p.1) (contains_lists ps v t)

has_lists : (ps : List (ℕ × ℕ)) (v t : ℕ) → has_pair (set.from_list ps) v t ≡ lists ps v t
has_lists ps v t = set.contains-from_list pair_cmp_total ps (v, t) ∙ contains_lists ps v t

-- two sets of the same pairs are equal
same_pairs : (ps qs : Pairs) → ((v t : ℕ) → has_pair ps v t ≡ has_pair qs v t) → ps ≡ qs
same_pairs ps qs h = set.same_set pair_cmp_total (exact_pairs nat_cmp nat_cmp exact_unsigned exact_unsigned) ps qs (λ p. h p.0 p.1)

-- two tables of the same pairs have equal sets
pub has_holds : (table : Table) (v t : ℕ) → has_pair (set.from_list (pairs_of table)) v t ≡ holds table v t
has_holds table v t = has_lists (pairs_of table) v t ∙ lists_holds table v t

pub watches_holds : (table : Table) (vs : List ℕ) (t : ℕ) → watches (set.from_list (pairs_of table)) vs t ≡ list_any (λ v. holds table v t) vs
watches_holds table [] t = refl
watches_holds table (v ∷ vs) t = ap₂ (λ a b. a || b) (has_holds table v t) (watches_holds table vs t)

one_more_bool : (a b : Bool) → a ≡ b → a ≡ (b || false)
one_more_bool a true e = e
one_more_bool a false e = e

-- of one variable
pub watches_one : (table : Table) (v t : ℕ) → holds table v t ≡ watches (set.from_list (pairs_of table)) (v ∷ []) t
watches_one table v t = one_more_bool (holds table v t) (has_pair (set.from_list (pairs_of table)) v t) (sym (has_holds table v t))

less_one_bool : (a b k : Bool) → a ≡ b → (a && not k) ≡ (b && not (k || false))
less_one_bool a b true e = ap (λ x. x && false) e
less_one_bool a b false e = ap (λ x. x && true) e

pub without_one : (table : Table) (variable v t : ℕ)
    → (holds table v t && not (nat_eq v variable)) ≡ (has_pair (set.from_list (pairs_of table)) v t && not (list_any (nat_eq v) (variable ∷ [])))
without_one table variable v t =
    less_one_bool (holds table v t) (has_pair (set.from_list (pairs_of table)) v t) (nat_eq v variable) (sym (has_holds table v t))

pub same_holds : (one other : Table) → ((v t : ℕ) → holds one v t ≡ holds other v t) → set.from_list {R = pair_cmp} (pairs_of one) ≡ set.from_list (pairs_of other)
same_holds one other h = same_pairs (set.from_list (pairs_of one)) (set.from_list (pairs_of other)) (λ v t. has_holds one v t ∙ h v t ∙ sym (has_holds other v t))

-- ---- reads of one variable
only_bools : (a b : Bool) → (a && b) ≡ (b && (a || false))
only_bools true true = refl
only_bools true false = refl
only_bools false true = refl
only_bools false false = refl

pub only_read : (reads : List (ℕ × Value)) (d : ℕ × Value) (ticket v t : ℕ) → 1 ≤ length reads → length reads < 2 → (nat_eq v (get_or reads 0 d).0 && nat_eq t ticket) ≡ is_pair_of ticket reads v t
only_read [] d ticket v t l m = absurd (omega arith)
only_read (r ∷ []) d ticket v t l m = only_bools (nat_eq v r.0) (nat_eq t ticket)
only_read (r ∷ s ∷ rs) d ticket v t l m = absurd (omega arith)

-- ---- a list of one variable
pub only_one : (vs : List ℕ) (d : ℕ) → 1 ≤ length vs → length vs < 2 → get_or vs 0 d ∷ [] ≡ vs
only_one [] d l m = absurd (omega arith)
only_one (v ∷ []) d l m = refl
only_one (v ∷ w ∷ vs) d l m = absurd (omega arith)

-- ---- the pairs of a ticket, some of which the set has: fresh is whether it lacks the variable's
at_ticket : (table : Table) (v t ticket : ℕ) → nat_eq t ticket ≡ true → holds table v t ≡ holds table v ticket
at_ticket table v t ticket h = ap (holds table v) (eqb-true t ticket h)

added_bools : (e here there fresh read : Bool) → (e ≡ true → here ≡ there) → fresh ≡ (read && not there) → (here || (e && fresh)) ≡ (here || (e && read))
added_bools e here there fresh read s f = grind (arith, nat_tests)

pub fresh_added : (table : Table) (ticket v t : ℕ) (fresh read : Bool) → fresh ≡ (read && not (holds table v ticket)) → (holds table v t || (nat_eq t ticket && fresh)) ≡ (holds table v t || (nat_eq t ticket && read))
fresh_added table ticket v t fresh read f = added_bools (nat_eq t ticket) (holds table v t) (holds table v ticket) fresh read (at_ticket table v t ticket) f

removed_bools : (e here there fresh read : Bool) → (e ≡ true → here ≡ there) → fresh ≡ (read && not there) → (here && not (e && fresh)) ≡ here
removed_bools e here there fresh read s f = grind (arith, nat_tests)

pub fresh_removed : (table : Table) (ticket v t : ℕ) (fresh read : Bool) → fresh ≡ (read && not (holds table v ticket)) → (holds table v t && not (nat_eq t ticket && fresh)) ≡ holds table v t
fresh_removed table ticket v t fresh read f = removed_bools (nat_eq t ticket) (holds table v t) (holds table v ticket) fresh read (at_ticket table v t ticket) f

-- ---- one variable of several
pub one_more : (a k e r : Bool) → ((a || (k && e)) || (e && r)) ≡ (a || (e && (k || r)))
one_more true k e r = refl
one_more false true true r = refl
one_more false true false r = refl
one_more false false e r = refl

pub one_of_all : (a k e m : Bool) → (k ≡ true → m ≡ true) → ((a || (k && e)) && not (e && m)) ≡ (a && not (e && m))
one_of_all true k e m h = refl
one_of_all false true true m h = rw (h refl) refl
one_of_all false true false m h = refl
one_of_all false false e m h = refl

pub in_whole : (v i : ℕ) (vs : List ℕ) → i < length vs → nat_eq v (get_or vs i 0) ≡ true → list_any (nat_eq v) vs ≡ true
in_whole v i [] l h = absurd (omega arith)
in_whole v zero (x ∷ vs) l h = rw h refl
in_whole v (suc i) (x ∷ vs) l h = or_right (nat_eq v x) (list_any (nat_eq v) vs) (in_whole v i vs (omega arith) h)

-- ---- ascending lists
rises_above : (x k : ℕ) (xs : List ℕ) → RisesAbove x xs → k + 1 < length (x ∷ xs) → slice_index (x ∷ xs) k < slice_index (x ∷ xs) (k + 1)
rises_above x k [] r l = absurd (omega arith)
rises_above x zero (y ∷ xs) r l = r.0
rises_above x (suc k) (y ∷ xs) r l = rw (add-one (suc k)) (rw (add-one k) at (rises_above y k xs r.1 (omega arith)))

pub rises : (xs : List ℕ) → IsRising xs → IsStrictlyIncreasing xs
rises [] r k l = absurd (omega arith)
rises (x ∷ xs) r k l = rises_above x k xs r l

-- ---- a list of numbers, each kept once
same_bools : (a b : Bool) → (a ≡ true → b ≡ true) → (b ≡ true → a ≡ true) → a ≡ b
same_bools true b f g = sym (f refl)
same_bools false true f g = absurd (false≢true (g refl))
same_bools false false f g = refl

in_any : (xs : List ℕ) (t : ℕ) → list_any (nat_eq t) xs ≡ true → Contains xs t
in_any xs t e = Contains-from_any {eq = nat_eq} (λ x y h. eqb-true x y h) t xs e

any_in : (xs : List ℕ) (t : ℕ) → Contains xs t → list_any (nat_eq t) xs ≡ true
any_in xs t h = list_any-from_Contains nat_eq_equiv t xs h

pub any_dedup : (xs : List ℕ) (t : ℕ) → list_any (nat_eq t) (dedup nat_eq xs) ≡ list_any (nat_eq t) xs
any_dedup xs t = same_bools _ _
    (λ e. any_in xs t (Contains-from_dedup nat_eq xs t (in_any (dedup nat_eq xs) t e)))
    (λ e. any_in (dedup nat_eq xs) t (Contains-dedup_nat xs t (in_any xs t e)))
