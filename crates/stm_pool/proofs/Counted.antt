-- What the counts of a storm's clients tell.
use Rattle.std.proofs.Common.{◌≡◌, ℕ, suc, ◌+◌, ◌<◌, ◌≤◌, List, [], ◌∷◌, ◌++◌, length, get_or, sym, ap, ◌∙◌, subst, below_more, arith}
use Rattle.std.proofs.lemmas.List.{get_or_append_left, get_or_push}
use Rattle.std.specs.Prelude.{Option, Some, None, IfSome, IsSomeAnd}
use Rattle.stm_events.specs.declared.event.Event.{Event}
use Rattle.stm_pool.specs.declared.storm.Counts.{Counts}
use Rattle.stm_pool.specs.Own.{Known, own_of}
use Rattle.stm_pool.specs.Closing.{pass_of, AgreesWith}
use Rattle.stm_pool.specs.Counted.{CountsPasses}
use Rattle.stm_pool.specs.Storms.{CountsEvents, CountsClients}

-- one client more is counted
pub push_counted : (passes : List Known) (all now : List Counts) (one : Counts) (n : ℕ)
    → length all ≡ n → now ≡ all ++ one ∷ [] → IfSome (pass_of n passes) (λ p. CountsEvents p.own one)
    → ((k : ℕ) (d : Counts) → k < n → IfSome (pass_of k passes) (λ p. CountsEvents p.own (get_or all k d)))
    → (k : ℕ) (d : Counts) → k < n + 1 → IfSome (pass_of k passes) (λ p. CountsEvents p.own (get_or now k d))
push_counted passes all now one n len is counts each k d h =
    below_more (λ j. IfSome (pass_of j passes) (λ p. CountsEvents p.own (get_or now j d))) n
    (λ j l.
    subst (λ (x : Counts). IfSome (pass_of j passes) (λ p. CountsEvents p.own x))
    (sym (ap (λ (cs : List Counts). get_or cs j d) is ∙ get_or_append_left all (one ∷ []) d j (omega arith))) (each j d l))
    (subst (λ (x : Counts). IfSome (pass_of n passes) (λ p. CountsEvents p.own x))
    (sym (ap (λ (cs : List Counts). get_or cs n d) is ∙ get_or_push all one d n len)) counts)
    k h

-- where each pass has its client's events in the history, the counts from it are the clients'
counted_from : (history : List Event) (c : ℕ) (counts : List Counts)
    → ((k : ℕ) (d : Counts) → k < length counts → CountsEvents (own_of (c + k) history) (get_or counts k d))
    → CountsClients history c counts
counted_from history c [] each = tt
counted_from history c (x ∷ xs) each = (
  subst (λ (m : ℕ). CountsEvents (own_of m history) x) (omega arith) (each 0 x (omega arith)),
  counted_from history (c + 1) xs (λ k d l. subst (λ (m : ℕ). CountsEvents (own_of m history) (get_or xs k d)) (omega arith) (each (suc k) d (omega arith))),
)

counted_by : (history : List Event) (k : ℕ) (o : Option Known) (x : Counts) → IsSomeAnd o (λ p. own_of k history ≡ p.own) → IfSome o (λ p. CountsEvents p.own x)
    → CountsEvents (own_of k history) x
counted_by history k None x agrees counts = absurd agrees
counted_by history k (Some p) x agrees counts = subst (λ (os : List Event). CountsEvents os x) (sym agrees) counts

pub all_counted : (history : List Event) (passes : List Known) (counts : List Counts) (n : ℕ) → length counts ≤ n
    → ((c : ℕ) → c < n → AgreesWith history c passes)
    → CountsPasses passes counts → CountsClients history 0 counts
all_counted history passes counts n few agree each =
    counted_from history 0 counts (λ k d l.
    subst (λ (m : ℕ). CountsEvents (own_of m history) (get_or counts k d)) (omega arith)
    (counted_by history k (pass_of k passes) (get_or counts k d) (agree k (omega (arith, few, l))) (each k d l)))
