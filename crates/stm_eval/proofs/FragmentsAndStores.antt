-- The two uses of read-set independence: from a store to the fragment of what was read there, and from the fragment to a
-- store that agrees with it.
use Rattle.std.proofs.Common.{ℕ, ◌≡◌, ◌↔◌, refl, sym, ◌∙◌, ap, subst, Option, Some, None, IsSome, List, [], inl, inr, ◌⊎◌, ⊎_elim}
use Rattle.stm_terms.specs.declared.values.Value.{Value}
use Rattle.stm_terms.specs.declared.verdicts.Verdict.{Verdict}
use Rattle.stm_terms.specs.Ast.{Act}
use Rattle.stm_terms.specs.Changes.{Variables, find, of_fragment, no_changes}
use Rattle.stm_terms.specs.Semantics.{Outcome, Returned, Threw, Retried, Stuck, run}
use Rattle.stm_terms.specs.ReadSet.{insert_reads, looks_of, reads_of}
use Rattle.stm_terms.specs.Verdict.{verdict, verdict_from}
use Rattle.stm_eval.specs.Messages.{Agrees, MessageIsValid, Holds}
use Rattle.stm_eval.specs.Laws.{In, AgreeOn, SameRun, VerdictIsStable, ReadsAgreeWithStore, ReadSetIsExact}
use Rattle.stm_eval.proofs.ReadSetIndependence.{independent}
use Rattle.stm_eval.proofs.ReadsArePresent.{IsDefined, present}
use Rattle.stm_eval.proofs.ReadsLookedUp.{noted_at, noted_only, part_all, noted_same, inserted_reads_rise}

defined_from : (o : Outcome) (found : Verdict) → verdict_from o ≡ Some found → IsDefined o
defined_from (Returned v h) found e = tt
defined_from (Threw f) found e = tt
defined_from Retried found e = tt
defined_from Stuck found e = cc

some_agrees : (o p : Option Value) → ((v : Value) → o ≡ Some v → p ≡ Some v) → IsSome o → p ≡ o
some_agrees (Some v) p h d = h v refl
some_agrees None p h d = cc

part_agrees : (o p : Option Value) (v : Value) → (o ≡ None) ⊎ (o ≡ p) → o ≡ Some v → p ≡ Some v
part_agrees o p v (inl n) e = cc
part_agrees o p v (inr n) e = cc

-- from a store to the fragment
module _ (block : Act) (S : Variables) where
  fragment_agrees : AgreeOn (looks_of S block) S (of_fragment (reads_of S block))
  fragment_agrees = noted_at S (looks_of S block) [] (λ j. inl refl)

  pub reads_agree : Agrees (reads_of S block) S
  reads_agree i v e = part_agrees _ (S i) v (part_all S (looks_of S block) [] (λ j. inl refl) i) e

  pub from_store : (found : Verdict) → verdict S block ≡ Some found → MessageIsValid block (reads_of S block) found
  from_store found e =
      let T : Variables = of_fragment (reads_of S block) in
      let p : SameRun block [] S T no_changes = independent block [] S T no_changes fragment_agrees in
      record {
        defined = ap verdict_from p.ends ∙ e;
        all_read = ap (λ is. insert_reads T is []) p.reads ∙ noted_same S T (looks_of S block) [] fragment_agrees;
      }

  -- the reads are of the variables looked at, each of them
  pub looked : (found : Verdict) → verdict S block ≡ Some found → (i : ℕ) → In i (looks_of S block) ↔ IsSome (find i (reads_of S block))
  looked found e i = (
    (λ m. subst (λ o. IsSome o) (sym (fragment_agrees i m)) (present S block [] no_changes (defined_from (run S block [] no_changes) found e) i m)),
    (λ h. ⊎_elim (λ m. m) (λ n. cc) (noted_only S i (looks_of S block) [] h)),
  )

pub of_the_store : ReadsAgreeWithStore
of_the_store block S = (inserted_reads_rise S (looks_of S block) [] tt, reads_agree block S)

pub are_looks : ReadSetIsExact
are_looks block S found e i = looked block S found e i

-- from the fragment to a store that agrees with it
pub to_store : (block : Act) (reads : List (ℕ × Value)) (found : Verdict) (S : Variables) → MessageIsValid block reads found → Agrees reads S → Holds block S reads found
to_store block reads found S message agrees =
    let P : Variables = of_fragment reads in
    let agree : AgreeOn (looks_of P block) P S = λ i m. some_agrees (P i) (S i) (agrees i) (present P block [] no_changes (defined_from (run P block [] no_changes) found message.defined) i m) in
    let p : SameRun block [] P S no_changes = independent block [] P S no_changes agree in
    record {
      verdict_is = ap verdict_from p.ends ∙ message.defined;
      reads_are = ap (λ is. insert_reads S is []) p.reads ∙ noted_same P S (looks_of P block) [] agree ∙ message.all_read;
    }

-- the same, for reads that are those of the store
pub valid_from_store : (block : Act) (S : Variables) (reads : List (ℕ × Value)) (found : Verdict) → verdict S block ≡ Some found → reads ≡ reads_of S block → MessageIsValid block reads found
valid_from_store block S reads found e r = subst (λ x. MessageIsValid block x found) (sym r) (from_store block S found e)

-- on a store where it holds, the values that were read are the store's
pub holds_agrees : (block : Act) (S : Variables) (reads : List (ℕ × Value)) (found : Verdict) → Holds block S reads found → Agrees reads S
holds_agrees block S reads found holds = subst (λ x. Agrees x S) holds.reads_are (reads_agree block S)

-- from a store to another one that has the values which were read
pub holds_again : VerdictIsStable
holds_again block reads found S T holds agrees =
    to_store block reads found T (valid_from_store block S reads found holds.verdict_is (sym holds.reads_are)) agrees
