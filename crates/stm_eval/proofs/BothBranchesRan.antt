-- What an `orElse` does where both branches were run and the left one retried.
use Rattle.std.proofs.Common.{◌≡◌, ℕ, ◌≤◌, ◌+◌, List, ◌++◌, length, sym, ap, ◌∙◌, subst, ◌⊎◌, None, arith}
use Rattle.std.specs.Prelude.{Result, Ok, Err, OnOk, IfOk}
use Rattle.stm_terms.specs.declared.values.Value.{Value}
use Rattle.stm_terms.specs.Ast.{Act, or_else}
use Rattle.stm_terms.specs.Typing.{Rising, makes}
use Rattle.stm_terms.specs.Changes.{Variables, Changes, find}
use Rattle.stm_terms.specs.Semantics.{Retried, else_run, run}
use Rattle.stm_terms.specs.Semantics as meaning
use Rattle.stm_terms.specs.ReadSet.{looks, else_look, insert_reads}
use Rattle.stm_log.specs.LogModel.{Logged, joined_reads}
use Rattle.stm_eval.specs.declared.outcome.Outcome.{Outcome}
use Rattle.stm_eval.specs.declared.outcome.Outcome.TheVariants.{Retried as Again}
use Rattle.stm_eval.specs.InterpreterSteps.{outcome}
use Rattle.stm_eval.specs.BothBranches.{IsReadSetOf, RunsTo, entered}
use Rattle.stm_eval.proofs.ReadsLookedUp.{inserted_reads_rise, part_all}
use Rattle.stm_eval.proofs.JoinedReads.{joined_in_turn}

abbrev Pairs : Type 0
Pairs = List (ℕ × Value)

-- more reads of the same variables are a read set of them
pub reads_more : (S : Variables) (is : List ℕ) (old new : Pairs) → IsReadSetOf S old → new ≡ insert_reads S is old → IsReadSetOf S new
reads_more S is old new are h = record {
  rising = subst (λ (rs : Pairs). Rising rs) (sym h) (inserted_reads_rise S is old are.rising);
  part = λ i. subst (λ (rs : Pairs). (find i rs ≡ None) ⊎ (find i rs ≡ S i)) (sym h) (part_all S is old are.part i);
}

-- what the interpreter says of an action that it ran
pub ran_alone : {E : Type 0} (r : Result Outcome E) (S : Variables) (a : Act) (locals after : List Value) (old new : Logged) → IsReadSetOf S old.reads
    → IfOk r (λ e. run S a locals old.top ≡ outcome e new.top) → OnOk r (new.reads ≡ insert_reads S (looks S a locals old.top) old.reads)
    → OnOk r (length new.top.news ≤ length old.top.news + makes a) → OnOk r (new.below ≡ old.below) → OnOk r (after ≡ locals)
    → IfOk r (λ e. RunsTo S a locals old e after new)
ran_alone (Ok e) S a locals after old new are ends reads made below same = record {
  outcome = ends;
  reads = reads;
  made = made;
  below = below;
  locals_same = same;
  read_set = reads_more S (looks S a locals old.top) old.reads new.reads are reads;
}
ran_alone (Err x) S a locals after old new are ends reads made below same = tt

pub ok_at : {A E : Type 0} (P : A → Type 0) (r : Result A E) (x : A) → IfOk r P → r ≡ Ok x → P x
ok_at P (Ok y) x h e = let q : y ≡ x = cc in subst P q h
ok_at P (Err z) x h e = absurd cc

ends_right : (x y : meaning.Outcome) → x ≡ Retried → else_run x y ≡ y
ends_right x y h = ap (λ (o : meaning.Outcome). else_run o y) h

looks_right : (x : meaning.Outcome) (is js : List ℕ) → x ≡ Retried → is ++ else_look x js ≡ is ++ js
looks_right x is js h = ap (λ (o : meaning.Outcome). is ++ else_look o js) h

pub both_ran : (S : Variables) (a b : Act) (locals mine theirs : List Value) (h left right new : Logged) (e : Outcome) → IsReadSetOf S h.reads
    → RunsTo S a locals (entered h) Again mine left → RunsTo S b locals h e theirs right → new ≡ record right { reads = joined_reads left.reads right.reads }
    → RunsTo S (or_else a b) locals h e theirs new
both_ran S a b locals mine theirs h left right new e are p q is =
    let top : new.top ≡ right.top = ap (λ (l : Logged). l.top) is in
    let joins : new.reads ≡ joined_reads left.reads right.reads = ap (λ (l : Logged). l.reads) is in
    let below : new.below ≡ right.below = ap (λ (l : Logged). l.below) is in
    let js = looks S b locals h.top in
    let one : joined_reads left.reads right.reads ≡ joined_reads (insert_reads S (looks S a locals h.top) h.reads) (insert_reads S js h.reads) =
    ap (λ (rs : Pairs). joined_reads rs right.reads) p.reads ∙ ap (λ (rs : Pairs). joined_reads (insert_reads S (looks S a locals h.top) h.reads) rs) q.reads in
    let all : new.reads ≡ insert_reads S (looks S (or_else a b) locals h.top) h.reads =
    joins ∙ one ∙ joined_in_turn S (looks S a locals h.top) js h.reads are.part are.rising
    ∙ ap (λ (is : List ℕ). insert_reads S is h.reads) (sym (looks_right (run S a locals h.top) (looks S a locals h.top) js p.outcome)) in
    record {
      outcome = ends_right (run S a locals h.top) (run S b locals h.top) p.outcome ∙ q.outcome ∙ ap (outcome e) (sym top);
      reads = all;
      made = subst (λ (c : Changes). length c.news ≤ length h.top.news + (makes a + makes b)) (sym top) (omega (arith, q.made));
      below = below ∙ q.below;
      locals_same = q.locals_same;
      read_set = reads_more S (looks S (or_else a b) locals h.top) h.reads new.reads are all;
    }
