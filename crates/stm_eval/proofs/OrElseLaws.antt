-- The laws of `orElse`.
use Rattle.std.proofs.Common.{ℕ, ◌≡◌, refl, List, [], ◌++◌, append_assoc, append-nil}
use Rattle.stm_terms.specs.Semantics.{Outcome, Returned, Threw, Retried, Stuck, else_run, run}
use Rattle.stm_terms.specs.ReadSet.{else_look, looks}
use Rattle.stm_eval.specs.Laws.{OrElseIsAssociative, RetryIsLeftUnit, RetryIsRightUnit}

else_assoc : (o p q : Outcome) → else_run (else_run o p) q ≡ else_run o (else_run p q)
else_assoc Retried p q = refl
else_assoc (Returned v h) p q = refl
else_assoc (Threw f) p q = refl
else_assoc Stuck p q = refl

look_assoc : (o p : Outcome) (x y z : List ℕ) → (x ++ else_look o y) ++ else_look (else_run o p) z ≡ x ++ else_look o (y ++ else_look p z)
look_assoc Retried p x y z = append_assoc x y (else_look p z)
look_assoc (Returned v h) p x y z = append_assoc x [] []
look_assoc (Threw f) p x y z = append_assoc x [] []
look_assoc Stuck p x y z = append_assoc x [] []

else_unit : (o : Outcome) → else_run o Retried ≡ o
else_unit Retried = refl
else_unit (Returned v h) = refl
else_unit (Threw f) = refl
else_unit Stuck = refl

look_unit : (o : Outcome) → else_look o [] ≡ []
look_unit Retried = refl
look_unit (Returned v h) = refl
look_unit (Threw f) = refl
look_unit Stuck = refl

pub associative : OrElseIsAssociative
associative a b c locals S h = record {
  ends = else_assoc (run S a locals h) (run S b locals h) (run S c locals h);
  reads = look_assoc (run S a locals h) (run S b locals h) (looks S a locals h) (looks S b locals h) (looks S c locals h);
}

pub left_unit : RetryIsLeftUnit
left_unit a locals S h = record { ends = refl; reads = refl }

pub right_unit : RetryIsRightUnit
right_unit a locals S h = record {
  ends = else_unit (run S a locals h);
  reads = rw (look_unit (run S a locals h)) (append-nil (looks S a locals h));
}
