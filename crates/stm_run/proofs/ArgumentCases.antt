-- What holds of both cases of an argument holds of what a command comes to for it.
use Rattle.std.proofs.Common.{ℕ, Bool, true, false, cond, List, length, Option, Some, None}
use Rattle.std.specs.Prelude.{◌==◌}
use Rattle.stm_commands.specs.Arguments.{with_number, with_nothing}

pub either_has : {A : Type 0} → (P : A → Type 0) (b : Bool) (x y : A) → P x → P y → P (cond b x y)
either_has P true x y h k = h
either_has P false x y h k = k

pub number_has : {A : Type 0} → (P : A → Type 0) (f : ℕ → A) (a : A) (o : Option ℕ) → ((n : ℕ) → P (f n)) → P a → P (with_number f a o)
number_has P f a (Some n) h k = h n
number_has P f a None h k = k

pub nothing_has : {A : Type 0} → (P : A → Type 0) (x y : A) (argument : List ℕ) → P x → P y → P (with_nothing x y argument)
nothing_has P x y argument h k = either_has P (length argument == 0) x y h k
