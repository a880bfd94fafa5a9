-- The command of a word, by the parts of the table of commands.
use Rattle.std.proofs.Common.{◌≡◌, ℕ, Bool, true, false, cond, List, [], ◌∷◌, ◌++◌, Option, Some, None, refl}
use Rattle.std.specs.Str.{bytes_eq}
use Rattle.stm_run.specs.declared.command.Command.{Command}
use Rattle.stm_run.specs.Console.{command_in}

first_step : (b : Bool) (x c : Command) (o p : Option Command) → (o ≡ Some c → p ≡ Some c) → cond b (Some x) o ≡ Some c → cond b (Some x) p ≡ Some c
first_step true x c o p more e = e
first_step false x c o p more e = more e

-- a word that is in the first part has its command there
pub command_in-first : (cs ds : List (List ℕ × Command)) (word : List ℕ) (c : Command) → command_in cs word ≡ Some c → command_in (cs ++ ds) word ≡ Some c
command_in-first [] ds word c e = absurd cc
command_in-first (x ∷ xs) ds word c e = first_step (bytes_eq word x.0) x.1 c (command_in xs word) (command_in (xs ++ ds) word) (command_in-first xs ds word c) e

rest_step : (b : Bool) (x : Command) (o p q : Option Command) → (o ≡ None → p ≡ q) → cond b (Some x) o ≡ None → cond b (Some x) p ≡ q
rest_step true x o p q more e = absurd cc
rest_step false x o p q more e = more e

-- another one has that of the rest
pub command_in-rest : (cs ds : List (List ℕ × Command)) (word : List ℕ) → command_in cs word ≡ None → command_in (cs ++ ds) word ≡ command_in ds word
command_in-rest [] ds word e = refl
command_in-rest (x ∷ xs) ds word e = rest_step (bytes_eq word x.0) x.1 (command_in xs word) (command_in (xs ++ ds) word) (command_in ds word) (command_in-rest xs ds word) e
