-- Commands that take a number, or nothing.
use Rattle.std.specs.Prelude.{ℕ, ◌==◌, List, Option, Some, None, if◌then◌else◌, codes, length}
use Rattle.stm_commands.specs.Refusals.{refused}

-- what is printed of an argument that a command doesn't take
abbrev pub argument_refused : List ℕ
argument_refused = refused (codes "Argument")

-- a command that takes a number: what it comes to for a number, and for an argument that is none
abbrev pub with_number : {A : Type 0} → (ℕ → A) → A → Option ℕ → A
with_number of_number otherwise (Some n) = of_number n
with_number of_number otherwise None = otherwise

-- a command that takes nothing: what it comes to for an empty argument, and for another one
abbrev pub with_nothing : {A : Type 0} → A → A → List ℕ → A
with_nothing of_nothing otherwise argument = if length argument == 0 then of_nothing else otherwise
