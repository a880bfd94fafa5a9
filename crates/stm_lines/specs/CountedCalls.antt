-- How calls of a reader are counted.
use Rattle.std.specs.Prelude.{◌≡◌, ℕ, ◌+◌}
use Rattle.stm_lines.specs.declared.calls.Calls.{Calls}

-- these are all calls of this reader, and this many steps are counted before them
pub record AreAllCalls {R L : Type 0} (reader : R) (steps : ℕ) (calls : Calls R L) : Type 0 where
  pub reader_is : calls.reader.now ≡ reader
  pub steps_are : calls.steps.now ≡ steps
  -- each is left
  pub all : calls.left ≡ 4294967295

-- the reader was called any number of times
pub record CountsCalls {R L : Type 0} (old new : Calls R L) : Type 0 where
  -- it is the same reader
  pub same_reader : new.reader.ghost_name ≡ old.reader.ghost_name
  -- its calls are counted in the same place
  pub same_steps : new.steps.ghost_name ≡ old.steps.ghost_name
  -- each call is one less that is left, and one step more
  pub counted : new.steps.now + new.left ≡ old.steps.now + old.left

-- the reader was called once
pub record CountsOneCall {R L : Type 0} (old new : Calls R L) : Type 0 where
  -- it is the same reader
  pub same_reader : new.reader.ghost_name ≡ old.reader.ghost_name
  -- its calls are counted in the same place
  pub same_steps : new.steps.ghost_name ≡ old.steps.ghost_name
  -- one call less is left
  pub one_less : new.left + 1 ≡ old.left
  -- that is one step more
  pub counted : new.steps.now ≡ old.steps.now + 1
