-- The exit status of a program that ends by a fault of its reader, its writer or memory.
use Rattle.std.specs.Prelude.{ℕ}
use Rattle.stm_lines.specs.declared.run_fault.RunFault.{RunFault}
use Rattle.stm_lines.specs.declared.run_fault.RunFault.TheVariants.{Read, Write, NoMemory}

-- a fault of the reader or the writer, and an out-of-memory error
abbrev pub status_of : RunFault → ℕ
status_of Read = 1
status_of Write = 1
status_of NoMemory = 4
