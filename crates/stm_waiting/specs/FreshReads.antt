-- Where what a block read is kept: in a fresh list, or in the memory of the list that was kept before.
use Rattle.std.specs.Prelude.{◌≡◌, ℕ, List, length, Option, Some, None}
use Rattle.stm_terms.specs.declared.values.Value.{Value}
use Rattle.stm_waiting.specs.declared.waiting.Held.{Held}
use Rattle.stm_waiting.specs.declared.waiting.Waiting.{Waiting}

-- a list of reads is these reads; or there is none, and what is kept of the block's last delivery has as many
abbrev pub AreFresh : Option (List (ℕ × Value)) → Option Held → List (ℕ × Value) → Type 0
AreFresh (Some rs) held reads = rs ≡ reads
AreFresh None None reads = ⊥
AreFresh None (Some h) reads = length h.reads ≡ length reads

-- a list of reads is these reads, or what is kept of the block under a ticket has as many, if there is a block
abbrev pub AreFreshFor : Option (List (ℕ × Value)) → Option Waiting → List (ℕ × Value) → Type 0
AreFreshFor fresh None reads = Unit {0}
AreFreshFor fresh (Some w) reads = AreFresh fresh w.held reads
