-- What can stand in a line: numbers that fit the program's types, a client that there may be, types of at most 8 `TVar`,
-- and blocks that are their texts parsed and checked, of the actions that the format has.
use Rattle.std.specs.Prelude.{◌≡◌, ℕ, ◌<◌, ◌≤◌, ◌^◌, ℤ, pos, negsuc, List, [], ◌∷◌, Ok, ⊤, IsTrue, false}
use Rattle.stm_terms.specs.declared.kinds.Ty.{Ty}
use Rattle.stm_terms.specs.declared.values.Value.{Value}
use Rattle.stm_terms.specs.declared.values.Value.TheVariants as value
use Rattle.stm_terms.specs.declared.values.Ref.TheVariants.{Old, New}
use Rattle.stm_terms.specs.declared.values.Fault.TheVariants.{Thrown, Overflow}
use Rattle.stm_terms.specs.declared.verdicts.Verdict.{Verdict}
use Rattle.stm_terms.specs.declared.verdicts.Verdict.TheVariants.{Commits, Throws, Blocks}
use Rattle.stm_terms.specs.Ast.{has_catch}
use Rattle.stm_terms.specs.Limits.{most_refs, max_clients}
use Rattle.stm_terms.specs.Names.{is_name_text}
use Rattle.stm_store.specs.Tables.{Declared}
use Rattle.stm_store.specs.Naming.{Named}
use Rattle.stm_events.specs.declared.event.Event.{Event}
use Rattle.stm_events.specs.declared.event.What.{What}
use Rattle.stm_events.specs.declared.event.What.TheVariants.{Submitted, Installed, Finished, Cancelled, Declared as DeclaredLate, Labelled}
use Rattle.stm_events.specs.Labels.{is_label}
use Rattle.stm_event_lines.specs.declared.read.Header.{Header}
use Rattle.stm_event_lines.specs.Lines.{IsFormat, declaring_format}
use Rattle.stm_source.specs.CompiledBlock.{compiled_block}

-- the number has at most 32 bits
abbrev pub Is32Bit : ℕ → Type 0
Is32Bit n = n < 2 ^ 32

-- the integer has at most 64 bits, with its sign
abbrev pub FitsInt : ℤ → Type 0
FitsInt (pos n) = n < 2 ^ 63
FitsInt (negsuc n) = n < 2 ^ 63

-- the integer, or the number of the reference, is in range
abbrev pub FitsValue : Value → Type 0
FitsValue (value.Int n) = FitsInt n
FitsValue (value.Bool b) = ⊤
FitsValue value.Unit = ⊤
FitsValue (value.Var (Old i)) = Is32Bit i
FitsValue (value.Var (New k)) = Is32Bit k

-- the variables and the values of these writes are in range
abbrev pub FitWrites : List (ℕ × Value) → Type 0
FitWrites [] = ⊤
FitWrites (w ∷ ws) = Is32Bit w.0 × FitsValue w.1 × FitWrites ws

-- variables may have the types of these new ones, and their values are in range
abbrev pub FitNews : List (Ty × Value) → Type 0
FitNews [] = ⊤
FitNews (n ∷ ns) = (n.0.refs ≤ most_refs) × FitsValue n.1 × FitNews ns

-- each of these numbers has at most 32 bits
abbrev pub FitNumbers : List ℕ → Type 0
FitNumbers [] = ⊤
FitNumbers (n ∷ ns) = Is32Bit n × FitNumbers ns

-- all numbers and values of the verdict are in range
abbrev pub FitsVerdict : Verdict → Type 0
FitsVerdict (Commits writes news result) = FitWrites writes × FitNews news × FitsValue result
FitsVerdict (Throws (Thrown n)) = FitsInt n
FitsVerdict (Throws Overflow) = ⊤
FitsVerdict Blocks = ⊤

-- what happens has its numbers in range, a block that is submitted is what its text checks to over the names, and a label is one
abbrev pub WhatFitsNames : List Named → What → Type 0
WhatFitsNames known (Submitted ticket block) = Is32Bit ticket × (compiled_block known block.text ≡ Ok block)
WhatFitsNames known (Installed ticket v) = Is32Bit ticket × FitsVerdict v
WhatFitsNames known (Finished ticket v first_new stale) = Is32Bit ticket × FitsVerdict v × Is32Bit first_new × FitNumbers stale
WhatFitsNames known (Cancelled ticket) = Is32Bit ticket
WhatFitsNames known (DeclaredLate name kind value) = IsTrue (is_name_text name) × (kind.refs ≤ most_refs) × FitsValue value
WhatFitsNames known (Labelled ticket label) = Is32Bit ticket × IsTrue (is_label label)

-- the event can stand in a line over the names, of a client that there may be
abbrev pub FitsNames : List Named → Event → Type 0
FitsNames known e = (e.client < max_clients) × WhatFitsNames known e.what

-- what may stand in a history of the format: in format 1 no block has a `catch`, and only in format 5 a variable is declared late or a
-- block is labelled
abbrev pub WhatFitsFormat : ℕ → What → Type 0
WhatFitsFormat format (Submitted ticket block) = format ≡ 1 → has_catch block.tree ≡ false
WhatFitsFormat format (Installed ticket v) = ⊤
WhatFitsFormat format (Finished ticket v first_new stale) = ⊤
WhatFitsFormat format (Cancelled ticket) = ⊤
WhatFitsFormat format (DeclaredLate name kind value) = format ≡ declaring_format
WhatFitsFormat format (Labelled ticket label) = format ≡ declaring_format

-- the event may stand in a history of the format
abbrev pub FitsFormat : ℕ → Event → Type 0
FitsFormat format e = WhatFitsFormat format e.what

-- the format is one that is read, and the number of variables is in range
abbrev pub FitsHeader : Header → Type 0
FitsHeader h = IsFormat h.format × Is32Bit h.vars

-- a variable by itself, whatever stands before it
abbrev pub FitsVariable : Declared → Type 0
FitsVariable d = IsTrue (is_name_text d.name) × (d.kind.refs ≤ most_refs) × FitsValue d.value

-- the first values are in range
abbrev pub AreInRange : List Declared → Type 0
AreInRange [] = ⊤
AreInRange (d ∷ ds) = FitsValue d.value × AreInRange ds

-- each byte is ASCII and no control character, so no line feed and no 0
abbrev pub IsOneLine : List ℕ → Type 0
IsOneLine [] = ⊤
IsOneLine (x ∷ xs) = (32 ≤ x) × (x < 128) × IsOneLine xs

-- the line begins with `{`
abbrev pub BeginsWithBrace : List ℕ → Type 0
BeginsWithBrace line = (rest : List ℕ) × (line ≡ 123 ∷ rest)
