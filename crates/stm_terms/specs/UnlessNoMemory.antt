-- When a call answers as its definition does, and is refused as its definition says.
use Rattle.std.specs.Prelude.{◌≡◌, ◌≢◌, Option, Some, None, Result, Ok, Err, IfErr}

-- The call is refused as its definition says, for the first reason that holds; if none holds, for lack of memory at most.
abbrev pub RefusedAs : {A E : Type 0} → E → Option E → Result A E → Type 0
RefusedAs no_memory None result = IfErr result (λ e. e ≡ no_memory)
RefusedAs no_memory (Some reason) result = result ≡ Err reason

-- the call answers as its definition does, in its value, seen by view, and in its error, unless memory ran out
abbrev pub AnswersUnless : {X Y E : Type 0} → E → (X → Y) → Result X E → Result Y E → Type 0
AnswersUnless no_memory view (Ok x) answer = answer ≡ Ok (view x)
AnswersUnless no_memory view (Err e) answer = e ≢ no_memory → answer ≡ Err e

-- the call answers as its definition does, if several errors say that memory ran out
abbrev pub AnswersExcept : {X Y E : Type 0} → (E → Type 0) → (X → Y) → Result X E → Result Y E → Type 0
AnswersExcept OutOfMemory view (Ok x) answer = answer ≡ Ok (view x)
AnswersExcept OutOfMemory view (Err e) answer = ¬ OutOfMemory e → answer ≡ Err e
