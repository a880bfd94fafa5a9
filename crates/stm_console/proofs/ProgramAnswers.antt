-- That the program does what its definition says.
use Rattle.std.proofs.Common.{◌≡◌, ℕ, Bool, true, false, cond, List, [], ◌∷◌, inl, inr, refl, sym, subst, Option, Some, None}
use Rattle.std.specs.Prelude.{◌⊎◌, IfSome, Err}
use Rattle.std.specs.Io.KnownBytes.{Appends, Keeps}
use Rattle.std.proofs.KnownBytes.{Appends-kept, Appends-nil}
use Rattle.clap.specs.Words.{Kinds, HasKind}
use Rattle.clap.specs.Values.{kind_of}
use Rattle.clap.specs.declared.error.Error.{Error}
use Rattle.clap.specs.declared.error.kind.ErrorKind.TheVariants.{DisplayHelp, DisplayVersion, OutOfMemory}
use Rattle.stm_lines.specs.RunStatus.{status_of}
use Rattle.stm_lines.specs.declared.run_fault.RunFault.{RunFault}
use Rattle.stm_lines.specs.declared.run_fault.RunFault.TheVariants as run_fault
use Rattle.stm_run.specs.Console.{console_text}
use Rattle.stm_storm.specs.declared.storming.StormFault.{StormFault}
use Rattle.stm_storm.specs.declared.storming.StormFault.TheVariants as storm_fault
use Rattle.stm_storm.specs.StormText.{IsFailedStormText, IsInvalidStorm, KeepsOfInvalidStorm, WritesStorm}
use Rattle.stm_explore_script.specs.ExploreResult.{IsInvalidExploration}
use Rattle.stm_explore_script.specs.ExploreStatus.{explore_status, is_finding}
use Rattle.stm_explore_script.specs.declared.exploring.ExploreFault.{ExploreFault}
use Rattle.stm_explore_script.specs.declared.exploring.ExploreFault.TheVariants as explore_fault
use Rattle.stm_command_line.specs.CommandLine.{answers_of, are_mistakes, is_help, is_mistake, is_version, request_of, version_line}
use Rattle.stm_command_line.specs.declared.command_line.Request.{Request}
use Rattle.stm_command_line.specs.declared.command_line.Request.TheVariants.{Run, RunOn, Storm, Explore, Check, CheckWhy}
use Rattle.stm_command_line.proofs.WordAnswers.{help_kind, mistake_kind, memory_kind, version_kind}
use Rattle.stm_console.specs.ExitStatus.{IsFailure, storm_status}
use Rattle.stm_console.specs.Program.{Do, Help, Mistake, Several, Version, asked_by, asked_of, ProgramDoes, ReadsNothing, Streams, Writes, WritesNothing, WritesPartOf}
use Rattle.stm_console.specs.declared.status.TheConstants.{DONE, NOT_RIGHT, NO_MEMORY, REFUSED}
use Rattle.stm_console.proofs.CheckWritten.{finding_unwritten}
use Rattle.stm_console.proofs.WhyWritten.{why_unwritten}

-- ---- what failed

failure : (e : RunFault) → IsFailure (status_of e)
failure run_fault.Read = inl refl
failure run_fault.Write = inl refl
failure run_fault.NoMemory = inr refl

pub failed : (e : RunFault) (n : ℕ) → n ≡ status_of e → IsFailure n
failed e n is = subst IsFailure (sym is) (failure e)

-- nothing was written, so nothing of invalid bytes either
invalid_unwritten : (IsInvalid : List ℕ → Type 0) (input old new : Option (List ℕ)) → Keeps old new → IfSome input (λ i. IsInvalid i → Keeps old new)
invalid_unwritten IsInvalid None old new k = tt
invalid_unwritten IsInvalid (Some i) old new k = λ invalid. k

pub storm_ends : (A : Type 0) (input old new : Option (List ℕ)) (e : StormFault) (n : ℕ) → n ≡ storm_status e → WritesStorm input old new (Err e)
    → A ⊎ (((n ≡ NOT_RIGHT) × IfSome input (λ i. (text : List ℕ) × IsFailedStormText i text × Appends old new text))
    ⊎ (IsFailure n × KeepsOfInvalidStorm input old new))
storm_ends A input old new (storm_fault.Run fault) n s wrote = inr (inr (failed fault n s, wrote))
storm_ends A input old new (storm_fault.Script fault) n s wrote = inr (inr (inl s, invalid_unwritten IsInvalidStorm input old new wrote.1))
storm_ends A input old new storm_fault.Replay n s wrote = inr (inl (s, wrote))

pub exploration_ends : (A P Q : Type 0) (e : ExploreFault) (n : ℕ) → n ≡ explore_status e → (is_finding e ≡ true → P) → (is_finding e ≡ false → Q)
    → A ⊎ (((n ≡ NOT_RIGHT) × P) ⊎ (IsFailure n × Q))
exploration_ends A P Q (explore_fault.Run fault) n s found other = inr (inr (failed fault n s, other refl))
exploration_ends A P Q (explore_fault.Script fault) n s found other = inr (inr (inl s, other refl))
exploration_ends A P Q explore_fault.Faulty n s found other = inr (inl (s, found refl))
exploration_ends A P Q explore_fault.Incomplete n s found other = inr (inl (s, found refl))
exploration_ends A P Q explore_fault.NoRoom n s found other = inr (inl (s, found refl))
exploration_ends A P Q explore_fault.Replay n s found other = inr (inr (inl s, other refl))

-- ---- nothing was done

-- a writer that holds what it held has got nothing, which begins each text
appends_nothing : (a b : Option (List ℕ)) → Keeps a b → Appends a b []
appends_nothing a b k = Appends-kept a a b [] (Appends-nil a) k

nothing_written : (s : Streams) (text : List ℕ) → WritesNothing s → WritesPartOf s text
nothing_written s text k = ([], (text, refl), appends_nothing s.before s.after k)

run_unwritten : (remaining : Option (List ℕ)) (s : Streams) (max_events : ℕ) → WritesNothing s
    → IfSome remaining (λ input. WritesPartOf s (console_text max_events input))
run_unwritten None s max_events k = tt
run_unwritten (Some input) s max_events k = nothing_written s (console_text max_events input) k

unperformed : (request : Request) (s : Streams) (n : ℕ) → n ≡ NO_MEMORY → ReadsNothing s → WritesNothing s → ProgramDoes (Do request) s n
unperformed (Run options) s n m unread k = inr (inr m, run_unwritten s.input s options.max_events k)
unperformed (RunOn options sync file) s n m unread k = inr (unread, k, inr (inr m))
unperformed (Storm options) s n m unread k = inr (inr (inr m, invalid_unwritten IsInvalidStorm s.input s.before s.after k))
unperformed (Explore options) s n m unread k = inr (inr (inr m, invalid_unwritten IsInvalidExploration s.input s.before s.after k))
unperformed Check s n m unread k = inr (inr m, finding_unwritten s.input s.before s.after k)
unperformed CheckWhy s n m unread k = inr (inr m, why_unwritten s.input s.before s.after k)

-- ---- what clap prints

told : (kinds : Kinds) (request : Request) (e : Error) (s : Streams) (n : ℕ) → HasKind kinds e → ReadsNothing s
    → (kind_of e ≡ OutOfMemory → (n ≡ NO_MEMORY) × WritesNothing s)
    → (kind_of e ≡ DisplayVersion → ((n ≡ DONE) × Writes s version_line) ⊎ (IsFailure n × WritesPartOf s version_line))
    → (kind_of e ≡ DisplayHelp → (n ≡ DONE) ⊎ IsFailure n)
    → (is_mistake (kind_of e) ≡ true → ((n ≡ REFUSED) ⊎ (n ≡ NO_MEMORY)) × WritesNothing s)
    → ((n ≡ REFUSED) × WritesNothing s) ⊎ ((n ≡ DONE) ⊎ IsFailure n)
    → ProgramDoes (asked_of kinds request) s n
told [] request e s n has unread memory version help mistake any =
    let m = memory (memory_kind [] e has refl) in unperformed request s n m.0 unread m.1
told (k ∷ ks) request e s n has unread memory version help mistake any =
    go (are_mistakes (k ∷ ks)) (is_help (k ∷ ks)) (is_version (k ∷ ks)) refl refl refl
  where
    go : (a b c : Bool) → a ≡ are_mistakes (k ∷ ks) → b ≡ is_help (k ∷ ks) → c ≡ is_version (k ∷ ks)
        → ProgramDoes (cond a Mistake (cond b Help (cond c Version Several))) s n
    go true b c is_a is_b is_c = let h = mistake (mistake_kind (k ∷ ks) e has (sym is_a)) in (unread, h.1, h.0)
    go false true c is_a is_b is_c = (
      unread,
      elim (help_kind (k ∷ ks) e has (sym is_b)) [
        | inl m ↦ inr (inr (memory m).0)
        | inr h ↦ help h
      ],
    )
    go false false true is_a is_b is_c = (
      unread,
      elim (version_kind (k ∷ ks) e has (sym is_c)) [
        | inl m ↦ inr (inr (memory m).0, nothing_written s version_line (memory m).1)
        | inr v ↦ version v
      ],
    )
    go false false false is_a is_b is_c = (unread, any)

pub words_told : (words : List (List ℕ)) (e : Error) (s : Streams) (n : ℕ) → HasKind (answers_of words) e → ReadsNothing s
    → (kind_of e ≡ OutOfMemory → (n ≡ NO_MEMORY) × WritesNothing s)
    → (kind_of e ≡ DisplayVersion → ((n ≡ DONE) × Writes s version_line) ⊎ (IsFailure n × WritesPartOf s version_line))
    → (kind_of e ≡ DisplayHelp → (n ≡ DONE) ⊎ IsFailure n)
    → (is_mistake (kind_of e) ≡ true → ((n ≡ REFUSED) ⊎ (n ≡ NO_MEMORY)) × WritesNothing s)
    → ((n ≡ REFUSED) × WritesNothing s) ⊎ ((n ≡ DONE) ⊎ IsFailure n)
    → ProgramDoes (asked_by words) s n
words_told words = told (answers_of words) (request_of words)

-- ---- what is requested is done

pub words_done : (words : List (List ℕ)) (r : Request) (s : Streams) (n : ℕ) → answers_of words ≡ [] → r ≡ request_of words
    → ProgramDoes (Do r) s n → ProgramDoes (asked_by words) s n
words_done words r s n none is h =
    subst (λ (kinds : Kinds). ProgramDoes (asked_of kinds (request_of words)) s n) (sym none) (subst (λ (request : Request). ProgramDoes (Do request) s n) is h)
