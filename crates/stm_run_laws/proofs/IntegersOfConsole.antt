-- The integers of a console's desk are in range, whatever lines came before: those that its texts give, and so those of its verdicts and
-- of each checkpoint. So each verdict can be in a line of a history.
use Rattle.std.proofs.Common.{◌≡◌, ℕ, ◌≤◌, Bool, true, false, List, [], ◌∷◌, ◌++◌, map, Option, Some, None, IfSome, Ok, refl, sym, ◌∙◌, subst, arith}
use Rattle.std.specs.Prelude.{nat_eq, IsSomeAnd, MatchBool}
use Rattle.stm_terms.specs.declared.values.Value.{Value}
use Rattle.stm_terms.specs.declared.values.Value.TheVariants as value
use Rattle.stm_terms.specs.declared.verdicts.Verdict.{Verdict}
use Rattle.stm_parse.specs.ParseFunction.{BlockAnswersAreRight, DeclarationAnswersAreRight}
use Rattle.stm_store.specs.Cells.{plains, Fits}
use Rattle.stm_store.specs.Naming.{Named}
use Rattle.stm_store.specs.Tables.{Declared}
use Rattle.stm_check.specs.Laws.{CheckNeverSaysNoMemory}
use Rattle.stm_eval.specs.Laws.{VerdictIsStable}
use Rattle.stm_events.specs.declared.event.Event.{Event}
use Rattle.stm_events.specs.declared.event.What.{What}
use Rattle.stm_events.specs.declared.event.What.TheVariants.{Submitted, Installed, Finished, Cancelled, Declared as DeclaredLate, Labelled}
use Rattle.stm_events.specs.declared.staleness.StalenessRule.TheVariants.{Changed}
use Rattle.stm_events.specs.Laws.{SubmittedAreWellTyped}
use Rattle.stm_events.specs.SlowDesk.{Waiter, Slow, under, verdict_on, find_waiter, after, Allows, LegalFrom}
use Rattle.stm_events.proofs.TypedStores.{typed_verdict}
use Rattle.stm_machine.specs.Checkpoints.{CheckpointView, waiter_of, checkpoint_of, start_of}
use Rattle.stm_event_lines.specs.CheckedBlocks.{CheckedAreWellTyped}
use Rattle.stm_event_lines.specs.Fits.{FitsVerdict}
use Rattle.stm_history.specs.Judgement.{AreVariablesFrom}
use Rattle.stm_history_text.specs.Starts.{BlocksAreOfText}
use Rattle.stm_source.specs.CompiledBlock.{compiled_block}
use Rattle.stm_desk.specs.DeskView.{start_state, state_of}
use Rattle.stm_desk_laws.specs.IntegerRange.{Is64Bit, IsVerdict64Bit, AreCells64Bit, AreWaiters64Bit, IsState64Bit, AreDeclared64Bit, IsGiven64Bit, HasVerdict64Bit, AreGiven64Bit, HaveVerdicts64Bit, HistoriesStay64Bit}
use Rattle.stm_terms.specs.Limits as limits
use Rattle.stm_run.specs.declared.console.Console.{Console}
use Rattle.stm_run.specs.Console.{initial_console, state_after}
use Rattle.stm_run.specs.ConsoleState.{present_desk, table_of, checkpoint_of_console, with_checkpoint}
use Rattle.stm_run.specs.AfterLines.{state_after_lines}
use Rattle.stm_run.specs.Fitting.{IsOfText, AreOfTexts, IsOfTexts, AreOfTheirTexts, WaitersAreOfText, VariablesFit, IsVerdictInRange, AreVerdictsInRange}
use Rattle.stm_run.specs.Growing.{Grows}
use Rattle.stm_run.specs.LineCheckpoints.{line_checkpoints}
use Rattle.stm_run.proofs.ArgumentCases.{either_has}
use Rattle.stm_run.proofs.DeclaredVariables.{IsLiteralInRange, literal_in_range}
use Rattle.stm_run.proofs.EventsOfConsole.{consoles_grow, line_own, start_texts, texts_after, variables_stay_fit}
use Rattle.stm_run_laws.specs.ReadBack.{VerdictsFitLines}
use Rattle.stm_run_laws.proofs.FittingEvents.{variable_told}
use Rattle.stm_run_laws.proofs.FittingVerdicts.{verdict_fits}
use Rattle.stm_run_laws.proofs.LiteralsInRange.{int_in_64_bits, block_range}
use Rattle.stm_run_laws.proofs.NewVariablesMade.{few_made}
use Rattle.stm_run.proofs.ReachedConsole.{IsReached, line_reached, present_stands, start_reached}
use Rattle.stm_run.proofs.SoundStates.{IsSound, sound_after}

-- what holds of a console that has taken some lines: the values of its checkpoint are in range, too
pub record IsRanged (s : Console) : Type 0 where
  pub is_reached : IsReached s
  pub is_own : IsOfTexts (present_desk s).desk
  pub variables : VariablesFit (table_of s)
  pub store : IfSome (checkpoint_of_console s) (λ c. AreCells64Bit c.store)

literal_64_bit : (v : Value) → IsLiteralInRange v → Is64Bit v
literal_64_bit (value.Int n) f = int_in_64_bits n f
literal_64_bit (value.Bool b) f = tt
literal_64_bit value.Unit f = tt
literal_64_bit (value.Var r) f = tt

-- ---- declared variables
declared_range : (prior ds : List Declared) → AreVariablesFrom prior ds → AreDeclared64Bit ds
declared_range prior [] a = tt
declared_range prior (d ∷ ds) a =
    let fits = a.0.fits in (literal_64_bit d.value (literal_in_range d.value fits.2), declared_range (prior ++ d ∷ []) ds a.1)

module _ (blocks : BlockAnswersAreRight) where
  -- ---- waiting blocks
  waiting_range : (known : List Named) (ws : List Waiter) → AreOfTheirTexts known ws → AreWaiters64Bit ws
  waiting_range known [] h = tt
  waiting_range known (w ∷ ws) h = let small = block_range blocks known w.block.text w.block h.0 in (small.0, waiting_range known ws h.1)

  texts_found : (known : List Named) (t : ℕ) (ws : List Waiter) → AreOfTheirTexts known ws → IfSome (find_waiter t ws) (λ w. compiled_block known w.block.text ≡ Ok w.block)
  texts_found known t [] h = tt
  texts_found known t (w ∷ ws) h =
      either_has (λ (o : Option Waiter). IfSome o (λ x. compiled_block known x.block.text ≡ Ok x.block)) (nat_eq t w.ticket) (Some w) (find_waiter t ws) h.0
      (texts_found known t ws h.1)

  -- ---- verdicts
  found_fits : (s : Slow) → IsSound s → (t : ℕ) (v : Verdict) (P : Waiter → Type 0) (o : Option Waiter) → find_waiter t s.waiters ≡ o → IfSome o (λ w. compiled_block s.names w.block.text ≡ Ok w.block)
      → IsSomeAnd o P → ((w : Waiter) → P w → verdict_on s.store w.block ≡ Some v) → IsVerdict64Bit v → FitsVerdict v
  found_fits s k t v P None found text p is range = absurd p
  found_fits s k t v P (Some w) found text p is range =
      let has = typed_verdict s t w k.possible k.typed found in
      let one : Some has.0 ≡ Some v = sym has.1 ∙ is w p in
      let same : has.0 ≡ v = cc in
      let small = block_range blocks s.names w.block.text w.block text in
      let made = few_made (under s.store) w.block.tree v (is w p) in
      verdict_fits (plains s.store) v k.store.small (omega (arith, made, small.1)) (subst (Fits (plains s.store)) same has.2) range

  allowed_fits : (s : Slow) → IsSound s → WaitersAreOfText s → (what : What) → Allows s what → HasVerdict64Bit what → IsVerdictInRange what
  allowed_fits s k h (Submitted t block) a range = tt
  allowed_fits s k h (Installed t v) a range =
      found_fits s k t v _ (find_waiter t s.waiters) refl (texts_found s.names t s.waiters h) a (λ w m. m.verdict_is) range
  allowed_fits s k h (Finished t v n stale) a range =
      found_fits s k t v _ (find_waiter t s.waiters) refl (texts_found s.names t s.waiters h) a (λ w m. m.verdict_is) range
  allowed_fits s k h (Cancelled t) a range = tt
  allowed_fits s k h (DeclaredLate name kind v) a range = tt
  allowed_fits s k h (Labelled t label) a range = tt

  all_fit : (s : Slow) → IsSound s → WaitersAreOfText s → (es : List Event) → LegalFrom s es → SubmittedAreWellTyped es → AreOfTexts s es → HaveVerdicts64Bit es → AreVerdictsInRange es
  all_fit s k h [] l w t range = tt
  all_fit s k h (e ∷ es) l w t range = (
    allowed_fits s k h e.what l.0.what range.0,
    all_fit (after s e.what) (sound_after s e.what k l.0.what w.0) (texts_after s e.what t.1 h) es l.1 w.1 t.2 range.1,
  )

  module _ (declarations : DeclarationAnswersAreRight) where
    -- ---- what texts give
    given_range : (known : List Named) (what : What) → IsOfText known what → IsGiven64Bit what
    given_range known (Submitted t block) h = let small = block_range blocks known block.text block h in small.0
    given_range known (Installed t v) h = tt
    given_range known (Finished t v n stale) h = tt
    given_range known (Cancelled t) h = tt
    given_range known (DeclaredLate name kind v) h =
        let told = variable_told declarations known h.0 (record { name = name; kind = kind; value = v }) h.1 in literal_64_bit v told.1
    given_range known (Labelled t label) h = tt

    pub all_given : (s : Slow) (es : List Event) → AreOfTexts s es → AreGiven64Bit es
    all_given s [] h = tt
    all_given s (e ∷ es) h = (given_range s.names e.what h.1, all_given (after s e.what) es h.2)

    module _ (faults : CheckNeverSaysNoMemory) (stable : VerdictIsStable) (checked : CheckedAreWellTyped) (laws : HistoriesStay64Bit) where
      -- ---- where a history begins
      start_range : (table : List Declared) (o : Option CheckpointView) → VariablesFit table → IfSome o (λ c. AreCells64Bit c.store) → IfSome o BlocksAreOfText → IsState64Bit (start_of table o)
      start_range table None v store texts = laws.initial Changed table (declared_range [] table v.1)
      start_range table (Some c) v store texts = record { store = store; blocks = waiting_range c.names (map (waiter_of c.store) c.blocks) (start_texts table (Some c) texts) }

      -- ---- consoles
      pub first_range : (s : Console) → IsRanged s → IsState64Bit (start_state (present_desk s).desk)
      first_range s r = start_range (table_of s) (checkpoint_of_console s) r.variables r.store r.is_own.blocks

      pub state_range : (s : Console) → IsRanged s → IsState64Bit (state_of (present_desk s).desk)
      state_range s r =
          let d = (present_desk s).desk in
          let stands = present_stands s r.is_reached in
          laws.later (start_state d) d.history (first_range s r) stands.legal.each (all_given (start_state d) d.history r.is_own.events)

      -- a checkpoint has the present store
      checkpoint_range : (s : Console) → IsRanged s → IfSome (checkpoint_of_console (with_checkpoint s)) (λ c. AreCells64Bit c.store)
      unfolding checkpoint_of
      checkpoint_range s r = let state = state_range s r in state.store

      moved_range : (b : Bool) (s t : Console) → MatchBool b (t ≡ with_checkpoint s) (Grows s t) → IsRanged s → IfSome (checkpoint_of_console t) (λ c. AreCells64Bit c.store)
      moved_range true s t m r = subst (λ (x : Console). IfSome (checkpoint_of_console x) (λ c. AreCells64Bit c.store)) (sym m) (checkpoint_range s r)
      moved_range false s t m r = subst (λ (o : Option CheckpointView). IfSome o (λ c. AreCells64Bit c.store)) (sym m.same_start) r.store

      pub line_range : (s : Console) (line : List ℕ) → IsRanged s → IsRanged (state_after s line)
      line_range s line r = record {
        is_reached = line_reached blocks declarations faults stable checked s r.is_reached line;
        is_own = line_own s line r.is_own;
        variables = variables_stay_fit declarations s (line ∷ []) r.variables;
        store = moved_range (line_checkpoints s line) s (state_after s line) (consoles_grow s line) r;
      }

      lines_range : (s : Console) (lines : List (List ℕ)) → IsRanged s → IsRanged (state_after_lines s lines)
      lines_range s [] r = r
      lines_range s (line ∷ rest) r = lines_range (state_after s line) rest (line_range s line r)

      pub initial_range : (max_events : ℕ) → max_events ≤ limits.max_events → IsRanged (initial_console max_events)
      unfolding initial_console
      initial_range max_events low = record {
        is_reached = start_reached blocks declarations faults stable checked max_events low;
        is_own = record { events = tt; blocks = tt };
        variables = (omega arith, tt);
        store = tt;
      }

      pub verdicts_fit_lines : VerdictsFitLines
      verdicts_fit_lines max_events low before =
          let s = state_after_lines (initial_console max_events) before in
          let r : IsRanged s = lines_range (initial_console max_events) before (initial_range max_events low) in
          let d = (present_desk s).desk in
          let stands = present_stands s r.is_reached in
          let first = start_state d in
          let verdicts = laws.verdicts first d.history (first_range s r) stands.legal.each (all_given first d.history r.is_own.events) in
          all_fit first stands.start (start_texts d.table d.checkpoint r.is_own.blocks) d.history stands.legal.each stands.typed r.is_own.events verdicts
