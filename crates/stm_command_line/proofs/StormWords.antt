-- The words of a storm are taken as those of a run: clap reads what follows a subcommand by its rules, and not by its name.
use Rattle.std.proofs.Common.{◌≡◌, ◌⊎◌, inl, inr, Bool, true, false, cond, List, [], ◌∷◌, ◌++◌, Option, Some, None, codes, refl, sym, ap, ◌∙◌, append_assoc, append-nil}
use Rattle.std.specs.Prelude.{fold, is_some, find, not, unwrap_or}
use Rattle.clap.specs.Faults.{built_fault, check_fault, defaults_fault, entered_fault, fault_of, level_fault, settle_fault, turn_fault, walk_fault}
use Rattle.clap.specs.Kinds.{Kinds, or_else}
use Rattle.clap.specs.Simple.{App, Shape, built, entered, label_of, names_of, subcommand_of}
use Rattle.clap.specs.Walk.{Names, Row, Rule, Text, Walk, answers_to, finished, first_of, nothing_held, rows_after, settled, stop_after, walk_from, walked}
use Rattle.clap.specs.declared.error.kind.ErrorKind.TheVariants.{InvalidValue, MissingRequiredArgument}
use Rattle.clap.proofs.OnLiterals.{clap_on_literals}
use Rattle.stm_command_line.specs.CommandLine.{answers_of, are_mistakes, checkpoint_fault, command_line, is_help, journal_fault, mode_of, mode_said, options_said, request_fault, request_of, request_said, run_command, run_on, sync_fault}
use Rattle.stm_command_line.specs.WordLaws.{StormsAreAccepted, StormsAreAsRuns, StormsHaveNoJournal}
use Rattle.stm_journal.specs.declared.sync_mode.SyncMode.{SyncMode}
use Rattle.stm_options.specs.declared.options.Options.{Options}
use Rattle.stm_command_line.specs.declared.command_line.Request.TheVariants.{Run, RunOn, Storm}

-- ---- a subcommand's name has no say in how words after it are read

abbrev renamed : Text → Shape → Shape
renamed name s = record s { name = name }

renamed_walk : (name : Text) (s : Shape) (names : Names) (w : Walk) (words : List Text) → walk_fault (renamed name s) names w words ≡ walk_fault s names w words
unfolding walk_fault
renamed_walk name s names w [] = refl
renamed_walk name s names w (word ∷ rest) = ap (or_else (turn_fault s names w word)) (renamed_walk name s names (walked s.rules names w word) rest)

renamed_level : (name : Text) (s : Shape) (words : List Text) → level_fault (renamed name s) [] nothing_held words false [] ≡ level_fault s [] nothing_held words false []
renamed_level name s words = rw (renamed_walk name s [] (walk_from nothing_held) words) refl

-- ---- the words after a subcommand's name are kept for it

-- the walk that met a subcommand before any other word
abbrev stopped : Text → List Text → Walk
stopped name words = record (walk_from nothing_held) { stopped = Some (name, words) }

stopped_walk : (c : List Rule) (names : Names) (name : Text) (words rest : List Text) → fold (walked c names) (stopped name words) rest ≡ stopped name (words ++ rest)
unfolding walked
stopped_walk c names name words [] = ap (stopped name) (sym (append-nil words))
stopped_walk c names name words (word ∷ rest) = stopped_walk c names name (words ++ word ∷ []) rest ∙ ap (stopped name) (append_assoc words (word ∷ []) rest)

stopped_fault : (s : Shape) (names : Names) (name : Text) (words rest : List Text) → walk_fault s names (stopped name words) rest ≡ []
unfolding walk_fault walked
stopped_fault s names name words [] = refl
stopped_fault s names name words (word ∷ rest) = stopped_fault s names name (words ++ word ∷ []) rest

-- the word is the name of a subcommand, which the command enters
pub record Enters (a : App) (name : Text) : Type 0 where
  step : walked a.top.rules (names_of a) (walk_from nothing_held) name ≡ stopped name []
  taken : turn_fault a.top (names_of a) (walk_from nothing_held) name ≡ []

whole_walk : (a : App) (name : Text) (rest : List Text) → Enters a name → fold (walked a.top.rules (names_of a)) (walk_from nothing_held) (name ∷ rest) ≡ stopped name rest
whole_walk a name rest e = ap (λ (w : Walk). fold (walked a.top.rules (names_of a)) w rest) e.step ∙ stopped_walk a.top.rules (names_of a) name [] rest

-- what there is to report then
abbrev pub kinds_after : App → Bool → Kinds
kinds_after a has_subcommand =
    or_else (settle_fault a.top.rules a.top.args_override_self nothing_held) (or_else (defaults_fault (settled a.top.rules nothing_held).rows a.top.rules)
    (check_fault a.top (finished a.top.rules nothing_held) has_subcommand))

abbrev pub kinds_at : App → Option (Text × List Text) → Kinds
kinds_at a stop = or_else (entered_fault a stop) (kinds_after a (is_some (entered a stop)))

kinds_of_walk : (a : App) (words : List Text) (name : Text) (rest : List Text) (w : Walk) → w ≡ stopped name rest → walk_fault a.top (names_of a) (walk_from nothing_held) words ≡ []
    → or_else (walk_fault a.top (names_of a) (walk_from nothing_held) words)
    (or_else (entered_fault a w.stopped) (or_else (settle_fault a.top.rules a.top.args_override_self w.held)
    (or_else (defaults_fault (settled a.top.rules w.held).rows a.top.rules)
    (check_fault a.top (finished a.top.rules w.held) (is_some (entered a w.stopped)))))) ≡ kinds_at a (Some (name, rest))
kinds_of_walk a words name rest w e f = rw (f, e) refl

no_fault : (a : App) (name : Text) (rest : List Text) → Enters a name → walk_fault a.top (names_of a) (walk_from nothing_held) (name ∷ rest) ≡ []
unfolding walk_fault
no_fault a name rest e =
    ap (λ (k : Kinds). or_else k (walk_fault a.top (names_of a) (walked a.top.rules (names_of a) (walk_from nothing_held) name) rest)) e.taken
    ∙ ap (λ (w : Walk). walk_fault a.top (names_of a) w rest) e.step ∙ stopped_fault a.top (names_of a) name [] rest

pub entered_words : (a : App) (name : Text) (rest : List Text) → Enters a name → built_fault a nothing_held (name ∷ rest) ≡ kinds_at a (Some (name, rest))
entered_words a name rest e =
    kinds_of_walk a (name ∷ rest) name rest (fold (walked a.top.rules (names_of a)) (walk_from nothing_held) (name ∷ rest)) (whole_walk a name rest e) (no_fault a name rest e)

entered_stop : (a : App) (name : Text) (rest : List Text) → Enters a name → stop_after a.top.rules (names_of a) (name ∷ rest) ≡ Some (name, rest)
entered_stop a name rest e = ap (λ (w : Walk). w.stopped) (whole_walk a name rest e)

-- ---- `run` and `storm`

abbrev pub program : App
program = built command_line

-- what clap makes of `run` as a subcommand
abbrev pub run_shape : Shape
run_shape = unwrap_or (find (λ s. answers_to (codes "run") (label_of s)) program.subs) run_command.top

pub enters_run : Enters program (codes "run")
unfolding clap_on_literals
enters_run = record { step = refl; taken = refl }

enters_storm : Enters program (codes "storm")
unfolding clap_on_literals
enters_storm = record { step = refl; taken = refl }

same_below : (rest : List Text) → entered_fault program (Some (codes "storm", rest)) ≡ entered_fault program (Some (codes "run", rest))
same_below rest = renamed_level (codes "storm") run_shape rest

-- what clap has to say of the words after `run`, and of those after `storm`
abbrev pub run_kinds : Text → List Text → Kinds
run_kinds name rest = fault_of command_line (name ∷ codes "run" ∷ rest)

same_kinds : (name : Text) (rest : List Text) → fault_of command_line (name ∷ codes "storm" ∷ rest) ≡ run_kinds name rest
same_kinds name rest =
    entered_words program (codes "storm") rest enters_storm ∙ ap (λ (k : Kinds). or_else k (kinds_after program true)) (same_below rest) ∙ sym (entered_words program (codes "run") rest enters_run)

abbrev pub rows : List Text → List Row
rows rest = rows_after run_shape.rules [] rest

abbrev pub journal : List Text → Option Text
journal rest = first_of (codes "journal") (rows rest)

abbrev pub sync : List Text → Option Text
sync rest = first_of (codes "sync") (rows rest)

abbrev pub every : List Text → Option Text
every rest = first_of (codes "checkpoint-every") (rows rest)

pub run_said : (name : Text) (rest : List Text) → request_of (name ∷ codes "run" ∷ rest) ≡ run_on (journal rest) (mode_said (sync rest)) (options_said (rows rest))
unfolding request_of
run_said name rest = ap (λ (stop : Option (Text × List Text)). request_said (entered program stop)) (entered_stop program (codes "run") rest enters_run)

storm_said : (name : Text) (rest : List Text) → request_of (name ∷ codes "storm" ∷ rest) ≡ Storm (options_said (rows rest))
unfolding request_of
storm_said name rest = ap (λ (stop : Option (Text × List Text)). request_said (entered program stop)) (entered_stop program (codes "storm") rest enters_storm)

-- ---- what clap has to say of the words after `run`, by those alone

abbrev pub run_level : List Text → Kinds
run_level rest = level_fault run_shape [] nothing_held rest false []

pub above_passed : kinds_after program true ≡ []
unfolding clap_on_literals
above_passed = refl

-- if nothing is to be said of them, nothing is of the whole
pub level_passed : (name : Text) (rest : List Text) → run_level rest ≡ [] → run_kinds name rest ≡ []
level_passed name rest h =
    entered_words program (codes "run") rest enters_run ∙ ap (λ (k : Kinds). or_else k (kinds_after program true)) h ∙ above_passed

first_mistaken : (k more : Kinds) → are_mistakes k ≡ true → are_mistakes (or_else k more) ≡ true
first_mistaken [] more h = absurd cc
first_mistaken (x ∷ xs) more h = h

or_mistaken : (k more : Kinds) → (k ≡ []) ⊎ (are_mistakes k ≡ true) → are_mistakes more ≡ true → are_mistakes (or_else k more) ≡ true
or_mistaken [] more said h = h
or_mistaken (x ∷ xs) more (inl none) h = absurd cc
or_mistaken (x ∷ xs) more (inr wrong) h = wrong

-- what is to be said of a word that comes first, and of one after it
abbrev pub first_turn : Text → Kinds
first_turn one = turn_fault run_shape [] (walk_from nothing_held) one

abbrev pub second_turn : Text → Text → Kinds
second_turn one two = turn_fault run_shape [] (walked run_shape.rules [] (walk_from nothing_held) one) two

-- what is to be said after all words
abbrev pub last_turn : Walk → Kinds
last_turn w =
    or_else (settle_fault run_shape.rules run_shape.args_override_self w.held) (or_else (defaults_fault (settled run_shape.rules w.held).rows run_shape.rules)
    (check_fault run_shape (finished run_shape.rules w.held) false))

-- the walk after two words
abbrev pub second_walk : Text → Text → Walk
second_walk one two = walked run_shape.rules [] (walked run_shape.rules [] (walk_from nothing_held) one) two

-- the first word is wrong
pub first_wrong : (one two : Text) → are_mistakes (first_turn one) ≡ true → are_mistakes (run_level (one ∷ two ∷ [])) ≡ true
unfolding walk_fault
first_wrong one two h =
    first_mistaken (walk_fault run_shape [] (walk_from nothing_held) (one ∷ two ∷ [])) (last_turn (second_walk one two))
    (first_mistaken (first_turn one) (or_else (second_turn one two) []) h)

-- two words are wrong if the second is, after the first
pub second_mistaken : (one two : Text) → (first_turn one ≡ []) ⊎ (are_mistakes (first_turn one) ≡ true) → are_mistakes (second_turn one two) ≡ true
    → are_mistakes (run_level (one ∷ two ∷ [])) ≡ true
unfolding walk_fault
second_mistaken one two first second =
    first_mistaken (walk_fault run_shape [] (walk_from nothing_held) (one ∷ two ∷ [])) (last_turn (second_walk one two))
    (or_mistaken (first_turn one) (or_else (second_turn one two) []) first (first_mistaken (second_turn one two) [] second))

-- two words are taken if nothing is to be said of either, nor in the end
pub both_taken : (one two : Text) → first_turn one ≡ [] → second_turn one two ≡ [] → last_turn (second_walk one two) ≡ [] → run_level (one ∷ two ∷ []) ≡ []
unfolding walk_fault
both_taken one two first second last =
    ap (λ (k : Kinds). or_else (or_else k (or_else (second_turn one two) [])) (last_turn (second_walk one two))) first
    ∙ ap (λ (k : Kinds). or_else (or_else k []) (last_turn (second_walk one two))) second ∙ last

-- if they are wrong, so is the whole
pub level_mistaken : (name : Text) (rest : List Text) → are_mistakes (run_level rest) ≡ true → are_mistakes (run_kinds name rest) ≡ true
level_mistaken name rest h =
    ap are_mistakes (entered_words program (codes "run") rest enters_run) ∙ first_mistaken (run_level rest) (kinds_after program true) h

-- ---- what is wrong with them

abbrev pub kinds_of_run : Kinds → Option Text → Option Text → Option Text → Kinds
kinds_of_run k j s e = or_else k (or_else (sync_fault s (is_some j)) (checkpoint_fault (is_some e) (is_some j)))

abbrev kinds_of_storm : Kinds → Option Text → Option Text → Option Text → Kinds
kinds_of_storm k j s e = or_else k (journal_fault (is_some j) (is_some s) (is_some e))

pub run_answers : (name : Text) (rest : List Text) → answers_of (name ∷ codes "run" ∷ rest) ≡ kinds_of_run (run_kinds name rest) (journal rest) (sync rest) (every rest)
unfolding answers_of
run_answers name rest =
    ap (λ (stop : Option (Text × List Text)). or_else (run_kinds name rest) (request_fault (entered program stop))) (entered_stop program (codes "run") rest enters_run)

storm_answers : (name : Text) (rest : List Text) → answers_of (name ∷ codes "storm" ∷ rest) ≡ kinds_of_storm (run_kinds name rest) (journal rest) (sync rest) (every rest)
unfolding answers_of
storm_answers name rest =
    ap (λ (k : Kinds). or_else k (request_fault (subcommand_of command_line (name ∷ codes "storm" ∷ rest)))) (same_kinds name rest)
    ∙ ap (λ (stop : Option (Text × List Text)). or_else (run_kinds name rest) (request_fault (entered program stop))) (entered_stop program (codes "storm") rest enters_storm)

-- a mode is refused as a mistake, and never as help
fault_isnt_help : (mode has : Bool) (rest : Kinds) → is_help rest ≡ false
    → is_help (or_else (cond (not mode) (InvalidValue ∷ []) (cond (not has) (MissingRequiredArgument ∷ []) [])) rest) ≡ false
fault_isnt_help false has rest h = refl
fault_isnt_help true false rest h = refl
fault_isnt_help true true rest h = h

same_help : (k : Kinds) (j s e : Option Text) → is_help (kinds_of_storm k j s e) ≡ is_help (kinds_of_run k j s e)
same_help (x ∷ xs) j s e = refl
same_help [] None None None = refl
same_help [] None None (Some n) = refl
same_help [] (Some f) None None = refl
same_help [] (Some f) None (Some n) = refl
same_help [] None (Some w) None = sym (fault_isnt_help (is_some (mode_of w)) false [] refl)
same_help [] None (Some w) (Some n) = sym (fault_isnt_help (is_some (mode_of w)) false (MissingRequiredArgument ∷ []) refl)
same_help [] (Some f) (Some w) None = sym (fault_isnt_help (is_some (mode_of w)) true [] refl)
same_help [] (Some f) (Some w) (Some n) = sym (fault_isnt_help (is_some (mode_of w)) true [] refl)

same_mistakes : (k : Kinds) (j s e : Option Text) → are_mistakes (kinds_of_run k j s e) ≡ true → are_mistakes (kinds_of_storm k j s e) ≡ true
same_mistakes (x ∷ xs) j s e h = h
same_mistakes [] None None None h = h
same_mistakes [] None None (Some n) h = refl
same_mistakes [] (Some f) None None h = refl
same_mistakes [] (Some f) None (Some n) h = refl
same_mistakes [] None (Some w) e h = refl
same_mistakes [] (Some f) (Some w) e h = refl

-- a mode without a journal is never taken
mode_kinds : (mode : Bool) (rest : Kinds) → or_else (cond (not mode) (InvalidValue ∷ []) (MissingRequiredArgument ∷ [])) rest ≡ [] → ⊥
mode_kinds false rest h = cc
mode_kinds true rest h = cc

taken_after_storm : (k : Kinds) (j s e : Option Text) (sync : SyncMode) (said options : Options) → kinds_of_run k j s e ≡ [] → run_on j sync said ≡ Run options
    → (kinds_of_storm k j s e ≡ []) × (Storm said ≡ Storm options)
taken_after_storm (x ∷ xs) j s e sync said options none asks = absurd cc
taken_after_storm [] (Some f) s e sync said options none asks = absurd cc
taken_after_storm [] None (Some w) e sync said options none asks = absurd (mode_kinds (is_some (mode_of w)) (checkpoint_fault (is_some e) false) none)
taken_after_storm [] None None (Some n) sync said options none asks = absurd cc
taken_after_storm [] None None None sync said options none asks = (refl, let same : said ≡ options = cc in ap (λ (o : Options). Storm o) same)

taken_after_run : (k : Kinds) (j s e : Option Text) (sync : SyncMode) (said options : Options) → kinds_of_storm k j s e ≡ [] → Storm said ≡ Storm options
    → (kinds_of_run k j s e ≡ []) × (run_on j sync said ≡ Run options)
taken_after_run (x ∷ xs) j s e sync said options none asks = absurd cc
taken_after_run [] (Some f) s e sync said options none asks = absurd cc
taken_after_run [] None (Some w) e sync said options none asks = absurd cc
taken_after_run [] None None (Some n) sync said options none asks = absurd cc
taken_after_run [] None None None sync said options none asks = (refl, let same : said ≡ options = cc in ap (λ (o : Options). Run o) same)

journal_refused : (k : Kinds) (j s e : Option Text) (said : SyncMode) (options others : Options) (sync : SyncMode) (file : Text) → kinds_of_run k j s e ≡ []
    → run_on j said options ≡ RunOn others sync file → are_mistakes (kinds_of_storm k j s e) ≡ true
journal_refused (x ∷ xs) j s e said options others sync file none asks = absurd cc
journal_refused [] None s e said options others sync file none asks = absurd cc
journal_refused [] (Some f) s e said options others sync file none asks = refl

pub storms_are_as_runs : StormsAreAsRuns
storms_are_as_runs name rest =
    let k = run_kinds name rest in
    let run = run_answers name rest in
    let storm = storm_answers name rest in record {
      help = ap is_help storm ∙ same_help k (journal rest) (sync rest) (every rest) ∙ sym (ap is_help run);
      wrong = λ h. ap are_mistakes storm ∙ same_mistakes k (journal rest) (sync rest) (every rest) (sym (ap are_mistakes run) ∙ h);
      taken = λ options. (
        λ h.
            let both = taken_after_storm k (journal rest) (sync rest) (every rest) (mode_said (sync rest)) (options_said (rows rest)) options (sym run ∙ h.0) (sym (run_said name rest) ∙ h.1) in
            (storm ∙ both.0, storm_said name rest ∙ both.1),
        λ h.
            let both = taken_after_run k (journal rest) (sync rest) (every rest) (mode_said (sync rest)) (options_said (rows rest)) options (sym storm ∙ h.0) (sym (storm_said name rest) ∙ h.1) in
            (run ∙ both.0, run_said name rest ∙ both.1),
      );
    }

pub storms_have_no_journal : StormsHaveNoJournal
storms_have_no_journal name rest options mode file none asks =
    ap are_mistakes (storm_answers name rest)
    ∙ journal_refused (run_kinds name rest) (journal rest) (sync rest) (every rest) (mode_said (sync rest)) (options_said (rows rest)) options mode file (sym (run_answers name rest) ∙ none)
    (sym (run_said name rest) ∙ asks)

pub storms_are_accepted : StormsAreAccepted
unfolding answers_of request_of clap_on_literals
storms_are_accepted name = (refl, refl)
