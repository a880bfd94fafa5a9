-- The words of a run on a file.
use Rattle.std.proofs.Common.{bytes_eq, ◌≡◌, ◌==◌, ◌∙◌, ℕ, Bool, true, false, cond, List, [], ◌∷◌, ◌++◌, codes, refl, ap, arith, length, Option, Some, None}
use Rattle.std.proofs.lemmas.Bool.{ne_eqb, lt-ltb}
use Rattle.std.proofs.lemmas.Slice.Eq.{bytes_eq-Decides}
use Rattle.std.specs.Option.{option_map_or}
use Rattle.std.specs.Prelude.{◌≢◌, is_some, nat_lt, not}
use Rattle.clap.specs.Faults.{bundle_fault, check_fault, defaults_fault, flag_word_fault, level_fault, settle_fault, step_fault, turn_fault, walk_fault, word_fault}
use Rattle.clap.specs.Kinds.{Kinds, or_else}
use Rattle.clap.specs.Lexer.{long_of, short_of}
use Rattle.clap.specs.Simple.{Shape}
use Rattle.clap.specs.Walk.{Held, Names, Rule, Step, Walk, after_step, finished, first_of, long_or_other, nothing_held, option, plain_word, settled, short_or_plain, trailing, walk, walk_from, walked, word_met}
use Rattle.clap.specs.Words.{fault_of, subcommand_of}
use Rattle.clap.specs.declared.error.kind.ErrorKind.TheVariants.{InvalidValue, MissingRequiredArgument}
use Rattle.clap.proofs.OnLiterals.{clap_on_literals}
use Rattle.stm_command_line.specs.CommandLine.{answers_of, are_mistakes, command_line, mode_of, mode_said, options_said, request_fault, request_of, run_on, sync_fault}
use Rattle.stm_command_line.specs.WordLaws.{IsTakenOn, JournalsAreTaken, EmptyNamesAreRefused, ModesAreTaken, OtherModesAreRefused, ModesNeedJournals, run_synced}
use Rattle.stm_command_line.specs.declared.command_line.Request.TheVariants.{RunOn}
use Rattle.stm_journal.specs.declared.sync_mode.SyncMode.{SyncMode}
use Rattle.stm_journal.specs.declared.sync_mode.SyncMode.TheVariants.{Full, Sector, Append, Never}
use Rattle.stm_options.specs.declared.options.Options.{Options}
use Rattle.stm_options.specs.Options.{default_options}
use Rattle.stm_command_line.proofs.StormWords.{above_passed, both_taken, enters_run, entered_words, first_turn, first_wrong, journal, last_turn, level_mistaken, level_passed, program, rows, run_answers, run_said, run_shape, run_kinds, second_turn, second_walk, sync, every, kinds_after, kinds_of_run}
use Rattle.stm_command_line.proofs.WordAnswers.{mistaken_words, request_kinds}

some : (first : ℕ) (rest : List ℕ) → nat_lt 0 (length (first ∷ rest)) ≡ true
some first rest = lt-ltb 0 (length (first ∷ rest)) (omega arith)

-- ---- `--journal=FILE`

abbrev joined : List ℕ → List ℕ → List (List ℕ)
joined name file = name ∷ codes "run" ∷ (codes "--journal=" ++ file) ∷ []

joined_passed : (name file : List ℕ) → nat_lt 0 (length file) ≡ true → fault_of command_line (joined name file) ≡ []
unfolding clap_on_literals
joined_passed name file h = rw h refl

joined_unfaulted : (name file : List ℕ) → request_fault (subcommand_of command_line (joined name file)) ≡ []
unfolding clap_on_literals
joined_unfaulted name file = refl

joined_asked : (name file : List ℕ) → request_of (joined name file) ≡ RunOn default_options Full file
unfolding request_of clap_on_literals
joined_asked name file = refl

-- ---- `--journal FILE`

-- the word is no option: it doesn't begin with `-`
record IsPlain (word : List ℕ) : Type 0 where
  dashes : bytes_eq word (45 ∷ 45 ∷ []) ≡ false
  long : long_of word ≡ None
  short : short_of word ≡ None

plain : (first : ℕ) (rest : List ℕ) → (first == 45) ≡ false → IsPlain (first ∷ rest)
plain first rest h = record { dashes = rw h refl; long = rw h refl; short = rw h refl }

-- such a word after an option that waits for its value is the value
plain_met : (c : List Rule) (names : Names) (id : List ℕ) (position : ℕ) (word : List ℕ) (h : Held) → IsPlain word
    → word_met c names false (option id) position word h ≡ plain_word c (option id) word h
plain_met c names id position word h is =
    ap (λ (b : Bool). cond b (h, trailing position) (long_or_other c (option id) word (long_of word) h)) is.dashes
    ∙ ap (λ (o : Option (List ℕ × Option (List ℕ))). long_or_other c (option id) word o h) is.long ∙ ap (λ (o : Option (List ℕ)). short_or_plain c (option id) word o h) is.short

plain_fault : (s : Shape) (names : Names) (id word : List ℕ) (h : Held) → IsPlain word → word_fault s names false (option id) word h ≡ []
plain_fault s names id word h is =
    ap (λ (b : Bool). cond b [] (flag_word_fault s.rules s.args_override_self (long_of word) word h)) is.dashes
    ∙ ap (λ (o : Option (List ℕ × Option (List ℕ))). flag_word_fault s.rules s.args_override_self o word h) is.long
    ∙ ap (λ (o : Option (List ℕ)). option_map_or (λ flags. bundle_fault s.rules s.args_override_self flags h) o []) is.short

abbrev c : List Rule
c = run_shape.rules

-- the walk before the file's name, and after it
abbrev before : Walk
before = record {
  held = record { rows = []; pending = Some (codes "journal", []); skip = 0 };
  waiting = option (codes "journal");
  position = 1;
  is_trailing = false;
  stopped = None;
}

abbrev after : List ℕ → Walk
after word = after_step c word before (plain_word c (option (codes "journal")) word before.held).0 (plain_word c (option (codes "journal")) word before.held).1

to_name : walked c [] (walk_from nothing_held) (codes "--journal") ≡ before
unfolding clap_on_literals
to_name = refl

to_name_fault : turn_fault run_shape [] (walk_from nothing_held) (codes "--journal") ≡ []
unfolding clap_on_literals
to_name_fault = refl

past_name : (word : List ℕ) → IsPlain word → walked c [] before word ≡ after word
unfolding walked
past_name word is = ap (λ (met : Held × Step). after_step c word before met.0 met.1) (plain_met c [] (codes "journal") 1 word before.held is)

past_name_fault : (word : List ℕ) → IsPlain word → turn_fault run_shape [] before word ≡ []
past_name_fault word is =
    ap (λ (k : Kinds). or_else k (step_fault run_shape 1 (word_met c [] false (option (codes "journal")) 1 word before.held).0
    (word_met c [] false (option (codes "journal")) 1 word before.held).1)) (plain_fault run_shape [] (codes "journal") word before.held is)
    ∙ ap (λ (met : Held × Step). step_fault run_shape 1 met.0 met.1) (plain_met c [] (codes "journal") 1 word before.held is)

abbrev words_of : List ℕ → List (List ℕ)
words_of word = codes "--journal" ∷ word ∷ []

apart_walk : (word : List ℕ) → IsPlain word → walk c [] nothing_held (words_of word) ≡ after word
apart_walk word is = ap (λ (w : Walk). walked c [] w word) to_name ∙ past_name word is

apart_walk_fault : (word : List ℕ) → IsPlain word → walk_fault run_shape [] (walk_from nothing_held) (words_of word) ≡ []
unfolding walk_fault
apart_walk_fault word is =
    ap (λ (k : Kinds). or_else k (walk_fault run_shape [] (walked c [] (walk_from nothing_held) (codes "--journal")) (word ∷ []))) to_name_fault
    ∙ ap (λ (w : Walk). walk_fault run_shape [] w (word ∷ [])) to_name ∙ ap (λ (k : Kinds). or_else k []) (past_name_fault word is)

-- what may be wrong after the walk
abbrev kinds_of_end : Held → Kinds
kinds_of_end end =
    or_else (settle_fault c run_shape.args_override_self end) (or_else (defaults_fault (settled c end).rows c) (check_fault run_shape (finished c end) false))

end_passed : (word : List ℕ) → nat_lt 0 (length word) ≡ true → kinds_of_end (after word).held ≡ []
unfolding clap_on_literals
end_passed word h = rw h refl

apart_level : (word : List ℕ) → IsPlain word → nat_lt 0 (length word) ≡ true → level_fault run_shape [] nothing_held (words_of word) false [] ≡ []
apart_level word is h =
    ap (λ (k : Kinds). or_else k (kinds_of_end (walk c [] nothing_held (words_of word)).held)) (apart_walk_fault word is)
    ∙ ap (λ (w : Walk). kinds_of_end w.held) (apart_walk word is) ∙ end_passed word h

apart_kinds : (name word : List ℕ) → IsPlain word → nat_lt 0 (length word) ≡ true → run_kinds name (words_of word) ≡ []
apart_kinds name word is h =
    entered_words program (codes "run") (words_of word) enters_run ∙ ap (λ (k : Kinds). or_else k (kinds_after program true)) (apart_level word is h) ∙ above_passed

-- what is said: the file, no mode, and no other option
file_said : (word : List ℕ) → first_of (codes "journal") (finished c (after word).held) ≡ Some word
unfolding clap_on_literals
file_said word = refl

no_mode_said : (word : List ℕ) → first_of (codes "sync") (finished c (after word).held) ≡ None
unfolding clap_on_literals
no_mode_said word = refl

no_checkpoint_said : (word : List ℕ) → first_of (codes "checkpoint-every") (finished c (after word).held) ≡ None
unfolding clap_on_literals
no_checkpoint_said word = refl

no_others_said : (word : List ℕ) → options_said (finished c (after word).held) ≡ default_options
unfolding clap_on_literals
no_others_said word = refl

apart_rows : (word : List ℕ) → IsPlain word → rows (words_of word) ≡ finished c (after word).held
apart_rows word is = ap (λ (w : Walk). finished c w.held) (apart_walk word is)

apart_taken : (name word : List ℕ) → IsPlain word → nat_lt 0 (length word) ≡ true
    → IsTakenOn (name ∷ codes "run" ∷ codes "--journal" ∷ word ∷ []) Full word
apart_taken name word is h =
    let file : journal (words_of word) ≡ Some word = ap (first_of (codes "journal")) (apart_rows word is) ∙ file_said word in
    let mode : sync (words_of word) ≡ None = ap (first_of (codes "sync")) (apart_rows word is) ∙ no_mode_said word in
    let none : every (words_of word) ≡ None = ap (first_of (codes "checkpoint-every")) (apart_rows word is) ∙ no_checkpoint_said word in
    let others : options_said (rows (words_of word)) ≡ default_options = ap options_said (apart_rows word is) ∙ no_others_said word in (
      run_answers name (words_of word) ∙ ap (λ (k : Kinds). kinds_of_run k (journal (words_of word)) (sync (words_of word)) (every (words_of word))) (apart_kinds name word is h)
          ∙ ap (λ (o : Option (List ℕ)). kinds_of_run [] (journal (words_of word)) o (every (words_of word))) mode
          ∙ ap (λ (o : Option (List ℕ)). kinds_of_run [] (journal (words_of word)) None o) none,
      run_said name (words_of word) ∙ ap (λ (o : Option (List ℕ)). run_on o (mode_said (sync (words_of word))) (options_said (rows (words_of word)))) file
          ∙ ap (λ (o : Option (List ℕ)). run_on (Some word) (mode_said o) (options_said (rows (words_of word)))) mode ∙ ap (λ (o : Options). RunOn o Full word) others,
    )

pub journals_are_taken : JournalsAreTaken
journals_are_taken name first rest = (
  (
    request_kinds (joined name (first ∷ rest)) [] (joined_passed name (first ∷ rest) (some first rest)) (joined_unfaulted name (first ∷ rest)),
    joined_asked name (first ∷ rest),
  ),
  λ differs. apart_taken name (first ∷ rest) (plain first rest (ne_eqb first 45 differs)) (some first rest),
)

empty_joined : (name : List ℕ) → are_mistakes (fault_of command_line (name ∷ codes "run" ∷ codes "--journal=" ∷ [])) ≡ true
unfolding clap_on_literals
empty_joined name = refl

empty_apart : (name : List ℕ) → are_mistakes (fault_of command_line (name ∷ codes "run" ∷ codes "--journal" ∷ [] ∷ [])) ≡ true
unfolding clap_on_literals
empty_apart name = refl

pub empty_names_are_refused : EmptyNamesAreRefused
empty_names_are_refused name = (
  mistaken_words (name ∷ codes "run" ∷ codes "--journal=" ∷ []) (empty_joined name),
  mistaken_words (name ∷ codes "run" ∷ codes "--journal" ∷ [] ∷ []) (empty_apart name),
)

-- ---- `--sync=MODE`

synced_first : (file : List ℕ) → nat_lt 0 (length file) ≡ true → first_turn (codes "--journal=" ++ file) ≡ []
unfolding clap_on_literals
synced_first file h = rw h refl

synced_wrong : (file : List ℕ) → nat_lt 0 (length file) ≡ false → are_mistakes (first_turn (codes "--journal=" ++ file)) ≡ true
unfolding clap_on_literals
synced_wrong file h = rw h refl

synced_second : (file mode : List ℕ) → second_turn (codes "--journal=" ++ file) (codes "--sync=" ++ mode) ≡ []
unfolding clap_on_literals walked
synced_second file mode = refl

synced_last : (file mode : List ℕ) → last_turn (second_walk (codes "--journal=" ++ file) (codes "--sync=" ++ mode)) ≡ []
unfolding clap_on_literals walked
synced_last file mode = refl

synced_passed : (name file mode : List ℕ) → nat_lt 0 (length file) ≡ true → fault_of command_line (run_synced name file mode) ≡ []
synced_passed name file mode h =
    level_passed name ((codes "--journal=" ++ file) ∷ (codes "--sync=" ++ mode) ∷ [])
    (both_taken (codes "--journal=" ++ file) (codes "--sync=" ++ mode) (synced_first file h) (synced_second file mode) (synced_last file mode))

-- nothing more is to be said
no_more : (k : Kinds) → or_else k [] ≡ k
no_more [] = refl
no_more (x ∷ xs) = refl

synced_faulted : (name file mode : List ℕ) → request_fault (subcommand_of command_line (run_synced name file mode)) ≡ sync_fault (Some mode) true
unfolding clap_on_literals
synced_faulted name file mode = no_more (sync_fault (Some mode) true)

full_asked : (name file : List ℕ) → request_of (run_synced name file (codes "full")) ≡ RunOn default_options Full file
unfolding request_of clap_on_literals
full_asked name file = refl

sector_asked : (name file : List ℕ) → request_of (run_synced name file (codes "sector")) ≡ RunOn default_options Sector file
unfolding request_of clap_on_literals
sector_asked name file = refl

append_asked : (name file : List ℕ) → request_of (run_synced name file (codes "append")) ≡ RunOn default_options Append file
unfolding request_of clap_on_literals
append_asked name file = refl

none_asked : (name file : List ℕ) → request_of (run_synced name file (codes "none")) ≡ RunOn default_options Never file
unfolding request_of clap_on_literals
none_asked name file = refl

synced_taken : (name : List ℕ) (first : ℕ) (rest mode : List ℕ) → sync_fault (Some mode) true ≡ [] → answers_of (run_synced name (first ∷ rest) mode) ≡ []
synced_taken name first rest mode none =
    request_kinds (run_synced name (first ∷ rest) mode) [] (synced_passed name (first ∷ rest) mode (some first rest)) (synced_faulted name (first ∷ rest) mode ∙ none)

pub modes_are_taken : ModesAreTaken
modes_are_taken name first rest = (
  (synced_taken name first rest (codes "full") refl, full_asked name (first ∷ rest)),
  (synced_taken name first rest (codes "sector") refl, sector_asked name (first ∷ rest)),
  (synced_taken name first rest (codes "append") refl, append_asked name (first ∷ rest)),
  (synced_taken name first rest (codes "none") refl, none_asked name (first ∷ rest)),
)

-- it is another word
other : (word mode : List ℕ) → word ≢ mode → bytes_eq word mode ≡ false
other word mode differs = go (bytes_eq word mode) refl
  where
    go : (b : Bool) → bytes_eq word mode ≡ b → bytes_eq word mode ≡ false
    go false is = is
    go true is = absurd (differs ((bytes_eq-Decides word mode).0 is))

no_mode : (mode : List ℕ) → mode ≢ codes "full" → mode ≢ codes "sector" → mode ≢ codes "append" → mode ≢ codes "none" → mode_of mode ≡ None
no_mode mode full sector append none =
    rw (other mode (codes "full") full, other mode (codes "sector") sector, other mode (codes "append") append, other mode (codes "none") none) refl

mode_refused : (o : Option SyncMode) (has_journal : Bool) → o ≡ None
    → are_mistakes (cond (not (is_some o)) (InvalidValue ∷ []) (cond (not has_journal) (MissingRequiredArgument ∷ []) [])) ≡ true
mode_refused o has_journal e = rw e refl

synced_unnamed : (name file mode : List ℕ) → nat_lt 0 (length file) ≡ false → are_mistakes (fault_of command_line (run_synced name file mode)) ≡ true
synced_unnamed name file mode h =
    level_mistaken name ((codes "--journal=" ++ file) ∷ (codes "--sync=" ++ mode) ∷ [])
    (first_wrong (codes "--journal=" ++ file) (codes "--sync=" ++ mode) (synced_wrong file h))

pub other_modes_are_refused : OtherModesAreRefused
other_modes_are_refused name file mode full sector append none = go (nat_lt 0 (length file)) refl
  where
    go : (b : Bool) → nat_lt 0 (length file) ≡ b → are_mistakes (answers_of (run_synced name file mode)) ≡ true
    go false is = mistaken_words (run_synced name file mode) (synced_unnamed name file mode is)
    go true is =
        ap are_mistakes (request_kinds (run_synced name file mode) (sync_fault (Some mode) true) (synced_passed name file mode is) (synced_faulted name file mode))
        ∙ mode_refused (mode_of mode) true (no_mode mode full sector append none)

-- ---- a mode alone

abbrev unkept : List ℕ → List ℕ → List (List ℕ)
unkept name mode = name ∷ codes "run" ∷ (codes "--sync=" ++ mode) ∷ []

unkept_passed : (name mode : List ℕ) → fault_of command_line (unkept name mode) ≡ []
unfolding clap_on_literals
unkept_passed name mode = refl

unkept_faulted : (name mode : List ℕ) → request_fault (subcommand_of command_line (unkept name mode)) ≡ sync_fault (Some mode) false
unfolding clap_on_literals
unkept_faulted name mode = no_more (sync_fault (Some mode) false)

unkept_refused : (b : Bool) → are_mistakes (cond (not b) (InvalidValue ∷ []) (MissingRequiredArgument ∷ [])) ≡ true
unkept_refused true = refl
unkept_refused false = refl

pub modes_need_journals : ModesNeedJournals
modes_need_journals name mode =
    ap are_mistakes (request_kinds (unkept name mode) (sync_fault (Some mode) false) (unkept_passed name mode) (unkept_faulted name mode))
    ∙ unkept_refused (is_some (mode_of mode))
