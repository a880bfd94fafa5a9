-- Numbers that words say for the options of a run.
use Rattle.std.proofs.Common.{◌≡◌, ◌⊎◌, inl, inr, ◌<◌, ◌≤◌, ◌^◌, ◌==◌, ◌∙◌, ℕ, Bool, true, false, List, [], ◌∷◌, ◌++◌, codes, refl, sym, ap, subst, arith, decimal}
use Rattle.std.proofs.lemmas.Bool.{ne_eqb, le-leb, leb-true, lt-ltb}
use Rattle.std.proofs.lemmas.Fmt.{decimal_is_IsNumeral}
use Rattle.std.specs.Char.{digit_value}
use Rattle.std.specs.Int.{w64}
use lib.Signed.{le_z_yes}
use lib.Dec.{T}
use Rattle.std.specs.Prelude.{Option, Some, nat_le, nat_lt, length, ℤ, pos, FitsSigned, ◌≤ℤ◌}
use Rattle.std.specs.Str.Parse.{IsNumeral, digits_value, signed_digits_value, without_leading_plus, without_leading_sign}
use Rattle.clap.specs.ValueTests.{accepts, is_unsigned_in}
use Rattle.clap.specs.Walk.{walked}
use Rattle.clap.specs.Lexer.{without_minus}
use Rattle.clap.specs.declared.builder.value_parser.ValueParser.TheVariants.{Signed, Unsigned}
use Rattle.clap.specs.Words.{Kinds, fault_of, subcommand_of}
use Rattle.clap.specs.declared.error.kind.ErrorKind.TheVariants.{MissingRequiredArgument}
use Rattle.clap.proofs.OnLiterals.{clap_on_literals}
use Rattle.clap.proofs.ValueTestLemmas.{accepts-Accepts, Accepts-accepts}
use Rattle.stm_command_line.specs.CommandLine.{answers_of, are_mistakes, command_line, number_of_text, number_within, request_fault, request_of}
use Rattle.stm_command_line.specs.WordLaws.{NumbersAreTaken, OthersAreRefused, NoOptionTwice, OptionsNeedRun, CheckpointsAreTaken, OtherCheckpointsAreRefused, CheckpointsNeedJournals, run_twice, run_checkpointed}
use Rattle.stm_command_line.proofs.WordAnswers.{mistaken_words, request_kinds}
use Rattle.stm_command_line.proofs.StormWords.{both_taken, first_turn, last_turn, level_mistaken, level_passed, second_mistaken, second_turn, second_walk}
use Rattle.stm_options.specs.Options.{default_options}
use Rattle.stm_options.specs.declared.options.Options.{Options}
use Rattle.stm_command_line.specs.declared.command_line.Request.TheVariants.{Run, RunOn}
use Rattle.stm_journal.specs.declared.sync_mode.SyncMode.TheVariants.{Full}

-- ---- a number in digits

passed : (b : Bool) → T b → b ≡ true
passed true t = refl
passed false t = absurd t

-- no sign stands first
unsigned : (d : ℕ) (ds : List ℕ) → IsNumeral 10 (d ∷ ds) → ((d == 43) ≡ false) × ((d == 45) ≡ false)
unsigned d ds h = (
  ne_eqb d 43 (λ e. let bad : digit_value 43 < 10 = subst (λ c. digit_value c < 10) e h.1.0 in omega arith),
  ne_eqb d 45 (λ e. let bad : digit_value 45 < 10 = subst (λ c. digit_value c < 10) e h.1.0 in omega arith),
)

record IsPlain (text : List ℕ) : Type 0 where
  minus : without_minus text ≡ text
  plus : without_leading_plus text ≡ text
  sign : without_leading_sign text ≡ text
  value : signed_digits_value 10 text ≡ pos (digits_value 10 text)

plain : (text : List ℕ) → IsNumeral 10 text → IsPlain text
plain [] h = absurd (omega arith)
plain (d ∷ ds) h =
    let first = unsigned d ds h in
    record {
      minus = rw first.1 refl;
      plus = rw first.0 refl;
      sign = rw (first.1, first.0) refl;
      value = rw (first.1, first.0) refl;
    }

value_of : (n : ℕ) → n < 2 ^ 64 → signed_digits_value 10 (decimal n) ≡ pos n
value_of n h = (plain (decimal n) (decimal_is_IsNumeral n h).0).value ∙ ap (λ (k : ℕ). pos k) (decimal_is_IsNumeral n h).1

accepted : (low high n : ℕ) → n < 2 ^ 63 → low ≤ n → n ≤ high → accepts false (Signed (pos low) (pos high)) (decimal n) ≡ true
accepted low high n h least most =
    let k = decimal_is_IsNumeral n (omega arith) in
    let z = value_of n (omega arith) in
    Accepts-accepts false (Signed (pos low) (pos high)) (decimal n) (
      subst (IsNumeral 10) (sym (plain (decimal n) k.0).sign) k.0,
      subst (FitsSigned w64) (sym z) (record { sfits = h }),
      subst (λ (i : ℤ). pos low ≤ℤ i) (sym z) (le_z_yes (subst T (sym (le-leb low n least)) tt)),
      subst (λ (i : ℤ). i ≤ℤ pos high) (sym z) (le_z_yes (subst T (sym (le-leb n high most)) tt)),
    )

said : (n : ℕ) → n < 2 ^ 32 → number_of_text (without_minus (decimal n)) ≡ Some n
said n h =
    let k = decimal_is_IsNumeral n (omega arith) in
    let p = plain (decimal n) k.0 in
    let value : digits_value 10 (without_leading_plus (decimal n)) ≡ n = ap (digits_value 10) p.plus ∙ k.1 in
    let test : is_unsigned_in 0 4294967295 (decimal n) ≡ true = Accepts-accepts false (Unsigned 0 4294967295) (decimal n)
    (subst (IsNumeral 10) (sym p.plus) k.0, omega arith, omega arith, omega arith) in
    ap number_of_text p.minus ∙ rw (test, value) refl

refused : (low high n : ℕ) → n < 2 ^ 64 → (low ≤ n → n ≤ high → ⊥) → accepts false (Signed (pos low) (pos high)) (decimal n) ≡ false
refused low high n h outside = go (accepts false (Signed (pos low) (pos high)) (decimal n)) refl
  where
    go : (b : Bool) → b ≡ accepts false (Signed (pos low) (pos high)) (decimal n) → accepts false (Signed (pos low) (pos high)) (decimal n) ≡ false
    go false is = sym is
    go true is =
        let in_range = accepts-Accepts false (Signed (pos low) (pos high)) (decimal n) (sym is) in
        let least = subst (λ (i : ℤ). pos low ≤ℤ i) (value_of n h) in_range.2 in
        let most = subst (λ (i : ℤ). i ≤ℤ pos high) (value_of n h) in_range.3 in
        absurd (outside (leb-true low n (passed _ least.le)) (leb-true n high (passed _ most.le)))

-- ---- what clap makes of them

-- the number that is said is the one that is meant
within_said : (low high otherwise : ℕ) (o : Option ℕ) (n : ℕ) → o ≡ Some n → nat_le low n ≡ true → nat_le n high ≡ true → number_within low high otherwise o ≡ n
within_said low high otherwise o n h least most = rw (h, least, most) refl

within_number : (low high otherwise n : ℕ) → n < 2 ^ 32 → low ≤ n → n ≤ high → number_within low high otherwise (number_of_text (without_minus (decimal n))) ≡ n
within_number low high otherwise n small least most =
    within_said low high otherwise (number_of_text (without_minus (decimal n))) n (said n small) (le-leb low n least) (le-leb n high most)

-- an option that takes a number
data NumberOption : Type 0 where
  Workers : NumberOption
  Levels : NumberOption
  MaxEvents : NumberOption
  CheckpointEvery : NumberOption

-- an option of a run
data RunOption : Type 0 where
  Number : NumberOption → RunOption
  Journal : RunOption
  Sync : RunOption

-- its word
abbrev bare : RunOption → List ℕ
bare (Number Workers) = codes "--workers"
bare (Number Levels) = codes "--levels"
bare (Number MaxEvents) = codes "--max-events"
bare (Number CheckpointEvery) = codes "--checkpoint-every"
bare Journal = codes "--journal"
bare Sync = codes "--sync"

-- its word with what stands before a value
abbrev mark : RunOption → List ℕ
mark (Number Workers) = codes "--workers="
mark (Number Levels) = codes "--levels="
mark (Number MaxEvents) = codes "--max-events="
mark (Number CheckpointEvery) = codes "--checkpoint-every="
mark Journal = codes "--journal="
mark Sync = codes "--sync="

-- whether clap takes the value
abbrev is_taken : RunOption → List ℕ → Bool
is_taken (Number Workers) text = accepts false (Signed (pos 1) (pos 64)) text
is_taken (Number Levels) text = accepts false (Signed (pos 0) (pos 8)) text
is_taken (Number MaxEvents) text = accepts false (Signed (pos 0) (pos 1048576)) text
is_taken (Number CheckpointEvery) text = accepts false (Signed (pos 1) (pos 1048576)) text
is_taken Journal text = nat_lt 0 (length text)
is_taken Sync text = true

-- what a number is missing that is taken
abbrev missing : NumberOption → Kinds
missing CheckpointEvery = MissingRequiredArgument ∷ []
missing o = []

-- the number that is meant
abbrev meant : NumberOption → Option ℕ → ℕ
meant Workers o = number_within 1 64 2 o
meant Levels o = number_within 0 8 0 o
meant MaxEvents o = number_within 0 1048576 1048576 o
meant CheckpointEvery o = number_within 1 1048576 500000 o

abbrev with_number : NumberOption → ℕ → Options
with_number Workers n = record default_options { workers = n }
with_number Levels n = record default_options { levels = n }
with_number MaxEvents n = record default_options { max_events = n }
with_number CheckpointEvery n = record default_options { checkpoint_every = n }

-- ---- a number alone after `run`

abbrev number_words : NumberOption → List ℕ → List ℕ → List (List ℕ)
number_words o name text = name ∷ codes "run" ∷ (mark (Number o) ++ text) ∷ []

number_passed : (o : NumberOption) (name text : List ℕ) → is_taken (Number o) text ≡ true → fault_of command_line (number_words o name text) ≡ []
unfolding clap_on_literals
number_passed Workers name text h = rw h refl
number_passed o name text h = rw h refl

number_refused : (o : NumberOption) (name text : List ℕ) → is_taken (Number o) text ≡ false → are_mistakes (fault_of command_line (number_words o name text)) ≡ true
unfolding clap_on_literals
number_refused Workers name text h = rw h refl
number_refused o name text h = rw h refl

number_faulted : (o : NumberOption) (name text : List ℕ) → request_fault (subcommand_of command_line (number_words o name text)) ≡ missing o
unfolding clap_on_literals
number_faulted Workers name text = refl
number_faulted o name text = refl

number_asked : (o : NumberOption) (name text : List ℕ) → request_of (number_words o name text) ≡ Run (with_number o (meant o (number_of_text (without_minus text))))
unfolding request_of clap_on_literals
number_asked Workers name text = refl
number_asked o name text = refl

number_kinds : (o : NumberOption) (name text : List ℕ) → is_taken (Number o) text ≡ true → answers_of (number_words o name text) ≡ missing o
number_kinds o name text h = request_kinds (number_words o name text) (missing o) (number_passed o name text h) (number_faulted o name text)

number_taken : (o : NumberOption) (name : List ℕ) (n : ℕ) → is_taken (Number o) (decimal n) ≡ true → meant o (number_of_text (without_minus (decimal n))) ≡ n
    → (answers_of (number_words o name (decimal n)) ≡ missing o) × (request_of (number_words o name (decimal n)) ≡ Run (with_number o n))
number_taken o name n h is = (number_kinds o name (decimal n) h, number_asked o name (decimal n) ∙ ap (λ (k : ℕ). Run (with_number o k)) is)

number_mistaken : (o : NumberOption) (name text : List ℕ) → is_taken (Number o) text ≡ false → are_mistakes (answers_of (number_words o name text)) ≡ true
number_mistaken o name text h = mistaken_words (number_words o name text) (number_refused o name text h)

-- ---- an option twice

first_taken : (o : RunOption) (text : List ℕ) → is_taken o text ≡ true → first_turn (mark o ++ text) ≡ []
unfolding clap_on_literals
first_taken Sync text h = refl
first_taken (Number Workers) text h = rw h refl
first_taken o text h = rw h refl

first_refused : (o : RunOption) (text : List ℕ) → is_taken o text ≡ false → are_mistakes (first_turn (mark o ++ text)) ≡ true
unfolding clap_on_literals
first_refused Sync text h = absurd cc
first_refused (Number Workers) text h = rw h refl
first_refused o text h = rw h refl

either_first : (o : RunOption) (text : List ℕ) → (first_turn (mark o ++ text) ≡ []) ⊎ (are_mistakes (first_turn (mark o ++ text)) ≡ true)
either_first o text = go (is_taken o text) refl
  where
    go : (b : Bool) → is_taken o text ≡ b → (first_turn (mark o ++ text) ≡ []) ⊎ (are_mistakes (first_turn (mark o ++ text)) ≡ true)
    go true is = inl (first_taken o text is)
    go false is = inr (first_refused o text is)

second_refused : (o : RunOption) (first second : List ℕ) → are_mistakes (second_turn (mark o ++ first) (mark o ++ second)) ≡ true
unfolding clap_on_literals walked
second_refused (Number Workers) first second = refl
second_refused o first second = refl

twice : (o : RunOption) (name first second : List ℕ) → are_mistakes (answers_of (run_twice name (mark o) first second)) ≡ true
twice o name first second =
    mistaken_words (run_twice name (mark o) first second)
    (level_mistaken name ((mark o ++ first) ∷ (mark o ++ second) ∷ [])
    (second_mistaken (mark o ++ first) (mark o ++ second) (either_first o first) (second_refused o first second)))

-- ---- an option without `run`

unled : (o : RunOption) (name : List ℕ) (rest : List (List ℕ)) → are_mistakes (fault_of command_line (name ∷ bare o ∷ rest)) ≡ true
unfolding clap_on_literals
unled (Number Workers) name rest = refl
unled o name rest = refl

without_run : (o : RunOption) (name : List ℕ) (rest : List (List ℕ)) → are_mistakes (answers_of (name ∷ bare o ∷ rest)) ≡ true
without_run o name rest = mistaken_words (name ∷ bare o ∷ rest) (unled o name rest)

-- ---- numbers

pub numbers_are_taken : NumbersAreTaken
numbers_are_taken name n = (
  (λ least most. number_taken Workers name n (accepted 1 64 n (omega arith) least most) (within_number 1 64 2 n (omega arith) least most)),
  (λ most. number_taken Levels name n (accepted 0 8 n (omega arith) (omega arith) most) (within_number 0 8 0 n (omega arith) (omega arith) most)),
  (λ most. number_taken MaxEvents name n (accepted 0 1048576 n (omega arith) (omega arith) most) (within_number 0 1048576 1048576 n (omega arith) (omega arith) most)),
)

pub others_are_refused : OthersAreRefused
others_are_refused name n h = (
  (λ outside. number_mistaken Workers name (decimal n) (refused 1 64 n h outside)),
  (λ above. number_mistaken Levels name (decimal n) (refused 0 8 n h (λ least most. omega arith))),
  (λ above. number_mistaken MaxEvents name (decimal n) (refused 0 1048576 n h (λ least most. omega arith))),
)

pub no_option_twice : NoOptionTwice
no_option_twice name first second = (
  twice (Number Workers) name first second,
  twice (Number Levels) name first second,
  twice (Number MaxEvents) name first second,
  twice Journal name first second,
  twice Sync name first second,
  twice (Number CheckpointEvery) name first second,
)

pub options_need_run : OptionsNeedRun
options_need_run name rest = (
  without_run (Number Workers) name rest,
  without_run (Number Levels) name rest,
  without_run (Number MaxEvents) name rest,
  without_run Journal name rest,
  without_run Sync name rest,
  without_run (Number CheckpointEvery) name rest,
)

-- ---- `--journal=FILE --checkpoint-every=TEXT`

abbrev kept : List ℕ → List ℕ → List ℕ → List (List ℕ)
kept name file text = name ∷ codes "run" ∷ (codes "--journal=" ++ file) ∷ (codes "--checkpoint-every=" ++ text) ∷ []

kept_second : (file text : List ℕ) → accepts false (Signed (pos 1) (pos 1048576)) text ≡ true → second_turn (codes "--journal=" ++ file) (codes "--checkpoint-every=" ++ text) ≡ []
unfolding clap_on_literals walked
kept_second file text h = rw h refl

kept_last : (file text : List ℕ) → last_turn (second_walk (codes "--journal=" ++ file) (codes "--checkpoint-every=" ++ text)) ≡ []
unfolding clap_on_literals walked
kept_last file text = refl

kept_passed : (name file text : List ℕ) → nat_lt 0 (length file) ≡ true → accepts false (Signed (pos 1) (pos 1048576)) text ≡ true → fault_of command_line (kept name file text) ≡ []
kept_passed name file text f h =
    level_passed name ((codes "--journal=" ++ file) ∷ (codes "--checkpoint-every=" ++ text) ∷ [])
    (both_taken (codes "--journal=" ++ file) (codes "--checkpoint-every=" ++ text) (first_taken Journal file f) (kept_second file text h) (kept_last file text))

kept_unfaulted : (name file text : List ℕ) → request_fault (subcommand_of command_line (kept name file text)) ≡ []
unfolding clap_on_literals
kept_unfaulted name file text = refl

kept_asked : (name file text : List ℕ)
    → request_of (kept name file text) ≡ RunOn (with_number CheckpointEvery (meant CheckpointEvery (number_of_text (without_minus text)))) Full file
unfolding request_of clap_on_literals
kept_asked name file text = refl

kept_wrong : (file text : List ℕ) → accepts false (Signed (pos 1) (pos 1048576)) text ≡ false
    → are_mistakes (second_turn (codes "--journal=" ++ file) (codes "--checkpoint-every=" ++ text)) ≡ true
unfolding clap_on_literals walked
kept_wrong file text h = rw h refl

kept_refused : (name file text : List ℕ) → accepts false (Signed (pos 1) (pos 1048576)) text ≡ false → are_mistakes (fault_of command_line (kept name file text)) ≡ true
kept_refused name file text h =
    level_mistaken name ((codes "--journal=" ++ file) ∷ (codes "--checkpoint-every=" ++ text) ∷ [])
    (second_mistaken (codes "--journal=" ++ file) (codes "--checkpoint-every=" ++ text) (either_first Journal file) (kept_wrong file text h))

pub checkpoints_are_taken : CheckpointsAreTaken
checkpoints_are_taken name first rest n least most = (
  request_kinds (run_checkpointed name (first ∷ rest) n) []
      (kept_passed name (first ∷ rest) (decimal n) (lt-ltb 0 (length (first ∷ rest)) (omega arith)) (accepted 1 1048576 n (omega arith) least most))
      (kept_unfaulted name (first ∷ rest) (decimal n)),
  kept_asked name (first ∷ rest) (decimal n)
      ∙ ap (λ (k : ℕ). RunOn (with_number CheckpointEvery k) Full (first ∷ rest)) (within_number 1 1048576 500000 n (omega arith) least most),
)

pub other_checkpoints_are_refused : OtherCheckpointsAreRefused
other_checkpoints_are_refused name file n h outside =
    mistaken_words (run_checkpointed name file n) (kept_refused name file (decimal n) (refused 1 1048576 n h outside))

-- without a journal
pub checkpoints_need_journals : CheckpointsNeedJournals
checkpoints_need_journals name text = go (is_taken (Number CheckpointEvery) text) refl
  where
    go : (b : Bool) → is_taken (Number CheckpointEvery) text ≡ b → are_mistakes (answers_of (number_words CheckpointEvery name text)) ≡ true
    go true is = ap are_mistakes (number_kinds CheckpointEvery name text is)
    go false is = number_mistaken CheckpointEvery name text is
