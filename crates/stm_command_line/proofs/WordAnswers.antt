-- What clap answers to words.
use Rattle.std.proofs.Common.{bytes_eq, ◌≡◌, ◌≤◌, ℕ, Bool, true, false, List, [], ◌∷◌, ◌++◌, ◌&&◌, inl, inr, codes, refl, ap, sym, ◌∙◌, subst, cond, arith, Option, Some, None}
use Rattle.std.specs.Prelude.{Ok, Err, MatchResult, ◌⊎◌, nat_le, option_and_then, option_map, unwrap_or}
use Rattle.std.specs.Str.Parse.{ParsesUnsigned, digits_value, without_leading_plus}
use Rattle.clap.specs.Matches.{ReadsOne, first_value, found_of, one_text, subcommand_name_of}
use Rattle.clap.specs.ValueTests.{is_unsigned_in}
use Rattle.clap.specs.Kinds.{or_else}
use Rattle.clap.specs.Walk.{Row, first_of, one_of, rows_of}
use Rattle.clap.specs.declared.builder.value_parser.ValueParser.TheVariants.{Unsigned}
use Rattle.clap.specs.declared.parser.matches.Found.{Found}
use Rattle.clap.proofs.ValueTestLemmas.{accepts-Accepts, Accepts-accepts}
use Rattle.clap.proofs.WalkLemmas.{first_value-rows, one_text-rows}
use Rattle.std.proofs.lemmas.Bool.{and_parts, false≢true, leb-true}
use Rattle.std.specs.List.{list_all}
use Rattle.std.proofs.lemmas.Slice.Eq.{bytes_eq-Decides}
use Rattle.clap.specs.Words.{App, Kinds, FailsBy, HasKind, HasMatchesOf, IsAmong, fault_of, is_simple, is_simple_and_free, subcommand_of, subcommand_rows_of}
use Rattle.clap.specs.declared.parser.matches.ArgMatches.{ArgMatches}
use Rattle.clap.specs.declared.parser.matches.ArgMatches.TheViews.{out-ArgMatches, out-SubCommand}
use Rattle.std.specs.Box.{box_value}
use Rattle.clap.specs.Values.{kind_of}
use Rattle.clap.specs.declared.error.Error.{Error}
use Rattle.clap.specs.declared.error.kind.ErrorKind.{ErrorKind}
use Rattle.clap.specs.declared.error.kind.ErrorKind.TheVariants.{DisplayHelp, DisplayVersion, OutOfMemory}
use Rattle.clap.proofs.OnLiterals.{clap_on_literals}
use Rattle.std.specs.Prelude.{Result}
use Rattle.stm_command_line.specs.CommandLine.{answers_of, are_mistakes, asks_for_run, asks_for_version, command_line, is_help, is_mistake, is_version, number_of_text, number_within, explore_options_said, flag_said, mode_said, options_said, request_fault, request_of, request_said, run_fault, run_on, run_said, storm_fault, AreExploreOptions, HasOptionsInRange}
use Rattle.stm_command_line.specs.WordLaws.{VersionsAreAskedFor}
use Rattle.stm_journal.specs.declared.sync_mode.SyncMode.{SyncMode}
use Rattle.stm_options.specs.declared.options.Options.{Options}
use Rattle.stm_options.specs.Options.{AreRunOptions, default_options}
use Rattle.stm_command_line.specs.declared.command_line.Request.{Request}
use Rattle.stm_command_line.specs.declared.command_line.Request.TheVariants.{Run, Storm, Explore, Check, CheckWhy}

-- clap's answers to any words are exact
exact : is_simple_and_free command_line ≡ true
unfolding clap_on_literals
exact = refl

simple : is_simple command_line ≡ true
unfolding clap_on_literals
simple = refl

-- what clap has to say comes first
first_kind : (kinds others : Kinds) (e : Error) → HasKind kinds e → HasKind (or_else kinds others) e
first_kind [] others e (inl memory) = inl memory
first_kind [] others e (inr h) = absurd h
first_kind (k ∷ ks) others e h = h

first_mistaken : (kinds others : Kinds) → are_mistakes kinds ≡ true → are_mistakes (or_else kinds others) ≡ true
first_mistaken [] others h = absurd (false≢true h)
first_mistaken (k ∷ ks) others h = h

pub mistaken_words : (words : List (List ℕ)) → are_mistakes (fault_of command_line words) ≡ true → are_mistakes (answers_of words) ≡ true
unfolding answers_of
mistaken_words words h = first_mistaken (fault_of command_line words) (request_fault (subcommand_of command_line words)) h

-- if clap takes the words, what is wrong with the request is said
pub request_kinds : (words : List (List ℕ)) (kinds : Kinds) → fault_of command_line words ≡ [] → request_fault (subcommand_of command_line words) ≡ kinds
    → answers_of words ≡ kinds
unfolding answers_of
request_kinds words kinds none is = ap (λ (k : Kinds). or_else k (request_fault (subcommand_of command_line words))) none ∙ is

-- what clap makes of the words: it takes them, or says what is wrong
abbrev pub IsAnsweredByClap : {T : Type 0} → List (List ℕ) → Result T Error → Type 0
IsAnsweredByClap words r = MatchResult r (λ _. fault_of command_line words ≡ []) (HasKind (answers_of words))

clap_answer : {T : Type 0} (words : List (List ℕ)) (r : Result T Error) → FailsBy (fault_of command_line words) r → IsAnsweredByClap words r
unfolding answers_of
clap_answer words (Ok m) h = h
clap_answer words (Err e) h = first_kind (fault_of command_line words) (request_fault (subcommand_of command_line words)) e h

pub clap_answered : {T : Type 0} (a : App) (words : List (List ℕ)) (r : Result T Error) → a ≡ command_line
    → (is_simple_and_free a ≡ true → FailsBy (fault_of a words) r) → IsAnsweredByClap words r
clap_answered a words r same h =
    clap_answer words r (subst (λ (b : App). FailsBy (fault_of b words) r) same (h (ap is_simple_and_free same ∙ exact)))

-- what the subcommand is, if clap takes the words
entered_rows : (a : App) (words : List (List ℕ)) (m : ArgMatches) → a ≡ command_line → HasMatchesOf a words m → subcommand_rows_of m ≡ subcommand_of command_line words
entered_rows a words m same h = (h (ap is_simple same ∙ simple)).1 ∙ ap (λ (b : App). subcommand_of b words) same

-- then only the request can be wrong
request_answered : {T : Type 0} (words : List (List ℕ)) (o : Option (List ℕ × List Row)) (r : Result T Error) → fault_of command_line words ≡ []
    → o ≡ subcommand_of command_line words → FailsBy (request_fault o) r → FailsBy (answers_of words) r
unfolding answers_of
request_answered words o r none same checked =
    subst (λ (kinds : Kinds). FailsBy (or_else kinds (request_fault (subcommand_of command_line words))) r) (sym none)
    (subst (λ (entered : Option (List ℕ × List Row)). FailsBy (request_fault entered) r) same checked)

pub words_answered : {T : Type 0} (a : App) (words : List (List ℕ)) (parse : Result ArgMatches Error) (m : ArgMatches) (r : Result T Error) → a ≡ command_line
    → (is_simple_and_free a ≡ true → FailsBy (fault_of a words) parse) → parse ≡ Ok m → HasMatchesOf a words m → FailsBy (request_fault (subcommand_rows_of m)) r
    → FailsBy (answers_of words) r
words_answered a words parse m r same kinds was matches checked =
    request_answered words (subcommand_rows_of m) r (subst (IsAnsweredByClap words) was (clap_answered a words parse same kinds)) (entered_rows a words m same matches) checked

-- what they ask for is what the matches say
pub requested : (a : App) (words : List (List ℕ)) (m : ArgMatches) (r : Request) → a ≡ command_line → HasMatchesOf a words m
    → r ≡ request_said (subcommand_rows_of m) → r ≡ request_of words
unfolding request_of
requested a words m r same h is = is ∙ ap request_said (entered_rows a words m same h)

-- a run without options has the default ones
run_named : (name word : List ℕ) → word ≡ codes "run" → request_of (name ∷ word ∷ []) ≡ Run default_options
unfolding request_of clap_on_literals
run_named name word e = rw e refl

pub run_requested : (words : List (List ℕ)) → asks_for_run words ≡ true → request_of words ≡ Run default_options
unfolding request_of clap_on_literals
run_requested [] e = refl
run_requested (name ∷ []) e = refl
run_requested (name ∷ word ∷ []) e = run_named name word ((bytes_eq-Decides word (codes "run")).0 e)
run_requested (name ∷ word ∷ next ∷ rest) e = absurd (false≢true e)

run_dashed : (name word : List ℕ) → word ≡ codes "run" → request_of (name ∷ word ∷ codes "--" ∷ []) ≡ Run default_options
unfolding request_of clap_on_literals
run_dashed name word e = rw e refl

pub dashes_requested : (words : List (List ℕ)) → asks_for_run words ≡ true → request_of (words ++ codes "--" ∷ []) ≡ Run default_options
unfolding request_of clap_on_literals
dashes_requested [] e = refl
dashes_requested (name ∷ []) e = refl
dashes_requested (name ∷ word ∷ []) e = run_dashed name word ((bytes_eq-Decides word (codes "run")).0 e)
dashes_requested (name ∷ word ∷ next ∷ rest) e = absurd (false≢true e)

named : (name word : List ℕ) → word ≡ codes "run" → answers_of (name ∷ word ∷ []) ≡ []
unfolding answers_of clap_on_literals
named name word e = rw e refl

-- the words of a run have none
pub run_unanswered : (words : List (List ℕ)) → asks_for_run words ≡ true → answers_of words ≡ []
unfolding answers_of clap_on_literals
run_unanswered [] e = refl
run_unanswered (name ∷ []) e = refl
run_unanswered (name ∷ word ∷ []) e = named name word ((bytes_eq-Decides word (codes "run")).0 e)
run_unanswered (name ∷ word ∷ next ∷ rest) e = absurd (false≢true e)

-- nor with a last word `--`
dashed : (name word : List ℕ) → word ≡ codes "run" → answers_of (name ∷ word ∷ codes "--" ∷ []) ≡ []
unfolding answers_of clap_on_literals
dashed name word e = rw e refl

pub dashes_unanswered : (words : List (List ℕ)) → asks_for_run words ≡ true → answers_of (words ++ codes "--" ∷ []) ≡ []
unfolding answers_of clap_on_literals
dashes_unanswered [] e = refl
dashes_unanswered (name ∷ []) e = refl
dashes_unanswered (name ∷ word ∷ []) e = dashed name word ((bytes_eq-Decides word (codes "run")).0 e)
dashes_unanswered (name ∷ word ∷ next ∷ rest) e = absurd (false≢true e)

-- what is reported of mistakes is one
among : (k : ErrorKind) (kinds : Kinds) → IsAmong k kinds → list_all is_mistake kinds ≡ true → is_mistake k ≡ true
among k [] h e = absurd h
among k (x ∷ xs) (inl same) e = rw same (and_parts _ _ e).0
among k (x ∷ xs) (inr later) e = among k xs later (and_parts _ _ e).1

pub mistake_kind : (kinds : Kinds) (e : Error) → HasKind kinds e → are_mistakes kinds ≡ true → is_mistake (kind_of e) ≡ true
mistake_kind kinds e (inl same) h = rw same refl
mistake_kind [] e (inr h) wrong = absurd h
mistake_kind (k ∷ ks) e (inr h) wrong = among (kind_of e) (k ∷ ks) h wrong

-- ---- the number of an option

-- what a text that is read as a number of 32 bits gives
read_number : (E : Type 0) (text : List ℕ) (x : ℕ) → ParsesUnsigned {E = E} 32 10 text (Ok x) → Some x ≡ number_of_text text
read_number E text x h =
    let below : digits_value 10 (without_leading_plus text) ≤ 4294967295 = omega arith in
    let test : is_unsigned_in 0 4294967295 text ≡ true = Accepts-accepts false (Unsigned 0 4294967295) text (h.0.0, omega arith, omega arith, below) in
    rw (test, h.1) refl

unread_number : (E : Type 0) (text : List ℕ) (e : E) → ParsesUnsigned {E = E} 32 10 text (Err e) → None ≡ number_of_text text
unread_number E text e h = go (is_unsigned_in 0 4294967295 text) refl
  where
    go : (b : Bool) → b ≡ is_unsigned_in 0 4294967295 text → None ≡ cond b (Some (digits_value 10 (without_leading_plus text))) None
    go false is = refl
    go true is = absurd (let in_range = accepts-Accepts false (Unsigned 0 4294967295) text (sym is) in h (in_range.0, omega arith))

-- what the getter reads of an option is the number of its text
pub number_read : {E : Type 0} (gives : List ℕ → Result ℕ E → Type 0) (f : Found) (name : List ℕ) (r : Option ℕ)
    → ((text : List ℕ) (n : Result ℕ E) → gives text n → ParsesUnsigned 32 10 text n)
    → (one_text f name ≡ None → r ≡ None) → ((text : List ℕ) → one_text f name ≡ Some text → ReadsOne gives text r)
    → r ≡ option_and_then number_of_text (one_of name (rows_of f))
number_read {E = E} gives f name r parses none some = go (one_of name (rows_of f)) r (one_text-rows f name) none some
  where
    go : (o : Option (List ℕ)) (r : Option ℕ) → one_text f name ≡ o → (one_text f name ≡ None → r ≡ None)
        → ((text : List ℕ) → one_text f name ≡ Some text → ReadsOne gives text r) → r ≡ option_and_then number_of_text o
    go None r is none some = none is
    go (Some text) (Some x) is none some = read_number E text x (parses text (Ok x) (some text is))
    go (Some text) None is none some = let failed = some text is in unread_number E text failed.0 (parses text (Err failed.0) failed.1)

-- what the getter reads of an option that is said or not
pub flag_read : (f : Found) (name : List ℕ) (o : Option (List ℕ)) (text : List ℕ) → o ≡ first_value f name → text ≡ unwrap_or o []
    → bytes_eq text (codes "true") ≡ flag_said name (rows_of f)
flag_read f name o text e is = ap (λ t. bytes_eq t (codes "true")) is ∙ ap (λ t. bytes_eq (unwrap_or t []) (codes "true")) (e ∙ first_value-rows f name)

-- what the getter reads of an option that takes a text
pub text_read : (f : Found) (name : List ℕ) (o : Option (List ℕ)) → o ≡ first_value f name → o ≡ first_of name (rows_of f)
text_read f name o e = e ∙ first_value-rows f name

-- ---- what is wrong with the request

abbrev entry : {B : Type 0} → (B → List ℕ) → (B → List Row) → B → List ℕ × List Row
entry f g b = (f b, g b)

entered_by : {B : Type 0} (o : Option B) (f : B → List ℕ) (g : B → List Row) (name : List ℕ) (rows : List Row) → Some name ≡ option_map f o
    → Some rows ≡ option_map (λ (p : List ℕ × List Row). p.1) (option_map (entry f g) o) → option_map (entry f g) o ≡ Some (name, rows)
entered_by None f g name rows is are = absurd cc
entered_by (Some b) f g name rows is are =
    let n : f b ≡ name = cc in
    let r : g b ≡ rows = cc in
    rw (n, r) refl

-- the name and the rows of the subcommand, as the getter gives them
pub entered_subcommand : (m : ArgMatches) (name : List ℕ) (rows : List Row) → Some name ≡ subcommand_name_of m
    → Some rows ≡ option_map (λ (p : List ℕ × List Row). p.1) (subcommand_rows_of m) → subcommand_rows_of m ≡ Some (name, rows)
entered_subcommand m name rows is are =
    entered_by (out-ArgMatches m).subcommand (λ b. (out-SubCommand (box_value b)).name.now) (λ b. rows_of (found_of (out-SubCommand (box_value b)).matches)) name rows is are

run_faulted : (o : Option (List ℕ × List Row)) (name : List ℕ) (rows : List Row) → o ≡ Some (name, rows) → bytes_eq name (codes "run") ≡ true → request_fault o ≡ run_fault rows
run_faulted o name rows e is = ap request_fault e ∙ ap (λ b. cond b (run_fault rows) (cond (bytes_eq name (codes "storm")) (storm_fault rows) [])) is

storm_faulted : (o : Option (List ℕ × List Row)) (name : List ℕ) (rows : List Row) → o ≡ Some (name, rows) → bytes_eq name (codes "run") ≡ false
    → bytes_eq name (codes "storm") ≡ true → request_fault o ≡ storm_fault rows
storm_faulted o name rows e isnt is =
    ap request_fault e ∙ ap (λ b. cond b (run_fault rows) (cond (bytes_eq name (codes "storm")) (storm_fault rows) [])) isnt
    ∙ ap (λ b. cond b (storm_fault rows) []) is

pub run_checked : {T : Type 0} (o : Option (List ℕ × List Row)) (name : List ℕ) (rows : List Row) (r : Result T Error) → o ≡ Some (name, rows)
    → bytes_eq name (codes "run") ≡ true → FailsBy (run_fault rows) r → FailsBy (request_fault o) r
run_checked o name rows r e is h = subst (λ (kinds : Kinds). FailsBy kinds r) (sym (run_faulted o name rows e is)) h

pub storm_checked : {T : Type 0} (o : Option (List ℕ × List Row)) (name : List ℕ) (rows : List Row) (r : Result T Error) → o ≡ Some (name, rows)
    → bytes_eq name (codes "run") ≡ false → bytes_eq name (codes "storm") ≡ true → FailsBy (storm_fault rows) r → FailsBy (request_fault o) r
storm_checked o name rows r e isnt is h = subst (λ (kinds : Kinds). FailsBy kinds r) (sym (storm_faulted o name rows e isnt is)) h

-- ---- the options of a run

within : (low high otherwise : ℕ) (o : Option ℕ) → low ≤ otherwise → otherwise ≤ high
    → (low ≤ number_within low high otherwise o) × (number_within low high otherwise o ≤ high)
within low high otherwise None least most = (least, most)
within low high otherwise (Some n) least most = go (nat_le low n) (nat_le n high) refl refl
  where
    go : (a b : Bool) → a ≡ nat_le low n → b ≡ nat_le n high → (low ≤ cond (a && b) n otherwise) × (cond (a && b) n otherwise ≤ high)
    go false b above below = (least, most)
    go true false above below = (least, most)
    go true true above below = (leb-true low n (sym above), leb-true n high (sym below))

abbrev number : List ℕ → List Row → Option ℕ
number name rows = option_and_then number_of_text (one_of name rows)

pub said_in_range : (rows : List Row) → AreRunOptions (options_said rows)
said_in_range rows = record {
  some_worker = (within 1 64 2 (number (codes "workers") rows) (omega arith) (omega arith)).0;
  few_workers = (within 1 64 2 (number (codes "workers") rows) (omega arith) (omega arith)).1;
  few_levels = (within 0 8 0 (number (codes "levels") rows) (omega arith) (omega arith)).1;
  few_events = (within 0 1048576 1048576 (number (codes "max-events") rows) (omega arith) (omega arith)).1;
  some_event = (within 1 1048576 500000 (number (codes "checkpoint-every") rows) (omega arith) (omega arith)).0;
  few_between = (within 1 1048576 500000 (number (codes "checkpoint-every") rows) (omega arith) (omega arith)).1;
}

pub default_in_range : AreRunOptions default_options
default_in_range = record {
  some_worker = omega arith;
  few_workers = omega arith;
  few_levels = omega arith;
  few_events = omega arith;
  some_event = omega arith;
  few_between = omega arith;
}

run_in_range : (file : Option (List ℕ)) (sync : SyncMode) (options : Options) → AreRunOptions options → HasOptionsInRange (run_on file sync options)
run_in_range None sync options h = h
run_in_range (Some file) sync options h = h

explored_in_range : (rows : List Row) → AreExploreOptions (explore_options_said rows)
explored_in_range rows = record {
  some_state = (within 1 4294967295 1000000 (number (codes "max-states") rows) (omega arith) (omega arith)).0;
  few_states = (within 1 4294967295 1000000 (number (codes "max-states") rows) (omega arith) (omega arith)).1;
}

subcommand_in_range : (name : List ℕ) (rows : List Row) → HasOptionsInRange (request_said (Some (name, rows)))
subcommand_in_range name rows = go (flag_said (codes "why") rows) (bytes_eq name (codes "check")) (bytes_eq name (codes "storm")) (bytes_eq name (codes "explore"))
  where
    go : (a b c d : Bool) → HasOptionsInRange (cond b (cond a CheckWhy Check) (cond c (Storm (options_said rows)) (cond d (Explore (explore_options_said rows)) (run_said rows))))
    go true true c d = tt
    go false true c d = tt
    go a false true d = said_in_range rows
    go a false false true = explored_in_range rows
    go a false false false = run_in_range (first_of (codes "journal") rows) (mode_said (first_of (codes "sync") rows)) (options_said rows) (said_in_range rows)

in_range : (p : Option (List ℕ × List Row)) → HasOptionsInRange (request_said p)
in_range None = default_in_range
in_range (Some p) = subcommand_in_range p.0 p.1

-- whatever the words are
pub options_in_range : (words : List (List ℕ)) → HasOptionsInRange (request_of words)
unfolding request_of
options_in_range words = in_range (subcommand_of command_line words)

-- ---- `check`

pub check_unanswered : (name : List ℕ) → answers_of (name ∷ codes "check" ∷ []) ≡ []
unfolding answers_of clap_on_literals
check_unanswered name = refl

pub check_requested : (name : List ℕ) → request_of (name ∷ codes "check" ∷ []) ≡ Check
unfolding request_of clap_on_literals
check_requested name = refl

pub why_unanswered : (name : List ℕ) → answers_of (name ∷ codes "check" ∷ codes "--why" ∷ []) ≡ []
unfolding answers_of clap_on_literals
why_unanswered name = refl

pub why_requested : (name : List ℕ) → request_of (name ∷ codes "check" ∷ codes "--why" ∷ []) ≡ CheckWhy
unfolding request_of clap_on_literals
why_requested name = refl

-- ---- help and the version

version_long : (name : List ℕ) (rest : List (List ℕ)) → asks_for_version (name ∷ codes "--version" ∷ rest) ≡ true
unfolding answers_of clap_on_literals
version_long name rest = refl

version_short : (name : List ℕ) (rest : List (List ℕ)) → asks_for_version (name ∷ codes "-V" ∷ rest) ≡ true
unfolding answers_of clap_on_literals
version_short name rest = refl

pub version_asked : VersionsAreAskedFor
version_asked name rest = (version_long name rest, version_short name rest)

pub help_alone : (kinds : Kinds) → is_help kinds ≡ true → kinds ≡ DisplayHelp ∷ []
help_alone [] h = absurd cc
help_alone (DisplayHelp ∷ []) h = refl
help_alone (kind ∷ kinds) h = absurd cc

pub version_alone : (kinds : Kinds) → is_version kinds ≡ true → kinds ≡ DisplayVersion ∷ []
version_alone [] v = absurd cc
version_alone (DisplayVersion ∷ []) v = refl
version_alone (kind ∷ kinds) v = absurd cc

kind_among : (k : ErrorKind) (e : Error) → HasKind (k ∷ []) e → (kind_of e ≡ OutOfMemory) ⊎ (kind_of e ≡ k)
kind_among k e (inl same) = inl same
kind_among k e (inr (inl same)) = inr same
kind_among k e (inr (inr h)) = absurd h

-- what is printed of a request for help or the version is that, or an out-of-memory error
pub help_kind : (kinds : Kinds) (e : Error) → HasKind kinds e → is_help kinds ≡ true → (kind_of e ≡ OutOfMemory) ⊎ (kind_of e ≡ DisplayHelp)
help_kind kinds e h v = kind_among DisplayHelp e (subst (λ (ks : Kinds). HasKind ks e) (help_alone kinds v) h)

pub version_kind : (kinds : Kinds) (e : Error) → HasKind kinds e → is_version kinds ≡ true → (kind_of e ≡ OutOfMemory) ⊎ (kind_of e ≡ DisplayVersion)
version_kind kinds e h v = kind_among DisplayVersion e (subst (λ (ks : Kinds). HasKind ks e) (version_alone kinds v) h)

-- ---- words that nothing is done for

among_none : (e : Error) → HasKind [] e → kind_of e ≡ OutOfMemory
among_none e (inl same) = same
among_none e (inr h) = absurd h

-- if there is nothing to report, what is reported is an out-of-memory error
pub memory_kind : (kinds : Kinds) (e : Error) → HasKind kinds e → kinds ≡ [] → kind_of e ≡ OutOfMemory
memory_kind kinds e h none = among_none e (subst (λ (ks : Kinds). HasKind ks e) none h)
