-- What the words of a command line ask for. The first is the program's name.
use Rattle.std.specs.Prelude.{ℕ, Bool, true, false, not, List, [], ◌∷◌, ◌++◌, ◌&&◌, ◌||◌, ◌≡◌, Option, Some, None, Result, Ok, Err, is_some, if◌then◌else◌, codes, nat_le, option_and_then, unwrap_or, ◌≤◌, ⊤, pos}
use Rattle.std.specs.List.{list_all}
use Rattle.std.specs.Str.{bytes_eq}
use Rattle.std.specs.Str.Parse.{digits_value, without_leading_plus}
use Rattle.clap.specs.Walk.{Row, Rule, first_of, one_of}
use Rattle.clap.specs.ValueTests.{is_unsigned_in}
use Rattle.clap.specs.Kinds.{or_else}
use Rattle.clap.specs.Words.{App, HasKind, Kinds, fault_of, new_app, new_rule, subcommand_of, with_rule, with_subcommand}
use Rattle.clap.specs.declared.builder.action.ArgAction.TheVariants.{SetTrue}
use Rattle.clap.specs.declared.builder.value_parser.ValueParser.TheVariants.{NonEmptyString, Signed}
use Rattle.clap.specs.declared.error.Error.{Error}
use Rattle.clap.specs.declared.error.kind.ErrorKind.{ErrorKind}
use Rattle.clap.specs.declared.error.kind.ErrorKind.TheVariants.{DisplayHelp, DisplayVersion, InvalidValue, MissingRequiredArgument, UnknownArgument}
use Rattle.stm_terms.specs.Limits.{max_levels, max_events, max_workers}
use Rattle.stm_command_line.specs.declared.command_line.Request.{Request}
use Rattle.stm_command_line.specs.declared.command_line.Request.TheVariants.{Run, RunOn, Storm, Explore, Check, CheckWhy}
use Rattle.stm_journal.specs.declared.sync_mode.SyncMode.{SyncMode}
use Rattle.stm_journal.specs.declared.sync_mode.SyncMode.TheVariants.{Full, Sector, Append, Never}
use Rattle.stm_options.specs.declared.explore_options.ExploreOptions.{ExploreOptions}
use Rattle.stm_options.specs.declared.options.Options.{Options}
use Rattle.stm_command_line.specs.declared.version.TheConstants.{VERSION}
use Rattle.stm_options.specs.Options.{AreRunOptions, default_options}

-- no word at all, the program's name alone, or the word `run` after it
abbrev pub asks_for_run : List (List ℕ) → Bool
asks_for_run [] = true
asks_for_run (name ∷ []) = true
asks_for_run (name ∷ word ∷ []) = bytes_eq word (codes "run")
asks_for_run (name ∷ word ∷ next ∷ rest) = false

-- ---- what the program takes: `run`, `storm`, `explore` and `check` with their options, and what clap adds for help and the version

-- an option that takes a number from low to high, and its default in digits
abbrev pub number_option : List ℕ → ℕ → ℕ → List ℕ → Rule
number_option name low high default = record (new_rule name) {
  long = Some name;
  value_names = 1;
  defaults = default ∷ [];
  parser = Some (Signed (pos low) (pos high));
}

-- the option `--journal`, which takes a text that isn't empty
abbrev pub journal_option : Rule
journal_option = record (new_rule (codes "journal")) {
  long = Some (codes "journal");
  value_names = 1;
  parser = Some NonEmptyString;
}

-- the option `--sync`, which takes a text
abbrev pub sync_option : Rule
sync_option = record (new_rule (codes "sync")) { long = Some (codes "sync"); value_names = 1 }

-- the option `--checkpoint-every`, which takes a number of events
abbrev pub checkpoint_option : Rule
checkpoint_option = record (new_rule (codes "checkpoint-every")) {
  long = Some (codes "checkpoint-every");
  value_names = 1;
  parser = Some (Signed (pos 1) (pos max_events));
}

-- a command with the options of a run that take numbers: `--workers`, `--levels` and `--max-events`
abbrev pub with_numbers : App → App
with_numbers command = with_rule (with_rule (with_rule command
    (number_option (codes "workers") 1 max_workers (codes "2")))
    (number_option (codes "levels") 0 max_levels (codes "0")))
    (number_option (codes "max-events") 0 max_events (codes "1048576"))

-- a command with all options of a run
abbrev pub with_options : App → App
with_options command = with_rule (with_rule (with_rule (with_numbers command) journal_option) sync_option) checkpoint_option

-- `run` with its options
abbrev pub run_command : App
run_command = with_options (new_app (codes "run"))

-- `storm` with its options; those of a journal are refused below
abbrev pub storm_command : App
storm_command = with_options (new_app (codes "storm"))

-- an option that takes no number: it is said or not
abbrev pub flag_option : List ℕ → Rule
flag_option name = record (new_rule name) { long = Some name; action = Some SetTrue }

-- `explore` with the options of how it searches and what it writes
abbrev pub search_command : App
search_command = with_rule (with_rule (with_rule (new_app (codes "explore"))
    (number_option (codes "max-states") 1 4294967295 (codes "1000000")))
    (flag_option (codes "history")))
    (flag_option (codes "all"))

-- `explore` with its options
abbrev pub explore_command : App
explore_command =
    with_rule (with_rule (with_rule search_command (flag_option (codes "allow-throws"))) (flag_option (codes "trace"))) (flag_option (codes "progress"))

-- `check` with its option
abbrev pub check_command : App
check_command = with_rule (new_app (codes "check")) (flag_option (codes "why"))

-- a command that has a version, so that clap adds `--version` and `-V`
abbrev pub with_version : App → App
with_version command = record command { top = record command.top { has_version = true } }

-- the program with all its commands
abbrev pub command_line : App
command_line = with_subcommand (with_subcommand (with_subcommand (with_subcommand (with_version (new_app (codes "stmdesk")))
    run_command.top) storm_command.top) explore_command.top) check_command.top

-- ---- which words are taken

-- how a file is synced, by the word for it
abbrev pub mode_of : List ℕ → Option SyncMode
mode_of word =
    if bytes_eq word (codes "full") then Some Full
    else if bytes_eq word (codes "sector") then Some Sector
    else if bytes_eq word (codes "append") then Some Append
    else if bytes_eq word (codes "none") then Some Never
    else None

-- what is wrong with the word that is said for `--sync`: it is no mode, or there is no journal
abbrev pub sync_fault : Option (List ℕ) → Bool → Kinds
sync_fault None has_journal = []
sync_fault (Some word) has_journal =
    if not (is_some (mode_of word)) then InvalidValue ∷ []
    else if not has_journal then MissingRequiredArgument ∷ []
    else []

-- whether an option is said that takes a text
abbrev pub is_said : List ℕ → List Row → Bool
is_said name rows = is_some (first_of name rows)

-- what is wrong with `--checkpoint-every` if it is said: there is no journal
abbrev pub checkpoint_fault : Bool → Bool → Kinds
checkpoint_fault has_checkpoint has_journal = if has_checkpoint && not has_journal then MissingRequiredArgument ∷ [] else []

-- what is wrong with the options of a run that clap takes
abbrev pub run_fault : List Row → Kinds
run_fault rows =
    or_else (sync_fault (first_of (codes "sync") rows) (is_said (codes "journal") rows))
    (checkpoint_fault (is_said (codes "checkpoint-every") rows) (is_said (codes "journal") rows))

-- what is wrong with the options of a journal if there can be no journal
abbrev pub journal_fault : Bool → Bool → Bool → Kinds
journal_fault has_journal has_sync has_checkpoint =
    if has_journal || (has_sync || has_checkpoint) then UnknownArgument ∷ [] else []

-- what is wrong with the options of a storm that clap takes
abbrev pub storm_fault : List Row → Kinds
storm_fault rows =
    journal_fault (is_said (codes "journal") rows) (is_said (codes "sync") rows) (is_said (codes "checkpoint-every") rows)

-- what is wrong with a subcommand and its options that clap takes
abbrev pub request_fault : Option (List ℕ × List Row) → Kinds
request_fault None = []
request_fault (Some p) =
    if bytes_eq p.0 (codes "run") then run_fault p.1
    else if bytes_eq p.0 (codes "storm") then storm_fault p.1
    else []

-- what clap has to say of words in place of what they ask for, or else what is wrong with the options of a journal; nothing if they
-- ask for a run, a storm, an exploration or a check
unfoldable pub answers_of : List (List ℕ) → Kinds
answers_of words = or_else (fault_of command_line words) (request_fault (subcommand_of command_line words))

-- the words are wrong, and not a request for help or the version
abbrev pub is_mistake : ErrorKind → Bool
is_mistake DisplayHelp = false
is_mistake DisplayVersion = false
is_mistake _ = true

-- there is something to report, and all of it is that the words are wrong
abbrev pub are_mistakes : Kinds → Bool
are_mistakes [] = false
are_mistakes (kind ∷ kinds) = list_all is_mistake (kind ∷ kinds)

-- clap finds the words wrong
abbrev pub has_mistake : List (List ℕ) → Bool
has_mistake words = are_mistakes (answers_of words)

-- all that there is to print is help
abbrev pub is_help : Kinds → Bool
is_help (DisplayHelp ∷ []) = true
is_help _ = false

-- clap finds a request for help in the words, as `--help`; of the word `help` it promises help or a refusal of what follows
abbrev pub asks_for_help : List (List ℕ) → Bool
asks_for_help words = is_help (answers_of words)

-- all that there is to print is the version
abbrev pub is_version : Kinds → Bool
is_version (DisplayVersion ∷ []) = true
is_version _ = false

-- clap finds a request for the version in the words, `--version` or `-V` as the first option
abbrev pub asks_for_version : List (List ℕ) → Bool
asks_for_version words = is_version (answers_of words)

-- the line that is printed of the version
abbrev pub version_line : List ℕ
version_line = codes "stmdesk " ++ VERSION.now ++ 10 ∷ []

-- ---- what they ask for

-- the number that digits stand for, also after a plus, if it has at most 32 bits
abbrev pub number_of_text : List ℕ → Option ℕ
number_of_text text = if is_unsigned_in 0 4294967295 text then Some (digits_value 10 (without_leading_plus text)) else None

-- a number from low to high; what is meant otherwise, if none is said or it is outside
abbrev pub number_within : ℕ → ℕ → ℕ → Option ℕ → ℕ
number_within low high otherwise None = otherwise
number_within low high otherwise (Some n) = if nat_le low n && nat_le n high then n else otherwise

-- the number that is said for an option, from low to high; clap refuses any other
abbrev pub number_said : List ℕ → ℕ → ℕ → ℕ → List Row → ℕ
number_said name low high otherwise rows =
    number_within low high otherwise (option_and_then number_of_text (one_of name rows))

-- the options that are said for a run or a storm, with the defaults for the others
abbrev pub options_said : List Row → Options
options_said rows = record {
  workers = number_said (codes "workers") 1 max_workers 2 rows;
  levels = number_said (codes "levels") 0 max_levels 0 rows;
  max_events = number_said (codes "max-events") 0 max_events max_events rows;
  checkpoint_every = number_said (codes "checkpoint-every") 1 max_events 500000 rows;
}

-- whether an option is said that takes no number: clap keeps `true` or `false` of it
abbrev pub flag_said : List ℕ → List Row → Bool
flag_said name rows = bytes_eq (unwrap_or (first_of name rows) []) (codes "true")

-- the options that are said for an exploration, with the default for the number of states
abbrev pub explore_options_said : List Row → ExploreOptions
explore_options_said rows = record {
  max_states = number_said (codes "max-states") 1 4294967295 1000000 rows;
  history = flag_said (codes "history") rows;
  all = flag_said (codes "all") rows;
  allow_throws = flag_said (codes "allow-throws") rows;
  trace = flag_said (codes "trace") rows;
  progress = flag_said (codes "progress") rows;
}

-- a check, with what would be accepted instead if that is said
abbrev pub check_said : List Row → Request
check_said rows = if flag_said (codes "why") rows then CheckWhy else Check

-- how the file of a run is synced; `full` if nothing is said
abbrev pub mode_said : Option (List ℕ) → SyncMode
mode_said None = Full
mode_said (Some word) = unwrap_or (mode_of word) Full

-- a run, by the file that is said for its journal, if one is
abbrev pub run_on : Option (List ℕ) → SyncMode → Options → Request
run_on None sync options = Run options
run_on (Some file) sync options = RunOn options sync file

-- a run with the options that are said
abbrev pub run_said : List Row → Request
run_said rows = run_on (first_of (codes "journal") rows) (mode_said (first_of (codes "sync") rows)) (options_said rows)

-- a subcommand, by its name and what is said for its options; without one a run
abbrev pub request_said : Option (List ℕ × List Row) → Request
request_said None = Run default_options
request_said (Some p) =
    if bytes_eq p.0 (codes "check") then check_said p.1
    else if bytes_eq p.0 (codes "storm") then Storm (options_said p.1)
    else if bytes_eq p.0 (codes "explore") then Explore (explore_options_said p.1)
    else run_said p.1

-- what words ask for that are taken: a run, a storm, an exploration or a check, with its options
unfoldable pub request_of : List (List ℕ) → Request
request_of words = request_said (subcommand_of command_line words)

-- an exploration may keep some states, and no more than 32 bits count
pub record AreExploreOptions (o : ExploreOptions) : Type 0 where
  pub some_state : 1 ≤ o.max_states
  pub few_states : o.max_states ≤ 4294967295

-- its options are in their ranges
abbrev pub HasOptionsInRange : Request → Type 0
HasOptionsInRange (Run options) = AreRunOptions options
HasOptionsInRange (RunOn options sync file) = AreRunOptions options
HasOptionsInRange (Storm options) = AreRunOptions options
HasOptionsInRange (Explore options) = AreExploreOptions options
HasOptionsInRange Check = ⊤
HasOptionsInRange CheckWhy = ⊤

-- what comes of reading words
abbrev pub ReadsWords : List (List ℕ) → Result Request Error → Type 0
-- clap prints nothing of them, and this is what they ask for, with its options in their ranges
ReadsWords words (Ok request) = (answers_of words ≡ []) × (request ≡ request_of words) × HasOptionsInRange request
-- clap prints one of these kinds of them, help, the version or what is wrong; or memory ran out
ReadsWords words (Err e) = HasKind (answers_of words) e
