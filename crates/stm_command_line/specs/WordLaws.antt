-- Which words ask for a run, a run on a file, a storm, a check or the version, and what they say.
use Rattle.std.specs.Prelude.{◌≡◌, ◌≢◌, ◌↔◌, ◌≤◌, ◌<◌, ◌^◌, ℕ, List, [], ◌∷◌, ◌++◌, codes, decimal, IsTrue}
use Rattle.stm_terms.specs.Limits as limits
use Rattle.stm_command_line.specs.declared.command_line.Request.TheVariants.{Run, RunOn, Storm, Check, CheckWhy}
use Rattle.stm_journal.specs.declared.sync_mode.SyncMode.{SyncMode}
use Rattle.stm_journal.specs.declared.sync_mode.SyncMode.TheVariants.{Full, Sector, Append, Never}
use Rattle.stm_options.specs.declared.options.Options.{Options}
use Rattle.stm_command_line.specs.CommandLine.{answers_of, asks_for_help, asks_for_run, asks_for_version, has_mistake, request_of, HasOptionsInRange}
use Rattle.stm_options.specs.Options.{default_options}

-- of no word at all, of the program's name alone, and of the word `run` after it there is nothing to report, so they ask for a run
abbrev pub RunsAreAccepted : Type 0
RunsAreAccepted = (words : List (List ℕ)) → IsTrue (asks_for_run words) → answers_of words ≡ []

-- nor is there with a last word `--`
abbrev pub LastDashesChangeNothing : Type 0
LastDashesChangeNothing = (words : List (List ℕ)) → IsTrue (asks_for_run words) → answers_of (words ++ codes "--" ∷ []) ≡ []

-- such a run has the default options
abbrev pub RunsHaveDefaults : Type 0
RunsHaveDefaults = (words : List (List ℕ)) → IsTrue (asks_for_run words)
    → (request_of words ≡ Run default_options) × (request_of (words ++ codes "--" ∷ []) ≡ Run default_options)

-- whatever the words are, the options of a run, of a storm and of an exploration are in their ranges
abbrev pub OptionsAreInRange : Type 0
OptionsAreInRange = (words : List (List ℕ)) → HasOptionsInRange (request_of words)

-- ---- storms

-- these words after `run`
abbrev pub run_words : List ℕ → List (List ℕ) → List (List ℕ)
run_words name rest = name ∷ codes "run" ∷ rest

-- these words after `storm`
abbrev pub storm_words : List ℕ → List (List ℕ) → List (List ℕ)
storm_words name rest = name ∷ codes "storm" ∷ rest

-- there is nothing to report of the words, and they ask for a run without a journal, with these options
abbrev pub IsTaken : List (List ℕ) → Options → Type 0
IsTaken words options = (answers_of words ≡ []) × (request_of words ≡ Run options)

-- there is nothing to report of the words, and they ask for a storm with these options
abbrev pub IsTakenAsStorm : List (List ℕ) → Options → Type 0
IsTakenAsStorm words options = (answers_of words ≡ []) × (request_of words ≡ Storm options)

-- `storm` alone after the program's name asks for a storm with the default options
abbrev pub StormsAreAccepted : Type 0
StormsAreAccepted = (name : List ℕ) → IsTakenAsStorm (storm_words name []) default_options

-- what words mean after `storm` is what they mean after `run`, except for a journal
pub record StormIsAsRun (name : List ℕ) (rest : List (List ℕ)) : Type 0 where
  -- they ask for help after both, or after neither
  pub help : asks_for_help (storm_words name rest) ≡ asks_for_help (run_words name rest)
  -- what is wrong after `run` is wrong after `storm`
  pub wrong : IsTrue (has_mistake (run_words name rest)) → IsTrue (has_mistake (storm_words name rest))
  -- they ask for a storm with some options if and only if after `run` they ask for a run without a journal, with the same options
  pub taken : (options : Options) → IsTaken (run_words name rest) options ↔ IsTakenAsStorm (storm_words name rest) options

-- so it is whatever the words are
abbrev pub StormsAreAsRuns : Type 0
StormsAreAsRuns = (name : List ℕ) (rest : List (List ℕ)) → StormIsAsRun name rest

-- a storm has no journal: words that ask for one after `run` are refused after `storm`
abbrev pub StormsHaveNoJournal : Type 0
StormsHaveNoJournal = (name : List ℕ) (rest : List (List ℕ)) (options : Options) (sync : SyncMode) (file : List ℕ)
    → answers_of (run_words name rest) ≡ [] → request_of (run_words name rest) ≡ RunOn options sync file
    → IsTrue (has_mistake (storm_words name rest))

-- ---- checks and the version

-- `check` after the program's name asks for a check, and there is nothing to report of it
abbrev pub ChecksAreAccepted : Type 0
ChecksAreAccepted =
    (name : List ℕ) → (answers_of (name ∷ codes "check" ∷ []) ≡ []) × (request_of (name ∷ codes "check" ∷ []) ≡ Check)

-- with `--why` it asks for what would be accepted instead, too
abbrev pub ChecksWithReasonsAreAccepted : Type 0
ChecksWithReasonsAreAccepted = (name : List ℕ)
    → (answers_of (name ∷ codes "check" ∷ codes "--why" ∷ []) ≡ [])
    × (request_of (name ∷ codes "check" ∷ codes "--why" ∷ []) ≡ CheckWhy)

-- `--version` and `-V` after the program's name ask for the version, whatever follows
abbrev pub VersionsAreAskedFor : Type 0
VersionsAreAskedFor = (name : List ℕ) (rest : List (List ℕ))
    → IsTrue (asks_for_version (name ∷ codes "--version" ∷ rest)) × IsTrue (asks_for_version (name ∷ codes "-V" ∷ rest))

-- ---- numbers of options

-- the words of a run with one option
abbrev pub run_with : List ℕ → List ℕ → ℕ → List (List ℕ)
run_with name option n = name ∷ codes "run" ∷ (option ++ decimal n) ∷ []

-- a number in an option's range is taken, and is that of the run
abbrev pub NumbersAreTaken : Type 0
NumbersAreTaken = (name : List ℕ) (n : ℕ)
    → (1 ≤ n → n ≤ limits.max_workers → IsTaken (run_with name (codes "--workers=") n) (record default_options { workers = n }))
    × (n ≤ limits.max_levels → IsTaken (run_with name (codes "--levels=") n) (record default_options { levels = n }))
    × (n ≤ limits.max_events → IsTaken (run_with name (codes "--max-events=") n) (record default_options { max_events = n }))

-- any other of 64 bits is refused
abbrev pub OthersAreRefused : Type 0
OthersAreRefused = (name : List ℕ) (n : ℕ) → n < 2 ^ 64
    → ((1 ≤ n → n ≤ limits.max_workers → ⊥) → IsTrue (has_mistake (run_with name (codes "--workers=") n)))
    × (limits.max_levels < n → IsTrue (has_mistake (run_with name (codes "--levels=") n)))
    × (limits.max_events < n → IsTrue (has_mistake (run_with name (codes "--max-events=") n)))

-- the words of a run with an option twice, with these values, and with nothing else
abbrev pub run_twice : List ℕ → List ℕ → List ℕ → List ℕ → List (List ℕ)
run_twice name option first second = name ∷ codes "run" ∷ (option ++ first) ∷ (option ++ second) ∷ []

-- such words are refused for each of the options, whatever the values are
abbrev pub NoOptionTwice : Type 0
NoOptionTwice = (name first second : List ℕ)
    → IsTrue (has_mistake (run_twice name (codes "--workers=") first second))
    × IsTrue (has_mistake (run_twice name (codes "--levels=") first second))
    × IsTrue (has_mistake (run_twice name (codes "--max-events=") first second))
    × IsTrue (has_mistake (run_twice name (codes "--journal=") first second))
    × IsTrue (has_mistake (run_twice name (codes "--sync=") first second))
    × IsTrue (has_mistake (run_twice name (codes "--checkpoint-every=") first second))

-- an option that comes first is refused, whatever follows it
abbrev pub OptionsNeedRun : Type 0
OptionsNeedRun = (name : List ℕ) (rest : List (List ℕ))
    → IsTrue (has_mistake (name ∷ codes "--workers" ∷ rest))
    × IsTrue (has_mistake (name ∷ codes "--levels" ∷ rest))
    × IsTrue (has_mistake (name ∷ codes "--max-events" ∷ rest))
    × IsTrue (has_mistake (name ∷ codes "--journal" ∷ rest))
    × IsTrue (has_mistake (name ∷ codes "--sync" ∷ rest))
    × IsTrue (has_mistake (name ∷ codes "--checkpoint-every" ∷ rest))

-- ---- journals

-- there is nothing to report of the words, and they ask for a run on this file with the default options, which is synced so
abbrev pub IsTakenOn : List (List ℕ) → SyncMode → List ℕ → Type 0
IsTakenOn words sync file = (answers_of words ≡ []) × (request_of words ≡ RunOn default_options sync file)

-- `run --journal=FILE` asks for a run on the file, and so does `run --journal FILE` if it doesn't begin with `-` (45)
abbrev pub JournalsAreTaken : Type 0
JournalsAreTaken = (name : List ℕ) (first : ℕ) (rest : List ℕ)
    → IsTakenOn (name ∷ codes "run" ∷ (codes "--journal=" ++ first ∷ rest) ∷ []) Full (first ∷ rest)
    × (first ≢ 45 → IsTakenOn (name ∷ codes "run" ∷ codes "--journal" ∷ (first ∷ rest) ∷ []) Full (first ∷ rest))

-- an empty name is refused
abbrev pub EmptyNamesAreRefused : Type 0
EmptyNamesAreRefused = (name : List ℕ)
    → IsTrue (has_mistake (name ∷ codes "run" ∷ codes "--journal=" ∷ []))
    × IsTrue (has_mistake (name ∷ codes "run" ∷ codes "--journal" ∷ [] ∷ []))

-- the words of a run on a file with a mode
abbrev pub run_synced : List ℕ → List ℕ → List ℕ → List (List ℕ)
run_synced name file mode = name ∷ codes "run" ∷ (codes "--journal=" ++ file) ∷ (codes "--sync=" ++ mode) ∷ []

-- the four modes are taken
abbrev pub ModesAreTaken : Type 0
ModesAreTaken = (name : List ℕ) (first : ℕ) (rest : List ℕ)
    → IsTakenOn (run_synced name (first ∷ rest) (codes "full")) Full (first ∷ rest)
    × IsTakenOn (run_synced name (first ∷ rest) (codes "sector")) Sector (first ∷ rest)
    × IsTakenOn (run_synced name (first ∷ rest) (codes "append")) Append (first ∷ rest)
    × IsTakenOn (run_synced name (first ∷ rest) (codes "none")) Never (first ∷ rest)

-- any other is refused
abbrev pub OtherModesAreRefused : Type 0
OtherModesAreRefused = (name file mode : List ℕ)
    → mode ≢ codes "full" → mode ≢ codes "sector" → mode ≢ codes "append" → mode ≢ codes "none" → IsTrue (has_mistake (run_synced name file mode))

-- and so is a mode without a journal
abbrev pub ModesNeedJournals : Type 0
ModesNeedJournals = (name mode : List ℕ) → IsTrue (has_mistake (name ∷ codes "run" ∷ (codes "--sync=" ++ mode) ∷ []))

-- ---- checkpoints

-- the words of a run on a file that makes a checkpoint at this many events
abbrev pub run_checkpointed : List ℕ → List ℕ → ℕ → List (List ℕ)
run_checkpointed name file n =
    name ∷ codes "run" ∷ (codes "--journal=" ++ file) ∷ (codes "--checkpoint-every=" ++ decimal n) ∷ []

-- a number in the option's range is taken, and is that of the run
abbrev pub CheckpointsAreTaken : Type 0
CheckpointsAreTaken = (name : List ℕ) (first : ℕ) (rest : List ℕ) (n : ℕ) → 1 ≤ n → n ≤ limits.max_events
    → (answers_of (run_checkpointed name (first ∷ rest) n) ≡ [])
    × (request_of (run_checkpointed name (first ∷ rest) n) ≡ RunOn (record default_options { checkpoint_every = n }) Full (first ∷ rest))

-- any other of 64 bits is refused
abbrev pub OtherCheckpointsAreRefused : Type 0
OtherCheckpointsAreRefused = (name file : List ℕ) (n : ℕ) → n < 2 ^ 64 → (1 ≤ n → n ≤ limits.max_events → ⊥)
    → IsTrue (has_mistake (run_checkpointed name file n))

-- and so is any without a journal
abbrev pub CheckpointsNeedJournals : Type 0
CheckpointsNeedJournals = (name text : List ℕ)
    → IsTrue (has_mistake (name ∷ codes "run" ∷ (codes "--checkpoint-every=" ++ text) ∷ []))
