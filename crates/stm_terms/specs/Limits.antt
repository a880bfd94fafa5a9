-- Limits of the language, of an evaluation, and of a desk.
use Rattle.std.specs.Prelude.{ℕ}

-- the most `TVar` of the type of what a variable holds
abbrev pub most_refs : ℕ
most_refs = 8

-- the most bytes of a name
abbrev pub longest_name : ℕ
longest_name = 32

-- how many levels of `orElse` may be evaluated with both branches at once
abbrev pub max_levels : ℕ
max_levels = 8

-- how many threads may evaluate blocks
abbrev pub max_workers : ℕ
max_workers = 64

-- how many clients there may be
abbrev pub max_clients : ℕ
max_clients = 128

-- how many blocks may wait
abbrev pub max_waiting : ℕ
max_waiting = 65536

-- how many events a history may have
abbrev pub max_events : ℕ
max_events = 1048576
