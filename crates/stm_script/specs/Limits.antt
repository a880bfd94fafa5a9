-- Limits of scripts.
use Rattle.std.specs.Prelude.{ℕ}

-- how many sections a script may have
abbrev pub max_sections : ℕ
max_sections = 64
