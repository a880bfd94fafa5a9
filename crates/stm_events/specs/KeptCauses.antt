-- Why stale blocks are stale, as a checkpoint keeps it: of a ticket the first finish since its block's last delivery that changed what the
-- block had read, and what that finish left.
use Rattle.std.specs.Prelude.{◌≡◌, ℕ, nat_eq, if◌then◌else◌, List, [], ◌∷◌, Option, Some, None}
use Rattle.stm_events.specs.declared.kept_cause.KeptCause.{KeptCause}

-- of some tickets the cause
abbrev pub KeptCauses : Type 0
KeptCauses = List (ℕ × KeptCause)

-- the cause of a ticket, if it has one
abbrev pub kept_cause_of : ℕ → KeptCauses → Option KeptCause
kept_cause_of t [] = None
kept_cause_of t (c ∷ cs) = if nat_eq t c.0 then Some c.1 else kept_cause_of t cs

-- the causes after a ticket gets this one, in place of the one that it had
abbrev pub with_cause : ℕ → KeptCause → KeptCauses → KeptCauses
with_cause t cause cs = (t, cause) ∷ cs

-- these have the same cause of each ticket, in whatever order
abbrev pub AreSameCauses : KeptCauses → KeptCauses → Type 0
AreSameCauses cs cs' = (t : ℕ) → kept_cause_of t cs ≡ kept_cause_of t cs'
