-- The tickets that are to be evaluated: each is queued, or out with someone who evaluates its block.
use Rattle.std.specs.Prelude.{ℕ, ◌+◌, Bool, true, false, not, ◌&&◌, nat_lt, nat_eq, List, [], ◌∷◌, map, Option, Some, None, if◌then◌else◌}
use Rattle.std.specs.List.{list_any, filter}

-- a ticket, and whether it is out
abbrev pub Entry : Type 0
Entry = ℕ × Bool

-- the tickets in ascending order, and how many more can be added without taking memory
pub record Queue : Type 0 where
  pub entries : List (ℕ × Bool)
  pub room : ℕ

-- the tickets alone
abbrev pub tickets : List Entry → List ℕ
tickets es = map (λ e. e.0) es

-- the ticket is queued or out
abbrev pub has_ticket : ℕ → List Entry → Bool
has_ticket t es = list_any (λ e. nat_eq t e.0) es

-- the ticket is out
abbrev pub is_out : ℕ → List Entry → Bool
is_out t es = list_any (λ e. nat_eq t e.0 && e.1) es

-- the entry before the first whose ticket is above its own
abbrev pub with_entry : Entry → List Entry → List Entry
with_entry e [] = e ∷ []
with_entry e (f ∷ es) = if nat_lt e.0 f.0 then e ∷ f ∷ es else f ∷ with_entry e es

-- the ticket is queued in its place
abbrev pub with_ticket : ℕ → List Entry → List Entry
with_ticket t es = with_entry (t, false) es

-- the other tickets
abbrev pub without_ticket : ℕ → List Entry → List Entry
without_ticket t es = filter (λ e. not (nat_eq t e.0)) es

-- the queue without the ticket; if it was in the list, there is room for one more
abbrev pub removed : ℕ → Queue → Queue
removed t q = record { entries = without_ticket t q.entries; room = if has_ticket t q.entries then q.room + 1 else q.room }

-- the ticket, if it is in the list, is now out, or now queued
abbrev pub marked : ℕ → Bool → List Entry → List Entry
marked t out es = map (λ e. if nat_eq t e.0 then (e.0, out) else e) es

-- the ticket, if it is in the list, is queued
abbrev pub queued_again : ℕ → List Entry → List Entry
queued_again t es = marked t false es

-- the lowest queued ticket
abbrev pub first_queued : List Entry → Option ℕ
first_queued [] = None
first_queued (e ∷ es) = if e.1 then first_queued es else Some e.0

-- the ticket that was taken, if one was, is now out
abbrev pub sent_out : Option ℕ → List Entry → List Entry
sent_out None es = es
sent_out (Some t) es = marked t true es

-- each ticket is queued
abbrev pub recalled : List Entry → List Entry
recalled es = map (λ e. (e.0, false)) es

-- the queued tickets in ascending order
abbrev pub queued : List Entry → List ℕ
queued es = map (λ e. e.0) (filter (λ e. not e.1) es)
