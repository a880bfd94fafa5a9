-- The slow desk: which events it allows, and how each acts. It runs each block from scratch on a plain store, and keeps no
-- reads, no verdicts and no index. Its rule says which variables of a block that finishes make their readers stale: those
-- whose values it changed (`Changed`, the present rule), or all that it wrote (`Written`, the rule of earlier histories).
use Rattle.std.specs.Prelude.{◌≡◌, ℕ, ◌+◌, ◌<◌, ◌≤◌, Bool, true, false, not, ◌&&◌, nat_eq, if◌then◌else◌, List, [], ◌∷◌, ◌++◌, map, filter, length, Option, Some, None, IsSomeAnd, IsTrue}
use Rattle.std.specs.List.{list_any}
use Rattle.stm_terms.specs.declared.kinds.Ty.{Ty}
use Rattle.stm_terms.specs.declared.values.Ref.TheVariants.{New as NewRef}
use Rattle.stm_terms.specs.declared.values.Value.{Value}
use Rattle.stm_terms.specs.declared.values.Value.TheVariants.{Var}
use Rattle.stm_terms.specs.declared.verdicts.Verdict.{Verdict}
use Rattle.stm_terms.specs.declared.verdicts.Verdict.TheVariants.{Commits, Throws, Blocks}
use Rattle.stm_terms.specs.Changes.{Variables, cell_value}
use Rattle.stm_terms.specs.Limits.{max_waiting, max_events, max_clients}
use Rattle.stm_terms.specs.Names.{is_name_text}
use Rattle.stm_terms.specs.ReadSet.{looks_of}
use Rattle.stm_terms.specs.Verdict.{verdict}
use Rattle.stm_store.specs.declared.cell.Cell.{Cell}
use Rattle.stm_store.specs.Cells.{most_cells, plains, Covers, applied, changed_by, made_by}
use Rattle.stm_store.specs.Naming.{Named, number_named, named_in_table, may_hold_known}
use Rattle.stm_store.specs.Tables.{Declared, opened}
use Rattle.stm_check.specs.TypedBlock.{Block}
use Rattle.stm_events.specs.declared.event.Event.{Event}
use Rattle.stm_events.specs.declared.event.What.{What}
use Rattle.stm_events.specs.declared.event.What.TheVariants.{Submitted, Installed, Finished, Cancelled, Declared as DeclaredLate, Labelled}
use Rattle.stm_events.specs.declared.staleness.StalenessRule.{StalenessRule}
use Rattle.stm_events.specs.declared.staleness.StalenessRule.TheVariants.{Written, Changed}
use Rattle.stm_events.specs.Labels.{is_label}

-- the variables of a store, as blocks see them
abbrev pub under : List Cell → Variables
under store = cell_value (plains store)

-- the verdict of a block, run from scratch on a store
abbrev pub verdict_on : List Cell → Block → Option Verdict
verdict_on store block = verdict (under store) block.tree

-- the variables that a block reads on a store
abbrev pub looked_on : List Cell → Block → List ℕ
looked_on store block = looks_of (under store) block.tree

-- the variables that a verdict writes
abbrev pub written_in : Verdict → List ℕ
written_in (Commits writes news result) = map (λ w. w.0) writes
written_in (Throws f) = []
written_in Blocks = []

-- the variables of a verdict that make their readers stale when it takes effect on a store
abbrev pub waking : StalenessRule → List Cell → Verdict → List ℕ
waking Written store v = written_in v
waking Changed store v = changed_by store v

-- by this verdict the block blocks
abbrev pub is_blocks : Verdict → Bool
is_blocks (Commits writes news result) = false
is_blocks (Throws f) = false
is_blocks Blocks = true

-- the store at the last accepted delivery, and the variables by which blocks that finished after it make their readers stale
pub record Since : Type 0 where
  pub store_then : List Cell
  pub woken : List ℕ

-- a block that waits under a ticket, with its last accepted delivery, if there was one
pub record Waiter : Type 0 where
  pub ticket : ℕ
  pub block : Block
  pub since : Option Since

-- the slow desk: its rule, which no event changes, its store, the names of variables, the next ticket, and the waiting blocks, the
-- first submitted first
pub record Slow : Type 0 where
  pub rule : StalenessRule
  pub store : List Cell
  pub names : List Named
  pub next : ℕ
  pub waiters : List Waiter

-- some variable is in both lists
abbrev pub intersects : List ℕ → List ℕ → Bool
intersects woken looked = list_any (λ i. list_any (nat_eq i) woken) looked

-- the block read one of these variables at its delivery
abbrev pub is_stale_since : Block → Since → Bool
is_stale_since block s = intersects s.woken (looked_on s.store_then block)

-- there was no delivery
abbrev pub is_new_since : Option Since → Bool
is_new_since None = true
is_new_since (Some s) = false

-- there was a delivery, and nothing since then made the block stale
abbrev pub current_since : Block → Option Since → Bool
current_since block None = false
current_since block (Some s) = not (is_stale_since block s)

-- no delivery was accepted yet
abbrev pub is_new : Waiter → Bool
is_new w = is_new_since w.since

-- its last delivery still counts; otherwise it is new or stale
abbrev pub is_current : Waiter → Bool
is_current w = current_since w.block w.since

-- the variables join those since the delivery
abbrev pub woken_more : List ℕ → Option Since → Option Since
woken_more woken None = None
woken_more woken (Some s) = Some (record s { woken = s.woken ++ woken })

-- a waiting block after another one has finished that makes the readers of these variables stale
abbrev pub after_writes : List ℕ → Waiter → Waiter
after_writes woken w = record w { since = woken_more woken w.since }

-- the block is current, and these variables make it stale
abbrev pub becomes_stale : List ℕ → Waiter → Bool
becomes_stale woken w = is_current w && not (is_current (after_writes woken w))

-- the block that waits under a ticket
abbrev pub find_waiter : ℕ → List Waiter → Option Waiter
find_waiter t [] = None
find_waiter t (w ∷ ws) = if nat_eq t w.ticket then Some w else find_waiter t ws

-- the waiting blocks without the one under a ticket
abbrev pub without_waiter : ℕ → List Waiter → List Waiter
without_waiter t [] = []
without_waiter t (w ∷ ws) = if nat_eq t w.ticket then ws else w ∷ without_waiter t ws

-- a waiting block with a delivery that was accepted on this store
abbrev pub with_delivery : List Cell → Waiter → Waiter
with_delivery store w = record w { since = Some (record { store_then = store; woken = [] }) }

-- the waiting blocks with a delivery to the one under a ticket
abbrev pub delivered : ℕ → List Cell → List Waiter → List Waiter
delivered t store [] = []
delivered t store (w ∷ ws) = if nat_eq t w.ticket then with_delivery store w ∷ ws else w ∷ delivered t store ws

-- the tickets of those that are current and that these variables make stale
abbrev pub stale_after : List ℕ → List Waiter → List ℕ
stale_after woken ws = map (λ w. w.ticket) (filter (becomes_stale woken) ws)

-- how many variables a store may have
abbrev pub max_cells : ℕ
max_cells = most_cells

-- the commit of a block that makes one variable and does nothing else, as `newTVar` does
abbrev pub declaration : Ty → Value → Verdict
declaration kind value = Commits [] ((kind, value) ∷ []) (Var (NewRef 0))

-- the names with one more, which is that of the next variable of the store
abbrev pub with_name : Slow → List ℕ → Ty → List Named
with_name s name kind = s.names ++ record { name = name; number = length s.store; kind = kind } ∷ []

-- how an event acts: a variable that is declared is the next one of the store, and wakes nobody; a label changes nothing
abbrev pub after : Slow → What → Slow
after s (Submitted t block) =
    record s { next = s.next + 1; waiters = s.waiters ++ record { ticket = t; block = block; since = None } ∷ [] }
after s (Installed t v) = record s { waiters = delivered t s.store s.waiters }
after s (Finished t v n stale) =
    record s { store = applied s.store v; waiters = map (after_writes (waking s.rule s.store v)) (without_waiter t s.waiters) }
after s (Cancelled t) = record s { waiters = without_waiter t s.waiters }
after s (DeclaredLate name kind value) =
    record s { store = applied s.store (declaration kind value); names = with_name s name kind }
after s (Labelled t label) = s

-- a block may be installed: it isn't current, and the verdict is the one that it has on the present store
pub record MayInstall (s : Slow) (w : Waiter) (v : Verdict) : Type 0 where
  pub not_current : is_current w ≡ false
  pub verdict_is : verdict_on s.store w.block ≡ Some v

-- a block may finish with these fields
pub record MayFinish (s : Slow) (t : ℕ) (w : Waiter) (v : Verdict) (n : ℕ) (stale : List ℕ) : Type 0 where
  pub current : is_current w ≡ true
  pub verdict_is : verdict_on s.store w.block ≡ Some v
  pub ends : is_blocks v ≡ false
  pub first_new : n ≡ length s.store
  pub room : length s.store + length (made_by v) ≤ max_cells
  pub listed : stale ≡ stale_after (waking s.rule s.store v) (without_waiter t s.waiters)

-- a variable may be declared: its name is one of the language, and no other variable's; it has a type of at most 8 `TVar` and a
-- value of it, so a reference is to a variable that has a name; and the store has room
pub record MayDeclareLate (s : Slow) (name : List ℕ) (kind : Ty) (value : Value) : Type 0 where
  pub name_is : IsTrue (is_name_text name)
  pub fresh : number_named name s.names ≡ None
  pub holds : may_hold_known s.names kind value ≡ true
  pub room : length s.store < max_cells

-- the slow desk allows what happens
abbrev pub Allows : Slow → What → Type 0
Allows s (Submitted t block) = (t ≡ s.next) × Covers (plains s.store) block.uses × (length s.waiters < max_waiting)
Allows s (Installed t v) = IsSomeAnd (find_waiter t s.waiters) (λ w. MayInstall s w v)
Allows s (Finished t v n stale) = IsSomeAnd (find_waiter t s.waiters) (λ w. MayFinish s t w v n stale)
Allows s (Cancelled t) = IsSomeAnd (find_waiter t s.waiters) (λ w. Unit {0})
Allows s (DeclaredLate name kind value) = MayDeclareLate s name kind value
Allows s (Labelled t label) = IsSomeAnd (find_waiter t s.waiters) (λ w. is_label label ≡ true)

-- it allows the event, of a client
pub record AllowsEvent (s : Slow) (e : Event) : Type 0 where
  pub client : e.client < max_clients
  pub what : Allows s e.what

-- the declared variables, and nothing waits
abbrev pub initial_state : StalenessRule → List Declared → Slow
initial_state rule table =
    record { rule = rule; store = opened table; names = named_in_table table; next = 1; waiters = [] }

-- the state after these events, which begin on a state
abbrev pub state_from : Slow → List Event → Slow
state_from s [] = s
state_from s (e ∷ es) = state_from (after s e.what) es

-- what a history makes of a table, by a rule
abbrev pub state_by : StalenessRule → List Declared → List Event → Slow
state_by rule table history = state_from (initial_state rule table) history

-- what a history makes of a table, by the present rule
abbrev pub state : List Declared → List Event → Slow
state = state_by Changed

-- each of these events is allowed in its turn, from a state on
abbrev pub LegalFrom : Slow → List Event → Type 0
LegalFrom s [] = Unit {0}
LegalFrom s (e ∷ es) = AllowsEvent s e × LegalFrom (after s e.what) es

-- each event in turn is allowed, by a rule, and there are no more than there may be
pub record IsLegalBy (rule : StalenessRule) (table : List Declared) (history : List Event) : Type 0 where
  pub each : LegalFrom (initial_state rule table) history
  pub few : length history ≤ max_events

-- each event in turn is allowed, by the present rule, and there are no more than there may be
abbrev pub IsLegal : List Declared → List Event → Type 0
IsLegal = IsLegalBy Changed

-- the status of a waiting block: new, or stale or current with a verdict, that of its delivery if it is stale and that on
-- the present store if it is current
pub data Standing : Type 0 where
  New : Standing
  Stale : Option Verdict → Standing
  Current : Option Verdict → Standing

-- how a block stands, by its last delivery
abbrev pub standing_since : List Cell → Block → Option Since → Standing
standing_since store block None = New
standing_since store block (Some s) =
    if is_stale_since block s then Stale (verdict_on s.store_then block) else Current (verdict_on store block)

-- how a waiting block stands on the present store
abbrev pub standing : List Cell → Waiter → Standing
standing store w = standing_since store w.block w.since

-- how a block stands, by its last delivery, with the verdict of the delivery for a current block too
abbrev pub weak_since : Block → Option Since → Standing
weak_since block None = New
weak_since block (Some s) =
    if is_stale_since block s then Stale (verdict_on s.store_then block) else Current (verdict_on s.store_then block)

-- how a waiting block stands, with the verdict of its delivery if it is stale or current
abbrev pub weak_standing : Waiter → Standing
weak_standing w = weak_since w.block w.since

-- the store after a verdict, if there is one
abbrev pub applied_or : List Cell → Option Verdict → List Cell
applied_or store (Some v) = applied store v
applied_or store None = store

-- what changes the store, in its turn: a block runs and finishes, or a variable is declared
pub data SerialStep : Type 0 where
  Runs : Block → SerialStep
  Declares : Ty → Value → SerialStep

-- the store after a turn: a block's verdict is applied, or the variable is made
abbrev pub after_turn : List Cell → SerialStep → List Cell
after_turn store (Runs b) = applied_or store (verdict_on store b)
after_turn store (Declares kind value) = applied store (declaration kind value)

-- the store after each of these turns: each block has run alone
abbrev pub serial : List Cell → List SerialStep → List Cell
serial store [] = store
serial store (t ∷ ts) = serial (after_turn store t) ts

-- the block of a waiter runs, if there is one
abbrev pub turns_of_waiter : Option Waiter → List SerialStep
turns_of_waiter (Some w) = Runs w.block ∷ []
turns_of_waiter None = []

-- the block that finishes by this runs, or the variable is declared, if one is
abbrev pub turns_by : Slow → What → List SerialStep
turns_by s (Submitted t block) = []
turns_by s (Installed t v) = []
turns_by s (Finished t v n stale) = turns_of_waiter (find_waiter t s.waiters)
turns_by s (Cancelled t) = []
turns_by s (DeclaredLate name kind value) = Declares kind value ∷ []
turns_by s (Labelled t label) = []

-- the turns of these events, in order: the blocks that finish, and the variables that are declared
abbrev pub serial_steps_from : Slow → List Event → List SerialStep
serial_steps_from s [] = []
serial_steps_from s (e ∷ es) = turns_by s e.what ++ serial_steps_from (after s e.what) es
