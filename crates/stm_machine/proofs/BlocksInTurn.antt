-- What a machine keeps of the blocks of a checkpoint, as they are gone through one after another.
use Rattle.std.proofs.Common.{◌≡◌, ℕ, ◌+◌, ◌<◌, Bool, true, false, ◌||◌, List, [], ◌∷◌, ◌++◌, map, drop, get_or, length, refl, sym, ap, subst, ◌∙◌, arith}
use Rattle.std.specs.FinSet as set
use Rattle.std.specs.Prelude.{nat_eq}
use Rattle.std.proofs.lemmas.Bool.Decides.{nat_tests}
use Rattle.std.proofs.lemmas.List.{at_drop_more}
use Rattle.std.proofs.lemmas.Bool.{or_from}
use Rattle.stm_watch.specs.Pairs.{Pairs, pair_cmp, has_pair}
use Rattle.stm_queue.specs.Queue.{Entry, has_ticket, with_ticket}
use Rattle.stm_queue.specs.SortedTickets.{member}
use Rattle.stm_queue.proofs.Merging.{has_with}
use Rattle.stm_waiting.specs.declared.waiting.Waiting.{Waiting}
use Rattle.stm_waiting.specs.Entries.{AllBelow}
use Rattle.stm_machine.specs.declared.checkpoint.CheckpointBlock.{CheckpointBlock}
use Rattle.stm_machine.specs.CheckpointEntries.{TicketsAscend, entry_of, is_due_block, watches_variable, is_ready_block, has_block}
use Rattle.stm_machine.specs.SettleChoices.{some_out}
use Rattle.stm_machine.proofs.BlocksByTicket.{below_more, below_push, named_more, named_same, out_with, above_with}

pub drop_at : (bs : List CheckpointBlock) (i : ℕ) (b : CheckpointBlock) → i < length bs → b ≡ get_or bs i b → drop i bs ≡ b ∷ drop (i + 1) bs
drop_at bs i b l e = at_drop_more (λ (xs : List CheckpointBlock). xs) bs i b l ∙ ap (λ (x : CheckpointBlock). x ∷ drop (i + 1) bs) (sym e)

-- ---- the entries
pub record AreEntries (all left : List CheckpointBlock) (es : List (ℕ × Waiting)) : Type 0 where
  pub entries : es ++ map entry_of left ≡ map entry_of all
  pub last : ℕ
  pub rises : TicketsAscend last left
  pub below : AllBelow (last + 1) es

regroup : (es : List (ℕ × Waiting)) (e : ℕ × Waiting) (rest : List (ℕ × Waiting)) → (es ++ e ∷ []) ++ rest ≡ es ++ e ∷ rest
regroup [] e rest = refl
regroup (d ∷ es) e rest = ap (λ (xs : List (ℕ × Waiting)). d ∷ xs) (regroup es e rest)

pub entry_below : (all left rest : List CheckpointBlock) (b : CheckpointBlock) (es : List (ℕ × Waiting)) → left ≡ b ∷ rest → AreEntries all left es → AllBelow b.ticket es
entry_below all left rest b es e a =
    let r : TicketsAscend a.last (b ∷ rest) = subst (TicketsAscend a.last) e a.rises in
    let l : a.last < b.ticket = r.0 in
    below_more (a.last + 1) b.ticket es (omega arith) a.below

pub entry_next : (all left rest : List CheckpointBlock) (b : CheckpointBlock) (es fs : List (ℕ × Waiting)) → left ≡ b ∷ rest → fs ≡ es ++ entry_of b ∷ [] → AreEntries all left es → AreEntries all rest fs
entry_next all left rest b es fs e f a =
    let r : TicketsAscend a.last (b ∷ rest) = subst (TicketsAscend a.last) e a.rises in
    let l : a.last < b.ticket = r.0 in
    record {
      entries =
          ap (λ (xs : List (ℕ × Waiting)). xs ++ map entry_of rest) f ∙ regroup es (entry_of b) (map entry_of rest)
          ∙ ap (λ (bs : List CheckpointBlock). es ++ map entry_of bs) (sym e) ∙ a.entries;
      last = b.ticket;
      rises = r.1;
      below = subst (AllBelow (b.ticket + 1)) (sym f) (below_push (b.ticket + 1) (entry_of b) es (below_more (a.last + 1) (b.ticket + 1) es (omega arith) a.below) (omega arith));
    }

-- ---- the queue
pub record AreDueTickets (all left : List CheckpointBlock) (es : List Entry) : Type 0 where
  pub due : (t : ℕ) → (has_ticket t es || has_block is_due_block t left) ≡ has_block is_due_block t all
  pub last : ℕ
  pub rises : TicketsAscend last left
  pub none_above : (t : ℕ) → last < t → has_ticket t es ≡ false
  pub none_out : some_out es ≡ false

due_more : (all left rest : List CheckpointBlock) (b : CheckpointBlock) (es : List Entry) → left ≡ b ∷ rest → is_due_block b ≡ true → AreDueTickets all left es → AreDueTickets all rest (with_ticket b.ticket es)
due_more all left rest b es e f a =
    let r : TicketsAscend a.last (b ∷ rest) = subst (TicketsAscend a.last) e a.rises in
    let l : a.last < b.ticket = r.0 in
    record {
      due = λ t.
          ap (λ (x : Bool). x || has_block is_due_block t rest) (has_with t (b.ticket, false) es)
          ∙ named_more (has_ticket t es) (nat_eq t b.ticket) (is_due_block b) (has_block is_due_block t rest) _ f (ap (λ (bs : List CheckpointBlock). has_ticket t es || has_block is_due_block t bs) (sym e) ∙ a.due t);
      last = b.ticket;
      rises = r.1;
      none_above = λ t h. above_with t b.ticket es h (a.none_above t (omega arith));
      none_out = out_with b.ticket es ∙ a.none_out;
    }

pub due_next : (all left rest : List CheckpointBlock) (b : CheckpointBlock) (es fs : List Entry) → left ≡ b ∷ rest → is_due_block b ≡ true → fs ≡ with_ticket b.ticket es → AreDueTickets all left es → AreDueTickets all rest fs
due_next all left rest b es fs e f g a = subst (AreDueTickets all rest) (sym g) (due_more all left rest b es e f a)

due_same : (all left rest : List CheckpointBlock) (b : CheckpointBlock) (es : List Entry) → left ≡ b ∷ rest → is_due_block b ≡ false → AreDueTickets all left es → AreDueTickets all rest es
due_same all left rest b es e f a =
    let r : TicketsAscend a.last (b ∷ rest) = subst (TicketsAscend a.last) e a.rises in
    let l : a.last < b.ticket = r.0 in
    record {
      due = λ t. named_same (has_ticket t es) (nat_eq t b.ticket) (is_due_block b) (has_block is_due_block t rest) _ f (ap (λ (bs : List CheckpointBlock). has_ticket t es || has_block is_due_block t bs) (sym e) ∙ a.due t);
      last = b.ticket;
      rises = r.1;
      none_above = λ t h. a.none_above t (omega arith);
      none_out = a.none_out;
    }

pub due_passed : (all left rest : List CheckpointBlock) (b : CheckpointBlock) (es fs : List Entry) → left ≡ b ∷ rest → is_due_block b ≡ false → fs ≡ es → AreDueTickets all left es → AreDueTickets all rest fs
due_passed all left rest b es fs e f g a = subst (AreDueTickets all rest) (sym g) (due_same all left rest b es e f a)

-- ---- the blocks that could finish
pub record AreReadyTickets (all left : List CheckpointBlock) (ts : List ℕ) : Type 0 where
  pub ready : (t : ℕ) → (member t ts || has_block is_ready_block t left) ≡ has_block is_ready_block t all
  pub last : ℕ
  pub rises : TicketsAscend last left
  pub none_above : (t : ℕ) → last < t → member t ts ≡ false

above : (t n : ℕ) → n < t → nat_eq t n ≡ false
above t n l = grind (arith, nat_tests)

pub ready_next : (all left rest : List CheckpointBlock) (b : CheckpointBlock) (ts us : List ℕ) → left ≡ b ∷ rest → is_ready_block b ≡ true → ((u : ℕ) → member u us ≡ (nat_eq u b.ticket || member u ts))
    → AreReadyTickets all left ts → AreReadyTickets all rest us
ready_next all left rest b ts us e f more a =
    let r : TicketsAscend a.last (b ∷ rest) = subst (TicketsAscend a.last) e a.rises in
    let l : a.last < b.ticket = r.0 in
    record {
      ready = λ t.
          ap (λ (x : Bool). x || has_block is_ready_block t rest) (more t)
          ∙ named_more (member t ts) (nat_eq t b.ticket) (is_ready_block b) (has_block is_ready_block t rest) _ f (ap (λ (bs : List CheckpointBlock). member t ts || has_block is_ready_block t bs) (sym e) ∙ a.ready t);
      last = b.ticket;
      rises = r.1;
      none_above = λ t h. more t ∙ or_from (nat_eq t b.ticket) (member t ts) (above t b.ticket h) (a.none_above t (omega arith));
    }

ready_same : (all left rest : List CheckpointBlock) (b : CheckpointBlock) (ts : List ℕ) → left ≡ b ∷ rest → is_ready_block b ≡ false → AreReadyTickets all left ts → AreReadyTickets all rest ts
ready_same all left rest b ts e f a =
    let r : TicketsAscend a.last (b ∷ rest) = subst (TicketsAscend a.last) e a.rises in
    let l : a.last < b.ticket = r.0 in
    record {
      ready = λ t. named_same (member t ts) (nat_eq t b.ticket) (is_ready_block b) (has_block is_ready_block t rest) _ f (ap (λ (bs : List CheckpointBlock). member t ts || has_block is_ready_block t bs) (sym e) ∙ a.ready t);
      last = b.ticket;
      rises = r.1;
      none_above = λ t h. a.none_above t (omega arith);
    }

pub ready_passed : (all left rest : List CheckpointBlock) (b : CheckpointBlock) (ts us : List ℕ) → left ≡ b ∷ rest → is_ready_block b ≡ false → us ≡ ts → AreReadyTickets all left ts → AreReadyTickets all rest us
ready_passed all left rest b ts us e f g a = subst (AreReadyTickets all rest) (sym g) (ready_same all left rest b ts e f a)

-- ---- the index
abbrev pub AreRead : List CheckpointBlock → List CheckpointBlock → Pairs → Type 0
AreRead all left watch = (v t : ℕ) → (has_pair watch v t || has_block (watches_variable v) t left) ≡ has_block (watches_variable v) t all

pub read_start : (all : List CheckpointBlock) → AreRead all all set.empty
read_start all = λ v t. ap (λ (x : Bool). x || has_block (watches_variable v) t all) (set.contains-empty pair_cmp (v, t))
