-- A text written part by part.
use Rattle.std.proofs.Common.{ℕ, zero, suc, IfSome, ◌+◌, ◌-◌, List, length, arith, ap, ◌∙◌, ◌++◌, take, drop, Option, Some, sym, subst, append_assoc, [], ◌∷◌, ◌≡◌, ◌<◌, get_or, refl, add-one}
use Rattle.std.specs.Prelude.{slice_get}
use Rattle.std.proofs.Math.Seq.{take-length, take-suc, drop-cons}
use Rattle.std.proofs.lemmas.List.{length-drop, length-take, take-append-drop}
use Rattle.std.proofs.KnownBytes.{Appends-trans}
use Rattle.std.specs.Io.KnownBytes.{Appends}
use Rattle.stm_store.specs.declared.cell.Cell.{Cell}
use Rattle.stm_store.specs.Naming.{Named, name_numbered}
use Rattle.stm_store.specs.Tables.{Declared}
use Rattle.stm_events.specs.declared.event.Event.{Event}
use Rattle.stm_machine.specs.declared.checkpoint.CheckpointBlock.{CheckpointBlock}
use Rattle.stm_machine.specs.Checkpoints.{CheckpointView}
use Rattle.stm_event_lines.specs.CheckpointLines.{cell_line, checkpoint_header_line}
use Rattle.stm_event_lines.specs.Lines.{event_line, header_line, variable_line}
use Rattle.stm_history_text.specs.HistoryText.{block_line, block_lines, cell_lines, cell_lines_from, checkpoint_text, history_text, event_lines, head_text, variable_lines}
use Rattle.stm_lines.specs.WrittenFronts.{WritesFront}

-- the rest of a slice
pub drop-all : (at : ℕ) (text : List ℕ) → take (length text - at) (drop at text) ≡ drop at text
drop-all at text = ap (λ n. take n (drop at text)) (sym (length-drop at text)) ∙ take-length (drop at text)

-- one text after another
pub part_after : (a b c : Option (List ℕ)) (first second : List ℕ) → Appends a b first → WritesFront b c second → WritesFront a c (first ++ second)
part_after a b c first second p q = (first ++ q.0, (q.1.0, ap (λ x. first ++ x) q.1.1 ∙ sym (append_assoc first q.0 q.1.0)), Appends-trans a b c _ _ p q.2)

-- the front of a text is one of all that follows too
pub part_within : (a b : Option (List ℕ)) (first second : List ℕ) → WritesFront a b first → WritesFront a b (first ++ second)
part_within a b first second q = (q.0, (q.1.0 ++ second, ap (λ x. x ++ second) q.1.1 ∙ append_assoc q.0 q.1.0 second), q.2)

-- a list, cut at one of its items
pub cut_at : {A : Type 0} (xs : List A) (i : ℕ) (x : A) → i < length xs → x ≡ get_or xs i x → xs ≡ take i xs ++ x ∷ drop (i + 1) xs
cut_at xs i x h e =
    let next : drop i xs ≡ get_or xs i x ∷ drop (i + 1) xs = rw add-one (drop-cons xs i x h) in
    sym (take-append-drop i xs) ∙ ap (λ l. take i xs ++ l) next ∙ ap (λ y. take i xs ++ y ∷ drop (i + 1) xs) (sym e)

pub next_at : {A : Type 0} (xs : List A) (i : ℕ) (x : A) → i < length xs → x ≡ get_or xs i x → take (i + 1) xs ≡ take i xs ++ x ∷ []
next_at xs i x h e =
    let next : take (i + 1) xs ≡ take i xs ++ get_or xs i x ∷ [] = rw add-one (take-suc xs i x h) in
    next ∙ ap (λ y. take i xs ++ y ∷ []) (sym e)

pub whole_of : {A : Type 0} (g : List A → List ℕ) → ((xs ys : List A) → g (xs ++ ys) ≡ g xs ++ g ys) → (xs : List A) (i : ℕ) (x : A) → i < length xs → x ≡ get_or xs i x
    → (a b c : Option (List ℕ)) → Appends a b (g (take i xs)) → Appends b c (g (x ∷ [])) → Appends a c (g (take (i + 1) xs))
whole_of g append xs i x h e a b c p q = subst (Appends a c) (sym (ap g (next_at xs i x h e) ∙ append _ _)) (Appends-trans a b c _ _ p q)

pub part_of : {A : Type 0} (g : List A → List ℕ) → ((xs ys : List A) → g (xs ++ ys) ≡ g xs ++ g ys) → (xs : List A) (i : ℕ) (x : A) → i < length xs → x ≡ get_or xs i x
    → (a b c : Option (List ℕ)) → Appends a b (g (take i xs)) → WritesFront b c (g (x ∷ [])) → WritesFront a c (g xs)
part_of g append xs i x h e a b c p q =
    let text : g xs ≡ g (take i xs) ++ (g (x ∷ []) ++ g (drop (i + 1) xs)) =
    ap g (cut_at xs i x h e) ∙ append _ _ ∙ ap (λ l. g (take i xs) ++ l) (append (x ∷ []) (drop (i + 1) xs)) in
    subst (WritesFront a c) (sym text) (part_after a b c _ _ p (part_within b c _ _ q))

pub variable_lines-append : (xs ys : List Declared) → variable_lines (xs ++ ys) ≡ variable_lines xs ++ variable_lines ys
variable_lines-append [] ys = refl
variable_lines-append (x ∷ xs) ys = ap (λ l. variable_line x ++ 10 ∷ l) (variable_lines-append xs ys) ∙ sym (append_assoc (variable_line x) (10 ∷ variable_lines xs) (variable_lines ys))

pub event_lines-append : (xs ys : List Event) → event_lines (xs ++ ys) ≡ event_lines xs ++ event_lines ys
event_lines-append [] ys = refl
event_lines-append (x ∷ xs) ys = ap (λ l. event_line x ++ 10 ∷ l) (event_lines-append xs ys) ∙ sym (append_assoc (event_line x) (10 ∷ event_lines xs) (event_lines ys))

pub block_lines-append : (xs ys : List CheckpointBlock) → block_lines (xs ++ ys) ≡ block_lines xs ++ block_lines ys
block_lines-append [] ys = refl
block_lines-append (x ∷ xs) ys = ap (λ l. block_line x ++ 10 ∷ l) (block_lines-append xs ys) ∙ sym (append_assoc (block_line x) (10 ∷ block_lines xs) (block_lines ys))

-- the lines of variables of a store, which have names by their numbers
pub lines-append : (i : ℕ) (names : List Named) (xs ys : List Cell) → cell_lines_from i names (xs ++ ys) ≡ cell_lines_from i names xs ++ cell_lines_from (i + length xs) names ys
lines-append i names [] ys = let same : i ≡ i + 0 = omega arith in ap (λ (k : ℕ). cell_lines_from k names ys) same
lines-append i names (c ∷ xs) ys =
    let same : i + 1 + length xs ≡ i + suc (length xs) = omega arith in
    ap (λ (l : List ℕ). cell_line (name_numbered i names) c ++ 10 ∷ l) (lines-append (i + 1) names xs ys ∙ ap (λ (k : ℕ). cell_lines_from (i + 1) names xs ++ cell_lines_from k names ys) same)
    ∙ sym (append_assoc (cell_line (name_numbered i names) c) (10 ∷ cell_lines_from (i + 1) names xs) (cell_lines_from (i + suc (length xs)) names ys))

-- ---- a line, and what follows its line feed
line_part : (line more : List ℕ) (a b : Option (List ℕ)) → WritesFront a b (line ++ 10 ∷ []) → WritesFront a b (line ++ 10 ∷ more)
line_part line more a b p = subst (WritesFront a b) (append_assoc line (10 ∷ []) more) (part_within a b _ _ p)

more_part : (line more : List ℕ) (a b c : Option (List ℕ)) → Appends a b (line ++ 10 ∷ []) → WritesFront b c more → WritesFront a c (line ++ 10 ∷ more)
more_part line more a b c p q = subst (WritesFront a c) (append_assoc line (10 ∷ []) more) (part_after a b c _ _ p q)

line_whole : (line more : List ℕ) (a b c : Option (List ℕ)) → Appends a b (line ++ 10 ∷ []) → Appends b c more → Appends a c (line ++ 10 ∷ more)
line_whole line more a b c p q = subst (Appends a c) (append_assoc line (10 ∷ []) more) (Appends-trans a b c _ _ p q)

-- ---- the lines of a table
head_is : (format : ℕ) (table : List Declared) (n : ℕ) → n ≡ length table → header_line format n ++ 10 ∷ variable_lines table ≡ head_text format (length table) table
head_is format table n e = ap (λ (m : ℕ). header_line format m ++ 10 ∷ variable_lines table) e

pub table_1 : (format : ℕ) (table : List Declared) (n : ℕ) (a b : Option (List ℕ)) → n ≡ length table → WritesFront a b (header_line format n ++ 10 ∷ []) → WritesFront a b (head_text format (length table) table)
table_1 format table n a b e p = subst (WritesFront a b) (head_is format table n e) (line_part _ _ a b p)

pub table_2 : (format : ℕ) (table : List Declared) (n : ℕ) (a b c : Option (List ℕ)) → n ≡ length table → Appends a b (header_line format n ++ 10 ∷ []) → WritesFront b c (variable_lines table)
    → WritesFront a c (head_text format (length table) table)
table_2 format table n a b c e p q = subst (WritesFront a c) (head_is format table n e) (more_part _ _ a b c p q)

pub table_whole : (format : ℕ) (table : List Declared) (n : ℕ) (a b c : Option (List ℕ)) → n ≡ length table → Appends a b (header_line format n ++ 10 ∷ []) → Appends b c (variable_lines table)
    → Appends a c (head_text format (length table) table)
table_whole format table n a b c e p q = subst (Appends a c) (head_is format table n e) (line_whole _ _ a b c p q)

-- ---- the lines of a checkpoint
-- what its first line, its store and its waiting blocks were written from
pub record IsWrittenFrom (c : CheckpointView) (k m n : ℕ) (names : List Named) (cells : List Cell) (blocks : List CheckpointBlock) : Type 0 where
  pub next : k ≡ c.next
  pub vars : m ≡ length c.store
  pub waiting : n ≡ length c.blocks
  pub names_are : names ≡ c.names
  pub cells_are : cells ≡ c.store
  pub blocks_are : blocks ≡ c.blocks

module _ (format : ℕ) (v : CheckpointView) (k m n : ℕ) (names : List Named) (cells : List Cell) (blocks : List CheckpointBlock) (w : IsWrittenFrom v k m n names cells blocks) where
  checkpoint_is : (checkpoint_header_line format k m n ++ 10 ∷ cell_lines names cells) ++ block_lines blocks ≡ checkpoint_text format (length v.blocks) v
  checkpoint_is =
      let p = w.next in let q = w.vars in let r = w.waiting in let u = w.names_are in let s = w.cells_are in let t = w.blocks_are in
      λ i. (checkpoint_header_line format (p i) (q i) (r i) ++ 10 ∷ cell_lines (u i) (s i)) ++ block_lines (t i)

  pub checkpoint_1 : (a b : Option (List ℕ)) → WritesFront a b (checkpoint_header_line format k m n ++ 10 ∷ []) → WritesFront a b (checkpoint_text format (length v.blocks) v)
  checkpoint_1 a b p = subst (WritesFront a b) checkpoint_is (part_within a b _ _ (line_part _ _ a b p))

  pub checkpoint_2 : (a b c : Option (List ℕ)) → Appends a b (checkpoint_header_line format k m n ++ 10 ∷ []) → WritesFront b c (cell_lines names cells) → WritesFront a c (checkpoint_text format (length v.blocks) v)
  checkpoint_2 a b c p q = subst (WritesFront a c) checkpoint_is (part_within a c _ _ (more_part _ _ a b c p q))

  pub checkpoint_3 : (a b c d : Option (List ℕ)) → Appends a b (checkpoint_header_line format k m n ++ 10 ∷ []) → Appends b c (cell_lines names cells) → WritesFront c d (block_lines blocks)
      → WritesFront a d (checkpoint_text format (length v.blocks) v)
  checkpoint_3 a b c d p q r = subst (WritesFront a d) checkpoint_is (part_after a c d _ _ (line_whole _ _ a b c p q) r)

  pub checkpoint_whole : (a b c d : Option (List ℕ)) → Appends a b (checkpoint_header_line format k m n ++ 10 ∷ []) → Appends b c (cell_lines names cells) → Appends c d (block_lines blocks)
      → Appends a d (checkpoint_text format (length v.blocks) v)
  checkpoint_whole a b c d p q r = subst (Appends a d) checkpoint_is (Appends-trans a c d _ _ (line_whole _ _ a b c p q) r)

-- ---- the variables of a table

pub record IsItem {A : Type 0} (xs : List A) (i : ℕ) : Type 0 where
  pub one : A
  pub there : slice_get xs i ≡ Some one
  pub same : one ≡ get_or xs i one

pub item_at : {A : Type 0} (xs : List A) (i : ℕ) → i < length xs → IsItem xs i
item_at [] i h = absurd (omega arith)
item_at (x ∷ xs) zero h = record { one = x; there = refl; same = refl }
item_at (x ∷ xs) (suc i) h = let r = item_at xs i (omega arith) in record { one = r.one; there = r.there; same = r.same }

pub part_at : (table : List Declared) (i : ℕ) (a b c : Option (List ℕ)) → i < length table → Appends a b (variable_lines (take i table))
    → IfSome (slice_get table i) (λ d. WritesFront b c (variable_lines (d ∷ []))) → WritesFront a c (variable_lines table)
part_at table i a b c h p q =
    let d = item_at table i h in
    part_of variable_lines variable_lines-append table i d.one h d.same a b c p (subst (λ (o : Option Declared). IfSome o (λ d. WritesFront b c (variable_lines (d ∷ [])))) d.there q)

pub whole_at : (table : List Declared) (i : ℕ) (a b c : Option (List ℕ)) → i < length table → Appends a b (variable_lines (take i table))
    → IfSome (slice_get table i) (λ d. Appends b c (variable_lines (d ∷ []))) → Appends a c (variable_lines (take (i + 1) table))
whole_at table i a b c h p q =
    let d = item_at table i h in
    whole_of variable_lines variable_lines-append table i d.one h d.same a b c p (subst (λ (o : Option Declared). IfSome o (λ d. Appends b c (variable_lines (d ∷ [])))) d.there q)

-- ---- the variables of a store
cells_next : (names : List Named) (cells : List Cell) (i : ℕ) (c : Cell) → i < length cells → c ≡ get_or cells i c
    → cell_lines names (take (i + 1) cells) ≡ cell_lines names (take i cells) ++ (cell_line (name_numbered i names) c ++ 10 ∷ [])
cells_next names cells i c h e =
    let size : 0 + length (take i cells) ≡ i = omega (arith, length-take i cells) in
    ap (cell_lines names) (next_at cells i c h e) ∙ lines-append 0 names (take i cells) (c ∷ [])
    ∙ ap (λ (n : ℕ). cell_lines names (take i cells) ++ cell_lines_from n names (c ∷ [])) size

cells_cut : (names : List Named) (cells : List Cell) (i : ℕ) → cell_lines names cells ≡ cell_lines names (take i cells) ++ cell_lines_from (0 + length (take i cells)) names (drop i cells)
cells_cut names cells i = ap (cell_lines names) (sym (take-append-drop i cells)) ∙ lines-append 0 names (take i cells) (drop i cells)

pub cells_whole_at : (names : List Named) (cells : List Cell) (i : ℕ) (a b c : Option (List ℕ)) → i < length cells → Appends a b (cell_lines names (take i cells))
    → IfSome (slice_get cells i) (λ x. Appends b c (cell_line (name_numbered i names) x ++ 10 ∷ [])) → Appends a c (cell_lines names (take (i + 1) cells))
cells_whole_at names cells i a b c h p q =
    let d = item_at cells i h in
    let more : Appends b c (cell_line (name_numbered i names) d.one ++ 10 ∷ []) = subst (λ (o : Option Cell). IfSome o (λ x. Appends b c (cell_line (name_numbered i names) x ++ 10 ∷ []))) d.there q in
    subst (Appends a c) (sym (cells_next names cells i d.one h d.same)) (Appends-trans a b c _ _ p more)

pub cells_part_at : (names : List Named) (cells : List Cell) (i : ℕ) (a b c : Option (List ℕ)) → i < length cells → Appends a b (cell_lines names (take i cells))
    → IfSome (slice_get cells i) (λ x. WritesFront b c (cell_line (name_numbered i names) x ++ 10 ∷ [])) → WritesFront a c (cell_lines names cells)
cells_part_at names cells i a b c h p q =
    let d = item_at cells i h in
    let more : WritesFront b c (cell_line (name_numbered i names) d.one ++ 10 ∷ []) = subst (λ (o : Option Cell). IfSome o (λ x. WritesFront b c (cell_line (name_numbered i names) x ++ 10 ∷ []))) d.there q in
    subst (WritesFront a c) (sym (cells_cut names cells (i + 1)))
    (part_within a c _ _ (subst (WritesFront a c) (sym (cells_next names cells i d.one h d.same)) (part_after a b c _ _ p more)))

-- ---- whole histories
-- the text in the format that is the other
pub front_in : (format other : ℕ) (table : List Declared) (o : Option CheckpointView) (history : List Event) (a b : Option (List ℕ)) → format ≡ other
    → WritesFront a b (history_text (record { format = format; table = table; checkpoint = o }) history) → WritesFront a b (history_text (record { format = other; table = table; checkpoint = o }) history)
front_in format other table o history a b e p = subst (λ (k : ℕ). WritesFront a b (history_text (record { format = k; table = table; checkpoint = o }) history)) e p

pub whole_in : (format other : ℕ) (table : List Declared) (o : Option CheckpointView) (history : List Event) (a b : Option (List ℕ)) → format ≡ other
    → Appends a b (history_text (record { format = format; table = table; checkpoint = o }) history) → Appends a b (history_text (record { format = other; table = table; checkpoint = o }) history)
whole_in format other table o history a b e p = subst (λ (k : ℕ). Appends a b (history_text (record { format = k; table = table; checkpoint = o }) history)) e p
