-- The lines of the cells, one after another.
use Rattle.std.proofs.Common.{◌≡◌, ℕ, zero, suc, ◌+◌, List, [], ◌∷◌, ◌++◌, drop, sym, ap, ◌∙◌, Some, add-one, append_assoc}
use Rattle.std.specs.Prelude.{slice_get, option_map}
use Rattle.stm_terms.specs.declared.kinds.Ty.{Ty}
use Rattle.stm_terms.specs.declared.values.Value.{Value}
use Rattle.stm_terms.specs.Changes.{cell_value}
use Rattle.stm_store.specs.declared.cell.Cell.{Cell}
use Rattle.stm_store.specs.Cells.{plains, kinds_of}
use Rattle.stm_store.specs.Naming.{Named, name_numbered}
use Rattle.stm_commands.specs.Contents.{stored_line, stored_lines}

-- a cell is its type, its value and its count
pub cell_at : (cells : List Cell) (i : ℕ) (kind : Ty) (value : Value) (count : ℕ) → kinds_of (plains cells) i ≡ Some kind → cell_value (plains cells) i ≡ Some value
    → option_map (λ c. c.count) (slice_get cells i) ≡ Some count → slice_get cells i ≡ Some (record { kind = kind; value = value; count = count })
cell_at [] i kind value count k v n = cc
cell_at (c ∷ cs) zero kind value count k v n =
    let k' : c.kind ≡ kind = cc in let v' : c.value ≡ value = cc in let n' : c.count ≡ count = cc in
    ap (λ k. Some (record { kind = k; value = c.value; count = c.count })) k' ∙ ap (λ v. Some (record { kind = kind; value = v; count = c.count })) v' ∙ ap (λ n. Some (record { kind = kind; value = value; count = n })) n'
cell_at (c ∷ cs) (suc i) kind value count k v n = cell_at cs i kind value count k v n

drop-next : (cells : List Cell) (i : ℕ) (c : Cell) → slice_get cells i ≡ Some c → drop i cells ≡ c ∷ drop (suc i) cells
drop-next [] i c e = absurd (cc)
drop-next (x ∷ cells) zero c e = let m : x ≡ c = cc in ap (λ y. y ∷ cells) m
drop-next (x ∷ cells) (suc i) c e = drop-next cells i c e

-- the text so far and the lines from the next variable on
pub one_more : (text line all : List ℕ) (names : List Named) (cells : List Cell) (i : ℕ) (c : Cell) → slice_get cells i ≡ Some c → line ≡ text ++ stored_line i (name_numbered i names) c
    → text ++ stored_lines names i (drop i cells) ≡ all → line ++ stored_lines names (i + 1) (drop (i + 1) cells) ≡ all
one_more text line all names cells i c e l h =
    rw (add-one, l) (append_assoc text (stored_line i (name_numbered i names) c) _ ∙ sym (ap (λ r. text ++ r) (rw add-one at (ap (stored_lines names i) (drop-next cells i c e)))) ∙ h)
