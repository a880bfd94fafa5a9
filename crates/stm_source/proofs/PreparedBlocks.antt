-- Blocks that are kept by their texts: that of a place is the one of its text.
use Rattle.std.proofs.Common.{◌≡◌, ℕ, zero, suc, ◌<◌, List, [], ◌∷◌, ◌++◌, length, Option, Some, None, Result, Ok, Err, IfOk, IfErr, sym, ap, subst, ◌∙◌, arith, slice_index_or, slice_set}
use Rattle.stm_terms.specs.Ast.{Act}
use Rattle.stm_terms.specs.ParsedAst as raw
use Rattle.stm_terms.specs.Typing.{ActionType, uses_of}
use Rattle.stm_parse.specs.declared.fault.ParseFault.{ParseFault}
use Rattle.stm_parse.specs.ParseFunction.{parsed_block}
use Rattle.stm_check.specs.TypedBlock.{Block}
use Rattle.stm_check.specs.CheckFunction.{checked}
use Rattle.stm_check.specs.CheckedBlock.{given_type}
use Rattle.stm_check.specs.declared.fault.TypeFault.{TypeFault}
use Rattle.stm_terms.specs.declared.kinds.Ty.{Ty}
use Rattle.stm_terms.specs.declared.values.Value.{Value}
use Rattle.stm_store.specs.Cells.{Covers}
use Rattle.stm_store.specs.Naming.{Named, named_uses, known_kinds}
use Rattle.stm_source.specs.CompiledBlock.{block_if_typed, block_if_parsed, compiled_block, CompilesTo, UsesAreNamed}
use Rattle.stm_source.specs.declared.refusal.Refusal.{Refusal}
use Rattle.stm_source.specs.OutOfMemory.{IsOutOfMemory}
use Rattle.stm_source.specs.BlockCache.{IsBlockOf, IsPrepared, ArePrepared}
use Rattle.stm_source.specs.LaterNames.{NamesFollow}
use Rattle.stm_source.proofs.LaterNames.{checked_blocks_stay}

-- a block has its text
typed_text : (known : List Named) (text : List ℕ) (b : Block) (o : Result (Act × ActionType) TypeFault) → block_if_typed known text o ≡ Ok b → b.text ≡ text
typed_text known text b (Err f) e = absurd cc
typed_text known text b (Ok c) e =
    let whole : Block = record { tree = c.0; text = text; result_type = given_type c.1; uses = uses_of (known_kinds known) c.0 } in
    let same : whole ≡ b = cc in
    sym (ap (λ (x : Block). x.text) same)

parsed_text : (known : List Named) (text : List ℕ) (b : Block) (o : Result raw.RawAct ParseFault) → block_if_parsed known text o ≡ Ok b → b.text ≡ text
parsed_text known text b (Err f) e = absurd cc
parsed_text known text b (Ok t) e = typed_text known text b (checked known text [] t) e

pub compiled_text : (known : List Named) (text : List ℕ) (b : Block) → compiled_block known text ≡ Ok b → b.text ≡ text
unfolding compiled_block
compiled_text known text b e = parsed_text known text b (parsed_block text) e

pub prepared_push : (known : List Named) (os : List (Option Block)) → ArePrepared known os → ArePrepared known (os ++ None ∷ [])
prepared_push known [] h = (tt, tt)
prepared_push known (o ∷ os) h = (h.0, prepared_push known os h.1)

pub prepared_at : (known : List Named) (os : List (Option Block)) (n : ℕ) (d : Option Block) (b : Block) → n < length os → slice_index_or os n d ≡ Some b → ArePrepared known os → IsBlockOf known b.text b
prepared_at known [] n d b h e p = absurd (omega arith)
prepared_at known (o ∷ os) zero d b h e p = subst (IsPrepared known) e p.0
prepared_at known (o ∷ os) (suc n) d b h e p = prepared_at known os n d b (omega arith) e p.1

pub prepared_none : (known : List Named) (os : List (Option Block)) (n : ℕ) → ArePrepared known os → ArePrepared known (slice_set os n None)
prepared_none known [] n p = tt
prepared_none known (o ∷ os) zero p = (tt, p.1)
prepared_none known (o ∷ os) (suc n) p = (p.0, prepared_none known os n p.1)

pub prepared_set : (known : List Named) (os : List (Option Block)) (n : ℕ) (b : Block) → IsBlockOf known b.text b → ArePrepared known os → ArePrepared known (slice_set os n (Some b))
prepared_set known [] n b h p = tt
prepared_set known (o ∷ os) zero b h p = (h, p.1)
prepared_set known (o ∷ os) (suc n) b h p = (p.0, prepared_set known os n b h p.1)

-- one more hold on the block of a text
pub answers_shared : (known : List Named) (text : List ℕ) (b : Block) (r : Result Block Refusal) → IsBlockOf known text b → IfOk r (λ x. x ≡ b) → IfErr r IsOutOfMemory → CompilesTo r (compiled_block known text)
answers_shared known text b (Ok x) h p q = h.0 ∙ ap (λ (y : Block). Ok y) (sym p)
answers_shared known text b (Err e) h p q = λ n. absurd (n q)

pub covers_shared : (known : List Named) (text : List ℕ) (b : Block) (r : Result Block Refusal) → IsBlockOf known text b → IfOk r (λ x. x ≡ b) → IfOk r (λ x. UsesAreNamed known x)
covers_shared known text b (Ok x) h p = subst (UsesAreNamed known) (sym p) h.1
covers_shared known text b (Err e) h p = tt

-- ---- more names
first_covered : (cells : List (Ty × Value)) (few more : List Named) → Covers cells (named_uses (few ++ more)) → Covers cells (named_uses few)
first_covered cells [] more c = tt
first_covered cells (n ∷ few) more c = (c.0, first_covered cells few more c.1)

block_stays : (few more : List Named) (text : List ℕ) (b : Block) → IsBlockOf few text b → IsBlockOf (few ++ more) text b
block_stays few more text b h = (
  checked_blocks_stay few more text b h.0,
  λ cells c. h.1 cells (first_covered cells few more c),
)

kept_stays : (few more : List Named) (o : Option Block) → IsPrepared few o → IsPrepared (few ++ more) o
kept_stays few more None h = tt
kept_stays few more (Some b) h = block_stays few more b.text b h

all_stay : (few more : List Named) (os : List (Option Block)) → ArePrepared few os → ArePrepared (few ++ more) os
all_stay few more [] h = tt
all_stay few more (o ∷ os) h = (kept_stays few more o h.0, all_stay few more os h.1)

-- blocks that were kept are still those of their texts
prepared_later : (few known : List Named) (os : List (Option Block)) → NamesFollow few known → ArePrepared few os → ArePrepared known os
prepared_later few known os n h = subst (λ (ns : List Named). ArePrepared ns os) (sym n.are) (all_stay few n.later os h)

-- the cache had the old names, and has the new ones
pub prepared_now : (few old known kept : List Named) (os : List (Option Block)) → few ≡ old → NamesFollow old known → kept ≡ known → ArePrepared few os → ArePrepared kept os
prepared_now few old known kept os e n k h =
    subst (λ (ns : List Named). ArePrepared ns os) (sym k) (prepared_later few known os (subst (λ (ns : List Named). NamesFollow ns known) (sym e) n) h)
