-- Applying a verdict that fits keeps a store sound.
use Rattle.std.proofs.Common.{◌≡◌, ℕ, zero, suc, ◌+◌, ◌≤◌, List, [], ◌∷◌, ◌++◌, map, Option, Some, None, length, set, refl, sym, ap, subst, ◌∙◌, arith, length-set, length-append}
use Rattle.std.specs.Prelude.{⊤, slice_get, option_map}
use Rattle.std.proofs.lemmas.List.{length-map, map-append}
use Rattle.stm_terms.specs.declared.kinds.Ty.{Ty}
use Rattle.stm_terms.specs.declared.values.Ref.TheVariants.{Old, New}
use Rattle.stm_terms.specs.declared.values.Value.{Value}
use Rattle.stm_terms.specs.declared.values.Value.TheVariants.{Int, Bool as Truth, Unit as Nil, Var}
use Rattle.stm_terms.specs.declared.verdicts.Verdict.TheVariants.{Commits, Throws, Blocks}
use Rattle.stm_terms.specs.Changes.{Changes, no_changes}
use Rattle.stm_terms.specs.Typing.{TypeEnv, type_of}
use Rattle.stm_store.specs.declared.cell.Cell.{Cell}
use Rattle.stm_store.specs.Cells.{plain, plains, kinds_of, StoreIsTyped, StoreHasAtMost8Refs, CommitFits, Fits, renumbered, rewritten, with_write, with_writes, new_cell, applied}
use Rattle.stm_store.specs.Laws.{TypesStay, CoveredStay, FittingKeepTypes, FittingKeepStores}
use Rattle.stm_store.proofs.Typed.{kinds-left, mapped, old_type}
use Rattle.stm_store.proofs.WritesInTurn.{EachWrite, each_found}

-- ---- each cell has a value of its type, if the variables have these types
abbrev pub AreTyped : TypeEnv → List Cell → Type 0
AreTyped k [] = ⊤
AreTyped k (c ∷ cs) = (type_of k no_changes c.value ≡ Some c.kind) × AreTyped k cs

pub each_typed : (k : TypeEnv) (cs : List Cell) → ((i : ℕ) (c : Ty × Value) → slice_get (plains cs) i ≡ Some c → type_of k no_changes c.1 ≡ Some c.0) → AreTyped k cs
each_typed k [] f = tt
each_typed k (c ∷ cs) f = (f 0 (plain c) refl, each_typed k cs (λ i d e. f (suc i) d e))

pub typed_each : (k : TypeEnv) (cs : List Cell) → AreTyped k cs → (i : ℕ) (c : Ty × Value) → slice_get (plains cs) i ≡ Some c → type_of k no_changes c.1 ≡ Some c.0
typed_each k [] t i c e = absurd (cc)
typed_each k (d ∷ cs) t zero c e =
    let p : plain d ≡ c = cc in
    subst (λ (x : Ty × Value). type_of k no_changes x.1 ≡ Some x.0) p t.0
typed_each k (d ∷ cs) t (suc i) c e = typed_each k cs t.1 i c e

typed-set : (k : TypeEnv) (cs : List Cell) (i : ℕ) (d : Cell) → AreTyped k cs → type_of k no_changes d.value ≡ Some d.kind → AreTyped k (set cs i d)
typed-set k [] i d t e = tt
typed-set k (c ∷ cs) zero d t e = (e, t.1)
typed-set k (c ∷ cs) (suc i) d t e = (t.0, typed-set k cs i d t.1 e)

typed-append : (k : TypeEnv) (cs ds : List Cell) → AreTyped k cs → AreTyped k ds → AreTyped k (cs ++ ds)
typed-append k [] ds t u = u
typed-append k (c ∷ cs) ds t u = (t.0, typed-append k cs ds t.1 u)

-- ---- the types of the cells
kinds-set : (cs : List Cell) (i : ℕ) (c d : Cell) → slice_get cs i ≡ Some c → d.kind ≡ c.kind → (j : ℕ) → kinds_of (plains (set cs i d)) j ≡ kinds_of (plains cs) j
kinds-set [] i c d e same j = refl
kinds-set (x ∷ cs) zero c d e same zero = let p : x ≡ c = cc in ap Some (same ∙ ap (λ (y : Cell). y.kind) (sym p))
kinds-set (x ∷ cs) zero c d e same (suc j) = refl
kinds-set (x ∷ cs) (suc i) c d e same zero = refl
kinds-set (x ∷ cs) (suc i) c d e same (suc j) = kinds-set cs i c d e same j

kinds-write : (n : ℕ) (cs : List Cell) (i : ℕ) (v : Value) (o : Option Cell) → slice_get cs i ≡ o → (j : ℕ) → kinds_of (plains (with_write n cs i v o)) j ≡ kinds_of (plains cs) j
kinds-write n cs i v (Some c) e j = kinds-set cs i c (rewritten n v c) e refl j
kinds-write n cs i v None e j = refl

pub length-write : (n : ℕ) (cs : List Cell) (i : ℕ) (v : Value) (o : Option Cell) → length (with_write n cs i v o) ≡ length cs
length-write n cs i v (Some c) = length-set cs i (rewritten n v c)
length-write n cs i v None = refl

kinds-writes : (n : ℕ) (ws : List (ℕ × Value)) (cs : List Cell) (j : ℕ) → kinds_of (plains (with_writes n ws cs)) j ≡ kinds_of (plains cs) j
kinds-writes n [] cs j = refl
kinds-writes n (w ∷ ws) cs j = kinds-writes n ws (with_write n cs w.0 w.1 (slice_get cs w.0)) j ∙ kinds-write n cs w.0 w.1 (slice_get cs w.0) refl j

pub length-writes : (n : ℕ) (ws : List (ℕ × Value)) (cs : List Cell) → length (with_writes n ws cs) ≡ length cs
length-writes n [] cs = refl
length-writes n (w ∷ ws) cs = length-writes n ws (with_write n cs w.0 w.1 (slice_get cs w.0)) ∙ length-write n cs w.0 w.1 (slice_get cs w.0)

kinds-before : (cs ds : List Cell) (i : ℕ) (t : Ty) → kinds_of (plains cs) i ≡ Some t → kinds_of (plains (cs ++ ds)) i ≡ Some t
kinds-before cs ds i t e =
    subst (λ (xs : List (Ty × Value)). kinds_of xs i ≡ Some t) (sym (map-append plain cs ds)) (kinds-left (plains cs) (plains ds) i t e)

kinds-right : (cs ds : List Cell) (i k : ℕ) → i ≡ length cs + k → kinds_of (plains (cs ++ ds)) i ≡ kinds_of (plains ds) k
kinds-right [] ds i k e = let s : i ≡ k = omega arith in ap (kinds_of (plains ds)) s
kinds-right (c ∷ cs) ds zero k e = absurd (omega arith)
kinds-right (c ∷ cs) ds (suc i) k e = kinds-right cs ds i k (omega arith)

kinds-new : (n : ℕ) (news : List (Ty × Value)) (k : ℕ) → kinds_of (plains (map (new_cell n) news)) k ≡ option_map (λ c. c.0) (slice_get news k)
kinds-new n [] k = refl
kinds-new n (c ∷ cs) zero = refl
kinds-new n (c ∷ cs) (suc k) = kinds-new n cs k

-- ---- the type of a value, before and after its references are renumbered
renumbered_type : (k l : TypeEnv) (h : Changes) (n : ℕ) → ((i : ℕ) (t : Ty) → k i ≡ Some t → l i ≡ Some t) → ((i : ℕ) (t : Ty) → option_map (λ c. c.0) (slice_get h.news i) ≡ Some t → l (n + i) ≡ Some t) → (v : Value) (t : Ty) → type_of k h v ≡ Some t → type_of l no_changes (renumbered n v) ≡ Some t
renumbered_type k l h n old new (Int z) t e = e
renumbered_type k l h n old new (Truth b) t e = e
renumbered_type k l h n old new Nil t e = e
renumbered_type k l h n old new (Var (Old i)) t e = mapped (k i) (l i) t (old i) e
renumbered_type k l h n old new (Var (New i)) t e = mapped (option_map (λ c. c.0) (slice_get h.news i)) (l (n + i)) t (new i) e

old_typed : (k l : TypeEnv) → ((i : ℕ) (t : Ty) → k i ≡ Some t → l i ≡ Some t) → (cs : List Cell) → AreTyped k cs → AreTyped l cs
old_typed k l old [] t = tt
old_typed k l old (c ∷ cs) t = (old_type k l old c.value c.kind t.0, old_typed k l old cs t.1)

kind_here : (cs : List Cell) (i : ℕ) (c : Cell) → slice_get cs i ≡ Some c → kinds_of (plains cs) i ≡ Some c.kind
kind_here [] i c e = absurd (cc)
kind_here (d ∷ cs) zero c e = let p : d ≡ c = cc in ap (λ (x : Cell). Some x.kind) p
kind_here (d ∷ cs) (suc i) c e = kind_here cs i c e

abbrev Right : TypeEnv → TypeEnv → ℕ → ℕ → Value → Type 0
Right k l n i v = (t : Ty) × (k i ≡ Some t) × (type_of l no_changes (renumbered n v) ≡ Some t)

typed-write : (k l : TypeEnv) (n : ℕ) (cs : List Cell) (i : ℕ) (v : Value) (o : Option Cell) → slice_get cs i ≡ o → ((j : ℕ) → kinds_of (plains cs) j ≡ k j) → Right k l n i v → AreTyped l cs → AreTyped l (with_write n cs i v o)
typed-write k l n cs i v (Some c) e same r t =
    let p : kinds_of (plains cs) i ≡ Some c.kind = kind_here cs i c e in
    let q : c.kind ≡ r.0 = cc (p, same i, r.1) in
    typed-set l cs i (rewritten n v c) t (r.2 ∙ ap Some (sym q))
typed-write k l n cs i v None e same r t = t

typed-writes : (k l : TypeEnv) (n : ℕ) (ws : List (ℕ × Value)) (cs : List Cell) → ((j : ℕ) → kinds_of (plains cs) j ≡ k j) → EachWrite (Right k l n) ws → AreTyped l cs → AreTyped l (with_writes n ws cs)
typed-writes k l n [] cs same r t = t
typed-writes k l n (w ∷ ws) cs same r t =
    typed-writes k l n ws (with_write n cs w.0 w.1 (slice_get cs w.0)) (λ j. kinds-write n cs w.0 w.1 (slice_get cs w.0) refl j ∙ same j) r.1
    (typed-write k l n cs w.0 w.1 (slice_get cs w.0) refl same r.0 t)

typed-new : (l : TypeEnv) (n : ℕ) (cs : List (Ty × Value)) → ((i : ℕ) (c : Ty × Value) → slice_get cs i ≡ Some c → type_of l no_changes (renumbered n c.1) ≡ Some c.0) → AreTyped l (map (new_cell n) cs)
typed-new l n [] f = tt
typed-new l n (c ∷ cs) f = (f 0 c refl, typed-new l n cs (λ i d e. f (suc i) d e))

-- ---- each cell's type is low
abbrev AreLow : List Cell → Type 0
AreLow [] = ⊤
AreLow (c ∷ cs) = (c.kind.refs ≤ 8) × AreLow cs

each_low : (cs : List Cell) → StoreHasAtMost8Refs (plains cs) → AreLow cs
each_low [] f = tt
each_low (c ∷ cs) f = (f 0 (plain c) refl, each_low cs (λ i d e. f (suc i) d e))

low_each : (cs : List Cell) → AreLow cs → StoreHasAtMost8Refs (plains cs)
low_each [] l i c e = absurd (cc)
low_each (d ∷ cs) l zero c e =
    let p : plain d ≡ c = cc in
    subst (λ (x : Ty × Value). x.0.refs ≤ 8) p l.0
low_each (d ∷ cs) l (suc i) c e = low_each cs l.1 i c e

low-set : (cs : List Cell) (i : ℕ) (c d : Cell) → slice_get cs i ≡ Some c → d.kind ≡ c.kind → AreLow cs → AreLow (set cs i d)
low-set [] i c d e same l = tt
low-set (x ∷ cs) zero c d e same l =
    let p : x ≡ c = cc in
    let q : x.kind ≡ d.kind = ap (λ (y : Cell). y.kind) p ∙ sym same in
    (subst (λ (t : Ty). t.refs ≤ 8) q l.0, l.1)
low-set (x ∷ cs) (suc i) c d e same l = (l.0, low-set cs i c d e same l.1)

low-write : (n : ℕ) (cs : List Cell) (i : ℕ) (v : Value) (o : Option Cell) → slice_get cs i ≡ o → AreLow cs → AreLow (with_write n cs i v o)
low-write n cs i v (Some c) e l = low-set cs i c (rewritten n v c) e refl l
low-write n cs i v None e l = l

low-writes : (n : ℕ) (ws : List (ℕ × Value)) (cs : List Cell) → AreLow cs → AreLow (with_writes n ws cs)
low-writes n [] cs l = l
low-writes n (w ∷ ws) cs l = low-writes n ws (with_write n cs w.0 w.1 (slice_get cs w.0)) (low-write n cs w.0 w.1 (slice_get cs w.0) refl l)

low-append : (cs ds : List Cell) → AreLow cs → AreLow ds → AreLow (cs ++ ds)
low-append [] ds l m = m
low-append (c ∷ cs) ds l m = (l.0, low-append cs ds l.1 m)

low-new : (n : ℕ) (cs : List (Ty × Value)) → ((i : ℕ) (c : Ty × Value) → slice_get cs i ≡ Some c → c.0.refs ≤ 8) → AreLow (map (new_cell n) cs)
low-new n [] f = tt
low-new n (c ∷ cs) f = (f 0 c refl, low-new n cs (λ i d e. f (suc i) d e))

commit_low : (cells : List Cell) (writes : List (ℕ × Value)) (news : List (Ty × Value)) (v : Value) → CommitFits (plains cells) writes news v → StoreHasAtMost8Refs (plains cells) → StoreHasAtMost8Refs (plains (applied cells (Commits writes news v)))
commit_low cells writes news v w low =
    let n = length cells in
    low_each (with_writes n writes cells ++ map (new_cell n) news)
    (low-append (with_writes n writes cells) (map (new_cell n) news) (low-writes n writes cells (each_low cells low)) (low-new n news (λ i c e. (w.news i c e).1)))

-- ---- the store that a commit leaves
commit_typed : (cells : List Cell) (writes : List (ℕ × Value)) (news : List (Ty × Value)) (v : Value) → CommitFits (plains cells) writes news v → StoreIsTyped (plains cells) → StoreIsTyped (plains (applied cells (Commits writes news v)))
commit_typed cells writes news v w typed =
    let n = length cells in
    let k : TypeEnv = kinds_of (plains cells) in
    let l : TypeEnv = kinds_of (plains (with_writes n writes cells ++ map (new_cell n) news)) in
    let h : Changes = record { writes = writes; news = news } in
    let old : (i : ℕ) (t : Ty) → k i ≡ Some t → l i ≡ Some t = λ i t e. kinds-before (with_writes n writes cells) (map (new_cell n) news) i t (kinds-writes n writes cells i ∙ e) in
    let new : (i : ℕ) (t : Ty) → option_map (λ c. c.0) (slice_get news i) ≡ Some t → l (n + i) ≡ Some t = λ i t e. kinds-right (with_writes n writes cells) (map (new_cell n) news) (n + i) i (ap (λ (m : ℕ). m + i) (sym (length-writes n writes cells))) ∙ kinds-new n news i ∙ e in
    let right : EachWrite (Right k l n) writes = each_found (Right k l n) writes w.rising (λ i u e. let p = w.writes i u e in (p.0, p.1, renumbered_type k l h n old new u p.0 p.2)) in
    typed_each l (with_writes n writes cells ++ map (new_cell n) news)
    (typed-append l (with_writes n writes cells) (map (new_cell n) news)
    (typed-writes k l n writes cells (λ j. refl) right (old_typed k l old cells (each_typed k cells typed)))
    (typed-new l n news (λ i c e. renumbered_type k l h n old new c.1 c.0 ((w.news i c e).0))))

pub applied_typed : FittingKeepTypes
unfolding Fits
applied_typed cells (Commits writes news v) f typed = commit_typed cells writes news v f typed
applied_typed cells (Throws x) f typed = typed
applied_typed cells Blocks f typed = typed

-- ---- what every verdict leaves
pub kinds_stay : TypesStay
kinds_stay cells (Commits writes news v) i t e =
    kinds-before (with_writes (length cells) writes cells) (map (new_cell (length cells)) news) i t (kinds-writes (length cells) writes cells i ∙ e)
kinds_stay cells (Throws x) i t e = e
kinds_stay cells Blocks i t e = e

pub covered_stay : CoveredStay
covered_stay cells verdict [] c = tt
covered_stay cells verdict (u ∷ us) c = (kinds_stay cells verdict u.0 u.1 c.0, covered_stay cells verdict us c.1)

-- ---- the limits of a store
length-applied : (cells : List Cell) (writes : List (ℕ × Value)) (news : List (Ty × Value)) (v : Value) → length (applied cells (Commits writes news v)) ≡ length cells + length news
length-applied cells writes news v =
    let n = length cells in
    omega (arith, length-append (with_writes n writes cells) (map (new_cell n) news), length-map news (new_cell n), length-writes n writes cells)

pub kept_store : FittingKeepStores
unfolding Fits
kept_store cells (Commits writes news v) f i room = record {
  small = simp length-map (omega (arith, length-applied cells writes news v));
  typed = commit_typed cells writes news v f i.typed;
  low = commit_low cells writes news v f i.low;
}
kept_store cells (Throws x) f i room = i
kept_store cells Blocks f i room = i
