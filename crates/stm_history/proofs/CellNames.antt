-- The names of a checkpoint's variables, which its lines fix.
use Rattle.std.proofs.Common.{◌≡◌, ◌≢◌, ℕ, zero, suc, ◌+◌, ◌≤◌, ◌<◌, Bool, true, false, List, [], ◌∷◌, ◌++◌, length, Option, Some, None, refl, sym, ap, ◌∙◌, subst, arith, append_assoc, append-nil, length-append, ◌⊎◌, inl, inr, IsTrue}
use Rattle.std.specs.Prelude.{◌&&◌, nat_eq, slice_get, if◌then◌else◌}
use Rattle.std.specs.Str.{bytes_eq}
use Rattle.std.proofs.lemmas.Bool.Decides.{nat_tests}
use Rattle.std.proofs.lemmas.List.{map-append, take_at}
use Rattle.std.proofs.lemmas.Bool.{ne_eqb}
use Rattle.stm_terms.specs.declared.kinds.Ty.{Ty}
use Rattle.stm_terms.specs.declared.values.Value.{Value}
use Rattle.stm_terms.specs.Names.{is_name_text}
use Rattle.stm_store.specs.declared.cell.Cell.{Cell}
use Rattle.stm_store.specs.Cells.{Covers, kinds_of, plain, plains}
use Rattle.stm_store.specs.Naming.{AreKnown, MayHaveType, Named, NumbersAreBelow, is_gapless_from, name_numbered, named_uses, number_named}
use Rattle.stm_store.proofs.Naming.{number_stays}
use Rattle.stm_store.proofs.NewNames.{known-added}
use Rattle.stm_store.proofs.Typed.{kinds-left}
use Rattle.stm_event_lines.specs.CheckpointLines.{FitsCell, FitsName, cell_line}
use Rattle.stm_event_lines.proofs.Checkpoints.{cell_one_line, cell_same}
use Rattle.stm_history_text.proofs.TextInParts.{lines-append}
use Rattle.stm_history.specs.Progress.{AreCells, MayBeNamed, with_name_of}
use Rattle.stm_history_text.specs.HistoryText.{cell_lines, cell_lines_from}
use Rattle.stm_history.specs.Judgement.{FitCells}
use Rattle.stm_history.proofs.CutsAtLineFeeds.{cut_unique, no_feed}

itself : (n : ℕ) → nat_eq n n ≡ true
itself n = grind (arith, nat_tests)

-- a number is that of the name, or another one
pub same_or_not : (m n : ℕ) → (m ≡ n) ⊎ (m ≢ n)
same_or_not m n = grind arith

pub equal_or_more : (m n : ℕ) → m ≤ n → (n ≡ m) ⊎ (m < n)
equal_or_more m n h = grind arith

pub three_ways : (m n : ℕ) → (m < n) ⊎ ((n < m) ⊎ (m ≡ n))
three_ways m n = grind arith

-- ---- the name of a number
-- it is the first one's, or one of the others'
here : (i : ℕ) (d : Named) (ds : List Named) → d.number ≡ i → name_numbered i (d ∷ ds) ≡ Some d.name
here i d ds e = let same : nat_eq d.number i ≡ true = ap (λ (k : ℕ). nat_eq k i) e ∙ itself i in rw same refl

later : (i : ℕ) (d : Named) (ds : List Named) → d.number ≢ i → name_numbered i (d ∷ ds) ≡ name_numbered i ds
later i d ds h = let other : nat_eq d.number i ≡ false = ne_eqb d.number i h in rw other refl

-- no variable of the number has a name
pub unnamed : (i : ℕ) (names : List Named) → ((k : ℕ) (d : Named) → slice_get names k ≡ Some d → d.number ≢ i) → name_numbered i names ≡ None
unnamed i [] h = refl
unnamed i (d ∷ ds) h = later i d ds (h zero d refl) ∙ unnamed i ds (λ k x e. h (suc k) x e)

-- other names come before
pub numbered_after : (i : ℕ) (names more : List Named) → ((k : ℕ) (d : Named) → slice_get names k ≡ Some d → d.number ≢ i) → name_numbered i (names ++ more) ≡ name_numbered i more
numbered_after i [] more h = refl
numbered_after i (d ∷ ds) more h = later i d (ds ++ more) (h zero d refl) ∙ numbered_after i ds more (λ k x e. h (suc k) x e)

-- another name comes after
by_first : (b : Bool) (x : List ℕ) (o p : Option (List ℕ)) → o ≡ p → (if b then Some x else o) ≡ (if b then Some x else p)
by_first b x o p e = ap (λ (q : Option (List ℕ)). if b then Some x else q) e

pub numbered_before : (i : ℕ) (names : List Named) (d : Named) → d.number ≢ i → name_numbered i (names ++ d ∷ []) ≡ name_numbered i names
numbered_before i [] d h = later i d [] h
numbered_before i (x ∷ ds) d h = by_first (nat_eq x.number i) x.name _ _ (numbered_before i ds d h)

-- it is a name
named_by : (b : Bool) (x : List ℕ) (o : Option (List ℕ)) → IsTrue (is_name_text x) → FitsName o → FitsName (if b then Some x else o)
named_by true x o n f = n
named_by false x o n f = f

pub fits_name : (i : ℕ) (names : List Named) → ((k : ℕ) (d : Named) → slice_get names k ≡ Some d → IsTrue (is_name_text d.name)) → FitsName (name_numbered i names)
fits_name i [] h = tt
fits_name i (d ∷ ds) h = named_by (nat_eq d.number i) d.name (name_numbered i ds) (h zero d refl) (fits_name i ds (λ k x e. h (suc k) x e))

pub named_fits : (name : Option (List ℕ)) (c : Cell) → FitsName name → FitsCell None c → FitsCell name c
named_fits name c n f = (n, f.1, f.2, f.3)

-- ---- names in order
-- the numbers are at least i, and ascend
abbrev pub Ascend : ℕ → List Named → Type 0
Ascend i [] = Unit {0}
Ascend i (d ∷ ds) = (i ≤ d.number) × Ascend (d.number + 1) ds

ascend_by : (i : ℕ) (names : List Named) → ((k : ℕ) (d : Named) → slice_get names k ≡ Some d → i ≤ d.number)
    → ((j k : ℕ) (d e : Named) → slice_get names j ≡ Some d → slice_get names k ≡ Some e → j < k → d.number < e.number) → Ascend i names
ascend_by i [] low up = tt
ascend_by i (d ∷ ds) low up =
    (low zero d refl, ascend_by (d.number + 1) ds (λ k e h. let more = up zero (suc k) d e refl h (omega arith) in omega (arith, more)) (λ j k x y f g l. up (suc j) (suc k) x y f g (omega (arith, l))))

pub ascend : (names : List Named) → AreKnown names → Ascend 0 names
ascend names k = ascend_by 0 names (λ j d e. omega arith) k.ascending

pub ascend_low : (i j : ℕ) (names : List Named) → j ≤ i → Ascend i names → Ascend j names
ascend_low i j [] l a = tt
ascend_low i j (d ∷ ds) l a = (omega (arith, l, a.0), a.1)

-- each is at least i
pub at_least : (i : ℕ) (names : List Named) → Ascend i names → (k : ℕ) (d : Named) → slice_get names k ≡ Some d → i ≤ d.number
at_least i [] a k d e = absurd (cc)
at_least i (x ∷ ds) a zero d e = let p : x ≡ d = cc in subst (λ (y : Named). i ≤ y.number) p a.0
at_least i (x ∷ ds) a (suc k) d e = let more = at_least (x.number + 1) ds a.1 k d e in omega (arith, more, a.0)

-- no variable before has one of these names
pub none_below : (i n : ℕ) (names : List Named) → i < n → Ascend n names → name_numbered i names ≡ None
none_below i n names l a = unnamed i names (λ k d e p. let low = at_least n names a k d e in omega (arith, low, l, p))

-- the names of variables are below their number
kind_within : (cells : List (Ty × Value)) (i : ℕ) (t : Ty) → kinds_of cells i ≡ Some t → i < length cells
kind_within [] i t e = absurd (cc)
kind_within (c ∷ cells) zero t e = omega arith
kind_within (c ∷ cells) (suc i) t e = let h = kind_within cells i t e in omega (arith, h)

length-plains : (cells : List Cell) → length (plains cells) ≡ length cells
length-plains [] = refl
length-plains (c ∷ cells) = ap suc (length-plains cells)

below_by : (cells : List (Ty × Value)) (names : List Named) → Covers cells (named_uses names) → NumbersAreBelow (length cells) names
below_by cells [] c k d e = absurd (cc)
below_by cells (x ∷ names) c zero d e = let p : x ≡ d = cc in subst (λ (y : Named). y.number < length cells) p (kind_within cells x.number x.kind c.0)
below_by cells (x ∷ names) c (suc k) d e = below_by cells names c.1 k d e

pub below : (cells : List Cell) (names : List Named) → Covers (plains cells) (named_uses names) → NumbersAreBelow (length cells) names
below cells names c = subst (λ (n : ℕ). NumbersAreBelow n names) (length-plains cells) (below_by (plains cells) names c)

-- ---- the lines of variables with names
-- lines have the names of their own numbers only
pub lines_same : (i : ℕ) (T U : List Named) (xs : List Cell) → ((j : ℕ) → j < i + length xs → name_numbered j T ≡ name_numbered j U) → cell_lines_from i T xs ≡ cell_lines_from i U xs
lines_same i T U [] h = refl
lines_same i T U (c ∷ xs) h =
    let name = h i (omega arith) in
    let rest = lines_same (i + 1) T U xs (λ j l. h j (omega (arith, l))) in
    λ k. cell_line (name k) c ++ 10 ∷ rest k

-- ---- the lines of some variables, and of more
-- these variables go on with others, and the names before are the same
pub record LinesGoOn (i : ℕ) (T U : List Named) (cs ds : List Cell) (a b : List ℕ) : Type 0 where
  pub cells : List Cell
  pub stores : ds ≡ cs ++ cells
  pub names : (j : ℕ) → i ≤ j → j < i + length cs → name_numbered j T ≡ name_numbered j U
  pub rest : a ≡ cell_lines_from (i + length cs) U cells ++ b

common_lines : (i : ℕ) (T U : List Named) (cs ds : List Cell) (a b : List ℕ) → ((j : ℕ) → FitsName (name_numbered j T)) → ((j : ℕ) → FitsName (name_numbered j U)) → FitCells cs → FitCells ds → length cs ≤ length ds
    → cell_lines_from i T cs ++ a ≡ cell_lines_from i U ds ++ b → LinesGoOn i T U cs ds a b
common_lines i T U [] ds a b m n f g l e =
    let same : i ≡ i + 0 = omega arith in
    record { cells = ds; stores = refl; names = λ j p q. absurd (omega (arith, p, q)); rest = e ∙ ap (λ (k : ℕ). cell_lines_from k U ds ++ b) same }
common_lines i T U (c ∷ cs) [] a b m n f g l e = absurd (omega (arith, l))
common_lines i T U (c ∷ cs) (d ∷ ds) a b m n f g l e =
    let x = name_numbered i T in
    let y = name_numbered i U in
    let fits = named_fits x c (m i) f.0 in
    let fits' = named_fits y d (n i) g.0 in
    let cut = cut_unique (cell_line x c) (cell_lines_from (i + 1) T cs ++ a) (cell_line y d) (cell_lines_from (i + 1) U ds ++ b) (no_feed _ (cell_one_line x c fits)) (no_feed _ (cell_one_line y d fits'))
    (sym (append_assoc (cell_line x c) (10 ∷ cell_lines_from (i + 1) T cs) a) ∙ e ∙ append_assoc (cell_line y d) (10 ∷ cell_lines_from (i + 1) U ds) b) in
    let same = cell_same x y c d fits fits' cut.line in
    let first : c ≡ d = same.1 in
    let r = common_lines (i + 1) T U cs ds a b m n f.1 g.1 (omega (arith, l)) cut.rest in
    let rest_stores : ds ≡ cs ++ r.cells = r.stores in
    let at : i + 1 + length cs ≡ i + suc (length cs) = omega arith in
    record {
      cells = r.cells;
      stores = λ k. (sym first) k ∷ rest_stores k;
      names = λ j p q. elim (equal_or_more i j p) [
        | inl s ↦ subst (λ (k : ℕ). name_numbered k T ≡ name_numbered k U) (sym s) same.0
        | inr s ↦ r.names j (omega (arith, s)) (omega (arith, q))
      ];
      rest = r.rest ∙ ap (λ (k : ℕ). cell_lines_from k U r.cells ++ b) at;
    }

-- ---- names that agree below n
-- the names of the one list are the first ones of the other, which go on from n
pub record NamesGoOn (n : ℕ) (T U : List Named) : Type 0 where
  pub names : List Named
  pub whole : U ≡ T ++ names
  pub later : Ascend n names

some_here : (i : ℕ) (x : Named) (xs U : List Named) (P : Type 0) → x.number ≡ i → name_numbered i (x ∷ xs) ≡ name_numbered i U → name_numbered i U ≡ None → P
some_here i x xs U P e same none = let found : Some x.name ≡ None = sym (here i x xs e) ∙ same ∙ none in absurd (cc)

same_named : (cells : List (Ty × Value)) (x y : Named) (xs ys : List Named) → Covers cells (named_uses (x ∷ xs)) → Covers cells (named_uses (y ∷ ys)) → x.number ≡ y.number
    → name_numbered x.number (x ∷ xs) ≡ name_numbered x.number (y ∷ ys) → x ≡ y
same_named cells x y xs ys c d numbers same =
    let some : Some x.name ≡ Some y.name = sym (here x.number x xs refl) ∙ same ∙ here x.number y ys (sym numbers) in
    let names : x.name ≡ y.name = cc in
    let some_kinds : Some x.kind ≡ Some y.kind = sym c.0 ∙ ap (kinds_of cells) numbers ∙ d.0 in
    let kinds : x.kind ≡ y.kind = cc in
    λ i. record { name = names i; number = numbers i; kind = kinds i }

rest_agrees : (n : ℕ) (x y : Named) (xs ys : List Named) → x ≡ y → ((j : ℕ) → j < n → name_numbered j (x ∷ xs) ≡ name_numbered j (y ∷ ys)) → Ascend (x.number + 1) xs → Ascend (y.number + 1) ys
    → (j : ℕ) → j < n → name_numbered j xs ≡ name_numbered j ys
rest_agrees n x y xs ys e h a b j l =
    let numbers : x.number ≡ y.number = ap (λ (z : Named). z.number) e in
    elim (same_or_not x.number j) [
      | inl p ↦ none_below j (x.number + 1) xs (omega (arith, p)) a ∙ sym (none_below j (y.number + 1) ys (omega (arith, p, numbers)) b)
      | inr p ↦ sym (later j x xs p) ∙ h j l ∙ later j y ys (λ q. p (numbers ∙ q))
    ]

names_go_on : (n i : ℕ) (cells : List (Ty × Value)) (T U : List Named) → Ascend i T → Ascend i U → ((k : ℕ) (d : Named) → slice_get T k ≡ Some d → d.number < n) → Covers cells (named_uses T) → Covers cells (named_uses U)
    → ((j : ℕ) → j < n → name_numbered j T ≡ name_numbered j U) → NamesGoOn n T U
names_go_on n i cells [] [] a b t c d h = record { names = []; whole = refl; later = tt }
names_go_on n i cells [] (y ∷ U) a b t c d h =
    let low : n ≤ y.number = elim (three_ways y.number n) [
      | inl l ↦ (let some : None ≡ Some y.name = h y.number l ∙ here y.number y U refl in absurd (cc))
      | inr (inl l) ↦ omega (arith, l)
      | inr (inr l) ↦ omega (arith, l)
    ] in
    record { names = y ∷ U; whole = refl; later = (low, b.1) }
names_go_on n i cells (x ∷ T) [] a b t c d h = some_here x.number x T [] _ refl (h x.number (t zero x refl)) refl
names_go_on n i cells (x ∷ T) (y ∷ U) a b t c d h =
    elim (three_ways x.number y.number) [
      | inl l ↦ some_here x.number x T (y ∷ U) _ refl (h x.number (t zero x refl)) (none_below x.number y.number (y ∷ U) l (omega arith, b.1))
      | inr (inl l) ↦
          let small : x.number < n = t zero x refl in
          some_here y.number y U (x ∷ T) _ refl (sym (h y.number (omega (arith, l, small)))) (none_below y.number x.number (x ∷ T) l (omega arith, a.1))
      | inr (inr l) ↦
          let one : x ≡ y = same_named cells x y T U c d l (h x.number (t zero x refl)) in
          let r = names_go_on n (x.number + 1) cells T U a.1 (ascend_low (y.number + 1) (x.number + 1) U (omega (arith, l)) b.1) (λ k z e. t (suc k) z e) c.1 d.1 (rest_agrees n x y T U one h a.1 b.1) in
          let whole : U ≡ T ++ r.names = r.whole in
          record { names = r.names; whole = λ k. (sym one) k ∷ whole k; later = r.later }
    ]

-- ---- variables with names, and more of them
pub record CellsGoOn (T U : List Named) (cs ds : List Cell) (a b : List ℕ) : Type 0 where
  pub names : List Named
  pub cells : List Cell
  pub whole : U ≡ T ++ names
  pub later : Ascend (length cs) names
  pub stores : ds ≡ cs ++ cells
  pub rest : a ≡ cell_lines_from (length cs) U cells ++ b

more_covered : (xs ys : List (Ty × Value)) (uses : List (ℕ × Ty)) → Covers xs uses → Covers (xs ++ ys) uses
more_covered xs ys [] c = tt
more_covered xs ys (u ∷ us) c = (kinds-left xs ys u.0 u.1 c.0, more_covered xs ys us c.1)

pub covered_more : (cs ds : List Cell) (uses : List (ℕ × Ty)) → Covers (plains cs) uses → Covers (plains (cs ++ ds)) uses
covered_more cs ds uses c = subst (λ (z : List (Ty × Value)). Covers z uses) (sym (map-append plain cs ds)) (more_covered (plains cs) (plains ds) uses c)

pub common_cells : (format format' : ℕ) (T U : List Named) (cs ds : List Cell) (a b : List ℕ) → AreCells format T cs → AreCells format' U ds → length cs ≤ length ds → cell_lines T cs ++ a ≡ cell_lines U ds ++ b → CellsGoOn T U cs ds a b
common_cells format format' T U cs ds a b s r l e =
    let known = s.known in
    let known' = r.known in
    let g = common_lines 0 T U cs ds a b (λ j. fits_name j T known.named) (λ j. fits_name j U known'.named) s.fit r.fit l e in
    let stores : ds ≡ cs ++ g.cells = g.stores in
    let covered : Covers (plains ds) (named_uses T) = subst (λ (z : List Cell). Covers (plains z) (named_uses T)) (sym stores) (covered_more cs g.cells (named_uses T) s.named) in
    let n = names_go_on (length cs) 0 (plains ds) T U (ascend T known) (ascend U known') (below cs T s.named) covered r.named (λ j q. g.names j (omega arith) (omega (arith, q))) in
    let at : 0 + length cs ≡ length cs = omega arith in
    record { names = n.names; cells = g.cells; whole = n.whole; later = n.later; stores = stores; rest = g.rest ∙ ap (λ (k : ℕ). cell_lines_from k U g.cells ++ b) at }

-- ---- all the variables
pub record AreOneCells (T U : List Named) (cs ds : List Cell) (a b : List ℕ) : Type 0 where
  pub names : T ≡ U
  pub cells : cs ≡ ds
  pub rest : a ≡ b

no_more : (cells : List Cell) → length cells ≡ 0 → cells ≡ []
no_more [] l = refl
no_more (c ∷ cells) l = absurd (omega (arith, l))

-- a name after all variables is none of theirs
none_after : (n : ℕ) (names : List Named) → Ascend n names → ((k : ℕ) (d : Named) → slice_get names k ≡ Some d → d.number < n) → names ≡ []
none_after n [] a h = refl
none_after n (d ∷ ds) a h = let low = h zero d refl in let high = a.0 in absurd (omega (arith, low, high))

later_uses : (T names : List Named) (cells : List (Ty × Value)) → Covers cells (named_uses (T ++ names)) → Covers cells (named_uses names)
later_uses [] names cells c = c
later_uses (d ∷ T) names cells c = later_uses T names cells c.1

pub cells : (format format' : ℕ) (T U : List Named) (cs ds : List Cell) (a b : List ℕ) → AreCells format T cs → AreCells format' U ds → length cs ≡ length ds → cell_lines T cs ++ a ≡ cell_lines U ds ++ b → AreOneCells T U cs ds a b
cells format format' T U cs ds a b s r l e =
    let g = common_cells format format' T U cs ds a b s r (omega (arith, l)) e in
    let long = ap (λ (z : List Cell). length z) g.stores ∙ length-append cs g.cells in
    let none : g.cells ≡ [] = no_more g.cells (omega (arith, l, long)) in
    let stores : ds ≡ cs = g.stores ∙ ap (λ (z : List Cell). cs ++ z) none ∙ append-nil cs in
    let within : Covers (plains ds) (named_uses g.names) = later_uses T g.names (plains ds) (subst (λ (z : List Named). Covers (plains ds) (named_uses z)) g.whole r.named) in
    let unnamed_more : g.names ≡ [] = none_after (length cs) g.names g.later (λ k d f. let low = below ds g.names within k d f in omega (arith, low, l)) in
    record {
      names = sym (g.whole ∙ ap (λ (z : List Named). T ++ z) unnamed_more ∙ append-nil T);
      cells = sym stores;
      rest = g.rest ∙ ap (λ (z : List Cell). cell_lines_from (length cs) U z ++ b) none;
    }

-- ---- one variable more
gapless_push : (i : ℕ) (names : List Named) (d : Named) → is_gapless_from i names ≡ true → d.number ≡ i + length names → is_gapless_from i (names ++ d ∷ []) ≡ true
gapless_push i [] d g n = let same : nat_eq d.number i ≡ true = (let at : d.number ≡ i = omega (arith, n) in ap (λ (k : ℕ). nat_eq k i) at ∙ itself i) in rw same refl
gapless_push i (x ∷ names) d g n = both_by (nat_eq x.number i) (is_gapless_from (i + 1) names) (is_gapless_from (i + 1) (names ++ d ∷ [])) g (λ h. gapless_push (i + 1) names d h (omega (arith, n))) where
  both_by : (b p q : Bool) → b && p ≡ true → (p ≡ true → q ≡ true) → b && q ≡ true
  both_by true p q e more = more e
  both_by false p q e more = absurd (cc)

-- a name's number is its place
pub gapless_at : (i : ℕ) (names more : List Named) (d : Named) → is_gapless_from i (names ++ d ∷ more) ≡ true → d.number ≡ i + length names
gapless_at i [] more d g = first (nat_eq d.number i) (is_gapless_from (i + 1) more) g refl where
  first : (b p : Bool) → b && p ≡ true → nat_eq d.number i ≡ b → d.number ≡ i + 0
  first true p e f = grind (arith, nat_tests)
  first false p e f = absurd (cc)
gapless_at i (x ∷ names) more d g = let at = gapless_at (i + 1) names more d (rest (nat_eq x.number i) (is_gapless_from (i + 1) (names ++ d ∷ more)) g) in omega (arith, at) where
  rest : (b p : Bool) → b && p ≡ true → p ≡ true
  rest true p e = e
  rest false p e = absurd (cc)

last_kind : (cells : List Cell) (c : Cell) → kinds_of (plains (cells ++ c ∷ [])) (length cells) ≡ Some c.kind
last_kind [] c = refl
last_kind (x ∷ cells) c = last_kind cells c

uses_push : (cells : List (Ty × Value)) (names : List Named) (d : Named) → Covers cells (named_uses names) → kinds_of cells d.number ≡ Some d.kind → Covers cells (named_uses (names ++ d ∷ []))
uses_push cells [] d c k = (k, tt)
uses_push cells (x ∷ names) d c k = (c.0, uses_push cells names d c.1 k)

pub covered_push : (names : List Named) (cells : List Cell) (name : Option (List ℕ)) (c : Cell) → Covers (plains cells) (named_uses names) → Covers (plains (cells ++ c ∷ [])) (named_uses (with_name_of names (length cells) name c.kind))
covered_push names cells None c h = covered_more cells (c ∷ []) (named_uses names) h
covered_push names cells (Some name) c h =
    uses_push (plains (cells ++ c ∷ [])) names (record { name = name; number = length cells; kind = c.kind }) (covered_more cells (c ∷ []) (named_uses names) h) (last_kind cells c)

fit_push : (cs : List Cell) (c : Cell) → FitCells cs → FitsCell None c → FitCells (cs ++ c ∷ [])
fit_push [] c a f = (f, tt)
fit_push (b ∷ cs) c a f = (a.0, fit_push cs c a.1 f)

pub cells_push : (format : ℕ) (names : List Named) (cells : List Cell) (name : Option (List ℕ)) (c : Cell) → AreCells format names cells → FitsCell name c → MayBeNamed format names (length cells) name c.kind
    → AreCells format (with_name_of names (length cells) name c.kind) (cells ++ c ∷ [])
cells_push format names cells None c a f m = record {
  known = a.known;
  named = covered_push names cells None c a.named;
  gapless = a.gapless;
  fit = fit_push cells c a.fit f;
}
cells_push format names cells (Some name) c a f m =
    let d : Named = record { name = name; number = length cells; kind = c.kind } in
    record {
      known = known-added names d a.known f.0 m.1 (below cells names a.named) m.2;
      named = covered_push names cells (Some name) c a.named;
      gapless = λ e. gapless_push 0 names d (a.gapless e) (let l = m.0 e in omega (arith, l));
      fit = fit_push cells c a.fit (tt, f.1, f.2, f.3);
    }

pub lines_push : (format : ℕ) (names : List Named) (cells : List Cell) (name : Option (List ℕ)) (c : Cell) → AreCells format names cells
    → cell_lines (with_name_of names (length cells) name c.kind) (cells ++ c ∷ []) ≡ cell_lines names cells ++ (cell_line name c ++ 10 ∷ [])
lines_push format names cells None c a =
    let at : 0 + length cells ≡ length cells = omega arith in
    let none : name_numbered (length cells) names ≡ None = unnamed (length cells) names (λ k d e p. let low = below cells names a.named k d e in omega (arith, low, p)) in
    lines-append 0 names cells (c ∷ []) ∙ ap (λ (k : ℕ). cell_lines names cells ++ cell_lines_from k names (c ∷ [])) at ∙ ap (λ (o : Option (List ℕ)). cell_lines names cells ++ (cell_line o c ++ 10 ∷ [])) none
lines_push format names cells (Some name) c a =
    let d : Named = record { name = name; number = length cells; kind = c.kind } in
    let at : 0 + length cells ≡ length cells = omega arith in
    let some : name_numbered (length cells) (names ++ d ∷ []) ≡ Some name =
    numbered_after (length cells) names (d ∷ []) (λ k x e p. let low = below cells names a.named k x e in omega (arith, low, p)) ∙ here (length cells) d [] refl in
    let front : cell_lines (names ++ d ∷ []) cells ≡ cell_lines names cells = lines_same 0 (names ++ d ∷ []) names cells (λ j l. numbered_before j names d (λ p. let p' : length cells ≡ j = p in omega (arith, p', l))) in
    lines-append 0 (names ++ d ∷ []) cells (c ∷ []) ∙ ap (λ (k : ℕ). cell_lines (names ++ d ∷ []) cells ++ cell_lines_from k (names ++ d ∷ []) (c ∷ [])) at
    ∙ ap (λ (o : Option (List ℕ)). cell_lines (names ++ d ∷ []) cells ++ (cell_line o c ++ 10 ∷ [])) some ∙ ap (λ (l : List ℕ). l ++ (cell_line (Some name) c ++ 10 ∷ [])) front

-- ---- the name of the next variable
-- a name that comes later is new
number_first : (b : Bool) (m : ℕ) (o : Option ℕ) (n : ℕ) → (if b then Some m else o) ≡ Some n → (m ≡ n) ⊎ (o ≡ Some n)
number_first true m o n e = let same : m ≡ n = cc in inl same
number_first false m o n e = inr e

number_found : (name : List ℕ) (names : List Named) (n : ℕ) → number_named name names ≡ Some n → (k : ℕ) × (d : Named) × (slice_get names k ≡ Some d) × (d.number ≡ n)
number_found name [] n e = absurd (cc)
number_found name (d ∷ ds) n e =
    elim (number_first (bytes_eq d.name name) d.number (number_named name ds) n e) [
      | inl p ↦ (zero, d, refl, p)
      | inr p ↦ let r = number_found name ds n p in (suc r.0, r.1, r.2, r.3)
    ]

none_or_some : (o : Option ℕ) → (o ≡ None) ⊎ ((n : ℕ) × (o ≡ Some n))
none_or_some None = inl refl
none_or_some (Some n) = inr (n, refl)

at_end : (T more : List Named) (d : Named) → slice_get (T ++ d ∷ more) (length T) ≡ Some d
at_end [] more d = refl
at_end (x ∷ T) more d = at_end T more d

fresh : (T more : List Named) (d : Named) → AreKnown (T ++ d ∷ more) → NumbersAreBelow d.number T → number_named d.name T ≡ None
fresh T more d k b =
    elim (none_or_some (number_named d.name T)) [
      | inl p ↦ p
      | inr p ↦
          let stays : number_named d.name (T ++ d ∷ more) ≡ Some p.0 = number_stays d.name T (d ∷ more) p.0 p.1 in
          let own : number_named d.name (T ++ d ∷ more) ≡ Some d.number = k.distinct (length T) d (at_end T more d) in
          let numbers : p.0 ≡ d.number = cc in
          let f = number_found d.name T p.0 p.1 in
          let low = b f.0 f.1 f.2 in
          absurd (omega (arith, low, f.3, numbers))
    ]

kind_at : (cs more : List Cell) (c : Cell) → kinds_of (plains (cs ++ c ∷ more)) (length cs) ≡ Some c.kind
kind_at [] more c = refl
kind_at (x ∷ cs) more c = kind_at cs more c

first_named : (format : ℕ) (T more : List Named) (d : Named) (cs cells : List Cell) (c : Cell) → AreCells format (T ++ d ∷ more) (cs ++ c ∷ cells) → NumbersAreBelow (length cs) T → d.number ≡ length cs
    → MayBeNamed format T (length cs) (Some d.name) c.kind
first_named format T more d cs cells c a b n =
    let known = a.known in
    let kind : Some d.kind ≡ Some c.kind = sym (later_uses T (d ∷ more) (plains (cs ++ c ∷ cells)) a.named).0 ∙ ap (kinds_of (plains (cs ++ c ∷ cells))) n ∙ kind_at cs cells c in
    let kinds : d.kind ≡ c.kind = cc in (
      λ e. (let at = gapless_at 0 T more d (a.gapless e) in omega (arith, at, n)),
      fresh T more d known (subst (λ (k : ℕ). NumbersAreBelow k T) (sym n) b),
      subst (MayHaveType T) kinds (subst (λ (z : List Named). MayHaveType z d.kind) (take_at T (d ∷ more) (length T) refl) (known.held (length T) d (at_end T more d))),
    )

-- the next variable may have the name that comes next
pub next_named : (format : ℕ) (T names : List Named) (cs cells : List Cell) (c : Cell) → AreCells format (T ++ names) (cs ++ c ∷ cells) → NumbersAreBelow (length cs) T → Ascend (length cs) names
    → MayBeNamed format T (length cs) (name_numbered (length cs) names) c.kind
next_named format T [] cs cells c a b l = tt
next_named format T (d ∷ more) cs cells c a b l =
    elim (equal_or_more (length cs) d.number l.0) [
      | inl p ↦ subst (λ (o : Option (List ℕ)). MayBeNamed format T (length cs) o c.kind) (sym (here (length cs) d more p)) (first_named format T more d cs cells c a b p)
      | inr p ↦ subst (λ (o : Option (List ℕ)). MayBeNamed format T (length cs) o c.kind) (sym (none_below (length cs) d.number (d ∷ more) p (omega arith, l.1))) tt
    ]
