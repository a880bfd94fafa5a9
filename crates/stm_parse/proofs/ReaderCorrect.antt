-- A reader that reads each text of its language and reports the first fault of all else, and how such readers are put together.
use Rattle.std.proofs.Common.{◌≡◌, ℕ, zero, suc, ◌+◌, ◌<◌, ◌≤◌, List, [], ◌∷◌, ◌++◌, length, refl, sym, ap, ◌∙◌, subst, arith, length-append, append_assoc, Ok, Err, Bool, true, false, cond, ◌⊎◌, inl, inr, get_or}
use Rattle.std.specs.Prelude.{⊤}
use Rattle.std.proofs.lemmas.Bool.{eqb-true, eq-eqb}
use Rattle.stm_parse.specs.declared.token.Mark.{Mark}
use Rattle.stm_parse.specs.declared.token.Mark.TheVariants as mark
use Rattle.stm_parse.specs.declared.token.TokenKind.{TokenKind}
use Rattle.stm_parse.specs.declared.token.TokenKind.TheVariants as tok
use Rattle.stm_parse.specs.declared.token.Lexeme.{Lexeme}
use Rattle.stm_parse.specs.declared.token.Fault.{Fault}
use Rattle.stm_parse.specs.declared.token.ErrorKind.{ErrorKind}
use Rattle.stm_parse.specs.declared.token.ErrorKind.TheVariants as cause
use Rattle.stm_parse.specs.Terminals.{code, is_mark, IsMark}
use Rattle.stm_parse.specs.Descent.{Reading, Reader, ◌>>=◌, unexpected, expect, expect_name, is_name_kind}
use Rattle.stm_parse.specs.Grammar.{At, at, at_ref, at_number, erase, deepest, IsAllowed, WithinLimits}
use Rattle.stm_parse.specs.Faults.{Language, IsBeyond}
use Rattle.stm_parse.proofs.ReaderPromises.{plain-split, plain-length, within-append, within-back, Says, SaysOf, Some_text, Then, then_, Mapped, mapped, took_length, says_more, says_map, says_chain, says_end, says_refused, says_one, fault}

-- the tokens are within the limits up to one that is past the limit of the fault and no other, and so far from the end
pub record Passes (f : Fault) (us : List At) (rest : List Lexeme) : Type 0 where
  pub front : List At
  pub past : At
  pub back : List At
  pub cut : us ≡ front ++ (past ∷ back)
  pub within : WithinLimits front
  pub beyond : IsBeyond f.cause past
  pub only : (c : ErrorKind) → IsBeyond c past → c ≡ f.cause
  pub left : f.left ≡ suc (length back + length rest)

-- this tree of tokens within the limits, or the fault of the first that is past one
abbrev pub Outcome : {A : Type 0} → Reading A → List At → A → List Lexeme → Type 0
Outcome x us a rest = ((x ≡ Ok (a, rest)) × WithinLimits us) ⊎ (f : Fault) × (x ≡ Err f) × Passes f us rest

abbrev pub Reads : {A : Type 0} → Reader A → List At → A → List Lexeme → Type 0
Reads r us a rest = Outcome (r (erase us ++ rest)) us a rest

pub reads_same : {A : Type 0} (r r' : Reader A) (us : List At) (a : A) (rest : List Lexeme) → r (erase us ++ rest) ≡ r' (erase us ++ rest) → Reads r' us a rest → Reads r us a rest
reads_same r r' us a rest e h = subst (λ x. Outcome x us a rest) (sym e) h

-- a token before them
passes_step : (f : Fault) (u : At) (us : List At) (rest : List Lexeme) → IsAllowed u → Passes f us rest → Passes f (u ∷ us) rest
passes_step f u us rest low p = record { front = u ∷ p.front; past = p.past; back = p.back; cut = ap (λ l. u ∷ l) p.cut; within = (low, p.within); beyond = p.beyond; only = p.only; left = p.left }

-- tokens before them
passes_behind : (f : Fault) (us vs : List At) (rest : List Lexeme) → WithinLimits us → Passes f vs rest → Passes f (us ++ vs) rest
passes_behind f us vs rest w p = record { front = us ++ p.front; past = p.past; back = p.back; cut = ap (λ l. us ++ l) p.cut ∙ sym (append_assoc us p.front (p.past ∷ p.back)); within = within-append us p.front w p.within; beyond = p.beyond; only = p.only; left = p.left }

-- tokens after them
passes_before : (f : Fault) (us vs : List At) (rest : List Lexeme) → Passes f us (erase vs ++ rest) → Passes f (us ++ vs) rest
passes_before f us vs rest p =
    let l = p.left in
    let m = length-append (erase vs) rest in
    let n = plain-length vs in
    let o = length-append p.back vs in
    record { front = p.front; past = p.past; back = p.back ++ vs; cut = ap (λ l. l ++ vs) p.cut ∙ append_assoc p.front (p.past ∷ p.back) vs; within = p.within; beyond = p.beyond; only = p.only; left = omega arith }

-- no token that is past a limit is within the limits
pub beyond_out : (c : ErrorKind) (u : At) → IsBeyond c u → IsAllowed u → ⊥
beyond_out cause.Unexpected u b a = b
beyond_out cause.TooDeep u (inl e) a = let l = a.0 in absurd (omega arith)
beyond_out cause.TooDeep u (inr e) a = let l = a.1 in absurd (omega arith)
beyond_out cause.BadNumber u b a = let l = a.2 in absurd (omega arith)

pub passes_out : (f : Fault) (us : List At) (rest : List Lexeme) → Passes f us rest → WithinLimits us → ⊥
passes_out f us rest p w = beyond_out f.cause p.past p.beyond (within-back p.front (p.past ∷ p.back) (subst WithinLimits p.cut w)).0

pub reads_step : {A : Type 0} (r k : Reader A) (u : At) (us : List At) (a : A) (rest : List Lexeme) → IsAllowed u → ((s : List Lexeme) → r (u.lexeme ∷ s) ≡ k s) → Reads k us a rest → Reads r (u ∷ us) a rest
reads_step r k u us a rest low e (inl h) = inl (e _ ∙ h.0, (low, h.1))
reads_step r k u us a rest low e (inr h) = inr (h.0, e _ ∙ h.1, passes_step h.0 u us rest low h.2)

pub reads_chain : {A B : Type 0} (r : Reader A) (k : A → Reader B) (us vs : List At) (a : A) (b : B) (rest : List Lexeme) → Reads r us a (erase vs ++ rest) → Reads (k a) vs b rest → Reads (λ s. r s >>= λ x. k x.0 x.1) (us ++ vs) b rest
reads_chain r k us vs a b rest (inl e) (inl g) = inl (ap (λ s. r s >>= λ x. k x.0 x.1) (plain-split us vs rest) ∙ ap (λ y. y >>= λ x. k x.0 x.1) e.0 ∙ g.0, within-append us vs e.1 g.1)
reads_chain r k us vs a b rest (inl e) (inr g) = inr (g.0, ap (λ s. r s >>= λ x. k x.0 x.1) (plain-split us vs rest) ∙ ap (λ y. y >>= λ x. k x.0 x.1) e.0 ∙ g.1, passes_behind g.0 us vs rest e.1 g.2)
reads_chain r k us vs a b rest (inr e) g = inr (e.0, ap (λ s. r s >>= λ x. k x.0 x.1) (plain-split us vs rest) ∙ ap (λ y. y >>= λ x. k x.0 x.1) e.1, passes_before e.0 us vs rest e.2)

pub reads_map : {A B : Type 0} (r : Reader A) (f : A → B) (us : List At) (a : A) (rest : List Lexeme) → Reads r us a rest → Reads (λ s. r s >>= λ x. Ok (f x.0, x.1)) us (f a) rest
reads_map r f us a rest (inl e) = inl (ap (λ y. y >>= λ x. Ok (f x.0, x.1)) e.0, e.1)
reads_map r f us a rest (inr h) = inr (h.0, ap (λ y. y >>= λ x. Ok (f x.0, x.1)) h.1, h.2)

pub reads_stop : {A : Type 0} (r : Reader A) (a : A) (rest : List Lexeme) → r rest ≡ Ok (a, rest) → Reads r [] a rest
reads_stop r a rest e = inl (e, tt)

-- the first token is past a limit
pub reads_beyond : {A : Type 0} (r : Reader A) (c : ErrorKind) (u : At) (us : List At) (a : A) (rest : List Lexeme) → IsBeyond c u → ((k : ErrorKind) → IsBeyond k u → k ≡ c) → ((s : List Lexeme) → r (u.lexeme ∷ s) ≡ Err (fault c (u.lexeme ∷ s))) → Reads r (u ∷ us) a rest
reads_beyond r c u us a rest b only e =
    let m = length-append (erase us) rest in
    let n = plain-length us in
    inr (fault c (u.lexeme ∷ (erase us ++ rest)), e _, record { front = []; past = u; back = us; cut = refl; within = tt; beyond = b; only = only; left = omega arith })

-- a token is past one limit only
pub only_deep : (d k : ℕ) (x : Lexeme) (c : ErrorKind) → IsBeyond c (at_ref d k x) → c ≡ cause.TooDeep
only_deep d k x cause.Unexpected b = absurd b
only_deep d k x cause.TooDeep b = refl
only_deep d k x cause.BadNumber b = absurd (omega arith)

pub only_number : (d n : ℕ) (x : Lexeme) → d ≤ deepest → (c : ErrorKind) → IsBeyond c (at_number d n x) → c ≡ cause.BadNumber
only_number d n x low cause.Unexpected b = absurd b
only_number d n x low cause.TooDeep (inl e) = absurd (omega arith)
only_number d n x low cause.TooDeep (inr e) = absurd (omega arith)
only_number d n x low cause.BadNumber b = refl

-- for lists of at most n tokens, where what follows a text is of F
pub record Good {A : Type 0} (n : ℕ) (r : Reader A) (L : Language A) (F : List Lexeme → Type 0) : Type 0 where
  pub says : (toks : List Lexeme) → length toks ≤ n → Says r L toks
  pub reads : (us : List At) (a : A) (rest : List Lexeme) → length us + length rest ≤ n → L us a → F rest → Reads r us a rest
  pub some : Some_text L

abbrev pub Any : List Lexeme → Type 0
Any rest = ⊤

-- a language that is said in other words
pub good_same : {A : Type 0} (n : ℕ) (r : Reader A) (L M : Language A) (F : List Lexeme → Type 0) → ((us : List At) (a : A) → L us a → M us a) → ((us : List At) (a : A) → M us a → L us a) → Good n r L F → Good n r M F
good_same n r L M F to back g = record { says = λ toks l. says_more r L M toks to (g.says toks l); reads = λ us a rest l h f. g.reads us a rest l (back us a h) f; some = (g.some.0, g.some.1, to _ _ g.some.2) }

-- a language whose trees a function makes of those of another
module _ {A B : Type 0} (n : ℕ) (r : Reader A) (f : A → B) (L : Language A) (F : List Lexeme → Type 0) (g : Good n r L F) where
  map_reads : (us : List At) (b : B) → Mapped f L us b → (rest : List Lexeme) → length us + length rest ≤ n → F rest → Reads (λ s. r s >>= λ x. Ok (f x.0, x.1)) us b rest
  map_reads us b (mapped vs a h) rest l k = reads_map r f vs a rest (g.reads vs a rest l h k)

  pub good_map : Good n (λ s. r s >>= λ x. Ok (f x.0, x.1)) (Mapped f L) F
  good_map = record { says = λ toks l. says_map r f L toks (g.says toks l); reads = λ us b rest l h k. map_reads us b h rest l k; some = (g.some.0, f g.some.1, mapped _ _ g.some.2) }

-- one after the other
module _ {A B : Type 0} (n : ℕ) (r : Reader A) (k : A → Reader B) (L : Language A) (M : A → Language B) (F G : List Lexeme → Type 0) (g : Good n r L F) (h : (a : A) → Good n (k a) (M a) G) (follows : (a : A) (us : List At) (b : B) (rest : List Lexeme) → M a us b → G rest → F (erase us ++ rest)) where
  chain_reads : (us : List At) (b : B) → Then L M us b → (rest : List Lexeme) → length us + length rest ≤ n → G rest → Reads (λ s. r s >>= λ x. k x.0 x.1) us b rest
  chain_reads us b (then_ vs ws a t u) rest l f =
      let s = length-append vs ws in
      let p = length-append (erase ws) rest in
      let q = plain-length ws in
      reads_chain r k vs ws a b rest (g.reads vs a (erase ws ++ rest) (omega arith) t (follows a ws b rest u f)) ((h a).reads ws b rest (omega arith) u f)

  pub good_chain : Good n (λ s. r s >>= λ x. k x.0 x.1) (Then L M) G
  good_chain = record { says = λ toks l. says_chain r k L M toks (g.says toks l) (λ a rest le. (h a).says rest (omega arith)) (λ a. (h a).some); reads = λ us b rest l t f. chain_reads us b t rest l f; some = (g.some.0 ++ (h g.some.1).some.0, (h g.some.1).some.1, then_ _ _ _ g.some.2 (h g.some.1).some.2) }

-- on all lists
pub each_says : {A : Type 0} (r : Reader A) (L : Language A) (F : List Lexeme → Type 0) → ((n : ℕ) → Good n r L F) → (toks : List Lexeme) → Says r L toks
each_says r L F g toks = (g (length toks)).says toks (omega arith)

pub each_reads : {A : Type 0} (r : Reader A) (L : Language A) (F : List Lexeme → Type 0) → ((n : ℕ) → Good n r L F) → (us : List At) (a : A) (rest : List Lexeme) → L us a → F rest → Reads r us a rest
each_reads r L F g us a rest h f = (g (length us + length rest)).reads us a rest (omega arith) h f

pub shorter : {A : Type 0} (r : Reader A) (L : Language A) (F : List Lexeme → Type 0) → ((n : ℕ) → Good n r L F) → (toks : List Lexeme) (x : A × List Lexeme) → r toks ≡ Ok x → length x.1 ≤ length toks
shorter r L F g toks x e = took_length r L toks x.1 x.0 (subst (SaysOf r L toks) e (each_says r L F g toks))

below : (P : ℕ → Type 0) → ((n : ℕ) → ((m : ℕ) → m < n → P m) → P n) → (n m : ℕ) → m < n → P m
below P h zero m l = absurd (omega arith)
below P h (suc n) m l = h m (λ j k. below P h n j (omega arith))

-- what holds of n where it holds of all below, holds of all
pub from_below : (P : ℕ → Type 0) → ((n : ℕ) → ((m : ℕ) → m < n → P m) → P n) → (n : ℕ) → P n
from_below P h n = below P h (suc n) n (omega arith)

pub allowed : (d : ℕ) (x : Lexeme) → d ≤ deepest → IsAllowed (at d x)
allowed d x l = (l, omega arith, omega arith)

marks : List Mark
marks = mark.Do ∷ mark.Let ∷ mark.If ∷ mark.Then ∷ mark.Else ∷ mark.Return ∷ mark.ReadTVar ∷ mark.WriteTVar ∷ mark.NewTVar ∷ mark.Retry ∷ mark.OrElse ∷ mark.Throw ∷ mark.Catch ∷ mark.True ∷ mark.False ∷ mark.Int ∷ mark.Bool ∷ mark.TVar ∷ mark.LBrace ∷ mark.RBrace ∷ mark.LParen ∷ mark.RParen ∷ mark.Semicolon ∷ mark.Colon ∷ mark.Arrow ∷ mark.Le ∷ mark.Lt ∷ mark.EqEq ∷ mark.Equals ∷ mark.Plus ∷ mark.Minus ∷ mark.Star ∷ mark.AndAnd ∷ mark.OrOr ∷ []

decoded : (m : Mark) → get_or marks (code m) mark.Do ≡ m
unfolding marks
decoded mark.Do = refl
decoded mark.Let = refl
decoded mark.If = refl
decoded mark.Then = refl
decoded mark.Else = refl
decoded mark.Return = refl
decoded mark.ReadTVar = refl
decoded mark.WriteTVar = refl
decoded mark.NewTVar = refl
decoded mark.Retry = refl
decoded mark.OrElse = refl
decoded mark.Throw = refl
decoded mark.Catch = refl
decoded mark.True = refl
decoded mark.False = refl
decoded mark.Int = refl
decoded mark.Bool = refl
decoded mark.TVar = refl
decoded mark.LBrace = refl
decoded mark.RBrace = refl
decoded mark.LParen = refl
decoded mark.RParen = refl
decoded mark.Semicolon = refl
decoded mark.Colon = refl
decoded mark.Arrow = refl
decoded mark.Le = refl
decoded mark.Lt = refl
decoded mark.EqEq = refl
decoded mark.Equals = refl
decoded mark.Plus = refl
decoded mark.Minus = refl
decoded mark.Star = refl
decoded mark.AndAnd = refl
decoded mark.OrOr = refl

pub is_mark-true : (m : Mark) (s : TokenKind) → is_mark m s ≡ true → s ≡ tok.Mark m
is_mark-true m (tok.Mark k) e = ap tok.Mark (sym (decoded k) ∙ ap (λ n. get_or marks n mark.Do) (eqb-true (code k) (code m) e) ∙ decoded m)
is_mark-true m (tok.Number n) e = absurd cc
is_mark-true m tok.Name e = absurd cc
is_mark-true m tok.Other e = absurd cc

pub is_mark-same : (m : Mark) (s : TokenKind) → s ≡ tok.Mark m → is_mark m s ≡ true
is_mark-same m s e = ap (is_mark m) e ∙ eq-eqb (code m) (code m) refl

pub is_name-true : (s : TokenKind) → is_name_kind s ≡ true → s ≡ tok.Name
is_name-true tok.Name e = refl
is_name-true (tok.Mark m) e = absurd cc
is_name-true (tok.Number n) e = absurd cc
is_name-true tok.Other e = absurd cc

-- some token of this mark
abbrev pub some_mark : Mark → Lexeme
some_mark m = record { sym = tok.Mark m; start = 0; end = 0 }

abbrev pub some_name : Lexeme
some_name = record { sym = tok.Name; start = 0; end = 0 }

abbrev pub IsName : Lexeme → Type 0
IsName x = x.sym ≡ tok.Name

-- one token
pub data Token (d : ℕ) (P : Lexeme → Type 0) : List At → Lexeme → Type 0 where
  token : (x : Lexeme) → P x → Token d P (at d x ∷ []) x

module _ (d : ℕ) (low : d ≤ deepest) where
  says_expect : (m : Mark) (toks : List Lexeme) → Says (expect m) (Token d (IsMark m)) toks
  says_expect m [] = says_end (expect m) (Token d (IsMark m)) refl (_, _, token (some_mark m) refl)
  says_expect m (x ∷ s) = by (is_mark m x.sym) refl
    where
      by : (b : Bool) → is_mark m x.sym ≡ b → Says (expect m) (Token d (IsMark m)) (x ∷ s)
      by true e = says_one (expect m) (Token d (IsMark m)) x (at d x) s (allowed d x low) (λ s'. ap (λ b. cond b (Ok (x, s')) (Err (unexpected (x ∷ s')))) e) (token x (is_mark-true m x.sym e))
      by false e = says_refused (expect m) (Token d (IsMark m)) x s (λ s'. ap (λ b. cond b (Ok (x, s')) (Err (unexpected (x ∷ s')))) e) (_, _, token (some_mark m) refl)

  reads_expect : (m : Mark) (us : List At) (a : Lexeme) → Token d (IsMark m) us a → (rest : List Lexeme) → Reads (expect m) us a rest
  reads_expect m us a (token x p) rest = inl (ap (λ b. cond b (Ok (x, rest)) (Err (unexpected (x ∷ rest)))) (is_mark-same m x.sym p), (allowed d x low, tt))

  pub good_expect : (m : Mark) (n : ℕ) → Good n (expect m) (Token d (IsMark m)) Any
  good_expect m n = record { says = λ toks l. says_expect m toks; reads = λ us a rest l h f. reads_expect m us a h rest; some = (_, _, token (some_mark m) refl) }

  says_name : (toks : List Lexeme) → Says expect_name (Token d IsName) toks
  says_name [] = says_end expect_name (Token d IsName) refl (_, _, token some_name refl)
  says_name (x ∷ s) = by (is_name_kind x.sym) refl
    where
      by : (b : Bool) → is_name_kind x.sym ≡ b → Says expect_name (Token d IsName) (x ∷ s)
      by true e = says_one expect_name (Token d IsName) x (at d x) s (allowed d x low) (λ s'. ap (λ b. cond b (Ok (x, s')) (Err (unexpected (x ∷ s')))) e) (token x (is_name-true x.sym e))
      by false e = says_refused expect_name (Token d IsName) x s (λ s'. ap (λ b. cond b (Ok (x, s')) (Err (unexpected (x ∷ s')))) e) (_, _, token some_name refl)

  reads_name : (us : List At) (a : Lexeme) → Token d IsName us a → (rest : List Lexeme) → Reads expect_name us a rest
  reads_name us a (token x p) rest = inl (ap (λ b. cond b (Ok (x, rest)) (Err (unexpected (x ∷ rest)))) (ap is_name_kind p), (allowed d x low, tt))

  pub good_name : (n : ℕ) → Good n expect_name (Token d IsName) Any
  good_name n = record { says = λ toks l. says_name toks; reads = λ us a rest l h f. reads_name us a h rest; some = (_, _, token some_name refl) }
