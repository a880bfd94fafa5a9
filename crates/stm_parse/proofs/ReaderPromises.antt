-- What a reader of a grammar promises for a list of tokens, and that it is kept by what readers are made of.
use Rattle.std.proofs.Common.{◌≡◌, suc, ◌≤◌, List, [], ◌∷◌, ◌++◌, length, refl, sym, ap, ◌∙◌, subst, arith, append_assoc, length-append, Ok, Err}
use Rattle.std.specs.Prelude.{⊤}
use Rattle.stm_parse.specs.declared.token.Lexeme.{Lexeme}
use Rattle.stm_parse.specs.declared.token.ErrorKind.{ErrorKind}
use Rattle.stm_parse.specs.declared.token.ErrorKind.TheVariants as cause
use Rattle.stm_parse.specs.declared.token.Fault.{Fault}
use Rattle.stm_parse.specs.Descent.{Reading, Reader, ◌>>=◌, unexpected}
use Rattle.stm_parse.specs.Grammar.{At, erase, IsAllowed, WithinLimits}
use Rattle.stm_parse.specs.Faults.{Language, IsBeyond}

pub plain-append : (xs ys : List At) → erase (xs ++ ys) ≡ erase xs ++ erase ys
plain-append [] ys = refl
plain-append (x ∷ xs) ys = ap (λ l. x.lexeme ∷ l) (plain-append xs ys)

pub plain-length : (xs : List At) → length (erase xs) ≡ length xs
plain-length [] = refl
plain-length (x ∷ xs) = ap suc (plain-length xs)

pub within-append : (xs ys : List At) → WithinLimits xs → WithinLimits ys → WithinLimits (xs ++ ys)
within-append [] ys h k = k
within-append (x ∷ xs) ys h k = (h.0, within-append xs ys h.1 k)

pub within-back : (xs ys : List At) → WithinLimits (xs ++ ys) → WithinLimits ys
within-back [] ys h = h
within-back (x ∷ xs) ys h = within-back xs ys h.1

-- the fault's token is the next in the text, where the fault is of a limit
abbrev pub PointsAt : ErrorKind → List At → List Lexeme → Type 0
PointsAt c [] s = ⊥
PointsAt c (w ∷ ws) [] = ⊥
PointsAt c (w ∷ ws) (x ∷ s) = (w.lexeme ≡ x) × IsBeyond c w

abbrev pub Points : ErrorKind → List At → List Lexeme → Type 0
Points cause.Unexpected ws s = ⊤
Points cause.TooDeep ws s = PointsAt cause.TooDeep ws s
Points cause.BadNumber ws s = PointsAt cause.BadNumber ws s

-- the tokens taken are a text, and any tokens that begin with the same next one give the same
pub record Took {A : Type 0} (r : Reader A) (L : Language A) (toks : List Lexeme) (a : A) (rest : List Lexeme) : Type 0 where
  pub us : List At
  pub text : L us a
  pub cut : toks ≡ erase us ++ rest
  pub within : WithinLimits us
  pub again : (x : Lexeme) (s s' : List Lexeme) → rest ≡ x ∷ s → r (erase us ++ (x ∷ s')) ≡ Ok (a, x ∷ s')

-- the tokens before the fault begin a text, and any tokens that agree up to it give the same fault
pub record Failed {A : Type 0} (r : Reader A) (L : Language A) (toks : List Lexeme) (f : Fault) : Type 0 where
  pub us : List At
  pub ws : List At
  pub tree : A
  pub s : List Lexeme
  pub text : L (us ++ ws) tree
  pub cut : toks ≡ erase us ++ s
  pub within : WithinLimits us
  pub left : f.left ≡ length s
  pub points : Points f.cause ws s
  pub again : (x : Lexeme) (s0 s' : List Lexeme) → s ≡ x ∷ s0 → r (erase us ++ (x ∷ s')) ≡ Err (record { cause = f.cause; left = suc (length s') })

abbrev pub SaysOf : {A : Type 0} → Reader A → Language A → List Lexeme → Reading A → Type 0
SaysOf r L toks (Ok x) = Took r L toks x.0 x.1
SaysOf r L toks (Err f) = Failed r L toks f

abbrev pub Says : {A : Type 0} → Reader A → Language A → List Lexeme → Type 0
Says r L toks = SaysOf r L toks (r toks)

-- some text
abbrev pub Some_text : {A : Type 0} → Language A → Type 0
Some_text {A} L = (us : List At) × (a : A) × L us a

-- one after the other
pub data Then {A B : Type 0} (L : Language A) (M : A → Language B) : List At → B → Type 0 where
  then_ : (us bs : List At) (a : A) {b : B} → L us a → M a bs b → Then L M (us ++ bs) b

-- another tree
pub data Mapped {A B : Type 0} (f : A → B) (L : Language A) : List At → B → Type 0 where
  mapped : (us : List At) (a : A) → L us a → Mapped f L us (f a)

-- a greater language
pub says_more : {A : Type 0} (r : Reader A) (L M : Language A) (toks : List Lexeme) → ((us : List At) (a : A) → L us a → M us a) → Says r L toks → Says r M toks
says_more r L M toks more h = of (r toks) h
  where
    of : (x : Reading _) → SaysOf r L toks x → SaysOf r M toks x
    of (Ok x) t = record { us = t.us; text = more _ _ t.text; cut = t.cut; within = t.within; again = t.again }
    of (Err f) t = record { us = t.us; ws = t.ws; tree = t.tree; s = t.s; text = more _ _ t.text; cut = t.cut; within = t.within; left = t.left; points = t.points; again = t.again }

-- a text that is read as another tree, which a function makes of its tree
pub says_map : {A B : Type 0} (r : Reader A) (f : A → B) (L : Language A) (toks : List Lexeme) → Says r L toks → Says (λ s. r s >>= λ x. Ok (f x.0, x.1)) (Mapped f L) toks
says_map r f L toks h = of (r toks) h
  where
    of : (x : Reading _) → SaysOf r L toks x → SaysOf (λ s. r s >>= λ x. Ok (f x.0, x.1)) (Mapped f L) toks (x >>= λ x. Ok (f x.0, x.1))
    of (Ok x) t = record { us = t.us; text = mapped _ _ t.text; cut = t.cut; within = t.within; again = λ x s s' q. ap (λ y. y >>= λ x. Ok (f x.0, x.1)) (t.again x s s' q) }
    of (Err e) t = record { us = t.us; ws = t.ws; tree = f t.tree; s = t.s; text = mapped _ _ t.text; cut = t.cut; within = t.within; left = t.left; points = t.points; again = λ x s s' q. ap (λ y. y >>= λ x. Ok (f x.0, x.1)) (t.again x s s' q) }

-- what is taken leaves no more tokens
pub took_length : {A : Type 0} (r : Reader A) (L : Language A) (toks rest : List Lexeme) (a : A) → Took r L toks a rest → length rest ≤ length toks
took_length r L toks rest a t = omega (arith, ap length t.cut, length-append (erase t.us) rest)

-- what follows, begins with the same token
ahead : (us : List At) (x : Lexeme) (s s' : List Lexeme) → (y : Lexeme) × (t t' : List Lexeme) × (erase us ++ (x ∷ s) ≡ y ∷ t) × (erase us ++ (x ∷ s') ≡ y ∷ t')
ahead [] x s s' = (x, s, s', refl, refl)
ahead (z ∷ zs) x s s' = (z.lexeme, _, _, refl, refl)

pub plain-split : (us vs : List At) (l : List Lexeme) → erase (us ++ vs) ++ l ≡ erase us ++ (erase vs ++ l)
plain-split us vs l = ap (λ m. m ++ l) (plain-append us vs) ∙ append_assoc (erase us) (erase vs) l

points-at-more : (c : ErrorKind) (ws vs : List At) (s : List Lexeme) → PointsAt c ws s → PointsAt c (ws ++ vs) s
points-at-more c [] vs s h = absurd h
points-at-more c (w ∷ ws) vs [] h = absurd h
points-at-more c (w ∷ ws) vs (x ∷ s) h = h

points-more : (c : ErrorKind) (ws vs : List At) (s : List Lexeme) → Points c ws s → Points c (ws ++ vs) s
points-more cause.Unexpected ws vs s h = tt
points-more cause.TooDeep ws vs s h = points-at-more cause.TooDeep ws vs s h
points-more cause.BadNumber ws vs s h = points-at-more cause.BadNumber ws vs s h

module _ {A B : Type 0} (r : Reader A) (k : A → Reader B) (L : Language A) (M : A → Language B) (toks : List Lexeme) where
  abbrev pub chained : Reader B
  chained s = r s >>= λ x. k x.0 x.1

  first_again : (rest : List Lexeme) (a : A) (t : Took r L toks a rest) (vs : List At) (x : Lexeme) (s s' : List Lexeme) → rest ≡ erase vs ++ (x ∷ s) → r (erase t.us ++ (erase vs ++ (x ∷ s'))) ≡ Ok (a, erase vs ++ (x ∷ s'))
  first_again rest a t vs x s s' e =
      let h = ahead vs x s s' in
      subst (λ l. r (erase t.us ++ l) ≡ Ok (a, l)) (sym h.4) (t.again h.0 h.1 h.2 (e ∙ h.3))

  chained_again : (rest : List Lexeme) (a : A) (t : Took r L toks a rest) (vs : List At) (x : Lexeme) (s s' : List Lexeme) → rest ≡ erase vs ++ (x ∷ s) → (z : Reading B) → k a (erase vs ++ (x ∷ s')) ≡ z → chained (erase (t.us ++ vs) ++ (x ∷ s')) ≡ z
  chained_again rest a t vs x s s' e z h =
      ap chained (plain-split t.us vs (x ∷ s')) ∙ ap (λ y. y >>= λ x. k x.0 x.1) (first_again rest a t vs x s s' e) ∙ h

  second : (rest : List Lexeme) (a : A) → Took r L toks a rest → (y : Reading B) → SaysOf (k a) (M a) rest y → SaysOf chained (Then L M) toks y
  second rest a t (Ok y) u = record {
    us = t.us ++ u.us;
    text = then_ t.us u.us a t.text u.text;
    cut = t.cut ∙ ap (λ l. erase t.us ++ l) u.cut ∙ sym (plain-split t.us u.us y.1);
    within = within-append t.us u.us t.within u.within;
    again = λ x s s' e. chained_again rest a t u.us x s s' (u.cut ∙ ap (λ l. erase u.us ++ l) e) _ (u.again x s s' e);
  }
  second rest a t (Err f) u = record {
    us = t.us ++ u.us;
    ws = u.ws;
    tree = u.tree;
    s = u.s;
    text = subst (λ l. Then L M l u.tree) (sym (append_assoc t.us u.us u.ws)) (then_ t.us (u.us ++ u.ws) a t.text u.text);
    cut = t.cut ∙ ap (λ l. erase t.us ++ l) u.cut ∙ sym (plain-split t.us u.us u.s);
    within = within-append t.us u.us t.within u.within;
    left = u.left;
    points = u.points;
    again = λ x s s' e. chained_again rest a t u.us x s s' (u.cut ∙ ap (λ l. erase u.us ++ l) e) _ (u.again x s s' e);
  }

  pub says_chain : Says r L toks → ((a : A) (rest : List Lexeme) → length rest ≤ length toks → Says (k a) (M a) rest) → ((a : A) → Some_text (M a)) → Says chained (Then L M) toks
  says_chain h next some = of (r toks) h
    where
      of : (x : Reading A) → SaysOf r L toks x → SaysOf chained (Then L M) toks (x >>= λ y. k y.0 y.1)
      of (Ok x) t = second x.1 x.0 t (k x.0 x.1) (next x.0 x.1 (took_length r L toks x.1 x.0 t))
      of (Err f) t = let m = some t.tree in record {
        us = t.us;
        ws = t.ws ++ m.0;
        tree = m.1;
        s = t.s;
        text = subst (λ l. Then L M l m.1) (append_assoc t.us t.ws m.0) (then_ (t.us ++ t.ws) m.0 t.tree t.text m.2);
        cut = t.cut;
        within = t.within;
        left = t.left;
        points = points-more f.cause t.ws m.0 t.s t.points;
        again = λ x s s' e. ap (λ y. y >>= λ x. k x.0 x.1) (t.again x s s' e);
      }

-- no token is taken
pub says_stop : {A : Type 0} (r : Reader A) (L : Language A) (a : A) (toks : List Lexeme) → L [] a → r toks ≡ Ok (a, toks) → ((x : Lexeme) (s s' : List Lexeme) → toks ≡ x ∷ s → r (x ∷ s') ≡ Ok (a, x ∷ s')) → Says r L toks
says_stop r L a toks h e same = subst (SaysOf r L toks) (sym e) (record { us = []; text = h; cut = refl; within = tt; again = same })

-- the tokens end too soon
pub says_end : {A : Type 0} (r : Reader A) (L : Language A) → r [] ≡ Err (unexpected []) → Some_text L → Says r L []
says_end r L e h = subst (SaysOf r L []) (sym e) (record { us = []; ws = h.0; tree = h.1; s = []; text = h.2; cut = refl; within = tt; left = refl; points = tt; again = λ x s s' q. absurd cc })

-- no text begins with this token
pub says_refused : {A : Type 0} (r : Reader A) (L : Language A) (x : Lexeme) (s : List Lexeme) → ((s' : List Lexeme) → r (x ∷ s') ≡ Err (unexpected (x ∷ s'))) → Some_text L → Says r L (x ∷ s)
says_refused r L x s e h = subst (SaysOf r L (x ∷ s)) (sym (e s)) (record { us = []; ws = h.0; tree = h.1; s = x ∷ s; text = h.2; cut = refl; within = tt; left = refl; points = tt; again = λ y s0 s' q. let p : x ≡ y = cc in subst (λ z. r (z ∷ s') ≡ Err (unexpected (z ∷ s'))) p (e s') })

abbrev pub fault : ErrorKind → List Lexeme → Fault
fault c toks = record { cause = c; left = length toks }

-- the fault is of a limit
abbrev pub IsOfLimit : ErrorKind → Type 0
IsOfLimit cause.Unexpected = ⊥
IsOfLimit cause.TooDeep = ⊤
IsOfLimit cause.BadNumber = ⊤

points-first : (c : ErrorKind) (u : At) (ws : List At) (s : List Lexeme) → IsOfLimit c → IsBeyond c u → Points c (u ∷ ws) (u.lexeme ∷ s)
points-first cause.Unexpected u ws s l b = tt
points-first cause.TooDeep u ws s l b = (refl, b)
points-first cause.BadNumber u ws s l b = (refl, b)

-- this token is past a limit
pub says_beyond : {A : Type 0} (r : Reader A) (L : Language A) (c : ErrorKind) (u : At) (s : List Lexeme) (ws : List At) (t : A) → IsOfLimit c → IsBeyond c u → L (u ∷ ws) t → ((s' : List Lexeme) → r (u.lexeme ∷ s') ≡ Err (fault c (u.lexeme ∷ s'))) → Says r L (u.lexeme ∷ s)
says_beyond r L c u s ws t l b h e = subst (SaysOf r L (u.lexeme ∷ s)) (sym (e s)) (record { us = []; ws = u ∷ ws; tree = t; s = u.lexeme ∷ s; text = h; cut = refl; within = tt; left = refl; points = points-first c u ws s l b; again = λ y s0 s' q. let p : u.lexeme ≡ y = cc in subst (λ z. r (z ∷ s') ≡ Err (fault c (z ∷ s'))) p (e s') })

-- a token, and then what the second reader reads
pub says_token : {A : Type 0} (r k : Reader A) (L M : Language A) (u : At) (s : List Lexeme) → IsAllowed u → ((s' : List Lexeme) → r (u.lexeme ∷ s') ≡ k s') → ((us : List At) (t : A) → M us t → L (u ∷ us) t) → Says k M s → Says r L (u.lexeme ∷ s)
says_token r k L M u s low e more h = subst (SaysOf r L (u.lexeme ∷ s)) (sym (e s)) (of (k s) h)
  where
    of : (y : Reading _) → SaysOf k M s y → SaysOf r L (u.lexeme ∷ s) y
    of (Ok y) t = record { us = u ∷ t.us; text = more _ _ t.text; cut = ap (λ l. u.lexeme ∷ l) t.cut; within = (low, t.within); again = λ z s0 s' q. e _ ∙ t.again z s0 s' q }
    of (Err f) t = record { us = u ∷ t.us; ws = t.ws; tree = t.tree; s = t.s; text = more _ _ t.text; cut = ap (λ l. u.lexeme ∷ l) t.cut; within = (low, t.within); left = t.left; points = t.points; again = λ z s0 s' q. e _ ∙ t.again z s0 s' q }

-- a token, and nothing more
pub says_one : {A : Type 0} (r : Reader A) (L : Language A) (a : A) (u : At) (s : List Lexeme) → IsAllowed u → ((s' : List Lexeme) → r (u.lexeme ∷ s') ≡ Ok (a, s')) → L (u ∷ []) a → Says r L (u.lexeme ∷ s)
says_one r L a u s low e h = subst (SaysOf r L (u.lexeme ∷ s)) (sym (e s)) (record { us = u ∷ []; text = h; cut = refl; within = (low, tt); again = λ x s0 s' q. e _ })

-- readers that agree where this token is the first
module _ {A : Type 0} (r r' : Reader A) (L : Language A) (x : Lexeme) (s : List Lexeme) (e : (s' : List Lexeme) → r (x ∷ s') ≡ r' (x ∷ s')) where
  same_again : (us : List At) (rest : List Lexeme) → x ∷ s ≡ erase us ++ rest → (y : Lexeme) (s0 s' : List Lexeme) → rest ≡ y ∷ s0 → r (erase us ++ (y ∷ s')) ≡ r' (erase us ++ (y ∷ s'))
  same_again [] rest cut y s0 s' q = let p : x ≡ y = cc in subst (λ z. r (z ∷ s') ≡ r' (z ∷ s')) p (e s')
  same_again (u ∷ us) rest cut y s0 s' q = let p : x ≡ u.lexeme = cc in subst (λ z. r (z ∷ (erase us ++ (y ∷ s'))) ≡ r' (z ∷ (erase us ++ (y ∷ s')))) p (e _)

  pub says_same_first : Says r' L (x ∷ s) → Says r L (x ∷ s)
  says_same_first h = subst (SaysOf r L (x ∷ s)) (sym (e s)) (of (r' (x ∷ s)) h)
    where
      of : (y : Reading A) → SaysOf r' L (x ∷ s) y → SaysOf r L (x ∷ s) y
      of (Ok y) t = record { us = t.us; text = t.text; cut = t.cut; within = t.within; again = λ z s0 s' q. same_again t.us y.1 t.cut z s0 s' q ∙ t.again z s0 s' q }
      of (Err f) t = record { us = t.us; ws = t.ws; tree = t.tree; s = t.s; text = t.text; cut = t.cut; within = t.within; left = t.left; points = t.points; again = λ z s0 s' q. same_again t.us t.s t.cut z s0 s' q ∙ t.again z s0 s' q }

no_first : (us : List At) (x : Lexeme) (s s0 : List Lexeme) → [] ≡ erase us ++ s → s ≡ x ∷ s0 → ⊥
no_first [] x s s0 e q = cc
no_first (u ∷ us) x s s0 e q = cc

-- readers that agree at the end
pub says_same_end : {A : Type 0} (r r' : Reader A) (L : Language A) → r [] ≡ r' [] → Says r' L [] → Says r L []
says_same_end r r' L e h = subst (SaysOf r L []) (sym e) (of (r' []) h)
  where
    of : (y : Reading _) → SaysOf r' L [] y → SaysOf r L [] y
    of (Ok y) t = record { us = t.us; text = t.text; cut = t.cut; within = t.within; again = λ z s0 s' q. absurd (no_first t.us z y.1 s0 t.cut q) }
    of (Err f) t = record { us = t.us; ws = t.ws; tree = t.tree; s = t.s; text = t.text; cut = t.cut; within = t.within; left = t.left; points = t.points; again = λ z s0 s' q. absurd (no_first t.us z t.s s0 t.cut q) }
