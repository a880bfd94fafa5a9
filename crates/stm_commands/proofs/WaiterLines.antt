-- The lines of the waiting blocks, one after another: their tickets rise.
use Rattle.std.proofs.Common.{◌≡◌, ℕ, suc, ◌<◌, ◌≤◌, Bool, true, false, cond, List, [], ◌∷◌, ◌++◌, Option, Some, None, refl, sym, ap, ◌∙◌, subst, arith, append_assoc, append-nil}
use Rattle.std.specs.Prelude.{nat_lt, nat_eq, filter, length, option_map}
use Rattle.std.proofs.lemmas.Bool.Decides.{nat_tests}
use Rattle.std.proofs.lemmas.Bool.{le-ltb, lt-ltb, ltb-false, ltb-true}
use Rattle.stm_events.specs.Laws.{AreRising}
use Rattle.stm_events.specs.SlowDesk.{Waiter, find_waiter}
use Rattle.stm_events.specs.SlowSettle.{lowest}

-- those whose tickets are above this number
abbrev pub above : ℕ → List Waiter → List Waiter
above n ws = filter (λ (w : Waiter). nat_lt n w.ticket) ws

above_cons : (n : ℕ) (w : Waiter) (ws : List Waiter) (b : Bool) → nat_lt n w.ticket ≡ b → above n (w ∷ ws) ≡ cond b (w ∷ above n ws) (above n ws)
above_cons n w ws b e = ap (λ (t : Bool). cond t (w ∷ above n ws) (above n ws)) e

all_above : (n k m : ℕ) (ws : List Waiter) → AreRising n k ws → m ≤ k → above m ws ≡ ws
all_above n k m [] r h = refl
all_above n k m (w ∷ ws) r h =
    above_cons m w ws true (lt-ltb m w.ticket (omega (arith, r.0))) ∙ ap (λ (xs : List Waiter). w ∷ xs) (all_above n w.ticket m ws r.2 (omega (arith, r.0)))

pub all_waiters : (n : ℕ) (ws : List Waiter) → AreRising n 0 ws → above 0 ws ≡ ws
all_waiters n ws r = all_above n 0 0 ws r (omega arith)

-- the lowest above a number is the first of those above it, and the others are those above its ticket
record Next (m : ℕ) (ws : List Waiter) (w : Waiter) : Type 0 where
  pub higher : m < w.ticket
  pub first : above m ws ≡ w ∷ above w.ticket ws
  pub found : find_waiter w.ticket ws ≡ Some w

same_eq : (n : ℕ) → nat_eq n n ≡ true
same_eq n = grind (arith, nat_tests)

other_eq : (n m : ℕ) → m < n → nat_eq n m ≡ false
other_eq n m h = grind (arith, nat_tests)

next_cons : (n k m : ℕ) (x w : Waiter) (ws : List Waiter) (b : Bool) → nat_lt m x.ticket ≡ b → AreRising n k (x ∷ ws) → cond b (Some x) (lowest (λ (w : Waiter). nat_lt m w.ticket) ws) ≡ Some w
    → (lowest (λ (w : Waiter). nat_lt m w.ticket) ws ≡ Some w → Next m ws w) → Next m (x ∷ ws) w
next_cons n k m x w ws true e r p rest =
    let q : x ≡ w = cc in
    subst (Next m (x ∷ ws)) q (record {
      higher = ltb-true m x.ticket e;
      first = above_cons m x ws true e ∙ ap (λ (xs : List Waiter). x ∷ xs)
          (all_above n x.ticket m ws r.2 (let h = ltb-true m x.ticket e in omega (arith, h))
          ∙ sym (all_above n x.ticket x.ticket ws r.2 (omega arith)) ∙ sym (above_cons x.ticket x ws false (le-ltb x.ticket x.ticket (omega arith))));
      found = ap (λ (t : Bool). cond t (Some x) (find_waiter x.ticket ws)) (same_eq x.ticket);
    })
next_cons n k m x w ws false e r p rest =
    let i = rest p in
    let low = ltb-false m x.ticket e in
    let less : x.ticket < w.ticket = let h = i.higher in omega (arith, low, h) in
    record {
      higher = i.higher;
      first = above_cons m x ws false e ∙ i.first ∙ ap (λ (xs : List Waiter). w ∷ xs) (sym (above_cons w.ticket x ws false (le-ltb w.ticket x.ticket (omega (arith, less)))));
      found = ap (λ (t : Bool). cond t (Some x) (find_waiter w.ticket ws)) (other_eq w.ticket x.ticket less) ∙ i.found;
    }

next_of : (n k m : ℕ) (w : Waiter) (ws : List Waiter) → AreRising n k ws → lowest (λ (w : Waiter). nat_lt m w.ticket) ws ≡ Some w → Next m ws w
next_of n k m w [] r e = absurd cc
next_of n k m w (x ∷ ws) r e = next_cons n k m x w ws (nat_lt m x.ticket) refl r e (next_of n x.ticket m w ws r.2)

none_cons : (m : ℕ) (x : Waiter) (ws : List Waiter) (b : Bool) → nat_lt m x.ticket ≡ b → cond b (Some x) (lowest (λ (w : Waiter). nat_lt m w.ticket) ws) ≡ None
    → (lowest (λ (w : Waiter). nat_lt m w.ticket) ws ≡ None → above m ws ≡ []) → above m (x ∷ ws) ≡ []
none_cons m x ws true e p rest = absurd cc
none_cons m x ws false e p rest = above_cons m x ws false e ∙ rest p

none_above : (m : ℕ) (ws : List Waiter) → lowest (λ (w : Waiter). nat_lt m w.ticket) ws ≡ None → above m ws ≡ []
none_above m [] e = refl
none_above m (x ∷ ws) e = none_cons m x ws (nat_lt m x.ticket) refl e (none_above m ws)

-- ---- as the code has it
some_ticket : (o : Option Waiter) (t : ℕ) → Some t ≡ option_map (λ (w : Waiter). w.ticket) o → (w : Waiter) × (o ≡ Some w) × (w.ticket ≡ t)
some_ticket (Some w) t e = let p : w.ticket ≡ t = cc in (w, refl, p)
some_ticket None t e = absurd cc

no_ticket : (o : Option Waiter) → None ≡ option_map (λ (w : Waiter). w.ticket) o → o ≡ None
no_ticket (Some w) e = absurd cc
no_ticket None e = refl

-- the line of the next ticket joins the text
pub one_more : (lines : List Waiter → List ℕ) (line_of : Waiter → List ℕ) (n m t : ℕ) (ws : List Waiter) (text line all : List ℕ) → ((w : Waiter) (rest : List Waiter) → lines (w ∷ rest) ≡ line_of w ++ lines rest)
    → AreRising n 0 ws → Some t ≡ option_map (λ (w : Waiter). w.ticket) (lowest (λ (w : Waiter). nat_lt m w.ticket) ws)
    → ((w : Waiter) → find_waiter t ws ≡ Some w → w.ticket ≡ t → line ≡ text ++ line_of w) → text ++ lines (above m ws) ≡ all → line ++ lines (above t ws) ≡ all
one_more lines line_of n m t ws text line all cons r e l h =
    let s = some_ticket _ t e in
    let i = next_of n 0 m s.0 ws r s.1 in
    ap (λ (x : List ℕ). x ++ lines (above t ws)) (l s.0 (ap (λ (u : ℕ). find_waiter u ws) (sym s.2) ∙ i.found) s.2)
    ∙ append_assoc text (line_of s.0) (lines (above t ws))
    ∙ ap (λ (u : ℕ). text ++ (line_of s.0 ++ lines (above u ws))) (sym s.2)
    ∙ ap (λ (x : List ℕ). text ++ x) (sym (cons s.0 (above s.0.ticket ws)))
    ∙ ap (λ (xs : List Waiter). text ++ lines xs) (sym i.first) ∙ h

-- and fewer are left
pub fewer : (n m t : ℕ) (ws : List Waiter) → AreRising n 0 ws → Some t ≡ option_map (λ (w : Waiter). w.ticket) (lowest (λ (w : Waiter). nat_lt m w.ticket) ws) → length (above t ws) < length (above m ws)
fewer n m t ws r e =
    let s = some_ticket _ t e in
    let i = next_of n 0 m s.0 ws r s.1 in
    let p : length (above m ws) ≡ suc (length (above t ws)) = ap (λ (xs : List Waiter). length xs) i.first ∙ ap (λ (u : ℕ). suc (length (above u ws))) s.2 in
    omega (arith, p)

pub no_more : (lines : List Waiter → List ℕ) (m : ℕ) (ws : List Waiter) (text all : List ℕ) → lines [] ≡ [] → None ≡ option_map (λ (w : Waiter). w.ticket) (lowest (λ (w : Waiter). nat_lt m w.ticket) ws)
    → text ++ lines (above m ws) ≡ all → text ≡ all
no_more lines m ws text all none e h =
    sym (append-nil text) ∙ ap (λ (x : List ℕ). text ++ x) (sym none) ∙ sym (ap (λ (xs : List Waiter). text ++ lines xs) (none_above m ws (no_ticket _ e))) ∙ h
