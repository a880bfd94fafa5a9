-- The tickets of the blocks that could finish now, one after another: they rise.
use Rattle.std.proofs.Common.{◌≡◌, ℕ, suc, ◌<◌, ◌≤◌, Bool, true, false, ◌&&◌, cond, List, [], ◌∷◌, ◌++◌, map, Option, Some, None, refl, sym, ap, ◌∙◌, subst, arith, append_assoc, append-nil}
use Rattle.std.specs.Prelude.{nat_lt, filter, length, option_map, codes, decimal}
use Rattle.std.proofs.lemmas.Bool.Decides.{nat_tests}
use Rattle.std.proofs.lemmas.Bool.{lt-ltb, ltb-true}
use Rattle.stm_terms.specs.Texts.{spaced}
use Rattle.stm_events.specs.Laws.{AreRising}
use Rattle.stm_events.specs.Ready.{is_ready, next_ready}
use Rattle.stm_events.specs.SlowDesk.{Waiter, Slow}
use Rattle.stm_events.specs.SlowSettle.{lowest}
use Rattle.stm_commands.specs.Endings.{tickets_text}
use Rattle.stm_commands.specs.Questions.{ready_tickets, ready_above}

-- those of a test whose tickets are above this number
abbrev those : (Waiter → Bool) → ℕ → List Waiter → List Waiter
those p n ws = filter (λ (w : Waiter). nat_lt n w.ticket && p w) ws

not_above_itself : (n : ℕ) → nat_lt n n ≡ false
not_above_itself n = grind (arith, nat_tests)

still_lower : (m l t : ℕ) → nat_lt m t ≡ false → m < l → nat_lt l t ≡ false
still_lower m l t e h = grind (arith, nat_tests)

and_left : (a b : Bool) → (a && b) ≡ true → a ≡ true
and_left true b e = refl
and_left false b e = absurd cc

and_true : (b : Bool) → (b && true) ≡ b
and_true true = refl
and_true false = refl

and_false : (b : Bool) → (b && false) ≡ false
and_false true = refl
and_false false = refl

still_not : (m l t : ℕ) (q : Bool) → (nat_lt m t && q) ≡ false → m < l → (nat_lt l t && q) ≡ false
still_not m l t true e h = and_true (nat_lt l t) ∙ still_lower m l t (sym (and_true (nat_lt m t)) ∙ e) h
still_not m l t false e h = and_false (nat_lt l t)

those_cons : (p : Waiter → Bool) (n : ℕ) (w : Waiter) (ws : List Waiter) (b : Bool) → (nat_lt n w.ticket && p w) ≡ b → those p n (w ∷ ws) ≡ cond b (w ∷ those p n ws) (those p n ws)
those_cons p n w ws b e = ap (λ (t : Bool). cond t (w ∷ those p n ws) (those p n ws)) e

passes : (p : Waiter → Bool) (m : ℕ) (w : Waiter) → m < w.ticket → (nat_lt m w.ticket && p w) ≡ p w
passes p m w h = ap (λ (b : Bool). b && p w) (lt-ltb m w.ticket h)

-- all tickets are above a lower number
all_those : (p : Waiter → Bool) (n k m : ℕ) (ws : List Waiter) → AreRising n k ws → m ≤ k → those p m ws ≡ filter p ws
all_those p n k m [] r h = refl
all_those p n k m (w ∷ ws) r h =
    those_cons p m w ws (p w) (passes p m w (omega (arith, r.0)))
    ∙ ap (λ (xs : List Waiter). cond (p w) (w ∷ xs) xs) (all_those p n w.ticket m ws r.2 (omega (arith, r.0)))

-- the lowest above a number is the first of those above it, and the others are those above its ticket
record Next (p : Waiter → Bool) (m : ℕ) (ws : List Waiter) (w : Waiter) : Type 0 where
  pub higher : m < w.ticket
  pub first : those p m ws ≡ w ∷ those p w.ticket ws

next_cons : (p : Waiter → Bool) (n k m : ℕ) (x w : Waiter) (ws : List Waiter) (b : Bool) → (nat_lt m x.ticket && p x) ≡ b → AreRising n k (x ∷ ws)
    → cond b (Some x) (lowest (λ (w : Waiter). nat_lt m w.ticket && p w) ws) ≡ Some w
    → (lowest (λ (w : Waiter). nat_lt m w.ticket && p w) ws ≡ Some w → Next p m ws w) → Next p m (x ∷ ws) w
next_cons p n k m x w ws true e r q rest =
    let s : x ≡ w = cc in
    let h : m < x.ticket = ltb-true m x.ticket (and_left (nat_lt m x.ticket) (p x) e) in
    subst (Next p m (x ∷ ws)) s (record {
      higher = h;
      first = those_cons p m x ws true e ∙ ap (λ (xs : List Waiter). x ∷ xs)
          (all_those p n x.ticket m ws r.2 (omega (arith, h)) ∙ sym (all_those p n x.ticket x.ticket ws r.2 (omega arith))
          ∙ sym (those_cons p x.ticket x ws false (ap (λ (b : Bool). b && p x) (not_above_itself x.ticket))));
    })
next_cons p n k m x w ws false e r q rest =
    let i = rest q in
    record {
      higher = i.higher;
      first = those_cons p m x ws false e ∙ i.first
          ∙ ap (λ (xs : List Waiter). w ∷ xs) (sym (those_cons p w.ticket x ws false (still_not m w.ticket x.ticket (p x) e i.higher)));
    }

next_of : (p : Waiter → Bool) (n k m : ℕ) (w : Waiter) (ws : List Waiter) → AreRising n k ws → lowest (λ (w : Waiter). nat_lt m w.ticket && p w) ws ≡ Some w → Next p m ws w
next_of p n k m w [] r e = absurd cc
next_of p n k m w (x ∷ ws) r e = next_cons p n k m x w ws (nat_lt m x.ticket && p x) refl r e (next_of p n x.ticket m w ws r.2)

none_cons : (p : Waiter → Bool) (m : ℕ) (x : Waiter) (ws : List Waiter) (b : Bool) → (nat_lt m x.ticket && p x) ≡ b
    → cond b (Some x) (lowest (λ (w : Waiter). nat_lt m w.ticket && p w) ws) ≡ None
    → (lowest (λ (w : Waiter). nat_lt m w.ticket && p w) ws ≡ None → those p m ws ≡ []) → those p m (x ∷ ws) ≡ []
none_cons p m x ws true e q rest = absurd cc
none_cons p m x ws false e q rest = those_cons p m x ws false e ∙ rest q

none_of : (p : Waiter → Bool) (m : ℕ) (ws : List Waiter) → lowest (λ (w : Waiter). nat_lt m w.ticket && p w) ws ≡ None → those p m ws ≡ []
none_of p m [] e = refl
none_of p m (x ∷ ws) e = none_cons p m x ws (nat_lt m x.ticket && p x) refl e (none_of p m ws)

-- ---- as the code has it
some_ticket : (o : Option Waiter) (t : ℕ) → Some t ≡ option_map (λ (w : Waiter). w.ticket) o → (w : Waiter) × (o ≡ Some w) × (w.ticket ≡ t)
some_ticket (Some w) t e = let p : w.ticket ≡ t = cc in (w, refl, p)
some_ticket None t e = absurd cc

no_ticket : (o : Option Waiter) → None ≡ option_map (λ (w : Waiter). w.ticket) o → o ≡ None
no_ticket (Some w) e = absurd cc
no_ticket None e = refl

-- the next ticket is the first of those above the last one
pub next_first : (s : Slow) (m t : ℕ) → AreRising s.next 0 s.waiters → Some t ≡ next_ready m s → ready_above m s ≡ t ∷ ready_above t s
next_first s m t r e =
    let p = is_ready s.store in
    let w = some_ticket (lowest (λ (w : Waiter). nat_lt m w.ticket && p w) s.waiters) t e in
    let i = next_of p s.next 0 m w.0 s.waiters r w.1 in
    ap (λ (ws : List Waiter). map (λ (w : Waiter). w.ticket) ws) i.first
    ∙ ap (λ (u : ℕ). u ∷ ready_above u s) w.2

pub none_ready : (s : Slow) (m : ℕ) → None ≡ next_ready m s → ready_above m s ≡ []
none_ready s m e =
    ap (λ (ws : List Waiter). map (λ (w : Waiter). w.ticket) ws)
    (none_of (is_ready s.store) m s.waiters (no_ticket (lowest (λ (w : Waiter). nat_lt m w.ticket && is_ready s.store w) s.waiters) e))

-- above 0 are all
pub all_ready : (s : Slow) → AreRising s.next 0 s.waiters → ready_above 0 s ≡ ready_tickets s
all_ready s r = ap (λ (ws : List Waiter). map (λ (w : Waiter). w.ticket) ws) (all_those (is_ready s.store) s.next 0 0 s.waiters r (omega arith))

-- the next ticket joins the text
pub one_more : (s : Slow) (m t : ℕ) (text blank line all : List ℕ) → AreRising s.next 0 s.waiters → Some t ≡ next_ready m s
    → blank ≡ text ++ codes " " → line ≡ blank ++ decimal t
    → text ++ spaced decimal (ready_above m s) ≡ all → line ++ spaced decimal (ready_above t s) ≡ all
one_more s m t text blank line all r e b l h =
    ap (λ (x : List ℕ). x ++ spaced decimal (ready_above t s)) (l ∙ ap (λ (x : List ℕ). x ++ decimal t) b)
    ∙ append_assoc (text ++ codes " ") (decimal t) (spaced decimal (ready_above t s))
    ∙ append_assoc text (codes " ") (decimal t ++ spaced decimal (ready_above t s))
    ∙ sym (ap (λ (ts : List ℕ). text ++ spaced decimal ts) (next_first s m t r e)) ∙ h

-- and fewer are left
pub fewer : (s : Slow) (m t : ℕ) → AreRising s.next 0 s.waiters → Some t ≡ next_ready m s → length (ready_above t s) < length (ready_above m s)
fewer s m t r e =
    let p : length (ready_above m s) ≡ suc (length (ready_above t s)) = ap (λ (ts : List ℕ). length ts) (next_first s m t r e) in
    omega (arith, p)

pub no_more : (s : Slow) (m : ℕ) (text all : List ℕ) → None ≡ next_ready m s → text ++ spaced decimal (ready_above m s) ≡ all → text ≡ all
no_more s m text all e h = sym (append-nil text) ∙ sym (ap (λ (ts : List ℕ). text ++ spaced decimal ts) (none_ready s m e)) ∙ h

-- ---- the whole list
pub no_tickets : (s : Slow) → AreRising s.next 0 s.waiters → None ≡ next_ready 0 s → tickets_text (ready_tickets s) ≡ codes "none"
no_tickets s r e = ap tickets_text (sym (all_ready s r) ∙ none_ready s 0 e)

pub some_tickets : (s : Slow) (t : ℕ) → AreRising s.next 0 s.waiters → Some t ≡ next_ready 0 s → tickets_text (ready_tickets s) ≡ decimal t ++ spaced decimal (ready_above t s)
some_tickets s t r e = ap tickets_text (sym (all_ready s r) ∙ next_first s 0 t r e)
