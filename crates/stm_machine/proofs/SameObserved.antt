-- A machine that is at a state is at each possible state of which the same is observed.
use Rattle.std.proofs.Common.{◌≡◌, ℕ, Bool, true, false, not, ◌&&◌, cond, List, [], ◌∷◌, map, Option, Some, None, refl, sym, ap, subst, ◌∙◌}
use Rattle.std.specs.Prelude.{nat_eq, option_map}
use Rattle.stm_terms.specs.declared.values.Value.{Value}
use Rattle.stm_terms.specs.declared.verdicts.Verdict.{Verdict}
use Rattle.stm_check.specs.TypedBlock.{Block}
use Rattle.stm_watch.specs.Pairs.{is_read}
use Rattle.stm_events.specs.BlockStatus.{read_since_then}
use Rattle.stm_events.specs.SlowDesk.{Since, Waiter, Slow, Standing, New, Stale, Current, verdict_on, is_stale_since, current_since, find_waiter, weak_since}
use Rattle.stm_events.specs.States.{IsPossible, ObservedWaiter, observed_waiter, observed}
use Rattle.stm_waiting.specs.declared.waiting.Held.{Held}
use Rattle.stm_waiting.specs.declared.waiting.Waiting.{Waiting}
use Rattle.stm_machine.specs.Entries.{IsHeld, IsKeptOf, AreKeptOf}
use Rattle.stm_machine.specs.Machine.{Parts, IsAt}
use Rattle.stm_machine.specs.QueueAndIndex.{due_of, read_since, watches_of}

-- ---- what a standing and the reads say
abbrev counts : Standing → Bool
counts New = false
counts (Stale v) = false
counts (Current v) = true

abbrev verdict_of : Standing → Option Verdict
verdict_of New = None
verdict_of (Stale v) = v
verdict_of (Current v) = v

abbrev reads_in : Option (List (ℕ × Value)) → List (ℕ × Value)
reads_in None = []
reads_in (Some rs) = rs

counts_by : (b : Bool) (v : Option Verdict) → counts (cond b (Stale v) (Current v)) ≡ not b
counts_by true v = refl
counts_by false v = refl

verdict_by : (b : Bool) (v : Option Verdict) → verdict_of (cond b (Stale v) (Current v)) ≡ v
verdict_by true v = refl
verdict_by false v = refl

counts_since : (b : Block) (o : Option Since) → counts (weak_since b o) ≡ current_since b o
counts_since b None = refl
counts_since b (Some s) = counts_by (is_stale_since b s) (verdict_on s.store_then b)

reads_since : (b : Block) (o : Option Since) → reads_in (read_since_then b o) ≡ read_since b o
reads_since b None = refl
reads_since b (Some s) = refl

-- ---- of the block under a ticket
abbrev due_seen : Option ObservedWaiter → Bool
due_seen None = false
due_seen (Some o) = not (counts o.standing)

abbrev watches_seen : Option ObservedWaiter → ℕ → Bool
watches_seen None v = false
watches_seen (Some o) v = counts o.standing && is_read (reads_in o.reads) v

is_due_seen : (o : Option Waiter) → due_of o ≡ due_seen (option_map observed_waiter o)
is_due_seen None = refl
is_due_seen (Some w) = ap not (sym (counts_since w.block w.since))

is_watch_seen : (o : Option Waiter) (v : ℕ) → watches_of o v ≡ watches_seen (option_map observed_waiter o) v
is_watch_seen None v = refl
is_watch_seen (Some w) v =
    ap (λ (c : Bool). c && is_read (read_since w.block w.since) v) (sym (counts_since w.block w.since))
    ∙ ap (λ (rs : List (ℕ × Value)). counts (weak_since w.block w.since) && is_read rs v) (sym (reads_since w.block w.since))

found_step : (b : Bool) (w w' : Waiter) (o o' : Option Waiter) → observed_waiter w ≡ observed_waiter w' → option_map observed_waiter o ≡ option_map observed_waiter o'
    → option_map observed_waiter (cond b (Some w) o) ≡ option_map observed_waiter (cond b (Some w') o')
found_step true w w' o o' h e = ap Some h
found_step false w w' o o' h e = e

head_of : (x y : ObservedWaiter) (xs ys : List ObservedWaiter) → x ∷ xs ≡ y ∷ ys → x ≡ y
head_of x y xs ys e = cc

tail_of : (x y : ObservedWaiter) (xs ys : List ObservedWaiter) → x ∷ xs ≡ y ∷ ys → xs ≡ ys
tail_of x y xs ys e = cc

found_alike : (t : ℕ) (ws ws' : List Waiter) → map observed_waiter ws ≡ map observed_waiter ws' → option_map observed_waiter (find_waiter t ws) ≡ option_map observed_waiter (find_waiter t ws')
found_alike t [] [] e = refl
found_alike t [] (w' ∷ ws') e = cc
found_alike t (w ∷ ws) [] e = cc
found_alike t (w ∷ ws) (w' ∷ ws') e =
    let h : observed_waiter w ≡ observed_waiter w' = head_of _ _ _ _ e in
    found_step (nat_eq t w.ticket) w w' (find_waiter t ws) (find_waiter t ws') h (found_alike t ws ws' (tail_of _ _ _ _ e))
    ∙ ap (λ (n : ℕ). option_map observed_waiter (cond (nat_eq t n) (Some w') (find_waiter t ws'))) (ap (λ (o : ObservedWaiter). o.ticket) h)

-- ---- what is kept
held_alike : (b : Block) (h : Option Held) (o o' : Option Since) → weak_since b o ≡ weak_since b o' → read_since_then b o ≡ read_since_then b o' → IsHeld b h o → IsHeld b h o'
held_alike b None None None e r i = tt
held_alike b None None (Some s') e r i = cc
held_alike b None (Some s) o' e r i = absurd i
held_alike b (Some h) None o' e r i = absurd i
held_alike b (Some h) (Some s) None e r i = cc
held_alike b (Some h) (Some s) (Some s') e r i = record {
  verdict_is = sym (verdict_by (is_stale_since b s') (verdict_on s'.store_then b)) ∙ ap verdict_of (sym e) ∙ verdict_by (is_stale_since b s) (verdict_on s.store_then b) ∙ i.verdict_is;
  reads_are = ap reads_in (sym r) ∙ i.reads_are;
}

one_alike : (e : ℕ × Waiting) (w w' : Waiter) → observed_waiter w ≡ observed_waiter w' → IsKeptOf e w → IsKeptOf e w'
one_alike e w w' h d =
    let same : w.block ≡ w'.block = ap (λ (o : ObservedWaiter). o.block) h in
    record {
      ticket = d.ticket ∙ ap (λ (o : ObservedWaiter). o.ticket) h;
      block = d.block ∙ same;
      held = subst (λ (b : Block). IsHeld b e.1.held w'.since) same
          (held_alike w.block e.1.held w.since w'.since
          (ap (λ (o : ObservedWaiter). o.standing) h ∙ ap (λ (b : Block). weak_since b w'.since) (sym same))
          (ap (λ (o : ObservedWaiter). o.reads) h ∙ ap (λ (b : Block). read_since_then b w'.since) (sym same)) d.held);
    }

due_alike : (es : List (ℕ × Waiting)) (ws ws' : List Waiter) → map observed_waiter ws ≡ map observed_waiter ws' → AreKeptOf es ws → AreKeptOf es ws'
due_alike [] [] [] e d = tt
due_alike [] [] (w' ∷ ws') e d = cc
due_alike [] (w ∷ ws) ws' e d = absurd d
due_alike (x ∷ es) [] ws' e d = absurd d
due_alike (x ∷ es) (w ∷ ws) [] e d = cc
due_alike (x ∷ es) (w ∷ ws) (w' ∷ ws') e d = (one_alike x w w' (head_of _ _ _ _ e) d.0, due_alike es ws ws' (tail_of _ _ _ _ e) d.1)

pub same_observed_at : (m : Parts) (s s' : Slow) → IsAt m s → IsPossible s' → observed s ≡ observed s' → IsAt m s'
same_observed_at m s s' k p e =
    let waiters : map observed_waiter s.waiters ≡ map observed_waiter s'.waiters = ap (λ o. o.waiters) e in
    record {
      possible = p;
      stands = record {
        rule_is = k.stands.rule_is ∙ ap (λ o. o.rule) e;
        store_is = k.stands.store_is ∙ ap (λ o. o.store) e;
        names_are = k.stands.names_are ∙ ap (λ o. o.names) e;
        next_is = k.stands.next_is ∙ ap (λ o. o.next) e;
        entries_are = due_alike m.entries s.waiters s'.waiters waiters k.stands.entries_are;
        queue = λ t. k.stands.queue t ∙ is_due_seen (find_waiter t s.waiters) ∙ ap due_seen (found_alike t s.waiters s'.waiters waiters) ∙ sym (is_due_seen (find_waiter t s'.waiters));
        index = λ v t.
            k.stands.index v t ∙ is_watch_seen (find_waiter t s.waiters) v
            ∙ ap (λ o. watches_seen o v) (found_alike t s.waiters s'.waiters waiters) ∙ sym (is_watch_seen (find_waiter t s'.waiters) v);
      };
    }
