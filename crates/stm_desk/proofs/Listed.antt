-- The finish that made a stale block stale is the last one whose list has its ticket.
use Rattle.std.proofs.Common.{◌≡◌, ℕ, ◌<◌, ◌≤◌, Bool, true, false, not, ◌&&◌, ◌||◌, cond, List, [], ◌∷◌, ◌++◌, map, filter, Option, Some, None, refl, sym, ap, subst, ◌∙◌, arith, eqb-true}
use Rattle.std.specs.Prelude.{nat_eq, IsSomeAnd, option_map}
use Rattle.std.specs.List.{list_any}
use Rattle.std.specs.Option.{option_or}
use Rattle.std.proofs.lemmas.Bool.Decides.{nat_tests}
use Rattle.stm_terms.specs.declared.values.Value.{Value}
use Rattle.stm_terms.specs.declared.verdicts.Verdict.{Verdict}
use Rattle.stm_terms.specs.Changes.{find}
use Rattle.stm_terms.specs.ReadSet.{reads_of}
use Rattle.stm_store.specs.declared.cell.Cell.{Cell}
use Rattle.stm_check.specs.TypedBlock.{Block}
use Rattle.stm_eval.proofs.FragmentsAndStores.{looked}
use Rattle.stm_events.specs.declared.event.Event.{Event}
use Rattle.stm_events.specs.declared.event.What.{What}
use Rattle.stm_events.specs.declared.event.What.TheVariants.{Submitted, Installed, Finished, Cancelled, Declared as DeclaredLate, Labelled}
use Rattle.stm_events.specs.declared.kept_cause.KeptCause.{KeptCause}
use Rattle.stm_events.specs.declared.staleness.StalenessRule.TheVariants.{Changed}
use Rattle.stm_events.specs.Headline.{installs_to, is_installed}
use Rattle.stm_events.specs.Laws.{AreRising}
use Rattle.stm_events.specs.SlowDesk.{Since, Waiter, Slow, MayFinish, under, verdict_on, looked_on, waking, intersects, is_current, current_since, becomes_stale, stale_after, find_waiter, without_waiter, with_delivery, woken_more, after_writes, after, Allows, state_from, LegalFrom}
use Rattle.stm_events.specs.States.{IsPossible}
use Rattle.stm_events.proofs.AlikeWaitersStay.{meets-append}
use Rattle.stm_events.proofs.Folds.{after-rule}
use Rattle.stm_events.proofs.CurrentHoldsNow.{still_holds}
use Rattle.stm_events.proofs.Possible.{possible_after}
use Rattle.stm_events.proofs.Rising.{low, not_above, rising_without, waiter_without, waiter_delivered, waiter_marks, waiter_push}
use Rattle.stm_desk.specs.declared.reason.Change.{Change}
use Rattle.stm_desk.specs.Reasons.{ticket_of, Cause, cause_or}
use Rattle.stm_desk.specs.ReasonsByEvents.{changes_told, cause_told}
use Rattle.stm_desk.specs.Checkpointed.{kept_cause}
use Rattle.stm_desk.specs.Causes.{cause_listed, has_in_list, last_listed}
use Rattle.stm_desk.proofs.CausesTold.{FitsHere, FitFrom, told_here, not_woken, none_met, found_by}
use Rattle.stm_desk.proofs.ReadValues.{AreRead, reads_are, found_read, unchanged}

-- ---- who is in the list of a finish
becomes : List ℕ → Option Waiter → Bool
becomes woken None = false
becomes woken (Some w) = becomes_stale woken w

here_true : (a b : Bool) → a ≡ true → (a || b) ≡ true
here_true a b e = rw e refl

any_step : (a b : Bool) (t : ℕ) (woken : List ℕ) (w : Waiter) (fs : List Waiter) (o : Option Waiter) → nat_eq t w.ticket ≡ a → becomes_stale woken w ≡ b → (a ≡ true → o ≡ None)
    → list_any (nat_eq t) (map (λ x. x.ticket) fs) ≡ becomes woken o → list_any (nat_eq t) (map (λ x. x.ticket) (cond b (w ∷ fs) fs)) ≡ becomes woken (cond a (Some w) o)
unfolding becomes
any_step true true t woken w fs o e b none more = here_true (nat_eq t w.ticket) (list_any (nat_eq t) (map (λ x. x.ticket) fs)) e ∙ sym b
any_step true false t woken w fs o e b none more = more ∙ ap (becomes woken) (none refl) ∙ sym b
any_step false true t woken w fs o e b none more = ap (λ (x : Bool). x || list_any (nat_eq t) (map (λ x. x.ticket) fs)) e ∙ more
any_step false false t woken w fs o e b none more = more

above_here : (t n : ℕ) (w : Waiter) (ws : List Waiter) → AreRising n w.ticket ws → nat_eq t w.ticket ≡ true → find_waiter t ws ≡ None
above_here t n w ws r e = let q : t ≤ w.ticket = (let z = eqb-true t w.ticket e in omega arith) in not_above t n w.ticket ws q r

in_stale_after : (t n k : ℕ) (woken : List ℕ) (ws : List Waiter) → AreRising n k ws → list_any (nat_eq t) (stale_after woken ws) ≡ becomes woken (find_waiter t ws)
unfolding becomes
in_stale_after t n k woken [] r = refl
in_stale_after t n k woken (w ∷ ws) r =
    any_step (nat_eq t w.ticket) (becomes_stale woken w) t woken w (filter (becomes_stale woken) ws) (find_waiter t ws) refl refl (above_here t n w ws r.2) (in_stale_after t n w.ticket woken ws r.2)

-- the cause of a ticket in the list of an event is what the event changed
pub listed_is : (t : ℕ) (reads : List (ℕ × Value)) (what : What) → cause_listed t reads what ≡ cond (has_in_list t what) (Some (kept_cause (record { finish = ticket_of what; changes = changes_told reads what }))) None
listed_is t reads (Submitted u block) = refl
listed_is t reads (Installed u v) = refl
listed_is t reads (Finished u v n stale) = refl
listed_is t reads (Cancelled u) = refl
listed_is t reads (DeclaredLate name kind value) = refl
listed_is t reads (Labelled u label) = refl

none_listed_by : (b : Bool) (k : KeptCause) → b ≡ false → cond b (Some k) None ≡ None
none_listed_by true k e = cc
none_listed_by false k e = refl

not_listed : (t : ℕ) (reads : List (ℕ × Value)) (what : What) → has_in_list t what ≡ false → cause_listed t reads what ≡ None
not_listed t reads what e = listed_is t reads what ∙ none_listed_by (has_in_list t what) _ e

pub or_none : (o : Option KeptCause) → option_or o None ≡ o
or_none None = refl
or_none (Some k) = refl

pub or_assoc : (a b c : Option KeptCause) → option_or (option_or a b) c ≡ option_or a (option_or b c)
or_assoc None b c = refl
or_assoc (Some k) b c = refl

pub last_listed-append : (t : ℕ) (reads : List (ℕ × Value)) (es fs : List Event) → last_listed t reads (es ++ fs) ≡ option_or (last_listed t reads fs) (last_listed t reads es)
last_listed-append t reads [] fs = sym (or_none (last_listed t reads fs))
last_listed-append t reads (e ∷ es) fs =
    ap (λ (o : Option KeptCause). option_or o (cause_listed t reads e.what)) (last_listed-append t reads es fs)
    ∙ or_assoc (last_listed t reads fs) (last_listed t reads es) (cause_listed t reads e.what)

-- ---- a block that is not current is in no list
abbrev pub IsNotCurrent : ℕ → Slow → Type 0
IsNotCurrent t s = (w : Waiter) → find_waiter t s.waiters ≡ Some w → is_current w ≡ false

finish_of : (s : Slow) (u : ℕ) (v : Verdict) (n : ℕ) (stale : List ℕ) (o : Option Waiter) → IsSomeAnd o (λ w. MayFinish s u w v n stale) → stale ≡ stale_after (waking s.rule s.store v) (without_waiter u s.waiters)
finish_of s u v n stale None a = absurd a
finish_of s u v n stale (Some w) a = a.listed

-- whether the list of a finish has the ticket
finish_lists : (t u : ℕ) (s : Slow) (v : Verdict) (n : ℕ) (stale : List ℕ) → IsPossible s → Allows s (Finished u v n stale) → list_any (nat_eq t) stale ≡ becomes (waking s.rule s.store v) (cond (nat_eq t u) None (find_waiter t s.waiters))
finish_lists t u s v n stale p a =
    ap (list_any (nat_eq t)) (finish_of s u v n stale (find_waiter u s.waiters) a)
    ∙ in_stale_after t s.next 0 (waking s.rule s.store v) (without_waiter u s.waiters) (rising_without u s.next 0 s.waiters p.rising)
    ∙ ap (becomes (waking s.rule s.store v)) (waiter_without u t s.next 0 s.waiters p.rising)

not_becoming : (woken : List ℕ) (d : Bool) (o : Option Waiter) → ((w : Waiter) → o ≡ Some w → is_current w ≡ false) → becomes woken (cond d None o) ≡ false
unfolding becomes
not_becoming woken true o h = refl
not_becoming woken false None h = refl
not_becoming woken false (Some w) h = ap (λ (b : Bool). b && not (is_current (after_writes woken w))) (h w refl)

unlisted : (t : ℕ) (s : Slow) (what : What) → IsPossible s → Allows s what → IsNotCurrent t s → has_in_list t what ≡ false
unlisted t s (Submitted u block) p a k = refl
unlisted t s (Installed u v) p a k = refl
unlisted t s (Finished u v n stale) p a k = finish_lists t u s v n stale p a ∙ not_becoming (waking s.rule s.store v) (nat_eq t u) (find_waiter t s.waiters) k
unlisted t s (Cancelled u) p a k = refl
unlisted t s (DeclaredLate name kind value) p a k = refl
unlisted t s (Labelled u label) p a k = refl

-- and stays so until a delivery
or_left : (a b : Bool) → not a ≡ false → not (a || b) ≡ false
or_left true b h = refl
or_left false b h = cc

stale_more : (woken : List ℕ) (block : Block) (o : Option Since) → current_since block o ≡ false → current_since block (woken_more woken o) ≡ false
stale_more woken block None h = refl
stale_more woken block (Some s) h =
    ap not (meets-append s.woken woken (looked_on s.store_then block)) ∙ or_left (intersects s.woken (looked_on s.store_then block)) (intersects woken (looked_on s.store_then block)) h

abbrev NotCurrent : Option Waiter → Type 0
NotCurrent o = (w : Waiter) → o ≡ Some w → is_current w ≡ false

not_pushed : (d : Bool) (v : Waiter) (o : Option Waiter) → is_current v ≡ false → NotCurrent o → NotCurrent (cond d (Some v) o)
not_pushed true v o new h = λ w e. let q : v ≡ w = cc in subst (λ (x : Waiter). is_current x ≡ false) q new
not_pushed false v o new h = h

not_gone : (d : Bool) (o : Option Waiter) → NotCurrent o → NotCurrent (cond d None o)
not_gone true o h = λ w e. cc
not_gone false o h = h

not_marked : (woken : List ℕ) (o : Option Waiter) → NotCurrent o → NotCurrent (option_map (after_writes woken) o)
not_marked woken None h = λ w e. cc
not_marked woken (Some x) h = λ w e. let q : after_writes woken x ≡ w = cc in subst (λ (y : Waiter). is_current y ≡ false) q (stale_more woken x.block x.since (h x refl))

not_delivered : (d : Bool) (f : Waiter → Waiter) (o : Option Waiter) → d ≡ false → NotCurrent o → NotCurrent (cond d (option_map f o) o)
not_delivered true f o e h = cc
not_delivered false f o e h = h

abbrev new_waiter : ℕ → Block → Waiter
new_waiter t block = record { ticket = t; block = block; since = None }

stays_stale : (t : ℕ) (s : Slow) (what : What) → IsPossible s → Allows s what → installs_to t what ≡ false → IsNotCurrent t s → IsNotCurrent t (after s what)
stays_stale t s (Submitted u block) p a n k =
    let v = new_waiter u block in
    subst NotCurrent (sym (waiter_push t s.next 0 v s.waiters a.0 p.rising)) (not_pushed (nat_eq t u) v (find_waiter t s.waiters) refl k)
stays_stale t s (Installed u v) p a n k = subst NotCurrent (sym (waiter_delivered u t s.store s.waiters)) (not_delivered (nat_eq t u) _ (find_waiter t s.waiters) n k)
stays_stale t s (Finished u v m stale) p a n k =
    subst NotCurrent (sym (waiter_marks t (waking s.rule s.store v) (without_waiter u s.waiters)))
    (not_marked (waking s.rule s.store v) (find_waiter t (without_waiter u s.waiters)) (subst NotCurrent (sym (waiter_without u t s.next 0 s.waiters p.rising)) (not_gone (nat_eq t u) (find_waiter t s.waiters) k)))
stays_stale t s (Cancelled u) p a n k = subst NotCurrent (sym (waiter_without u t s.next 0 s.waiters p.rising)) (not_gone (nat_eq t u) (find_waiter t s.waiters) k)
stays_stale t s (DeclaredLate name kind value) p a n k = k
stays_stale t s (Labelled u label) p a n k = k

or_false : (a b : Bool) → (a || b) ≡ false → (a ≡ false) × (b ≡ false)
or_false true b e = absurd (cc)
or_false false b e = (refl, e)

pub none_listed : (t : ℕ) (reads : List (ℕ × Value)) (s : Slow) (es : List Event) → IsPossible s → LegalFrom s es → is_installed t es ≡ false → IsNotCurrent t s → last_listed t reads es ≡ None
none_listed t reads s [] p l n k = refl
none_listed t reads s (e ∷ es) p l n k =
    let q = or_false (installs_to t e.what) (is_installed t es) n in
    ap (λ (o : Option KeptCause). option_or o (cause_listed t reads e.what)) (none_listed t reads (after s e.what) es (possible_after s e.what p l.0.what) l.1 q.1 (stays_stale t s e.what p l.0.what q.0 k))
    ∙ not_listed t reads e.what (unlisted t s e.what p l.0.what k)

-- ---- a ticket under which no block waits any more
record IsGone (t : ℕ) (s : Slow) : Type 0 where
  pub given : t < s.next
  pub gone : find_waiter t s.waiters ≡ None

other_ticket : (t u n : ℕ) → t < n → u ≡ n → nat_eq t u ≡ false
other_ticket t u n l e = grind (arith, nat_tests)

gone_pushed : (d : Bool) (v : Waiter) (o : Option Waiter) → d ≡ false → o ≡ None → cond d (Some v) o ≡ None
gone_pushed true v o e h = absurd (cc)
gone_pushed false v o e h = h

gone_delivered : (d : Bool) (f : Waiter → Waiter) (o : Option Waiter) → o ≡ None → cond d (option_map f o) o ≡ None
gone_delivered true f o h = ap (option_map f) h
gone_delivered false f o h = h

gone_gone : (d : Bool) (o : Option Waiter) → o ≡ None → cond d None o ≡ None
gone_gone true o h = refl
gone_gone false o h = h

gone_after : (t : ℕ) (s : Slow) (what : What) → IsPossible s → Allows s what → IsGone t s → IsGone t (after s what)
gone_after t s (Submitted u block) p a k =
    let v = new_waiter u block in
    record {
      given = let g = k.given in omega arith;
      gone = waiter_push t s.next 0 v s.waiters a.0 p.rising ∙ gone_pushed (nat_eq t u) v (find_waiter t s.waiters) (other_ticket t u s.next k.given a.0) k.gone;
    }
gone_after t s (Installed u v) p a k = record { given = k.given; gone = waiter_delivered u t s.store s.waiters ∙ gone_delivered (nat_eq t u) _ (find_waiter t s.waiters) k.gone }
gone_after t s (Finished u v n stale) p a k = record {
  given = k.given;
  gone =
      waiter_marks t (waking s.rule s.store v) (without_waiter u s.waiters)
      ∙ ap (option_map (after_writes (waking s.rule s.store v))) (waiter_without u t s.next 0 s.waiters p.rising ∙ gone_gone (nat_eq t u) (find_waiter t s.waiters) k.gone);
}
gone_after t s (Cancelled u) p a k = record { given = k.given; gone = waiter_without u t s.next 0 s.waiters p.rising ∙ gone_gone (nat_eq t u) (find_waiter t s.waiters) k.gone }
gone_after t s (DeclaredLate name kind value) p a k = record { given = k.given; gone = k.gone }
gone_after t s (Labelled u label) p a k = k

gone_from : (t : ℕ) (s : Slow) (es : List Event) → IsPossible s → LegalFrom s es → IsGone t s → find_waiter t (state_from s es).waiters ≡ None
gone_from t s [] p l k = k.gone
gone_from t s (e ∷ es) p l k = gone_from t (after s e.what) es (possible_after s e.what p l.0.what) l.1 (gone_after t s e.what p l.0.what k)

-- ---- a current block
module _ (t : ℕ) (block : Block) (store_then : List Cell) (verdict : Verdict) (had : verdict_on store_then block ≡ Some verdict) where
  abbrev reads : List (ℕ × Value)
  reads = reads_of (under store_then) block.tree

  abbrev waiter_with : ℕ → List ℕ → Waiter
  waiter_with number woken = record { ticket = number; block = block; since = Some (record { store_then = store_then; woken = woken }) }

  -- it waits under the ticket, since its delivery on this store, and nothing made it stale
  pub record IsWaiting (s : Slow) : Type 0 where
    pub number : ℕ
    pub woken : List ℕ
    pub found : find_waiter t s.waiters ≡ Some (waiter_with number woken)
    pub fresh : intersects woken (looked_on store_then block) ≡ false

  -- so what it read has its values
  pub has_reads : (s : Slow) → IsPossible s → IsWaiting s → AreRead reads (under s.store)
  has_reads s p k =
      let since : Since = record { store_then = store_then; woken = k.woken } in
      let w : Waiter = record { ticket = k.number; block = block; since = Some since } in
      let now = still_holds t s.store s.waiters w since reads verdict p.unwoken k.found refl k.fresh (record { verdict_is = had; reads_are = refl }) in
      subst (λ (rs : List (ℕ × Value)). AreRead rs (under s.store)) now.reads_are (reads_are (under s.store) block.tree)

  -- what an event does to it: it leaves it current, makes it stale, or ends it
  data Turn (s : Slow) (what : What) : Type 0 where
    Stays : changes_told reads what ≡ [] → has_in_list t what ≡ false → IsWaiting (after s what) → Turn s what
    Turns : (changes_told reads what ≡ [] → ⊥) → has_in_list t what ≡ true → IsNotCurrent t (after s what) → Turn s what
    Ends : IsGone t (after s what) → Turn s what

  -- where a finish changes none of the reads, none of the variables that it changes was read
  unwoken_by : (s : Slow) (u : ℕ) (v : Verdict) (n : ℕ) (stale : List ℕ) → s.rule ≡ Changed → FitsHere s (Finished u v n stale) → AreRead reads (under s.store) → changes_told reads (Finished u v n stale) ≡ []
      → intersects (waking s.rule s.store v) (looked_on store_then block) ≡ false
  unwoken_by s u v n stale rule fits read none =
      let now = (told_here reads s (Finished u v n stale) fits read).1 none in
      none_met (waking s.rule s.store v) (looked_on store_then block) (λ j m.
      found_by j reads (find j reads) true (waking s.rule s.store v) refl ((looked block.tree (under store_then) verdict had j).0 m)
      (λ x there. not_woken s (Finished u v n stale) j x rule fits (found_read j x reads (under s.store) read there) (found_read j x reads (under (after s (Finished u v n stale)).store) now there)))

  -- the list of a finish has it if it becomes stale
  listed_if : (s : Slow) (u : ℕ) (v : Verdict) (n : ℕ) (stale : List ℕ) (k : IsWaiting s) → nat_eq t u ≡ false → IsPossible s → Allows s (Finished u v n stale)
      → list_any (nat_eq t) stale ≡ becomes (waking s.rule s.store v) (Some (waiter_with k.number k.woken))
  listed_if s u v n stale k e p a = finish_lists t u s v n stale p a ∙ ap (becomes (waking s.rule s.store v)) (ap (λ (x : Bool). cond x None (find_waiter t s.waiters)) e ∙ k.found)

  -- after a finish of another block it waits still
  still_there : (s : Slow) (u : ℕ) (v : Verdict) (n : ℕ) (stale : List ℕ) (k : IsWaiting s) → nat_eq t u ≡ false → IsPossible s
      → find_waiter t (after s (Finished u v n stale)).waiters ≡ Some (after_writes (waking s.rule s.store v) (waiter_with k.number k.woken))
  still_there s u v n stale k e p =
      waiter_marks t (waking s.rule s.store v) (without_waiter u s.waiters)
      ∙ ap (option_map (after_writes (waking s.rule s.store v))) (waiter_without u t s.next 0 s.waiters p.rising ∙ ap (λ (x : Bool). cond x None (find_waiter t s.waiters)) e ∙ k.found)

  finished_by : (d b : Bool) (s : Slow) (u : ℕ) (v : Verdict) (n : ℕ) (stale : List ℕ) (k : IsWaiting s) → nat_eq t u ≡ d → intersects (waking s.rule s.store v) (looked_on store_then block) ≡ b
      → IsPossible s → s.rule ≡ Changed → Allows s (Finished u v n stale) → FitsHere s (Finished u v n stale) → Turn s (Finished u v n stale)
  unfolding becomes
  finished_by true b s u v n stale k e z p rule a f =
      let w = waiter_with k.number k.woken in
      Ends (record {
        given = low t s.next 0 s.waiters w p.rising k.found;
        gone =
            waiter_marks t (waking s.rule s.store v) (without_waiter u s.waiters)
            ∙ ap (option_map (after_writes (waking s.rule s.store v))) (waiter_without u t s.next 0 s.waiters p.rising ∙ ap (λ (x : Bool). cond x None (find_waiter t s.waiters)) e);
      })
  finished_by false false s u v n stale k e z p rule a f =
      let woken = waking s.rule s.store v in
      let w = waiter_with k.number k.woken in
      let there = still_there s u v n stale k e p in
      let both : intersects (k.woken ++ woken) (looked_on store_then block) ≡ false = meets-append k.woken woken (looked_on store_then block) ∙ ap (λ (x : Bool). x || intersects woken (looked_on store_then block)) k.fresh ∙ z in
      let now : IsWaiting (after s (Finished u v n stale)) = record { number = k.number; woken = k.woken ++ woken; found = there; fresh = both } in
      let told = told_here reads s (Finished u v n stale) f (has_reads s p k) in
      Stays
      (sym told.0 ∙ unchanged reads (under (after s (Finished u v n stale)).store) (has_reads (after s (Finished u v n stale)) (possible_after s (Finished u v n stale) p a) now))
      (listed_if s u v n stale k e p a ∙ (let g = k.fresh in rw (g, both) refl))
      now
  finished_by false true s u v n stale k e z p rule a f =
      let woken = waking s.rule s.store v in
      let w = waiter_with k.number k.woken in
      let there = still_there s u v n stale k e p in
      let both : intersects (k.woken ++ woken) (looked_on store_then block) ≡ true = meets-append k.woken woken (looked_on store_then block) ∙ ap (λ (x : Bool). x || intersects woken (looked_on store_then block)) k.fresh ∙ z in
      Turns
      (λ none. let quiet = unwoken_by s u v n stale rule f (has_reads s p k) none in cc)
      (listed_if s u v n stale k e p a ∙ (let g = k.fresh in rw (g, both) refl))
      (λ x g. let q : after_writes woken w ≡ x = cc in subst (λ (y : Waiter). is_current y ≡ false) q (ap not both))

  stays_by : (s : Slow) (what : What) (k : IsWaiting s) → changes_told reads what ≡ [] → has_in_list t what ≡ false → find_waiter t (after s what).waiters ≡ find_waiter t s.waiters → Turn s what
  stays_by s what k told list same = Stays told list (record { number = k.number; woken = k.woken; found = same ∙ k.found; fresh = k.fresh })

  cancelled_by : (d : Bool) (s : Slow) (u : ℕ) (k : IsWaiting s) → nat_eq t u ≡ d → IsPossible s → Turn s (Cancelled u)
  cancelled_by true s u k e p =
      let w = waiter_with k.number k.woken in
      Ends (record { given = low t s.next 0 s.waiters w p.rising k.found; gone = waiter_without u t s.next 0 s.waiters p.rising ∙ ap (λ (x : Bool). cond x None (find_waiter t s.waiters)) e })
  cancelled_by false s u k e p = stays_by s (Cancelled u) k refl refl (waiter_without u t s.next 0 s.waiters p.rising ∙ ap (λ (x : Bool). cond x None (find_waiter t s.waiters)) e)

  turn : (s : Slow) (what : What) → IsPossible s → s.rule ≡ Changed → Allows s what → FitsHere s what → installs_to t what ≡ false → IsWaiting s → Turn s what
  turn s (Submitted u b) p rule a f n k =
      let w = waiter_with k.number k.woken in
      let v = new_waiter u b in
      stays_by s (Submitted u b) k refl refl
      (waiter_push t s.next 0 v s.waiters a.0 p.rising ∙ ap (λ (x : Bool). cond x (Some v) (find_waiter t s.waiters)) (other_ticket t u s.next (low t s.next 0 s.waiters w p.rising k.found) a.0))
  turn s (Installed u v) p rule a f n k = stays_by s (Installed u v) k refl refl (waiter_delivered u t s.store s.waiters ∙ ap (λ (x : Bool). cond x (option_map (with_delivery s.store) (find_waiter t s.waiters)) (find_waiter t s.waiters)) n)
  turn s (Finished u v m stale) p rule a f n k = finished_by (nat_eq t u) (intersects (waking s.rule s.store v) (looked_on store_then block)) s u v m stale k refl refl p rule a f
  turn s (Cancelled u) p rule a f n k = cancelled_by (nat_eq t u) s u k refl p
  turn s (DeclaredLate name kind value) p rule a f n k = stays_by s (DeclaredLate name kind value) k refl refl refl
  turn s (Labelled u label) p rule a f n k = stays_by s (Labelled u label) k refl refl refl

  -- ---- the first event that changed what it read
  told_none : (u : ℕ) (cs : List Change) (later : Option Cause) → cs ≡ [] → cause_or u cs later ≡ later
  told_none u [] later e = refl
  told_none u (c ∷ cs) later e = absurd (cc)

  told_some : (u : ℕ) (cs : List Change) (later : Option Cause) → (cs ≡ [] → ⊥) → cause_or u cs later ≡ Some (record { finish = u; changes = cs })
  told_some u [] later n = absurd (n refl)
  told_some u (c ∷ cs) later n = refl

  found_listed : (b : Bool) (k : KeptCause) → b ≡ true → cond b (Some k) None ≡ Some k
  found_listed true k e = refl
  found_listed false k e = cc

  by_turn : (s : Slow) (e : Event) (es : List Event) (w : Waiter) → IsPossible s → LegalFrom s (e ∷ es) → is_installed t es ≡ false → Turn s e.what → find_waiter t (state_from (after s e.what) es).waiters ≡ Some w
      → (IsWaiting (after s e.what) → last_listed t reads es ≡ option_map kept_cause (cause_told reads es)) → last_listed t reads (e ∷ es) ≡ option_map kept_cause (cause_told reads (e ∷ es))
  by_turn s e es w p l n (Stays told list k) there more =
      ap (option_or (last_listed t reads es)) (not_listed t reads e.what list) ∙ or_none (last_listed t reads es)
      ∙ more k ∙ ap (option_map kept_cause) (sym (told_none (ticket_of e.what) (changes_told reads e.what) (cause_told reads es) told))
  by_turn s e es w p l n (Turns told list k) there more =
      ap (λ (o : Option KeptCause). option_or o (cause_listed t reads e.what)) (none_listed t reads (after s e.what) es (possible_after s e.what p l.0.what) l.1 n k)
      ∙ listed_is t reads e.what ∙ found_listed (has_in_list t e.what) (kept_cause (record { finish = ticket_of e.what; changes = changes_told reads e.what })) list
      ∙ ap (option_map kept_cause) (sym (told_some (ticket_of e.what) (changes_told reads e.what) (cause_told reads es) told))
  by_turn s e es w p l n (Ends k) there more = let none = gone_from t (after s e.what) es (possible_after s e.what p l.0.what) l.1 k in absurd (cc)

  -- so if the block is still there at the end, the last list that has its ticket is that of the first such event
  pub first_listed : (s : Slow) (es : List Event) (w : Waiter) → IsPossible s → s.rule ≡ Changed → LegalFrom s es → FitFrom s es → is_installed t es ≡ false → IsWaiting s → find_waiter t (state_from s es).waiters ≡ Some w
      → last_listed t reads es ≡ option_map kept_cause (cause_told reads es)
  first_listed s [] w p rule l f n k there = refl
  first_listed s (e ∷ es) w p rule l f n k there =
      let q = or_false (installs_to t e.what) (is_installed t es) n in
      by_turn s e es w p l q.1 (turn s e.what p rule l.0.what f.0 q.0 k) there
      (λ now. first_listed (after s e.what) es w (possible_after s e.what p l.0.what) (after-rule s e.what ∙ rule) l.1 f.1 q.1 now there)
