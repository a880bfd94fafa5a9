-- A job has its store as long as its ticket waits.
use Rattle.std.proofs.Common.{◌≡◌, ℕ, zero, suc, ◌<◌, false, List, [], ◌∷◌, ◌++◌, map, Option, Some, None, length, refl, sym, ap, subst, ◌∙◌, arith, slice_index_or, slice_set}
use Rattle.std.specs.Prelude.{option_map, is_some, slice_get, IfSome}
use Rattle.stm_terms.specs.declared.kinds.Ty.{Ty}
use Rattle.stm_terms.specs.declared.values.Value.{Value}
use Rattle.stm_eval.specs.declared.job.Job.{Job}
use Rattle.stm_events.specs.SlowDesk.{Waiter, Slow, find_waiter}
use Rattle.stm_desk.specs.DeskView.{DeskView, state_of}
use Rattle.stm_commands.specs.declared.jobs.KeptJob.{KeptJob}
use Rattle.stm_commands.specs.Jobs.{job_at}
use Rattle.stm_commands.specs.OpenDesk.{HandedOut}
use Rattle.stm_commands.specs.OpenInvariant.{refusal_unevaluated, JobStands, JobsStand, handed_out, job_kept, job_within, IsStored, AreStored, HasStore, HaveStores, HasGrown}
use Rattle.stm_commands.proofs.GoneTickets.{IsGiven, gone_from}
use Rattle.stm_commands.proofs.LegalDesks.{grown_state, grown_legal, grown_possible}

-- ---- a copy of a job
pub copied_job : (k : KeptJob) (j : Job) → j ≡ job_within k → handed_out k.at_take.value j ≡ job_kept k
copied_job k j e = ap (λ (x : Job). handed_out k.at_take.value x) e

-- ---- a store that is dropped
abbrev without_store : KeptJob → KeptJob
without_store k = record { ticket = k.ticket; block = k.block; store = None; at_take = k.at_take }

pub same_without : (ks : List KeptJob) (n : ℕ) (d : KeptJob) → map job_kept (slice_set ks n (without_store (slice_index_or ks n d))) ≡ map job_kept ks
same_without [] n d = refl
same_without (k ∷ ks) zero d = refl
same_without (k ∷ ks) (suc n) d = ap (λ (js : List HandedOut). job_kept k ∷ js) (same_without ks n d)

pub stored_without : (ws : List Waiter) (ks : List KeptJob) (n : ℕ) (d : KeptJob) → find_waiter (slice_index_or ks n d).ticket ws ≡ None → HaveStores ws ks → HaveStores ws (slice_set ks n (without_store (slice_index_or ks n d)))
stored_without ws [] n d g h = tt
stored_without ws (k ∷ ks) zero d g h = (λ w f. absurd cc, h.1)
stored_without ws (k ∷ ks) (suc n) d g h = (h.0, stored_without ws ks n d g h.1)

pub same_element : (ks : List KeptJob) (n : ℕ) (d e : KeptJob) → n < length ks → slice_index_or ks n d ≡ slice_index_or ks n e
same_element [] n d e h = absurd (omega arith)
same_element (k ∷ ks) zero d e h = refl
same_element (k ∷ ks) (suc n) d e h = same_element ks n d e (omega arith)

pub is_some_of_waiter : (o : Option Waiter) → is_some (option_map (λ w. w.block) o) ≡ is_some o
is_some_of_waiter None = refl
is_some_of_waiter (Some w) = refl

pub none_waits : (o : Option Waiter) → is_some o ≡ false → o ≡ None
none_waits None e = refl
none_waits (Some w) e = absurd cc

-- ---- jobs that come with their stores
pub all_stored : (ws : List Waiter) (ks : List KeptJob) → AreStored ks → HaveStores ws ks
all_stored ws [] h = tt
all_stored ws (k ∷ ks) h = (λ w f. h.0, all_stored ws ks h.1)

pub stored_append : (ws : List Waiter) (ks ls : List KeptJob) → HaveStores ws ks → HaveStores ws ls → HaveStores ws (ks ++ ls)
stored_append ws [] ls h k = k
stored_append ws (x ∷ ks) ls h k = (h.0, stored_append ws ks ls h.1 k)

pub are_stored_push : (ks : List KeptJob) (k : KeptJob) → AreStored ks → IsStored k → AreStored (ks ++ k ∷ [])
are_stored_push [] k h s = (s, tt)
are_stored_push (x ∷ ks) k h s = (h.0, are_stored_push ks k h.1 s)

kept_pushed : (ks : List KeptJob) (k : KeptJob) (js : List HandedOut) → map job_kept (ks ++ k ∷ []) ++ js ≡ map job_kept ks ++ job_kept k ∷ js
kept_pushed [] k js = refl
kept_pushed (x ∷ ks) k js = ap (λ (hs : List HandedOut). job_kept x ∷ hs) (kept_pushed ks k js)

pub kept_next : (f : Job → HandedOut) (ks ls : List KeptJob) (k : KeptJob) (j : Job) (js rest : List Job) (all : List HandedOut) → ls ≡ ks ++ k ∷ [] → js ≡ j ∷ rest → job_kept k ≡ f j → map job_kept ks ++ map f js ≡ all
    → map job_kept ls ++ map f rest ≡ all
kept_next f ks ls k j js rest all p q e h =
    ap (λ (xs : List KeptJob). map job_kept xs ++ map f rest) p ∙ kept_pushed ks k (map f rest) ∙ ap (λ (x : HandedOut). map job_kept ks ++ x ∷ map f rest) e ∙ ap (λ (xs : List Job). map job_kept ks ++ map f xs) (sym q) ∙ h

-- ---- the job at a place
kept_get : (ks : List KeptJob) (n : ℕ) → option_map job_kept (slice_get ks n) ≡ slice_get (map job_kept ks) n
kept_get [] n = refl
kept_get (k ∷ ks) zero = refl
kept_get (k ∷ ks) (suc n) = kept_get ks n

pub kept_at : (ks : List KeptJob) (n : ℕ) (o : Option KeptJob) → o ≡ job_at n ks → option_map job_kept o ≡ job_at n (map job_kept ks)
kept_at ks zero o e = ap (λ (x : Option KeptJob). option_map job_kept x) e
kept_at ks (suc n) o e = ap (λ (x : Option KeptJob). option_map job_kept x) e ∙ kept_get ks n

stored_get : (ws : List Waiter) (ks : List KeptJob) (n : ℕ) → HaveStores ws ks → IfSome (slice_get ks n) (λ k. HasStore ws k)
stored_get ws [] n h = tt
stored_get ws (k ∷ ks) zero h = h.0
stored_get ws (k ∷ ks) (suc n) h = stored_get ws ks n h.1

pub stored_at : (ws : List Waiter) (ks : List KeptJob) (n : ℕ) (o : Option KeptJob) → o ≡ job_at n ks → HaveStores ws ks → IfSome o (λ k. HasStore ws k)
stored_at ws ks zero o e h = subst (λ (x : Option KeptJob). IfSome x (λ k. HasStore ws k)) (sym e) tt
stored_at ws ks (suc n) o e h = subst (λ (x : Option KeptJob). IfSome x (λ k. HasStore ws k)) (sym e) (stored_get ws ks n h)

pub job_get : {J : Type 0} (js : List J) (n m : ℕ) → n ≡ suc m → slice_get js m ≡ job_at n js
job_get js n m e = ap (λ (x : ℕ). job_at x js) (sym e)

-- a job whose delivery may be accepted has its store
waits_still : (o : Option Waiter) → refusal_unevaluated o ≡ None → (w : Waiter) × (o ≡ Some w)
waits_still (Some w) e = (w, refl)
waits_still None e = absurd cc

pub store_of : (ws : List Waiter) (k : KeptJob) (cells : List (Ty × Value)) → HasStore ws k → refusal_unevaluated (find_waiter k.ticket ws) ≡ None → k.store ≡ Some cells → k.at_take.value ≡ cells
store_of ws k cells h r e =
    let w = waits_still (find_waiter k.ticket ws) r in
    let there : k.store ≡ Some k.at_take.value = h w.0 w.1 in
    cc

-- ---- more events
stored_later : (d e : DeskView) (k : KeptJob) (o : Option Waiter) → HasGrown d e → JobStands d (job_kept k) → HasStore (state_of d).waiters k → find_waiter k.ticket (state_of d).waiters ≡ o
    → HasStore (state_of e).waiters k
stored_later d e k (Some x) g s h f = λ w l. h x f
stored_later d e k None g s h f = λ w l.
    let given : IsGiven k.ticket (state_of d) = record { rising = (grown_possible d e g).rising; given = s.ticket.given } in
    let gone : find_waiter k.ticket (state_of e).waiters ≡ None = ap (λ (x : Slow). find_waiter k.ticket x.waiters) (grown_state d e g) ∙ gone_from k.ticket (state_of d) g.more (grown_legal d e g) given f in
    absurd cc

store_grown : (d e : DeskView) (k : KeptJob) → HasGrown d e → JobStands d (job_kept k) → HasStore (state_of d).waiters k → HasStore (state_of e).waiters k
store_grown d e k g s h = stored_later d e k (find_waiter k.ticket (state_of d).waiters) g s h refl

pub stores_grown : (d e : DeskView) (ks : List KeptJob) → HasGrown d e → JobsStand d (map job_kept ks) → HaveStores (state_of d).waiters ks → HaveStores (state_of e).waiters ks
stores_grown d e [] g s h = tt
stores_grown d e (k ∷ ks) g s h = (store_grown d e k g s.0 h.0, stores_grown d e ks g s.1 h.1)
