-- What an open desk keeps as events join its history.
use Rattle.std.proofs.Common.{◌≡◌, ℕ, Bool, Result, Ok, Err, IfOk, OnOk, OnErr, List, [], ◌∷◌, ◌++◌, Option, Some, None, refl, sym, ap, ◌∙◌, subst, append_assoc, append-nil}
use Rattle.std.specs.Prelude.{map, option_map}
use Rattle.stm_terms.specs.declared.kinds.Ty.{Ty}
use Rattle.stm_terms.specs.declared.values.Value.{Value}
use Rattle.stm_store.specs.Cells.{plains}
use Rattle.stm_store.specs.Naming.{Named}
use Rattle.stm_check.specs.TypedBlock.{Block}
use Rattle.stm_eval.specs.declared.job.Job.{Job}
use Rattle.stm_eval.specs.declared.message.Evaluated.{Evaluated}
use Rattle.stm_eval.specs.EvaluatedFields.{message_ticket, message_block}
use Rattle.stm_events.specs.declared.errors.CancelError.{CancelError}
use Rattle.stm_events.specs.declared.errors.FinishError.{FinishError}
use Rattle.stm_events.specs.declared.errors.LabelError.{LabelError}
use Rattle.stm_events.specs.declared.errors.LateDeclareError.{LateDeclareError}
use Rattle.stm_events.specs.declared.errors.SubmitError.{SubmitError}
use Rattle.stm_events.specs.declared.event.Event.{Event}
use Rattle.stm_events.specs.declared.event.What.{What}
use Rattle.stm_events.specs.declared.event.What.TheVariants.{Submitted, Cancelled, Declared as DeclaredLate, Labelled}
use Rattle.stm_eval.specs.CoveredJobs.{AreJobsCovered}
use Rattle.stm_machine.specs.JobsHandedOut.{block_at, AreJobs}
use Rattle.stm_machine.specs.Machine.{event}
use Rattle.stm_machine.specs.Checkpoints.{MayStart}
use Rattle.stm_events.specs.SlowDesk.{Slow, Waiter, after, find_waiter}
use Rattle.stm_events.specs.States.{IsPossible, IsTicketOf, IsLegalFrom}
use Rattle.stm_events.proofs.Folds.{state-append}
use Rattle.stm_events.proofs.KeptByLegalHistories.{ticket_waiting, ticket_from}
use Rattle.stm_desk.specs.DeskView.{DeskView, start_state, state_of, with_event}
use Rattle.stm_events.specs.SlowAtomically.{atomically}
use Rattle.stm_desk.specs.declared.atomic.Ran.{Ran}
use Rattle.stm_desk.specs.declared.errors.AtomicError.{AtomicError}
use Rattle.stm_desk.specs.declared.errors.SettleStop.{SettleStop}
use Rattle.stm_desk.specs.declared.errors.SettleWhy.{SettleWhy}
use Rattle.stm_desk.specs.declared.errors.SettleWhy.TheVariants.{HistoryFull, CellsFull, NoMemory}
use Rattle.stm_desk.specs.declared.finish.Finish.{Finish}
use Rattle.stm_desk.specs.declared.settle.Settled.{Settled}
use Rattle.stm_desk.specs.Events.{finish_of, HasFinishedBlock}
use Rattle.stm_desk.specs.RunAtOnce.{HasRunAtOnce}
use Rattle.stm_desk.specs.Settling.{with_whats, requeued_all, slow_run, HasHalted, RunsAs}
use Rattle.stm_events.specs.SlowSettle.{Order}
use Rattle.stm_commands.specs.declared.jobs.KeptJob.{KeptJob}
use Rattle.stm_commands.specs.Jobs.{job_of, jobs_of}
use Rattle.stm_commands.specs.OpenDesk.{HandedOut}
use Rattle.stm_source.specs.LaterNames.{NamesFollow}
use Rattle.stm_source.proofs.LaterNames.{same_names}
use Rattle.stm_commands.specs.OpenInvariant.{handed_out, job_kept, HaveStores, JobStands, JobsStand, IsPresentCopy, OpenInvariant, HasGrown, OwnsTicket}
use Rattle.stm_commands.proofs.KeptStores.{stores_grown}
use Rattle.stm_commands.proofs.LegalDesks.{grown_state, grown_legal, grown_possible, names_grown}

-- the desk after one event more
pub now_next : (d : DeskView) (client : ℕ) (w : What) → state_of (with_event d client w) ≡ after (state_of d) w
now_next d client w = state-append (start_state d) d.history (event client w ∷ [])

-- submissions, cancellations and labels leave the store as it is
pub submitted_store : (d : DeskView) (client t : ℕ) (b : Block) → (state_of (with_event d client (Submitted t b))).store ≡ (state_of d).store
submitted_store d client t b = ap (λ s. s.store) (now_next d client (Submitted t b))

pub cancelled_store : (d : DeskView) (client t : ℕ) → (state_of (with_event d client (Cancelled t))).store ≡ (state_of d).store
cancelled_store d client t = ap (λ s. s.store) (now_next d client (Cancelled t))

labelled_store : (d : DeskView) (client t : ℕ) (label : List ℕ) → (state_of (with_event d client (Labelled t label))).store ≡ (state_of d).store
labelled_store d client t label = ap (λ s. s.store) (now_next d client (Labelled t label))

pub grown_same : (d e : DeskView) → e ≡ d → MayStart e.table e.checkpoint → IsLegalFrom (start_state e) e.history → HasGrown d e
grown_same d e p start legal = record { table = ap (λ s. s.table) p; checkpoint = ap (λ s. s.checkpoint) p; limit = ap (λ s. s.limit) p; more = []; history = ap (λ s. s.history) p ∙ sym (append-nil d.history); start = start; legal = legal }

pub grown_next : (d e : DeskView) (client : ℕ) (w : What) → e ≡ with_event d client w → MayStart e.table e.checkpoint → IsLegalFrom (start_state e) e.history → HasGrown d e
grown_next d e client w p start legal = record { table = ap (λ s. s.table) p; checkpoint = ap (λ s. s.checkpoint) p; limit = ap (λ s. s.limit) p; more = event client w ∷ []; history = ap (λ s. s.history) p; start = start; legal = legal }

-- a desk that differs in its queue alone has grown by no event
pub grown_queued : (d e : DeskView) (p : List (ℕ × Bool)) → e ≡ record d { pending = p } → MayStart d.table d.checkpoint → IsLegalFrom (start_state d) d.history → HasGrown d e
grown_queued d e p q start legal = subst (HasGrown d) (sym q) (record { table = refl; checkpoint = refl; limit = refl; more = []; history = sym (append-nil d.history); start = start; legal = legal })

pub grown_trans : (c d e : DeskView) → HasGrown c d → HasGrown d e → HasGrown c e
grown_trans c d e g h = record {
  table = h.table ∙ g.table;
  checkpoint = h.checkpoint ∙ g.checkpoint;
  limit = h.limit ∙ g.limit;
  more = g.more ++ h.more;
  history = h.history ∙ ap (λ (es : List Event). es ++ h.more) g.history ∙ append_assoc c.history g.more h.more;
  start = h.start;
  legal = h.legal;
}

-- a job that stood stands
pub stands_grown : (d e : DeskView) (j : HandedOut) → HasGrown d e → JobStands d j → JobStands e j
stands_grown d e j g s = record {
  covered = s.covered;
  ticket = subst (λ (x : Slow). IsTicketOf j.block x j.ticket) (sym (grown_state d e g)) (ticket_from (state_of d) g.more j.block j.ticket (grown_possible d e g) (grown_legal d e g) s.ticket);
}

-- a ticket that was given to the block of a message still is
pub own_grown : (d e : DeskView) (m : Evaluated) → HasGrown d e → OwnsTicket (state_of d) m → OwnsTicket (state_of e) m
own_grown d e m g o = subst (λ (x : Slow). OwnsTicket x m) (sym (grown_state d e g)) (ticket_from (state_of d) g.more (message_block m) (message_ticket m) (grown_possible d e g) (grown_legal d e g) o)

pub stand_grown : (d e : DeskView) (js : List HandedOut) → HasGrown d e → JobsStand d js → JobsStand e js
stand_grown d e [] g s = tt
stand_grown d e (j ∷ js) g s = (stands_grown d e j g s.0, stand_grown d e js g s.1)

copied_same : (d e : DeskView) (copy : Option (List (Ty × Value))) → (state_of e).store ≡ (state_of d).store → IsPresentCopy d copy → IsPresentCopy e copy
copied_same d e None p c = tt
copied_same d e (Some cells) p c = c ∙ ap plains (sym p)

-- and so does what an open desk keeps
pub kept_grown : {known : List Named} → (d e : DeskView) (copy : Option (List (Ty × Value))) (ks : List KeptJob) → HasGrown d e → (state_of e).store ≡ (state_of d).store → OpenInvariant d copy ks known → OpenInvariant e copy ks known
kept_grown {known = known} d e copy ks g p k = record {
  start = g.start;
  legal = g.legal;
  copied = copied_same d e copy p k.copied;
  jobs_stand = stand_grown d e (map job_kept ks) g k.jobs_stand;
  have_stores = stores_grown d e ks g k.jobs_stand k.have_stores;
  kept_names = names_grown d e known g k.kept_names;
}

-- what an open desk without jobs keeps
pub kept_resumed : (d : DeskView) (ks : List KeptJob) (known : List Named) → ks ≡ [] → known ≡ (state_of d).names → MayStart d.table d.checkpoint → IsLegalFrom (start_state d) d.history → OpenInvariant d None ks known
kept_resumed d ks known e same start legal =
    subst (λ (js : List KeptJob). OpenInvariant d None js known) (sym e) (record {
      start = start;
      legal = legal;
      copied = tt;
      jobs_stand = tt;
      have_stores = tt;
      kept_names = subst (λ (ns : List Named). NamesFollow ns (state_of d).names) (sym same) (same_names (state_of d).names);
    })

-- with blocks that were checked over the present names
pub kept_prepared : {known : List Named} → (d : DeskView) (copy : Option (List (Ty × Value))) (ks : List KeptJob) (others : List Named) → others ≡ (state_of d).names → OpenInvariant d copy ks known → OpenInvariant d copy ks others
kept_prepared d copy ks others same k = record {
  start = k.start;
  legal = k.legal;
  copied = k.copied;
  jobs_stand = k.jobs_stand;
  have_stores = k.have_stores;
  kept_names = subst (λ (ns : List Named). NamesFollow ns (state_of d).names) (sym same) (same_names (state_of d).names);
}

-- without a copy the store may be another one
pub kept_without : {known : List Named} → (d e : DeskView) (copy : Option (List (Ty × Value))) (ks : List KeptJob) → HasGrown d e → OpenInvariant d copy ks known → OpenInvariant e None ks known
kept_without {known = known} d e copy ks g k = record {
  start = g.start;
  legal = g.legal;
  copied = tt;
  jobs_stand = stand_grown d e (map job_kept ks) g k.jobs_stand;
  have_stores = stores_grown d e ks g k.jobs_stand k.have_stores;
  kept_names = names_grown d e known g k.kept_names;
}

-- jobs that a desk gives out stand
ticket_of : (s : Slow) (t : ℕ) (b : Block) (o : Option Waiter) → IsPossible s → find_waiter t s.waiters ≡ o → option_map (λ w. w.block) o ≡ Some b → IsTicketOf b s t
ticket_of s t b None p f e = absurd cc
ticket_of s t b (Some w) p f e = let q : w.block ≡ b = cc in subst (λ (x : Block). IsTicketOf x s t) q (ticket_waiting s t w p f)

ticket_given : (s : Slow) (t : ℕ) (b : Block) → IsPossible s → block_at s t ≡ Some b → IsTicketOf b s t
ticket_given s t b p e = ticket_of s t b (find_waiter t s.waiters) p refl e

pub given_stand : (d : DeskView) (cells : List (Ty × Value)) (js : List Job) → IsPossible (state_of d) → AreJobs (state_of d) js → AreJobsCovered cells js → JobsStand d (map (handed_out cells) js)
given_stand d cells [] p a c = tt
given_stand d cells (j ∷ js) p a c = (record { covered = c.0; ticket = ticket_given (state_of d) j.ticket j.block p a.0 }, given_stand d cells js p a.1 c.1)

pub stand_append : (d : DeskView) (js ks : List HandedOut) → JobsStand d js → JobsStand d ks → JobsStand d (js ++ ks)
stand_append d [] ks s t = t
stand_append d (j ∷ js) ks s t = (s.0, stand_append d js ks s.1 t)

-- they are those of their tickets
pub given_are : (d : DeskView) (cells : List (Ty × Value)) (js : List Job) → cells ≡ plains (state_of d).store → AreJobs (state_of d) js → map (handed_out cells) js ≡ jobs_of (state_of d) (map (λ j. j.ticket) js)
given_are d cells [] e a = refl
given_are d cells (j ∷ js) e a = by (block_at (state_of d) j.ticket) a.0 (given_are d cells js e a.1)
  where
    by : (o : Option Block) → o ≡ Some j.block → map (handed_out cells) js ≡ jobs_of (state_of d) (map (λ j. j.ticket) js) → handed_out cells j ∷ map (handed_out cells) js ≡ job_of (state_of d) j.ticket o ++ jobs_of (state_of d) (map (λ j. j.ticket) js)
    by (Some b) p q =
        let r : b ≡ j.block = cc in
        ap (λ (c : List (Ty × Value)). record { ticket = j.ticket; block = j.block; store = c } ∷ map (handed_out cells) js) e
        ∙ ap (λ (b : Block). record { ticket = j.ticket; block = b; store = plains (state_of d).store } ∷ map (handed_out cells) js) (sym r)
        ∙ ap (λ (hs : List HandedOut). record { ticket = j.ticket; block = b; store = plains (state_of d).store } ∷ hs) q
    by None p q = absurd cc

-- a desk that differs in its queue alone
pub queued_stand : (d : DeskView) (p : List (ℕ × Bool)) (js : List HandedOut) → JobsStand d js → JobsStand (record d { pending = p }) js
queued_stand d p [] s = tt
queued_stand d p (j ∷ js) s = (record { covered = s.0.covered; ticket = s.0.ticket }, queued_stand d p js s.1)

queued_copied : (d : DeskView) (p : List (ℕ × Bool)) (copy : Option (List (Ty × Value))) → IsPresentCopy d copy → IsPresentCopy (record d { pending = p }) copy
queued_copied d p None c = tt
queued_copied d p (Some cells) c = c

pub kept_queued : {known : List Named} → (d e : DeskView) (copy : Option (List (Ty × Value))) (ks : List KeptJob) → e ≡ record d { pending = e.pending } → OpenInvariant d copy ks known → OpenInvariant e copy ks known
kept_queued {known = known} d e copy ks q k =
    subst (λ (f : DeskView). OpenInvariant f copy ks known) (sym q)
    (record { start = k.start; legal = k.legal; copied = queued_copied d e.pending copy k.copied; jobs_stand = queued_stand d e.pending (map job_kept ks) k.jobs_stand; have_stores = k.have_stores; kept_names = k.kept_names })

pub kept_pending : {known : List Named} → (d e : DeskView) (p : List (ℕ × Bool)) (copy : Option (List (Ty × Value))) (ks : List KeptJob) → e ≡ record d { pending = p } → OpenInvariant d copy ks known → OpenInvariant e copy ks known
kept_pending {known = known} d e p copy ks q k =
    subst (λ (f : DeskView). OpenInvariant f copy ks known) (sym q)
    (record { start = k.start; legal = k.legal; copied = queued_copied d p copy k.copied; jobs_stand = queued_stand d p (map job_kept ks) k.jobs_stand; have_stores = k.have_stores; kept_names = k.kept_names })

-- with more jobs that stand, if each that needs its store has it
pub kept_more : {A E : Type 0} {known : List Named} → (d e : DeskView) (copy : Option (List (Ty × Value))) (ks ls ms : List KeptJob) (r : Result A E) → e ≡ record d { pending = e.pending } → JobsStand d (map job_kept ls)
    → OnOk r (map job_kept ms ≡ map job_kept ks ++ map job_kept ls) → OnErr r (map job_kept ms ≡ map job_kept ks) → HaveStores (state_of e).waiters ms → OpenInvariant d copy ks known → OpenInvariant e copy ms known
kept_more {A = A} {E = E} {known = known} d e copy ks ls ms r q s ok err h k = by r ok err (kept_queued d e copy ks q k)
  where
    stand : JobsStand e (map job_kept ls)
    stand = subst (λ (f : DeskView). JobsStand f (map job_kept ls)) (sym q) (queued_stand d e.pending (map job_kept ls) s)

    by : (r : Result A E) → OnOk r (map job_kept ms ≡ map job_kept ks ++ map job_kept ls) → OnErr r (map job_kept ms ≡ map job_kept ks) → OpenInvariant e copy ks known → OpenInvariant e copy ms known
    by (Ok x) p n i = record { start = i.start; legal = i.legal; copied = i.copied; jobs_stand = subst (JobsStand e) (sym p) (stand_append e (map job_kept ks) (map job_kept ls) i.jobs_stand stand); have_stores = h; kept_names = i.kept_names }
    by (Err x) p n i = record { start = i.start; legal = i.legal; copied = i.copied; jobs_stand = subst (JobsStand e) (sym n) i.jobs_stand; have_stores = h; kept_names = i.kept_names }

-- settling
whats_table : (d : DeskView) (client : ℕ) (ws : List What) → (with_whats d client ws).table ≡ d.table
whats_table d client [] = refl
whats_table d client (w ∷ ws) = whats_table (with_event d client w) client ws

whats_checkpoint : (d : DeskView) (client : ℕ) (ws : List What) → (with_whats d client ws).checkpoint ≡ d.checkpoint
whats_checkpoint d client [] = refl
whats_checkpoint d client (w ∷ ws) = whats_checkpoint (with_event d client w) client ws

whats_limit : (d : DeskView) (client : ℕ) (ws : List What) → (with_whats d client ws).limit ≡ d.limit
whats_limit d client [] = refl
whats_limit d client (w ∷ ws) = whats_limit (with_event d client w) client ws

whats_history : (d : DeskView) (client : ℕ) (ws : List What) → (with_whats d client ws).history ≡ d.history ++ map (event client) ws
whats_history d client [] = sym (append-nil d.history)
whats_history d client (w ∷ ws) = whats_history (with_event d client w) client ws ∙ append_assoc d.history (event client w ∷ []) (map (event client) ws)

pub grown_whats : (d e : DeskView) (client : ℕ) (ws : List What) → e ≡ with_whats (requeued_all d) client ws → MayStart e.table e.checkpoint → IsLegalFrom (start_state e) e.history → HasGrown d e
grown_whats d e client ws p start legal = record {
  table = ap (λ s. s.table) p ∙ whats_table (requeued_all d) client ws;
  checkpoint = ap (λ s. s.checkpoint) p ∙ whats_checkpoint (requeued_all d) client ws;
  limit = ap (λ s. s.limit) p ∙ whats_limit (requeued_all d) client ws;
  more = map (event client) ws;
  history = ap (λ s. s.history) p ∙ whats_history (requeued_all d) client ws;
  start = start;
  legal = legal;
}

-- the desk has grown by these events, if no ticket was taken back
pub grown_by : (d e : DeskView) (client : ℕ) (ws : List What) → e ≡ with_whats d client ws → MayStart e.table e.checkpoint → IsLegalFrom (start_state e) e.history → HasGrown d e
grown_by d e client ws p start legal = record {
  table = ap (λ s. s.table) p ∙ whats_table d client ws;
  checkpoint = ap (λ s. s.checkpoint) p ∙ whats_checkpoint d client ws;
  limit = ap (λ s. s.limit) p ∙ whats_limit d client ws;
  more = map (event client) ws;
  history = ap (λ s. s.history) p ∙ whats_history d client ws;
  start = start;
  legal = legal;
}

-- ---- by call
submitted_grown : (d e : DeskView) (b : Block) (r : Result ℕ SubmitError) → IfOk r (λ t. e ≡ with_event d 0 (Submitted t b)) → OnErr r (e ≡ d) → MayStart e.table e.checkpoint → IsLegalFrom (start_state e) e.history
    → HasGrown d e × ((state_of e).store ≡ (state_of d).store)
submitted_grown d e b (Ok t) p q start legal = (grown_next d e 0 (Submitted t b) p start legal, ap (λ s. (state_of s).store) p ∙ submitted_store d 0 t b)
submitted_grown d e b (Err x) p q start legal = (grown_same d e q start legal, ap (λ s. (state_of s).store) q)

pub kept_submitted : {known : List Named} → (d e : DeskView) (copy : Option (List (Ty × Value))) (ks : List KeptJob) (b : Block) (r : Result ℕ SubmitError) → IfOk r (λ t. e ≡ with_event d 0 (Submitted t b)) → OnErr r (e ≡ d)
    → MayStart e.table e.checkpoint → IsLegalFrom (start_state e) e.history → OpenInvariant d copy ks known → OpenInvariant e copy ks known
kept_submitted d e copy ks b r p q start legal k = let g = submitted_grown d e b r p q start legal in kept_grown d e copy ks g.0 g.1 k

cancelled_grown : (d e : DeskView) (t : ℕ) (r : Result (Unit {0}) CancelError) → OnOk r (e ≡ with_event d 0 (Cancelled t)) → OnErr r (e ≡ d) → MayStart e.table e.checkpoint → IsLegalFrom (start_state e) e.history
    → HasGrown d e × ((state_of e).store ≡ (state_of d).store)
cancelled_grown d e t (Ok x) p q start legal = (grown_next d e 0 (Cancelled t) p start legal, ap (λ s. (state_of s).store) p ∙ cancelled_store d 0 t)
cancelled_grown d e t (Err x) p q start legal = (grown_same d e q start legal, ap (λ s. (state_of s).store) q)

pub kept_cancelled : {known : List Named} → (d e : DeskView) (copy : Option (List (Ty × Value))) (ks : List KeptJob) (t : ℕ) (r : Result (Unit {0}) CancelError) → OnOk r (e ≡ with_event d 0 (Cancelled t)) → OnErr r (e ≡ d)
    → MayStart e.table e.checkpoint → IsLegalFrom (start_state e) e.history → OpenInvariant d copy ks known → OpenInvariant e copy ks known
kept_cancelled d e copy ks t r p q start legal k = let g = cancelled_grown d e t r p q start legal in kept_grown d e copy ks g.0 g.1 k

labelled_grown : (d e : DeskView) (t : ℕ) (label : List ℕ) (r : Result (Unit {0}) LabelError) → OnOk r (e ≡ with_event d 0 (Labelled t label)) → OnErr r (e ≡ d) → MayStart e.table e.checkpoint → IsLegalFrom (start_state e) e.history
    → HasGrown d e × ((state_of e).store ≡ (state_of d).store)
labelled_grown d e t label (Ok x) p q start legal = (grown_next d e 0 (Labelled t label) p start legal, ap (λ s. (state_of s).store) p ∙ labelled_store d 0 t label)
labelled_grown d e t label (Err x) p q start legal = (grown_same d e q start legal, ap (λ s. (state_of s).store) q)

pub kept_labelled : {known : List Named} → (d e : DeskView) (copy : Option (List (Ty × Value))) (ks : List KeptJob) (t : ℕ) (label : List ℕ) (r : Result (Unit {0}) LabelError) → OnOk r (e ≡ with_event d 0 (Labelled t label)) → OnErr r (e ≡ d)
    → MayStart e.table e.checkpoint → IsLegalFrom (start_state e) e.history → OpenInvariant d copy ks known → OpenInvariant e copy ks known
kept_labelled d e copy ks t label r p q start legal k = let g = labelled_grown d e t label r p q start legal in kept_grown d e copy ks g.0 g.1 k

finished_grown : (d e : DeskView) (t : ℕ) (r : Result Finish FinishError) → IfOk r (HasFinishedBlock 0 t d e) → OnErr r (e ≡ d) → MayStart e.table e.checkpoint → IsLegalFrom (start_state e) e.history → HasGrown d e
finished_grown d e t (Ok f) p q start legal = grown_next d e 0 (finish_of t f) p.grown start legal
finished_grown d e t (Err x) p q start legal = grown_same d e q start legal

pub kept_finished : {known : List Named} → (d e : DeskView) (copy : Option (List (Ty × Value))) (ks : List KeptJob) (t : ℕ) (r : Result Finish FinishError)
    → IfOk r (HasFinishedBlock 0 t d e) → OnErr r (e ≡ d) → MayStart e.table e.checkpoint → IsLegalFrom (start_state e) e.history → OpenInvariant d copy ks known → OpenInvariant e None ks known
kept_finished d e copy ks t r p q start legal k = kept_without d e copy ks (finished_grown d e t r p q start legal) k

declared_grown : (d e : DeskView) (w : What) (r : Result ℕ LateDeclareError) → OnOk r (e ≡ with_event d 0 w) → OnErr r (e ≡ d) → MayStart e.table e.checkpoint → IsLegalFrom (start_state e) e.history → HasGrown d e
declared_grown d e w (Ok i) p q start legal = grown_next d e 0 w p start legal
declared_grown d e w (Err x) p q start legal = grown_same d e q start legal

pub kept_declared : {known : List Named} → (d e : DeskView) (copy : Option (List (Ty × Value))) (ks : List KeptJob) (name : List ℕ) (kind : Ty) (value : Value) (r : Result ℕ LateDeclareError)
    → OnOk r (e ≡ with_event d 0 (DeclaredLate name kind value)) → OnErr r (e ≡ d) → MayStart e.table e.checkpoint → IsLegalFrom (start_state e) e.history → OpenInvariant d copy ks known → OpenInvariant e None ks known
kept_declared d e copy ks name kind value r p q start legal k = kept_without d e copy ks (declared_grown d e (DeclaredLate name kind value) r p q start legal) k

halted_grown : (next : Order) (d e : DeskView) (w : SettleWhy) (f n : ℕ) → HasHalted next w 0 (requeued_all d) e f n → MayStart e.table e.checkpoint → IsLegalFrom (start_state e) e.history → HasGrown d e
halted_grown next d e HistoryFull f n s start legal = grown_whats d e 0 (slow_run next (requeued_all d)) s.0.grown start legal
halted_grown next d e CellsFull f n s start legal = grown_whats d e 0 (slow_run next (requeued_all d)) s.0.grown start legal
halted_grown next d e NoMemory f n s start legal = grown_whats d e 0 s.done s.grown start legal

run_grown : (next : Order) (d e : DeskView) (r : Result Settled SettleStop) → RunsAs next 0 (requeued_all d) e r → MayStart e.table e.checkpoint → IsLegalFrom (start_state e) e.history → HasGrown d e
run_grown next d e (Ok s) p start legal = grown_whats d e 0 (slow_run next (requeued_all d)) p.grown start legal
run_grown next d e (Err s) p start legal = halted_grown next d e s.why s.finished s.evaluations p start legal

pub kept_run : {known : List Named} → (next : Order) (d e : DeskView) (copy : Option (List (Ty × Value))) (ks : List KeptJob) (r : Result Settled SettleStop) → RunsAs next 0 (requeued_all d) e r → MayStart e.table e.checkpoint → IsLegalFrom (start_state e) e.history → OpenInvariant d copy ks known → OpenInvariant e None ks known
kept_run next d e copy ks r p start legal k = kept_without d e copy ks (run_grown next d e r p start legal) k

ran_grown : (d e : DeskView) (b : Block) (r : Result Ran AtomicError) → OnOk r (e ≡ with_whats d 0 (atomically (state_of d) b)) → OnErr r (e ≡ d) → MayStart e.table e.checkpoint → IsLegalFrom (start_state e) e.history → HasGrown d e
ran_grown d e b (Ok x) p q start legal = grown_by d e 0 (atomically (state_of d) b) p start legal
ran_grown d e b (Err x) p q start legal = grown_same d e q start legal

-- the events of what was run are those of the definition
pub ran_grown_on : (d e : DeskView) (b : Block) (r : Result Ran AtomicError) → IfOk r (HasRunAtOnce 0 b d e) → OnOk r (e ≡ with_whats d 0 (atomically (state_of d) b))
ran_grown_on d e b (Ok x) h = h.grown
ran_grown_on d e b (Err x) h = tt

pub kept_ran : {known : List Named} → (d e : DeskView) (copy : Option (List (Ty × Value))) (ks : List KeptJob) (b : Block) (r : Result Ran AtomicError)
    → OnOk r (e ≡ with_whats d 0 (atomically (state_of d) b)) → OnErr r (e ≡ d) → MayStart e.table e.checkpoint → IsLegalFrom (start_state e) e.history → OpenInvariant d copy ks known → OpenInvariant e None ks known
kept_ran d e copy ks b r p q start legal k = kept_without d e copy ks (ran_grown d e b r p q start legal) k
