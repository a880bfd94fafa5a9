-- What came of a line, by its reply: it follows from four facts of each reply, and these from it.
use Rattle.std.proofs.Common.{◌≡◌, ℕ, List, [], ◌++◌, Bool, true, false, Result, Ok, Err, IfOk, OnOk, refl, sym, ap, ◌∙◌, subst, append-nil}
use Rattle.std.specs.Result.{result_and}
use Rattle.stm_lines.specs.LineClass.{LineClass, Silent, Words, line_class}
use Rattle.stm_run.specs.Abstraction.{IsStep, Replies}
use Rattle.stm_run.specs.declared.console.Console.{Console}
use Rattle.stm_run.specs.declared.console.Console.TheVariants.{Open}
use Rattle.stm_run.specs.declared.reply.Reply.{Reply}
use Rattle.stm_run.specs.declared.reply.Reply.TheVariants as reply
use Rattle.stm_run.specs.Console.{class_step, command_named, step, word_step}
use Rattle.stm_run.specs.ConsoleState.{events_of, is_open, present_desk}
use Rattle.stm_run.specs.LineCheckpoints.{asked_checkpoint_step, asks_checkpoint, class_checkpoints, is_streamed, line_checkpoints, reply_checkpoints, word_checkpoints}

-- ---- the judgement of a line says what it does
pub judged_step : (s : Console) (line : List ℕ) (j : LineClass) → j ≡ line_class line → step s line ≡ class_step s j
unfolding step
judged_step s line j is = sym (ap (class_step s) is)

pub judged_checkpoints : (s : Console) (line : List ℕ) (j : LineClass) → j ≡ line_class line → line_checkpoints s line ≡ class_checkpoints s j
unfolding line_checkpoints
judged_checkpoints s line j is = sym (ap (class_checkpoints s) is)

-- ---- from the reply to the four facts
pub is_step : (s : Console) (line : List ℕ) (t : Console) (old new : List ℕ) (r : Reply) → Replies r s line t old new → IsStep r old new t (step s line)
is_step s line t old new reply.Text h = h.0
is_step s line t old new reply.History h = (h.console, (h.appended, h.answer_is))
is_step s line t old new (reply.Events n) h = (h.console, (h.appended, h.answer_is))
is_step s line t old new reply.Checkpoint h =
    ((subst (λ (c : Console). is_open c ≡ true) (sym h.opened) refl, h.step_is ∙ sym (ap asked_checkpoint_step h.opened)), h.appended)

-- after an empty text, too
pub is_step_after : (s : Console) (line : List ℕ) (t : Console) (old new : List ℕ) (r : Reply) → old ≡ [] → Replies r s line t old new → (p : Console × List ℕ) × IsStep r [] new t p
is_step_after s line t old new r none h =
    (step s line, subst (λ (o : List ℕ). IsStep r o new t (step s line)) none (is_step s line t old new r h))

module _ {X : Type 0} (s : Console) (line : List ℕ) (t : Console) (old new : List ℕ) where
  pub step_of : (q : Result Reply X) → IfOk q (λ r. Replies r s line t old new) → IfOk q (λ r. IsStep r old new t (step s line))
  step_of (Err e) h = tt
  step_of (Ok r) h = is_step s line t old new r h

  pub asked_of : (q : Result Reply X) → IfOk q (λ r. Replies r s line t old new) → IfOk q (λ r. asks_checkpoint r ≡ true → t ≡ Open (present_desk s))
  asked_of (Err e) h = tt
  asked_of (Ok reply.Text) h = λ asks. absurd (cc asks)
  asked_of (Ok reply.History) h = λ asks. absurd (cc asks)
  asked_of (Ok (reply.Events n)) h = λ asks. absurd (cc asks)
  asked_of (Ok reply.Checkpoint) h = λ asks. h.opened

  pub made_of : (q : Result Reply X) → IfOk q (λ r. Replies r s line t old new) → IfOk q (λ r. reply_checkpoints (present_desk s) r ≡ line_checkpoints s line)
  made_of (Err e) h = tt
  made_of (Ok reply.Text) h = sym h.1
  made_of (Ok reply.History) h = sym h.no_checkpoint
  made_of (Ok (reply.Events n)) h = sym h.no_checkpoint
  made_of (Ok reply.Checkpoint) h = sym h.made

  pub streamed_of : (q : Result Reply X) → IfOk q (λ r. Replies r s line t old new) → IfOk q (λ r. is_streamed r ≡ true → events_of t ≡ events_of s)
  streamed_of (Err e) h = tt
  streamed_of (Ok reply.Text) h = λ streamed. absurd (cc streamed)
  streamed_of (Ok reply.History) h = λ streamed. h.events
  streamed_of (Ok (reply.Events n)) h = λ streamed. h.events
  streamed_of (Ok reply.Checkpoint) h = λ streamed. absurd (cc streamed)

  -- ---- and back
  replies : (q : Result Reply X) → IfOk q (λ r. IsStep r old new t (step s line)) → IfOk q (λ r. asks_checkpoint r ≡ true → t ≡ Open (present_desk s))
      → IfOk q (λ r. reply_checkpoints (present_desk s) r ≡ line_checkpoints s line) → IfOk q (λ r. is_streamed r ≡ true → events_of t ≡ events_of s)
      → IfOk q (λ r. Replies r s line t old new)
  replies (Err e) is asked made streamed = tt
  replies (Ok reply.Text) is asked made streamed = (is, sym made)
  replies (Ok reply.History) is asked made streamed =
      record { console = is.0; answer_is = is.1.1; events = streamed refl; no_checkpoint = sym made; appended = is.1.0 }
  replies (Ok (reply.Events n)) is asked made streamed =
      record { console = is.0; answer_is = is.1.1; events = streamed refl; no_checkpoint = sym made; appended = is.1.0 }
  replies (Ok reply.Checkpoint) is asked made streamed =
      record { opened = asked refl; step_is = is.0.1 ∙ ap asked_checkpoint_step (asked refl); made = sym made; appended = is.1 }

  -- a line of a command, whose argument was read as this text
  pub commanded : (word argument text : List ℕ) (q : Result Reply X) → Words word argument ≡ line_class line → text ≡ argument
      → IfOk q (λ r. IsStep r old new t (word_step s (command_named word) text)) → IfOk q (λ r. asks_checkpoint r ≡ true → t ≡ Open (present_desk s))
      → IfOk q (λ r. reply_checkpoints (present_desk s) r ≡ word_checkpoints s (command_named word) text) → IfOk q (λ r. is_streamed r ≡ true → events_of t ≡ events_of s)
      → IfOk q (λ r. Replies r s line t old new)
  commanded word argument text q is same does asked makes streamed =
      let e = ap (λ (a : List ℕ). word_step s (command_named word) a) same ∙ sym (judged_step s line (Words word argument) is) in
      let m = ap (λ (a : List ℕ). word_checkpoints s (command_named word) a) same ∙ sym (judged_checkpoints s line (Words word argument) is) in
      replies q
      (subst (λ (p : Console × List ℕ). IfOk q (λ r. IsStep r old new t p)) e does)
      asked
      (subst (λ (b : Bool). IfOk q (λ r. reply_checkpoints (present_desk s) r ≡ b)) m makes)
      streamed

-- a line that prints nothing
pub silent : (s : Console) (line old : List ℕ) → Silent ≡ line_class line → Replies reply.Text s line s old old
silent s line old is =
    let e = judged_step s line Silent is in (
      (sym (ap (λ (p : Console × List ℕ). p.0) e), sym (append-nil old) ∙ sym (ap (λ (p : Console × List ℕ). old ++ p.1) e)),
      judged_checkpoints s line Silent is,
    )

-- a line that only prints this text
pub printed : {X : Type 0} (s : Console) (line text old new : List ℕ) (p : Result Unit X) (q : Result Reply X) → q ≡ result_and p (Ok reply.Text)
    → OnOk p (new ≡ old ++ text) → step s line ≡ (s, text) → line_checkpoints s line ≡ false → IfOk q (λ r. Replies r s line s old new)
printed {X = X} s line text old new p q is prints does none = subst (λ (q : Result Reply X). IfOk q (λ r. Replies r s line s old new)) (sym is) (by p prints)
  where
    by : (p : Result Unit X) → OnOk p (new ≡ old ++ text) → IfOk (result_and p (Ok reply.Text)) (λ r. Replies r s line s old new)
    by (Err e) prints = tt
    by (Ok x) prints =
        ((sym (ap (λ (k : Console × List ℕ). k.0) does), prints ∙ sym (ap (λ (k : Console × List ℕ). old ++ k.1) does)), none)
