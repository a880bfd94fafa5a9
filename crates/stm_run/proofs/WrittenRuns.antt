-- What a run, and one line of it, has written, put together by its result.
use Rattle.std.proofs.Common.{◌≡◌, ◌≢◌, ℕ, List, [], Option, Result, Ok, Err, IfErr, OnOk, OnErr, IsErrOf, refl, ap, subst}
use Rattle.std.specs.Io.KnownBytes.{Appends}
use Rattle.std.proofs.KnownBytes.{Appends-nil}
use Rattle.stm_lines.specs.WrittenFronts.{WritesFront}
use Rattle.stm_lines.specs.declared.run_fault.RunFault.{RunFault}
use Rattle.stm_lines.specs.declared.run_fault.RunFault.TheVariants.{NoMemory, Read}
use Rattle.stm_run.specs.Abstraction.{IsStep}
use Rattle.stm_run.specs.Console.{console_text, initial_console, step, whole_lines_text}
use Rattle.stm_run.specs.Streaming.{HasAnsweredAll, HasAnsweredPart, HasAnsweredWhole, rest_text, whole_rest_text}
use Rattle.stm_run.specs.WrittenRun.{WritesAnswer, WritesRun}
use Rattle.stm_run.specs.declared.console.Console.{Console}
use Rattle.stm_run.specs.declared.reply.Reply.{Reply}
use Rattle.stm_run.proofs.Running.{run_at}

-- ---- a whole run
-- from the first console on, the text of what follows is the run's
from_first : (m : ℕ) (a left x y : Option (List ℕ)) (r : Result (Unit {0}) RunFault)
    → OnOk r (HasAnsweredAll (run_at (initial_console m) a x) y)
    → (IsErrOf r Read → HasAnsweredWhole (run_at (initial_console m) a x) left y)
    → OnErr r (HasAnsweredPart (run_at (initial_console m) a x) y)
    → WritesRun m a left x y r
unfolding console_text whole_lines_text rest_text whole_rest_text
from_first m a left x y (Ok done) all whole part = all
from_first m a left x y (Err e) all whole part = record { part = part; whole = λ is. whole (ap (λ (f : RunFault). Err f) is) }

-- so it is from a console that is the first one, if the reader has left what it has then
pub run_written : (r : Result (Unit {0}) RunFault) (a b end x y : Option (List ℕ)) (m : ℕ) (s : Console) → a ≡ b → s ≡ initial_console m
    → OnOk r (HasAnsweredAll (run_at s a x) y)
    → (IsErrOf r Read → HasAnsweredWhole (run_at s a x) end y)
    → OnErr r (HasAnsweredPart (run_at s a x) y)
    → (left : Option (List ℕ)) → end ≡ left → WritesRun m b left x y r
run_written r a b end x y m s p e all whole part left is =
    subst (λ (c : Option (List ℕ)). WritesRun m c left x y r) p
    (from_first m a left x y r
    (subst (λ (t : Console). OnOk r (HasAnsweredAll (run_at t a x) y)) e all)
    (subst (λ (l : Option (List ℕ)). IsErrOf r Read → HasAnsweredWhole (run_at (initial_console m) a x) l y) is
    (subst (λ (t : Console). IsErrOf r Read → HasAnsweredWhole (run_at t a x) end y) e whole))
    (subst (λ (t : Console). OnErr r (HasAnsweredPart (run_at t a x) y)) e part))

-- ---- one line
-- the answer was appended to an empty text, and what is said of each step that the reply is of holds of the line's step
pub answer_written : (s t c : Console) (line old appended : List ℕ) (reply : Reply) (x y : Option (List ℕ)) (r : Result (Unit {0}) RunFault)
    → old ≡ [] → IsStep reply old appended c (step s line)
    → OnOk r ((p : Console × List ℕ) → IsStep reply [] appended c p → Appends x y p.1)
    → OnOk r ((p : Console × List ℕ) → IsStep reply [] appended c p → t ≡ p.0)
    → OnErr r ((p : Console × List ℕ) → IsStep reply [] appended c p → WritesFront x y p.1)
    → IfErr r (λ e. e ≢ Read)
    → WritesAnswer s line t x y r
answer_written s t c line old appended reply x y (Ok done) none is text state part fault =
    let h = subst (λ (o : List ℕ). IsStep reply o appended c (step s line)) none is in
    (text (step s line) h, state (step s line) h)
answer_written s t c line old appended reply x y (Err e) none is text state part fault =
    let h = subst (λ (o : List ℕ). IsStep reply o appended c (step s line)) none is in
    (part (step s line) h, fault)

-- memory ran out, and nothing was written
pub unanswered : (text : List ℕ) (x : Option (List ℕ)) → WritesFront x x text × (NoMemory ≢ Read)
unanswered text x = (([], (text, refl), Appends-nil x), λ e. cc e)
