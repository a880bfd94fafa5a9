-- What a run has written, from what it has taken.
use Rattle.std.proofs.Common.{◌≡◌, ℕ, ◌<◌, Result, Ok, Err, OnErr, Option, Some, None, List, [], ◌∷◌, ◌++◌, length, refl, sym, ap, ◌∙◌, subst, append_assoc, append-nil}
use Rattle.std.specs.Io.KnownBytes.{Appends, Keeps, prepend_known}
use Rattle.std.proofs.KnownBytes.{Appends-nil, Appends-trans, Appends-kept, Consumes-trans}
use Rattle.stm_lines.specs.LineClass.{line_class}
use Rattle.stm_lines.specs.Lines.{drop_return}
use Rattle.stm_lines.specs.TakenLines.{TakesPartOfLine, TakesLastLine, TakesWholeLine}
use Rattle.stm_run.proofs.InputInParts.{Continues-line, Continues-trans, rest_text-last, rest_text-nil, whole_rest_text-begun, IsPrefixOf-line}
use Rattle.stm_terms.specs.Texts.{IsPrefixOf}
use Rattle.stm_run.specs.Streaming.{RunState, HasAnswered, HasAnsweredAll, HasAnsweredPart, HasAnsweredWhole, rest_text}
use Rattle.stm_run.specs.declared.console.Console.{Console}
use Rattle.stm_run.specs.Console.{answer_to, state_after}

-- a run with this console, rest of its input and written text
abbrev pub run_at : Console → Option (List ℕ) → Option (List ℕ) → RunState
run_at s rest written = record { console = s; rest = rest; written = written }

-- ---- one line
-- a line that a line feed ends
pub line_answered : (s t : Console) (a b x y : Option (List ℕ)) (line bytes : List ℕ) → TakesWholeLine a b bytes → line_class line ≡ line_class (drop_return bytes) → t ≡ state_after s line
    → Appends x y (answer_to s line) → HasAnswered (run_at s a x) (run_at t b y)
line_answered s t a b x y line bytes w e n p = record {
  taken = bytes ++ 10 ∷ [];
  written = answer_to s line;
  consumed = w.taken;
  continues = Continues-line s t line bytes w.plain e n;
  appended = p;
}

line_part : (s : Console) (a b x y : Option (List ℕ)) (line bytes front : List ℕ) → TakesWholeLine a b bytes → line_class line ≡ line_class (drop_return bytes) → IsPrefixOf front (answer_to s line)
    → Appends x y front → HasAnsweredPart (run_at s a x) y
line_part s None b x y line bytes front w e k p = tt
line_part s (Some i) None x y line bytes front w e k p = absurd w.taken
line_part s (Some i) (Some rest) x y line bytes front w e k p =
    (front, subst (λ (input : List ℕ). IsPrefixOf front (rest_text s input)) (sym w.taken) (IsPrefixOf-line s line bytes front rest w.plain e k), p)

-- the writer failed in its answer
pub line_part_answered : (s : Console) (a b x y : Option (List ℕ)) (line bytes : List ℕ) → TakesWholeLine a b bytes → line_class line ≡ line_class (drop_return bytes)
    → (front : List ℕ) × IsPrefixOf front (answer_to s line) × Appends x y front → HasAnsweredPart (run_at s a x) y
line_part_answered s a b x y line bytes w e p = line_part s a b x y line bytes p.0 w e p.1 p.2

whole_input : (i rest bytes : List ℕ) → i ≡ bytes ++ rest → rest ≡ [] → i ≡ bytes
whole_input i rest bytes h e = h ∙ ap (λ r. bytes ++ r) e ∙ append-nil bytes

-- a line that the end of the input ends
pub last_answered : (s : Console) (a b x y : Option (List ℕ)) (line bytes : List ℕ) → TakesLastLine a b bytes → 0 < length bytes → line_class line ≡ line_class bytes
    → Appends x y (answer_to s line) → HasAnsweredAll (run_at s a x) y
last_answered s None b x y line bytes w k e p = tt
last_answered s (Some i) None x y line bytes w k e p = absurd w.taken
last_answered s (Some i) (Some rest) x y line bytes w k e p =
    subst (Appends x y) (sym (ap (rest_text s) (whole_input i rest bytes w.taken w.at_end) ∙ rest_text-last s line bytes w.plain k e)) p

pub last_part_answered : (s : Console) (a b x y : Option (List ℕ)) (line bytes : List ℕ) → TakesLastLine a b bytes → 0 < length bytes → line_class line ≡ line_class bytes
    → (front : List ℕ) × IsPrefixOf front (answer_to s line) × Appends x y front → HasAnsweredPart (run_at s a x) y
last_part_answered s None b x y line bytes w k e p = tt
last_part_answered s (Some i) None x y line bytes w k e p = absurd w.taken
last_part_answered s (Some i) (Some rest) x y line bytes w k e p =
    (p.0, subst (IsPrefixOf p.0) (sym (ap (rest_text s) (whole_input i rest bytes w.taken w.at_end) ∙ rest_text-last s line bytes w.plain k e)) p.1, p.2)

-- no line is left
pub none_answered : (s : Console) (a b x : Option (List ℕ)) → TakesLastLine a b [] → HasAnsweredAll (run_at s a x) x
none_answered s None b x w = tt
none_answered s (Some i) None x w = absurd w.taken
none_answered s (Some i) (Some rest) x w = subst (Appends x x) (sym (ap (rest_text s) (w.taken ∙ w.at_end) ∙ rest_text-nil s)) (Appends-nil x)

-- no line was answered
pub none_written : (s : Console) (a x : Option (List ℕ)) → HasAnsweredPart (run_at s a x) x
none_written s None x = tt
none_written s (Some i) x = ([], (rest_text s i, refl), Appends-nil x)

-- the reader failed in a line
pub read_failed : (s : Console) (a r x : Option (List ℕ)) (chunk : List ℕ) → (bytes : List ℕ) × TakesPartOfLine a (prepend_known chunk r) bytes → chunk ≡ [] → HasAnsweredWhole (run_at s a x) r x
read_failed s None r x chunk h e = tt
read_failed s (Some i) None x chunk h e = absurd h.1.taken
read_failed s (Some i) (Some rest) x chunk h e =
    (h.0, rest, h.1.taken ∙ ap (λ l. h.0 ++ (l ++ rest)) e, refl, subst (Appends x x) (sym (whole_rest_text-begun s h.0 h.1.plain)) (Appends-nil x))

-- ---- one line after another
pub HasAnswered-more : (s t u : Console) (a b c x y y' z : Option (List ℕ)) → HasAnswered (run_at s a x) (run_at t b y) → Keeps y y' → HasAnswered (run_at t b y') (run_at u c z) → HasAnswered (run_at s a x) (run_at u c z)
HasAnswered-more s t u a b c x y y' z h f k = record {
  taken = h.taken ++ k.taken;
  written = h.written ++ k.written;
  consumed = Consumes-trans a b c _ _ h.consumed k.consumed;
  continues = Continues-trans _ _ _ _ _ _ _ h.continues k.continues;
  appended = Appends-trans x y' z _ _ (Appends-kept x y y' _ h.appended f) k.appended;
}

text_after : (s t : Console) (i taken written rest : List ℕ) → i ≡ taken ++ rest → ((more : List ℕ) → rest_text s (taken ++ more) ≡ written ++ rest_text t more)
    → rest_text s i ≡ written ++ rest_text t rest
text_after s t i taken written rest h k = ap (rest_text s) h ∙ k rest

-- the rest was answered
pub all_answered : (s t : Console) (a b x y y' z z' : Option (List ℕ)) → HasAnswered (run_at s a x) (run_at t b y) → Keeps y y' → HasAnsweredAll (run_at t b y') z → Keeps z z' → HasAnsweredAll (run_at s a x) z'
all_answered s t None b x y y' z z' h f k g = tt
all_answered s t (Some i) None x y y' z z' h f k g = absurd h.consumed
all_answered s t (Some i) (Some rest) x y y' z z' h f k g =
    subst (Appends x z') (sym (text_after s t i h.taken h.written rest h.consumed h.continues.all))
    (Appends-kept x z z' _ (Appends-trans x y' z _ _ (Appends-kept x y y' _ h.appended f) k) g)

-- a front of the rest was written
pub part_answered : (s t : Console) (a b x y y' z : Option (List ℕ)) → HasAnswered (run_at s a x) (run_at t b y) → Keeps y y' → HasAnsweredPart (run_at t b y') z → HasAnsweredPart (run_at s a x) z
part_answered s t None b x y y' z h f k = tt
part_answered s t (Some i) None x y y' z h f k = absurd h.consumed
part_answered s t (Some i) (Some rest) x y y' z h f k = (
  h.written ++ k.0,
  (k.1.0, text_after s t i h.taken h.written rest h.consumed h.continues.all ∙ ap (λ r. h.written ++ r) k.1.1 ∙ sym (append_assoc h.written k.0 k.1.0)),
  Appends-trans x y' z _ _ (Appends-kept x y y' _ h.appended f) k.2,
)

-- a flush failed after these lines
pub part_flushed : (s t : Console) (a b x y y' : Option (List ℕ)) → HasAnswered (run_at s a x) (run_at t b y) → Keeps y y' → HasAnsweredPart (run_at s a x) y'
part_flushed s t a b x y y' h f = part_answered s t a b x y y' y' h f (none_written t b y')

-- the last flush failed
pub all_flushed : {E : Type 0} → (r : Result (Unit {0}) E) (s : Console) (a x y : Option (List ℕ)) → HasAnsweredAll (run_at s a x) y → OnErr r (HasAnsweredPart (run_at s a x) y)
all_flushed (Ok u) s a x y h = tt
all_flushed (Err e) s None x y h = tt
all_flushed (Err e) s (Some i) x y h = (rest_text s i, ([], sym (append-nil _)), h)

-- the reader failed in the rest
pub whole_answered : (s t : Console) (a b r x y y' z : Option (List ℕ)) → HasAnswered (run_at s a x) (run_at t b y) → Keeps y y' → HasAnsweredWhole (run_at t b y') r z → HasAnsweredWhole (run_at s a x) r z
whole_answered s t None b r x y y' z h f k = tt
whole_answered s t (Some i) None r x y y' z h f k = absurd h.consumed
whole_answered s t (Some i) (Some rest) r x y y' z h f k = (
  h.taken ++ k.0,
  k.1,
  h.consumed ∙ ap (λ l. h.taken ++ l) k.2 ∙ sym (append_assoc h.taken k.0 k.1),
  k.3,
  subst (Appends x z) (sym (h.continues.whole k.0)) (Appends-trans x y' z _ _ (Appends-kept x y y' _ h.appended f) k.4),
)
