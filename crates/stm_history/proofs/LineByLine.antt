-- Bytes are taken line by line.
use Rattle.std.proofs.Common.{◌≡◌, ◌≢◌, ℕ, ◌+◌, ◌≤◌, ◌<◌, List, [], ◌∷◌, ◌++◌, length, refl, sym, ap, ◌∙◌, subst, append_assoc, append-nil, arith, length-append, Option, Some, None, IfSome}
use Rattle.std.proofs.KnownBytes.{Consumes-whole}
use Rattle.std.proofs.lemmas.List.Elements.{All-head, All-tail}
use Rattle.std.specs.Io.KnownBytes.{Consumes, prepend_known}
use Rattle.stm_lines.specs.Lines.{NoLineFeed}
use Rattle.stm_lines.specs.TakenLines.{TakesPartOfLine, TakesLastLine, TakesWholeLine}
use Rattle.stm_history.specs.declared.check.Stage.{Stage}
use Rattle.stm_history.specs.declared.fault.HistoryFault.{HistoryFault}
use Rattle.stm_history.specs.declared.fault.HistoryFault.TheVariants.{ReadFault, NoMemory, BadHeader, BadLine, NotLegal}
use Rattle.stm_history.specs.Checking.{MayRefuse, StopsAt}
use Rattle.stm_history.specs.Progress.{CheckerState, NoFeed, strange}
use Rattle.stm_history.specs.Judgement.{IsShort, ReportsFault, max_line}
use Rattle.stm_history.specs.Reading.{FailsIn, IsReadingFault, TakesLine, TakesRest}
use Rattle.stm_history.specs.Stages.{IsStage, LeadsToStage, Reached}
use Rattle.stm_history.proofs.RefusedLines.{fed_byte, long_stops, memory_stops, part_more, reader_stops, refused_byte, refused_stops, too_long}

plain : (bytes : List ℕ) → NoLineFeed bytes → NoFeed bytes
plain [] h = tt
plain (b ∷ bytes) h = (All-head (λ b. b ≢ 10) b bytes h, plain bytes (All-tail (λ b. b ≢ 10) b bytes h))

-- ---- a line that a line feed ended
begun : (s : Stage) (m : ℕ) (line taken : List ℕ) → NoLineFeed line → IsShort line → Reached s m [] taken → Reached s m line (taken ++ line)
begun s m line taken p k h = let small : length line ≤ max_line = k in part_more s m [] taken line h (plain line p) (omega arith)

ended : (taken line more : List ℕ) → (taken ++ line) ++ (10 ∷ more) ≡ taken ++ ((line ++ 10 ∷ []) ++ more)
ended taken line more = append_assoc taken line (10 ∷ more) ∙ ap (λ l. taken ++ l) (sym (append_assoc line (10 ∷ []) more))

pub whole_tells : (s : Stage) (m : ℕ) (line : List ℕ) (e : HistoryFault) → NoLineFeed line → IsShort line
    → ((p : CheckerState) → IsStage s p → MayRefuse p line e) → (taken more : List ℕ) → Reached s m [] taken → ReportsFault e (taken ++ ((line ++ 10 ∷ []) ++ more))
whole_tells s m line e p k f taken more h =
    subst (ReportsFault e) (ended taken line more) (refused_byte s s m line line (taken ++ line) more 10 e refl refl refl f (begun s m line taken p k h))

pub whole_stops : (s : Stage) (m : ℕ) (line : List ℕ) (e : HistoryFault) → NoLineFeed line → IsShort line
    → ((p : CheckerState) → IsStage s p → MayRefuse p line e) → (taken more : List ℕ) → Reached s m [] taken → StopsAt e m (taken ++ ((line ++ 10 ∷ []) ++ more))
whole_stops s m line e p k f taken more h =
    subst (StopsAt e m) (ended taken line more) (refused_stops s s m line line (taken ++ line) more e refl refl f (begun s m line taken p k h))

pub whole_taken : (s t : Stage) (m n : ℕ) (line : List ℕ) → NoLineFeed line → IsShort line → n ≡ m + (length line + 1)
    → ((p : CheckerState) → IsStage s p → LeadsToStage p line t) → (taken : List ℕ) → Reached s m [] taken → Reached t n [] (taken ++ (line ++ 10 ∷ []))
whole_taken s t m n line p k e f taken h =
    subst (Reached t n []) (append_assoc taken line (10 ∷ [])) (fed_byte s s t m n line line [] (taken ++ line) 10 refl refl refl refl e f (begun s m line taken p k h))

-- ---- the last line
pub last_taken : (s : Stage) (m : ℕ) (line left : List ℕ) → NoLineFeed line → IsShort line → left ≡ line → (taken : List ℕ) → Reached s m [] taken → Reached s m left (taken ++ line)
last_taken s m line left p k e taken h = subst (λ (l : List ℕ). Reached s m l (taken ++ line)) (sym e) (begun s m line taken p k h)

-- ---- what a call took
pub takes_line : (s t : Stage) (m n before after : ℕ) (line : List ℕ) (a b : Option (List ℕ)) → TakesWholeLine a b line
    → ((taken : List ℕ) → Reached s m [] taken → Reached t n [] (taken ++ (line ++ 10 ∷ []))) → after + length line < before → TakesLine s t m n [] a b before after
takes_line s t m n before after line a b w h k = record {
  bytes = line ++ 10 ∷ [];
  consumed = w.taken;
  reached = h;
  some = omega (arith, length-append line (10 ∷ []));
  few = omega (arith, length-append line (10 ∷ []), k);
}

pub takes_last : (s t : Stage) (m n : ℕ) (line left : List ℕ) (a b : Option (List ℕ)) → TakesLastLine a b line
    → ((taken : List ℕ) → Reached s m [] taken → Reached t n left (taken ++ line)) → TakesRest s t m n left a
takes_last s t m n line left a b w h = (line, Consumes-whole a b line (λ all. all ≡ line) w.taken w.at_end refl, h)

pub takes_none : (s : Stage) (m : ℕ) (line left : List ℕ) (a b : Option (List ℕ)) → TakesLastLine a b line → line ≡ [] → left ≡ [] → TakesRest s s m m left a
takes_none s m line left a b w e n =
    takes_last s s m m line left a b w (λ taken h. subst (λ (l : List ℕ). Reached s m l (taken ++ line)) (sym n)
    (subst (λ (l : List ℕ). Reached s m [] (taken ++ l)) (sym e) (subst (Reached s m []) (sym (append-nil taken)) h)))

pub fails_at : (e : HistoryFault) (s : Stage) (m n : ℕ) (bytes : List ℕ) (a b : Option (List ℕ)) → Consumes a b bytes
    → ((taken more : List ℕ) → Reached s m [] taken → ReportsFault e (taken ++ (bytes ++ more)))
    → ((taken more : List ℕ) → Reached s m [] taken → StopsAt e n (taken ++ (bytes ++ more))) → FailsIn e s m n a
fails_at e s m n bytes None b c tells stops = tt
fails_at e s m n bytes (Some all) None c tells stops = absurd c
fails_at e s m n bytes (Some all) (Some rest) c tells stops = λ taken h.
    (subst (λ (l : List ℕ). ReportsFault e (taken ++ l)) (sym c) (tells taken rest h), subst (λ (l : List ℕ). StopsAt e n (taken ++ l)) (sym c) (stops taken rest h))

pub fails_long : (e : HistoryFault) (s : Stage) (m : ℕ) (line : List ℕ) (a b : Option (List ℕ)) → TakesPartOfLine a b line → length line ≡ max_line + 1
    → ((p : CheckerState) → IsStage s p → e ≡ strange p) → FailsIn e s m m a
fails_long e s m line a b w long k =
    let above : max_line < length {A = ℕ} [] + length line = omega (arith, long) in
    fails_at e s m m line a b w.taken
    (λ taken more h. too_long s m [] taken line more e k h (plain line w.plain) above)
    (λ taken more h. long_stops s m [] taken line more e k h (plain line w.plain) above)

pub fails_reading : (e : HistoryFault) (s : Stage) (m : ℕ) (a : Option (List ℕ)) → IsReadingFault e → FailsIn e s m m a
fails_reading e s m None k = tt
fails_reading ReadFault s m (Some all) k = λ taken h. (tt, reader_stops s m [] taken all h)
fails_reading NoMemory s m (Some all) k = λ taken h. (tt, memory_stops s m [] taken all h)
fails_reading BadHeader s m (Some all) k = absurd k
fails_reading (BadLine n) s m (Some all) k = absurd k
fails_reading (NotLegal n) s m (Some all) k = absurd k

-- ---- one line after another
pub nothing_begun : (s : Stage) (m : ℕ) (line : List ℕ) → Reached s m line [] → line ≡ []
nothing_begun s m line r = let held = r.held in by held.whole line held.taken_is
  where
    by : (whole line : List ℕ) → [] ≡ whole ++ line → line ≡ []
    by [] line e = sym e
    by (x ∷ whole) line e = absurd (cc)

pub nothing_taken : (a : Option (List ℕ)) (chunk : List ℕ) → chunk ≡ [] → Consumes a (prepend_known chunk a) []
nothing_taken None chunk e = tt
nothing_taken (Some all) chunk e = ap (λ l. l ++ all) (sym e)

pub all_taken : (a b : Option (List ℕ)) (taken rest : List ℕ) → Consumes a b taken → IfSome b (λ all. all ≡ rest) → IfSome a (λ all. all ≡ taken ++ rest)
all_taken None b taken rest c h = tt
all_taken (Some all) None taken rest c h = absurd c
all_taken (Some all) (Some left) taken rest c h = c ∙ ap (λ l. taken ++ l) h

pub tells_after : (e : HistoryFault) (s : Stage) (m n : ℕ) (a b : Option (List ℕ)) (taken : List ℕ) → Consumes a b taken → Reached s m [] taken → FailsIn e s m n b
    → IfSome a (λ bytes. ReportsFault e bytes)
tells_after e s m n None b taken c r f = tt
tells_after e s m n (Some all) None taken c r f = absurd c
tells_after e s m n (Some all) (Some rest) taken c r f = subst (ReportsFault e) (sym c) (f taken r).0

pub stops_after : (e : HistoryFault) (s : Stage) (m n : ℕ) (a b : Option (List ℕ)) (taken : List ℕ) → Consumes a b taken → Reached s m [] taken → FailsIn e s m n b
    → IfSome a (λ bytes. StopsAt e n bytes)
stops_after e s m n None b taken c r f = tt
stops_after e s m n (Some all) None taken c r f = absurd c
stops_after e s m n (Some all) (Some rest) taken c r f = subst (StopsAt e n) (sym c) (f taken r).1
