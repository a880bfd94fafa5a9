-- Lines are taken one after another.
use Rattle.std.proofs.Common.{◌≡◌, ℕ, ◌+◌, ◌≤◌, List, [], ◌∷◌, ◌++◌, Some, length, take, drop, refl, sym, ap, ◌∙◌, append_assoc, append-nil, arith, subst}
use Rattle.std.proofs.Math.Seq.{take-append-add}
use Rattle.std.proofs.lemmas.List.{take-append-drop, length-drop, length-take-le}
use Rattle.memchr.specs.Find.{IsFirstByte, is_byte}
use Rattle.stm_lines.proofs.LineFeeds.{split-at, NoLineFeed-take}
use Rattle.stm_lines.proofs.ReadLines.{whole_lines_from-whole}
use Rattle.stm_lines.specs.Lines.{drop_return, whole_lines_of, NoLineFeed}
use Rattle.stm_run.specs.declared.console.Console.{Console}
use Rattle.stm_run.specs.Console.{answer_to, answers_to, state_after}
use Rattle.stm_run.specs.AfterLines.{state_after_lines}
use Rattle.stm_embed.specs.Feeding.{AreWholeLines, HasFed}

answers_to-append : (s : Console) (xs ys : List (List ℕ)) → answers_to s (xs ++ ys) ≡ answers_to s xs ++ answers_to (state_after_lines s xs) ys
answers_to-append s [] ys = refl
answers_to-append s (x ∷ xs) ys = ap (λ l. answer_to s x ++ l) (answers_to-append (state_after s x) xs ys) ∙ sym (append_assoc (answer_to s x) (answers_to (state_after s x) xs) (answers_to (state_after_lines (state_after s x) xs) ys))

state_after_lines-append : (s : Console) (xs ys : List (List ℕ)) → state_after_lines s (xs ++ ys) ≡ state_after_lines (state_after_lines s xs) ys
state_after_lines-append s [] ys = refl
state_after_lines-append s (x ∷ xs) ys = state_after_lines-append (state_after s x) xs ys

-- a line with its line feed
line_then : (bytes more : List ℕ) → NoLineFeed bytes → whole_lines_of ((bytes ++ 10 ∷ []) ++ more) ≡ (drop_return bytes ∷ []) ++ whole_lines_of more
line_then bytes more h = whole_lines_from-whole bytes more h

one_line : (bytes : List ℕ) → NoLineFeed bytes → whole_lines_of (bytes ++ 10 ∷ []) ≡ drop_return bytes ∷ []
one_line bytes h = ap whole_lines_of (sym (append-nil (bytes ++ 10 ∷ []))) ∙ line_then bytes [] h

-- whole lines, and one more
more_lines : (xs bytes : List ℕ) → AreWholeLines xs → NoLineFeed bytes → whole_lines_of (xs ++ (bytes ++ 10 ∷ [])) ≡ whole_lines_of xs ++ (drop_return bytes ∷ [])
more_lines xs bytes w h = w (bytes ++ 10 ∷ []) ∙ ap (λ l. whole_lines_of xs ++ l) (one_line bytes h)

more_are_whole : (xs bytes : List ℕ) → AreWholeLines xs → NoLineFeed bytes → AreWholeLines (xs ++ (bytes ++ 10 ∷ []))
more_are_whole xs bytes w h = λ more.
    ap whole_lines_of (append_assoc xs (bytes ++ 10 ∷ []) more) ∙ w ((bytes ++ 10 ∷ []) ++ more) ∙ ap (λ l. whole_lines_of xs ++ l) (line_then bytes more h)
    ∙ sym (append_assoc (whole_lines_of xs) (drop_return bytes ∷ []) (whole_lines_of more)) ∙ ap (λ l. l ++ whole_lines_of more) (sym (more_lines xs bytes w h))

-- the bytes that are taken with a line
next_bytes : (lines : List ℕ) (at end : ℕ) → at ≤ length lines → IsFirstByte (is_byte 10) (drop at lines) (Some end)
    → take (at + (end + 1)) lines ≡ take at lines ++ (take end (drop at lines) ++ 10 ∷ [])
next_bytes lines at end low f =
    let rest = drop at lines in
    let bytes = take end rest in
    let split : rest ≡ bytes ++ (10 ∷ drop (end + 1) rest) = split-at rest end f in
    let whole : length (take at lines) ≡ at = length-take-le at lines low in
    let before : length bytes ≡ end = length-take-le end rest (omega (arith, f.0.high)) in
    let first : take (at + (end + 1)) lines ≡ take at lines ++ take (end + 1) rest =
    ap (λ n. take (n + (end + 1)) lines) (sym whole) ∙ ap (take (length (take at lines) + (end + 1))) (sym (take-append-drop at lines)) ∙ take-append-add (take at lines) rest (end + 1) in
    let second : take (end + 1) rest ≡ bytes ++ 10 ∷ [] =
    ap (take (end + 1)) split ∙ ap (λ n. take (n + 1) (bytes ++ (10 ∷ drop (end + 1) rest))) (sym before) ∙ take-append-add bytes (10 ∷ drop (end + 1) rest) 1 in
    first ∙ ap (λ l. take at lines ++ l) second

pub HasFed-line : (lines : List ℕ) (s t u : Console) (before middle after : List ℕ) (at end : ℕ) (line : List ℕ) → HasFed lines s t before middle at
    → IsFirstByte (is_byte 10) (drop at lines) (Some end) → line ≡ drop_return (take end (drop at lines)) → u ≡ state_after t line → after ≡ middle ++ answer_to t line
    → HasFed lines s u before after (at + (end + 1))
HasFed-line lines s t u before middle after at end line taken f e state answer =
    let bytes = take end (drop at lines) in
    let feedless : NoLineFeed bytes = NoLineFeed-take (drop at lines) end end f.0.before (omega arith) in
    let now : take (at + (end + 1)) lines ≡ take at lines ++ (bytes ++ 10 ∷ []) = next_bytes lines at end taken.within f in
    let all : whole_lines_of (take (at + (end + 1)) lines) ≡ whole_lines_of (take at lines) ++ (line ∷ []) =
    ap whole_lines_of now ∙ more_lines (take at lines) bytes taken.whole feedless ∙ ap (λ l. whole_lines_of (take at lines) ++ (l ∷ [])) (sym e) in
    record {
      within = omega (arith, f.0.high, length-drop at lines, taken.within);
      whole = subst AreWholeLines (sym now) (more_are_whole (take at lines) bytes taken.whole feedless);
      console = state ∙ ap (λ c. state_after c line) taken.console ∙ sym (ap (state_after_lines s) all ∙ state_after_lines-append s (whole_lines_of (take at lines)) (line ∷ []));
      answers =
          answer ∙ ap (λ l. l ++ answer_to t line) taken.answers ∙ append_assoc before (answers_to s (whole_lines_of (take at lines))) (answer_to t line)
          ∙ ap (λ l. before ++ l) (ap (λ c. answers_to s (whole_lines_of (take at lines)) ++ answer_to c line) taken.console
          ∙ ap (λ l. answers_to s (whole_lines_of (take at lines)) ++ l) (sym (append-nil (answer_to (state_after_lines s (whole_lines_of (take at lines))) line)))
          ∙ sym (ap (answers_to s) all ∙ answers_to-append s (whole_lines_of (take at lines)) (line ∷ [])));
    }
