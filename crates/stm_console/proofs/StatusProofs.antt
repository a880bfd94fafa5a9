-- What the exit statuses say follows from what the program does.
use Rattle.std.proofs.Common.{◌≡◌, ◌≢◌, ◌∙◌, ℕ, Bool, List, [], ◌∷◌, inl, inr, refl, sym, ap, subst, arith, Option, Some, None, true, false, Ok, Err}
use Rattle.std.specs.Prelude.{◌⊎◌, IfSome, if◌then◌else◌}
use Rattle.std.proofs.lemmas.List.{append-nil}
use Rattle.std.proofs.lemmas.Option.{IfSome_then}
use Rattle.clap.specs.Words.{Kinds}
use Rattle.stm_terms.specs.Texts.{IsPrefixOf}
use Rattle.stm_command_line.specs.CommandLine.{answers_of, are_mistakes, is_help, is_version, request_of}
use Rattle.stm_command_line.specs.declared.command_line.Request.{Request}
use Rattle.stm_command_line.specs.declared.command_line.Request.TheVariants.{Run, RunOn, Storm, Explore, Check, CheckWhy}
use Rattle.stm_command_line.proofs.WordAnswers.{help_alone, version_alone}
use Rattle.stm_options.specs.declared.explore_options.ExploreOptions.{ExploreOptions}
use Rattle.stm_explore_script.specs.ExploreEnd.{WritesNotRight, WritesRight}
use Rattle.stm_explore_script.specs.ExploreScript.{ExploreScript, explore_script}
use Rattle.stm_console.specs.Checking.{BeginsFindingText, IsFinding, finding_text}
use Rattle.stm_console.specs.ExitStatus.{IsFailure, finding_status}
use Rattle.stm_console.specs.Program.{Do, Help, Mistake, Several, Version, asked_of, ProgramDoes, Streams, Writes}
use Rattle.stm_console.specs.StatusLaws.{WordsAskForThis, StatusesAreFew, RefusedDoNothing, RequestsAreTaken, Judges, OnlyJudgesFindWrong, WrongFilesDoNothing, DoneRunsAnswer, DoneFilesAnswer, DoneStormsReport, DoneExplorationsAreRight, DoneVersionsAreWritten, OtherRunsWriteAPart, OtherFilesWriteAPart, OtherChecksWriteAPart, OtherVersionsWriteAPart, InvalidStormsWriteNothing, InvalidExplorationsWriteNothing}
use Rattle.stm_console.specs.declared.checking.Finding.{Finding}
use Rattle.stm_console.specs.declared.checking.Finding.TheVariants.{Legal, BadHeader, BadLine, NotLegal}
use Rattle.stm_console.specs.declared.status.TheConstants.{DONE, NOT_RIGHT, REFUSED}

-- ---- what words ask for

mistake_asked : (kinds : Kinds) (request : Request) → are_mistakes kinds ≡ true → asked_of kinds request ≡ Mistake
mistake_asked [] request h = absurd cc
mistake_asked (k ∷ ks) request h = rw h refl

several_if : (mistake help version : Bool) → mistake ≡ false → help ≡ false → version ≡ false
    → (if mistake then Mistake else if help then Help else if version then Version else Several) ≡ Several
several_if true help version m h v = absurd (cc m)
several_if false true version m h v = absurd (cc h)
several_if false false true m h v = absurd (cc v)
several_if false false false m h v = refl

several_asked : (kinds : Kinds) (request : Request) → kinds ≢ [] → are_mistakes kinds ≡ false → is_help kinds ≡ false → is_version kinds ≡ false
    → asked_of kinds request ≡ Several
several_asked [] request some m h v = absurd (some refl)
several_asked (k ∷ ks) request some m h v = several_if (are_mistakes (k ∷ ks)) (is_help (k ∷ ks)) (is_version (k ∷ ks)) m h v

pub words_ask : WordsAskForThis
words_ask words =
    let r = request_of words in record {
      request = λ none. ap (λ (kinds : Kinds). asked_of kinds r) none;
      help = λ help. ap (λ (kinds : Kinds). asked_of kinds r) (help_alone (answers_of words) help);
      version = λ version. ap (λ (kinds : Kinds). asked_of kinds r) (version_alone (answers_of words) version);
      mistake = λ mistake. mistake_asked (answers_of words) r mistake;
      several = λ some help version mistake. several_asked (answers_of words) r some mistake help version;
    }

-- ---- the numbers

abbrev IsFew : ℕ → Type 0
IsFew n = (n ≡ 0) ⊎ ((n ≡ 1) ⊎ ((n ≡ 2) ⊎ ((n ≡ 3) ⊎ (n ≡ 4))))

-- success or failure, without what was written
ends : (n : ℕ) (A B : Type 0) → ((n ≡ DONE) × A) ⊎ (IsFailure n × B) → (n ≡ DONE) ⊎ IsFailure n
ends n A B (inl d) = inl d.0
ends n A B (inr f) = inr f.0

few_ends : (n : ℕ) → (n ≡ DONE) ⊎ IsFailure n → IsFew n
few_ends n (inl e) = inl e
few_ends n (inr (inl e)) = inr (inl e)
few_ends n (inr (inr e)) = inr (inr (inr (inr e)))

few_finding : (f : Finding) (n : ℕ) → n ≡ finding_status f → IsFew n
few_finding (Legal events) n e = inl e
few_finding BadHeader n e = inr (inr (inr (inl e)))
few_finding (BadLine line) n e = inr (inr (inr (inl e)))
few_finding (NotLegal line) n e = inr (inr (inr (inl e)))

end_isnt_2 : (REFUSED ≡ DONE) ⊎ IsFailure REFUSED → ⊥
end_isnt_2 (inl e) = omega arith
end_isnt_2 (inr (inl e)) = omega arith
end_isnt_2 (inr (inr e)) = omega arith

end_isnt_3 : (NOT_RIGHT ≡ DONE) ⊎ IsFailure NOT_RIGHT → ⊥
end_isnt_3 (inl e) = omega arith
end_isnt_3 (inr (inl e)) = omega arith
end_isnt_3 (inr (inr e)) = omega arith

failure_isnt_0 : IsFailure DONE → ⊥
failure_isnt_0 (inl e) = omega arith
failure_isnt_0 (inr e) = omega arith

finding_isnt_2 : (f : Finding) → REFUSED ≡ finding_status f → ⊥
finding_isnt_2 (Legal events) e = omega arith
finding_isnt_2 BadHeader e = omega arith
finding_isnt_2 (BadLine n) e = omega arith
finding_isnt_2 (NotLegal n) e = omega arith

two_isnt_three : REFUSED ≡ NOT_RIGHT → ⊥
two_isnt_three e = omega arith

zero_isnt_three : DONE ≡ NOT_RIGHT → ⊥
zero_isnt_three e = omega arith

-- ---- the statuses are few

few_request : (request : Request) (s : Streams) (n : ℕ) → ProgramDoes (Do request) s n → IsFew n
few_request (Run options) s n h = few_ends n (ends n _ _ h)
few_request (RunOn options sync file) s n (inl h) = few_ends n (ends n _ _ h.2)
few_request (RunOn options sync file) s n (inr h) = elim h.2 [
  | inl wrong ↦ inr (inr (inr (inl wrong.0)))
  | inr f ↦ few_ends n (inr f)
]
few_request (Storm options) s n (inl done) = inl done.0
few_request (Storm options) s n (inr (inl wrong)) = inr (inr (inr (inl wrong.0)))
few_request (Storm options) s n (inr (inr f)) = few_ends n (inr f.0)
few_request (Explore options) s n (inl done) = inl done.0
few_request (Explore options) s n (inr (inl wrong)) = inr (inr (inr (inl wrong.0)))
few_request (Explore options) s n (inr (inr f)) = few_ends n (inr f.0)
few_request Check s n (inl found) = few_finding found.0 n found.1
few_request Check s n (inr f) = few_ends n (inr f.0)
few_request CheckWhy s n (inl found) = few_finding found.0 n found.1
few_request CheckWhy s n (inr f) = few_ends n (inr f.0)

few_several : (n : ℕ) (A : Type 0) → ((n ≡ REFUSED) × A) ⊎ ((n ≡ DONE) ⊎ IsFailure n) → IsFew n
few_several n A (inl r) = inr (inr (inl r.0))
few_several n A (inr e) = few_ends n e

few_mistake : (n : ℕ) → (n ≡ 2) ⊎ (n ≡ 4) → IsFew n
few_mistake n (inl e) = inr (inr (inl e))
few_mistake n (inr e) = inr (inr (inr (inr e)))

pub few : StatusesAreFew
few Help s n h = few_ends n h.1
few Version s n h = few_ends n (ends n _ _ h.1)
few Mistake s n h = few_mistake n h.2
few Several s n h = few_several n _ h.1
few (Do request) s n h = few_request request s n h

-- ---- refused

pub taken : RequestsAreTaken
taken (Run options) s h = end_isnt_2 (ends REFUSED _ _ h)
taken (RunOn options sync file) s (inl h) = end_isnt_2 (ends REFUSED _ _ h.2)
taken (RunOn options sync file) s (inr h) = elim h.2 [
  | inl wrong ↦ two_isnt_three wrong.0
  | inr f ↦ end_isnt_2 (inr f)
]
taken (Storm options) s (inl done) = end_isnt_2 (inl done.0)
taken (Storm options) s (inr (inl wrong)) = two_isnt_three wrong.0
taken (Storm options) s (inr (inr f)) = end_isnt_2 (inr f.0)
taken (Explore options) s (inl done) = end_isnt_2 (inl done.0)
taken (Explore options) s (inr (inl wrong)) = two_isnt_three wrong.0
taken (Explore options) s (inr (inr f)) = end_isnt_2 (inr f.0)
taken Check s (inl found) = finding_isnt_2 found.0 found.1
taken Check s (inr f) = end_isnt_2 (inr f.0)
taken CheckWhy s (inl found) = finding_isnt_2 found.0 found.1
taken CheckWhy s (inr f) = end_isnt_2 (inr f.0)

pub refused_kept : RefusedDoNothing
refused_kept Help s h = absurd (end_isnt_2 h.1)
refused_kept Version s h = absurd (end_isnt_2 (ends REFUSED _ _ h.1))
refused_kept Mistake s h = (h.0, h.1)
refused_kept Several s h = elim h.1 [
  | inl r ↦ (h.0, r.1)
  | inr e ↦ absurd (end_isnt_2 e)
]
refused_kept (Do request) s h = absurd (taken request s h)

-- ---- something isn't right

judging : (request : Request) (s : Streams) → ProgramDoes (Do request) s NOT_RIGHT → Judges request
judging (Run options) s h = end_isnt_3 (ends NOT_RIGHT _ _ h)
judging (RunOn options sync file) s h = tt
judging (Storm options) s h = tt
judging (Explore options) s h = tt
judging Check s h = tt
judging CheckWhy s h = tt

mistake_isnt_3 : (NOT_RIGHT ≡ 2) ⊎ (NOT_RIGHT ≡ 4) → ⊥
mistake_isnt_3 (inl e) = omega arith
mistake_isnt_3 (inr e) = omega arith

several_isnt_3 : (A : Type 0) → ((NOT_RIGHT ≡ REFUSED) × A) ⊎ ((NOT_RIGHT ≡ DONE) ⊎ IsFailure NOT_RIGHT) → ⊥
several_isnt_3 A (inl r) = two_isnt_three (sym r.0)
several_isnt_3 A (inr e) = end_isnt_3 e

pub judged : OnlyJudgesFindWrong
judged Help s h = absurd (end_isnt_3 h.1)
judged Version s h = absurd (end_isnt_3 (ends NOT_RIGHT _ _ h.1))
judged Mistake s h = absurd (mistake_isnt_3 h.2)
judged Several s h = absurd (several_isnt_3 _ h.1)
judged (Do request) s h = (request, refl, judging request s h)

pub wrong_file : WrongFilesDoNothing
wrong_file options sync file s (inl h) = absurd (end_isnt_3 (ends NOT_RIGHT _ _ h.2))
wrong_file options sync file s (inr h) = elim h.2 [
  | inl wrong ↦ (h.0, h.1, wrong.1)
  | inr f ↦ absurd (end_isnt_3 (inr f))
]

-- ---- success, and what is left without it

pub done_run : DoneRunsAnswer
done_run options s (inl done) = done.1
done_run options s (inr f) = absurd (failure_isnt_0 f.0)

done_from : (n : ℕ) (A B : Type 0) → n ≡ DONE → ((n ≡ DONE) × A) ⊎ (IsFailure n × B) → A
done_from n A B is (inl done) = done.1
done_from n A B is (inr f) = absurd (failure_isnt_0 (subst IsFailure is f.0))

pub done_file : DoneFilesAnswer
done_file options sync file s (inl h) = (h.0, h.1, done_from DONE _ _ refl h.2)
done_file options sync file s (inr h) = elim h.2 [
  | inl wrong ↦ absurd (zero_isnt_three wrong.0)
  | inr f ↦ absurd (failure_isnt_0 f)
]

pub done_storm : DoneStormsReport
done_storm options s (inl done) = done.1
done_storm options s (inr (inl wrong)) = absurd (zero_isnt_three wrong.0)
done_storm options s (inr (inr f)) = absurd (failure_isnt_0 f.0)

pub done_exploration : DoneExplorationsAreRight
done_exploration options s (inl done) = done.1
done_exploration options s (inr (inl wrong)) = absurd (zero_isnt_three wrong.0)
done_exploration options s (inr (inr f)) = absurd (failure_isnt_0 f.0)

pub done_version : DoneVersionsAreWritten
done_version s h = elim h.1 [
  | inl done ↦ done.1
  | inr f ↦ absurd (failure_isnt_0 f.0)
]

pub other_run : OtherRunsWriteAPart
other_run options s n (inl done) other = absurd (other done.0)
other_run options s n (inr f) other = f.1

other_from : (n : ℕ) (A B : Type 0) → (n ≡ DONE → ⊥) → ((n ≡ DONE) × A) ⊎ (IsFailure n × B) → B
other_from n A B other (inl done) = absurd (other done.0)
other_from n A B other (inr f) = f.1

pub other_file : OtherFilesWriteAPart
other_file options sync file s n (inl h) other = inr (h.0, h.1, other_from n _ _ other h.2)
other_file options sync file s n (inr h) other = inl h.1

whole : (text : List ℕ) → IsPrefixOf text text
whole text = ([], sym (append-nil text))

found_part : (remaining : Option (List ℕ)) (f : Finding) (s : Streams) → IfSome remaining (λ bytes. IsFinding bytes f)
    → Writes s (finding_text f) → IfSome remaining (λ bytes. (front : List ℕ) × BeginsFindingText bytes front × Writes s front)
found_part None f s h w = tt
found_part (Some bytes) f s h w = (finding_text f, inr (f, h, whole (finding_text f)), w)

pub other_check : OtherChecksWriteAPart
other_check s n (inl found) other = found_part s.input found.0 s found.2 found.3
other_check s n (inr f) other = f.1

pub other_version : OtherVersionsWriteAPart
other_version s n h other = elim h.1 [
  | inl done ↦ absurd (other done.0)
  | inr f ↦ f.1
]

-- ---- invalid scripts

pub invalid_storm : InvalidStormsWriteNothing
invalid_storm options s n (inl done) =
    IfSome_then s.input done.1 (λ input w invalid. (let clash : Ok w.1.script ≡ Err invalid.0 = sym w.1.right ∙ invalid.1 in absurd (cc clash)))
invalid_storm options s n (inr (inl wrong)) =
    IfSome_then s.input wrong.1 (λ input w invalid. (let clash : Ok w.1.script ≡ Err invalid.0 = sym w.1.right ∙ invalid.1 in absurd (cc clash)))
invalid_storm options s n (inr (inr f)) = IfSome_then s.input f.1 (λ input kept invalid. (f.0, kept invalid))

-- the script is right of which something was found
right_script : (history : Bool) (options : ExploreOptions) (input : List ℕ) (old new : Option (List ℕ)) → WritesRight history options input old new
    → (script : ExploreScript) × (explore_script input ≡ Ok script)
right_script true options input old new w = (w.0.exploration.script, w.0.exploration.right)
right_script false options input old new w = (w.1.exploration.script, w.1.exploration.right)

faulty_script : (history : Bool) (options : ExploreOptions) (input : List ℕ) (old new : Option (List ℕ)) → WritesNotRight history options input old new
    → (script : ExploreScript) × (explore_script input ≡ Ok script)
faulty_script true options input old new (inl w) = (w.1.exploration.script, w.1.exploration.right)
faulty_script true options input old new (inr w) = (w.0.exploration.script, w.0.exploration.right)
faulty_script false options input old new w = (w.1.exploration.script, w.1.exploration.right)

pub invalid_exploration : InvalidExplorationsWriteNothing
invalid_exploration options s n (inl done) =
    IfSome_then s.input done.1 (λ input w invalid. (let right = right_script options.history options input s.before s.after w in let clash : Ok right.0 ≡ Err invalid.0 = sym right.1 ∙ invalid.1 in absurd (cc clash)))
invalid_exploration options s n (inr (inl wrong)) =
    IfSome_then s.input wrong.1 (λ input w invalid. (let right = faulty_script options.history options input s.before s.after w in let clash : Ok right.0 ≡ Err invalid.0 = sym right.1 ∙ invalid.1 in absurd (cc clash)))
invalid_exploration options s n (inr (inr f)) = IfSome_then s.input f.1 (λ input kept invalid. (f.0, kept invalid))
