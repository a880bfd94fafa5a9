use Rattle.std.proofs.Common.{◌≡◌, ◌++◌, ◌||◌, nat_eq, if◌then◌else◌, string_bytes, List, ℕ, [], ◌∷◌, length, sym, ap, ◌∙◌, subst, append_assoc, append-nil}
use Rattle.std.specs.Str.{IsUtf8}
use Rattle.std.proofs.lemmas.Str.{IsUtf8-past_char, chars_past_char, chars-nil}
use Rattle.std.proofs.Math.Utf8.{encode}
use Rattle.stm_commands.specs.Labelling.{unbroken, on_one_line}
use Rattle.stm_commands.proofs.commands.block.write_on_one_line.Goals as goal

none_left : (text before all : List ℕ) → length text ≡ 0 → before ++ on_one_line text ≡ all → before ≡ all
none_left [] before all e h = sym (append-nil before) ∙ ap (λ (cs : List ℕ). before ++ unbroken cs) (sym chars-nil) ∙ h
none_left (b ∷ text) before all e h = absurd (cc)

pub loop-c-init : goal.loop-c-init
loop-c-init c =
    let e : c.into_iter-c-iterator.result.rest.now ≡ c.args.text.now = cc in
    (subst IsUtf8 (sym e) c.utf8.text, ap (λ (text : List ℕ). string_bytes c.args.out.now ++ on_one_line text) e)

pub loop-c-preserved : goal.loop-c-preserved
loop-c-preserved c =
    let i = c.loop-c.invariant in
    let s = c.in-Some.ensures.steps.0 in (
      IsUtf8-past_char _ _ c.in-Some.c i.0 s,
      ap (λ (b : List ℕ). b ++ on_one_line c.next.new.self.rest.now) (c.in_ok-push.ensures.bytes ∙ ap (λ (x : ℕ). string_bytes c.loop-c.out ++ encode x) c.unbroken.ensures)
          ∙ append_assoc (string_bytes c.loop-c.out) (encode (if nat_eq c.in-Some.c 10 || nat_eq c.in-Some.c 13 then 32 else c.in-Some.c)) (on_one_line c.next.new.self.rest.now) ∙ ap (λ (cs : List ℕ). string_bytes c.loop-c.out ++ unbroken cs) (sym (chars_past_char _ _ c.in-Some.c i.0 s)) ∙ i.1,
    )

pub returns : goal.returns
returns c = none_left _ _ _ c.in-None.ensures.steps.0.0 c.loop-c.invariant.1
