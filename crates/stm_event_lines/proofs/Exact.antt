-- No line has a float, so each has one text.
use Rattle.std.proofs.Common.{◌≡◌, ℕ, List, [], ◌∷◌, map, Result, Ok, Err, IfOk, false, ℤ, pos, negsuc, refl, ap, ◌∙◌}
use Rattle.serde_json.specs.Data.{Data}
use Rattle.serde_json.specs.View.{items_of}
use Rattle.serde_json.specs.Find.{of_integer, is_float}
use Rattle.serde_json.specs.Written.{compact_text, has_float, items_have_float}
use Rattle.stm_terms.specs.declared.kinds.Ty.{Ty}
use Rattle.stm_terms.specs.declared.values.Value.{Value}
use Rattle.stm_terms.specs.declared.values.Value.TheVariants as value
use Rattle.stm_terms.specs.declared.values.Ref.TheVariants.{Old, New}
use Rattle.stm_terms.specs.declared.values.Fault.TheVariants.{Thrown, Overflow}
use Rattle.stm_terms.specs.declared.verdicts.Verdict.{Verdict}
use Rattle.stm_terms.specs.declared.verdicts.Verdict.TheVariants.{Commits, Throws, Blocks}
use Rattle.stm_store.specs.Tables.{Declared}
use Rattle.stm_events.specs.declared.event.Event.{Event}
use Rattle.stm_events.specs.declared.event.What.{What}
use Rattle.stm_events.specs.declared.event.What.TheVariants.{Submitted, Installed, Finished, Cancelled, Declared as DeclaredLate, Labelled}
use Rattle.stm_event_lines.specs.Lines.{number_data, value_data, write_data, new_data, verdict_data, what_data, event_data, variable_data}

int : (z : ℤ) → is_float (of_integer z) ≡ false
int (pos n) = refl
int (negsuc n) = refl

pub value_exact : (v : Value) → has_float (value_data v) ≡ false
value_exact (value.Int z) = int z
value_exact (value.Bool b) = refl
value_exact value.Unit = refl
value_exact (value.Var (Old i)) = refl
value_exact (value.Var (New k)) = refl

pub writes_exact : (ws : List (ℕ × Value)) → items_have_float (items_of (map write_data ws)) ≡ false
writes_exact [] = refl
writes_exact (w ∷ ws) = rw (value_exact w.1, writes_exact ws)

news_exact : (ns : List (Ty × Value)) → items_have_float (items_of (map new_data ns)) ≡ false
news_exact [] = refl
news_exact (n ∷ ns) = rw (value_exact n.1, news_exact ns)

numbers_exact : (ns : List ℕ) → items_have_float (items_of (map number_data ns)) ≡ false
numbers_exact [] = refl
numbers_exact (n ∷ ns) = numbers_exact ns

pub verdict_exact : (v : Verdict) → has_float (verdict_data v) ≡ false
verdict_exact (Commits writes news result) = rw (news_exact news, value_exact result, writes_exact writes)
verdict_exact (Throws (Thrown z)) = rw (int z)
verdict_exact (Throws Overflow) = refl
verdict_exact Blocks = refl

what_exact : (client : ℕ) (d : What) → has_float (what_data client d) ≡ false
what_exact client (Submitted ticket b) = refl
what_exact client (Installed ticket v) = rw (verdict_exact v)
what_exact client (Finished ticket v n stale) = rw (numbers_exact stale, verdict_exact v)
what_exact client (Cancelled ticket) = refl
what_exact client (DeclaredLate name kind value) = rw (value_exact value)
what_exact client (Labelled ticket label) = refl

pub event_exact : (e : Event) → has_float (event_data e) ≡ false
event_exact e = what_exact e.client e.what

pub variable_exact : (d : Declared) → has_float (variable_data d) ≡ false
variable_exact d = rw (value_exact d.value)

pub texts : {S E : Type 0} (bytes : S → List ℕ) (r : Result S E) (d e : Data) → IfOk r (λ s. has_float d ≡ false → bytes s ≡ compact_text d) → d ≡ e → has_float e ≡ false → IfOk r (λ s. bytes s ≡ compact_text e)
texts bytes (Ok s) d e h k f = h (ap has_float k ∙ f) ∙ ap compact_text k
texts bytes (Err x) d e h k f = tt
