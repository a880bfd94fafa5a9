use Rattle.std.proofs.Common.{◌≡◌, ◌++◌, drop}
use Rattle.std.specs.Prelude.{option_map}
use Rattle.serde_json.specs.View.{items_view}
use Rattle.stm_event_lines.specs.Fields.{all_of, u32_of}
use Rattle.stm_event_lines.specs.Fits.{FitNumbers}
use Rattle.stm_event_lines.proofs.parts.numbers.Given as goal

abbrev pub invariant-loop-json : goal.invariant-loop-json
invariant-loop-json l = record {
  value : option_map (λ xs. l.found.items ++ xs) (all_of u32_of (items_view (drop l.json-index l.list))) ≡ all_of u32_of (items_view l.list);
  fits : FitNumbers l.found.items;
}
