-- The text of a storm whose history is legal.
use Rattle.std.proofs.Common.{◌≡◌, ℕ, List, length, Ok, ap, refl}
use Rattle.stm_pool.specs.declared.storm.Counts.{Counts}
use Rattle.stm_script.specs.StormScript.{StormScript, storm_script}
use Rattle.stm_storm.specs.declared.replaying.Replay.TheVariants.{Legal}
use Rattle.stm_storm.specs.StormEnd.{IsStormEnd}
use Rattle.stm_storm.specs.StormText.{IsStormText, storm_text}

pub legal_storm : (input : List ℕ) (script : StormScript) (counts : List Counts) (n : ℕ) → storm_script input ≡ Ok script
    → length counts ≡ length script.sections → IsStormEnd script.table counts (Legal n) → IsStormText input (storm_text counts n)
legal_storm input script counts n right each end =
    record {
      script = script;
      right = right;
      counts = counts;
      each = each;
      history = end.0;
      counted = record { legal = end.1.legal; many = refl; counted = end.1.counted };
      written = ap (λ (k : ℕ). storm_text counts k) end.1.many;
    }
