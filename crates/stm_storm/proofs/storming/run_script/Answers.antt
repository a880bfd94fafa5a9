use Rattle.std.proofs.Common.{◌≡◌, ◌∙◌, length, rules, subst, sym, vec_len}
use Rattle.std.proofs.lemmas.List.{length-map}
use Rattle.std.proofs.lemmas.Result.{on_ok_weaker}
use Rattle.stm_script.specs.ScriptReading.{script_of, tasks_of}
use Rattle.stm_storm.specs.declared.replaying.Replay.{Replay}
use Rattle.stm_storm.specs.StormEnd.{end_text, IsStormEnd}
use Rattle.stm_storm.specs.StormText.{storm_text}
use Rattle.stm_storm.proofs.FailedReplays.{failed_storm}
use Rattle.stm_storm.proofs.LegalStorms.{legal_storm}
use Rattle.stm_storm.proofs.storming.run_script.Goals as goal

pub returns-clause-done : goal.returns-clause-done
returns-clause-done g c = on_ok_weaker c.write_storm.result (λ did input right.
    let counts : length c.in_ok-end.end.counts.items ≡ vec_len c.in_ok-end.end.counts = search rules in
    let sections : vec_len c.args.script.sections ≡ length c.args.script.sections.items = search rules in
    let each = counts ∙ c.in_ok-end.ensures.each ∙ sections ∙ sym (length-map c.args.script.sections.items tasks_of) in
    let legal = subst (λ (r : Replay). IsStormEnd (script_of c.args.script).table c.in_ok-end.end.counts.items r) did.1 c.in_ok-end.ensures.end in (
      storm_text c.in_ok-end.end.counts.items did.0,
      legal_storm input (script_of c.args.script) c.in_ok-end.end.counts.items did.0 right each legal,
      did.2,
    )) c.write_storm.ensures.done

pub returns-clause-failed : goal.returns-clause-failed
returns-clause-failed g c = λ e input right.
    let failed = c.write_storm.ensures.failed e in
    let counts : length c.in_ok-end.end.counts.items ≡ vec_len c.in_ok-end.end.counts = search rules in
    let sections : vec_len c.args.script.sections ≡ length c.args.script.sections.items = search rules in
    let each = counts ∙ c.in_ok-end.ensures.each ∙ sections ∙ sym (length-map c.args.script.sections.items tasks_of) in (
      end_text c.in_ok-end.end.counts.items c.in_ok-end.end.replay,
      failed_storm input (script_of c.args.script) c.in_ok-end.end.counts.items c.in_ok-end.end.replay right each c.in_ok-end.ensures.end failed.0,
      failed.1,
    )
