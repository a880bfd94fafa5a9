use Rattle.std.proofs.Common.{rules, [], ◌∷◌, ◌++◌}
use Rattle.std.proofs.lemmas.Result.{on_ok_weaker}
use Rattle.std.specs.Io.KnownBytes.{Appends}
use Rattle.stm_script.specs.FaultText.{script_fault_text, reason_line, script_fault_lines}
use Rattle.stm_script.proofs.FaultLines.{fault_whole}
use Rattle.stm_script.proofs.script_fault.write_script_fault.Goals as goal

pub returns : goal.returns
returns g c =
    let f = c.args.fault in
    let before = g.W.Write.contents c.args.writer.now in
    let between = g.W.Write.contents c.writeln.new.self in
    let after = g.W.Write.contents c.write_reason.new.writer in
    let first : Appends before between (script_fault_text f ++ 10 ∷ []) = search (rules, c.in_ok-writeln.ensures.bytes) in
    on_ok_weaker {P = Appends between after (reason_line f c.name.result.now c.place.result)} {Q = Appends before after (script_fault_lines f)} c.write_reason.result
    (λ more. fault_whole f c.name.result.now c.place.result before between after c.name.ensures c.place.ensures first more) c.write_reason.ensures
