use Rattle.std.proofs.Common.{ℕ, Option, take, sym, ap, ◌∙◌}
use Rattle.stm_history_file.specs.LineLengths.{last_line_after}
use Rattle.stm_history_file.proofs.LinesMeasured.{measured_on, still_too_long}
use Rattle.stm_history_file.proofs.measured.MeasuredFileWrite.write.Goals as goal

pub invariant_of-self-in-Some : goal.invariant_of-self-in-Some
invariant_of-self-in-Some g c =
    let D = g.D.Device.disk in
    let old = c.args.self.now in
    let new = c.write.new.self in
    let bytes = take c.in_ok-count.count c.args.buf.now in
    let is = c.last_line_after-self.ensures ∙ sym (ap (λ (l : Option ℕ). last_line_after l bytes) c.in-Some.is) in
    record {
      measured =
          measured_on D.is_honest (D.seen old.file.device) (D.seen new.device) old.file.pending.items new.pending.items old.file.len new.len old.line c.last_line_after-self.result bytes
          old.measured (c.in_ok-count.ensures).bytes is;
    }

pub invariant_of-self-in_default : goal.invariant_of-self-in_default
invariant_of-self-in_default g c =
    let D = g.D.Device.disk in
    let old = c.args.self.now in
    let new = c.write.new.self in
    let bytes = take c.in_ok-count.count c.args.buf.now in
    record {
      measured =
          measured_on D.is_honest (D.seen old.file.device) (D.seen new.device) old.file.pending.items new.pending.items old.file.len new.len old.line old.line bytes
          old.measured (c.in_ok-count.ensures).bytes (still_too_long old.line bytes c.in_default.is);
    }
