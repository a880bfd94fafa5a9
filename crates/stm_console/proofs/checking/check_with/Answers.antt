use Rattle.std.proofs.Common.{◌≡◌, ◌∙◌}
use Rattle.std.proofs.lemmas.Result.{err_from_is_err_and}
use Rattle.stm_lines.specs.declared.run_fault.RunFault.TheVariants.{Write}
use Rattle.stm_console.proofs.CheckWritten.{found_in_part, unfound}
use Rattle.stm_console.proofs.checking.check_with.Goals as goal

pub returns-in_err-finding : goal.returns-in_err-finding
returns-in_err-finding g c =
    let p = err_from_is_err_and c.from_residual.result c.from_residual.ensures.1 in
    rw p.1 (unfound (g.R.Read.remaining c.args.reader.now) (g.W.Write.contents c.args.writer.now) p.0)

pub returns-in_err-line : goal.returns-in_err-line
returns-in_err-line g c =
    let p = err_from_is_err_and c.from_residual-in_err-line.result c.from_residual-in_err-line.ensures.1 in
    rw p.1 (unfound (g.R.Read.remaining c.args.reader.now) (g.W.Write.contents c.args.writer.now) p.0)

pub returns-in_err-write_flushed : goal.returns-in_err-write_flushed
returns-in_err-write_flushed g c =
    let p = err_from_is_err_and c.from_residual-in_err-write_flushed.result c.from_residual-in_err-write_flushed.ensures.1 in
    let failed : p.0 ≡ Write = cc (p.2, c.in_err-write_flushed.ensures.fault) in
    rw p.1 (found_in_part (g.R.Read.remaining c.args.reader.now) (g.W.Write.contents c.args.writer.now) (g.W.Write.contents c.write_flushed.new.writer) c.in_ok-finding.finding c.as_bytes.result.now p.0
    c.in_ok-finding.ensures (c.as_bytes.ensures.value ∙ c.in_ok-line.ensures.text) c.in_err-write_flushed.ensures.written failed)
