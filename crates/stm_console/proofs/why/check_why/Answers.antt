use Rattle.std.proofs.lemmas.Result.{err_from_is_err_and}
use Rattle.stm_console.proofs.WhyWritten.{unread, why_written}
use Rattle.stm_console.proofs.why.check_why.Goals as goal

pub returns-in_err-bytes : goal.returns-in_err-bytes
returns-in_err-bytes g c =
    let p = err_from_is_err_and c.from_residual.result c.from_residual.ensures.1 in
    rw p.1 (unread (g.R.Read.remaining c.args.reader.now) (g.W.Write.contents c.args.writer.now) p.0)

pub returns : goal.returns
returns g c =
    let did = c.answer_bytes.ensures in
    why_written c.answer_bytes.result (g.R.Read.remaining c.args.reader.now) _ _ c.in_ok-bytes.bytes.items c.deref.result.now c.in_ok-bytes.ensures.bytes c.deref.ensures.value did.found did.part did.unfound
