use Rattle.std.proofs.Common.{◌≡◌, true, arith}
use Rattle.std.proofs.lemmas.Grind.{common_steps}
use Rattle.stm_history.proofs.Explanations.{line_of}
use Rattle.std.specs.Prelude.{string_bytes}
use Rattle.stm_history.proofs.explaining.due_line.Goals as goal

pub returns-then-not-fits_format : goal.returns-then-not-fits_format
returns-then-not-fits_format c = λ T low h s. let yes = c.fits_format.ensures.1 s.1 in cc (yes, c.if-not-fits_format.true)

pub returns-then-not-fits_line : goal.returns-then-not-fits_line
returns-then-not-fits_line c = λ T low h s. let fits = s.0 in let yes = (c.fits_line.ensures T h).1 fits.1 in cc (yes, c.if-not-fits_line.true)

pub returns : goal.returns
returns c = λ T low h.
    let is_format : c.fits_format.result ≡ true = let no = c.if-not-fits_format.false in grind (arith, common_steps) in
    let is_line : c.fits_line.result ≡ true = let no = c.if-not-fits_line.false in grind (arith, common_steps) in
    let format = c.fits_format.ensures.0 is_format in
    let fits = (c.fits_line.ensures T h).0 is_line in
    line_of c.args.format T c.args.event.now (string_bytes c.in_ok-text.text) c.short_line.result (low, fits) format c.in_ok-text.ensures c.short_line.ensures
