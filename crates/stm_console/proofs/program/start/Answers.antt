use Rattle.std.proofs.Common.{rules}
use Rattle.stm_console.proofs.ProgramAnswers.{words_done, words_told}
use Rattle.stm_console.proofs.program.start.Goals as goal

pub returns-in-Ok : goal.returns-in-Ok
returns-in-Ok g c = words_done _ c.in-Ok.request _ _ c.in-Ok.ensures.words.0 c.in-Ok.ensures.words.1 c.perform.ensures

pub returns-in-Err : goal.returns-in-Err
returns-in-Err g c =
    let p = c.print_words.ensures in
    words_told _ c.in-Err.error _ _ c.in-Err.ensures.words (search rules) p.memory p.version p.help p.mistake p.any
