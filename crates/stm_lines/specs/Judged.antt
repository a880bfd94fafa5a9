-- What the code's judgement of a line is to the definitions.
use Rattle.stm_lines.specs.LineClass.{LineClass, TooLong, Silent, NotAscii, Words}
use Rattle.stm_lines.specs.declared.judging.Judgement.{Judgement}
use Rattle.stm_lines.specs.declared.judging.Judgement.TheVariants as judgement

-- the judgement of a line, as the definitions have it
abbrev pub line_class_of : Judgement → LineClass
line_class_of judgement.TooLong = TooLong
line_class_of judgement.Silent = Silent
line_class_of judgement.NotAscii = NotAscii
line_class_of (judgement.Words w argument) = Words w.now argument.now
