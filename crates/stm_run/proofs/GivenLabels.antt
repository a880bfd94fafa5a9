-- What `label` gives a block is a label.
use Rattle.std.proofs.Common.{◌≡◌, ℕ, Bool, true, false, cond, List, length, take, drop, Option, Some, None, IfSome, refl}
use Rattle.std.specs.Prelude.{◌==◌, IsTrue}
use Rattle.stm_events.specs.Labels.{is_label}
use Rattle.stm_event_lines.specs.CheckpointFields.{label_in}
use Rattle.stm_lines.specs.LineClass.{command_len, skip_blanks}
use Rattle.stm_lines.specs.NumberArgument.{number_argument}
use Rattle.stm_commands.specs.Labelling.{label_argument, ticket_and_label, labelling}
use Rattle.stm_run.proofs.ArgumentCases.{either_has}

abbrev IsLabel : Option (List ℕ) → Type 0
IsLabel o = IfSome o (λ l. IsTrue (is_label l))

-- a ticket comes with a label
abbrev pub GivesLabel : Option (ℕ × List ℕ) → Type 0
GivesLabel o = IfSome o (λ l. IsTrue (is_label l.1))

in_label : (text : List ℕ) (b : Bool) → is_label text ≡ b → IsLabel (cond b (Some text) None)
in_label text true e = e
in_label text false e = tt

argument_label : (text : List ℕ) → IsLabel (label_argument text)
unfolding label_argument
argument_label text =
    let word = take (command_len text) text in
    either_has IsLabel (length (skip_blanks (drop (command_len text) text)) == 0) (label_in word) None (in_label word (is_label word) refl) tt

both_label : (o : Option ℕ) (p : Option (List ℕ)) → IsLabel p → GivesLabel (ticket_and_label o p)
both_label (Some t) (Some l) h = h
both_label (Some t) None h = tt
both_label None p h = tt

pub gives_label : (text : List ℕ) → GivesLabel (labelling text)
unfolding labelling
gives_label text =
    let rest = skip_blanks (drop (command_len text) text) in
    both_label (number_argument (take (command_len text) text)) (label_argument rest) (argument_label rest)
