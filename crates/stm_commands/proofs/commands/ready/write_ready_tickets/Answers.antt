use Rattle.std.proofs.Common.{◌++◌, List, ℕ, sym, ap, ◌∙◌, append_assoc, string_bytes, decimal}
use Rattle.std.proofs.lemmas.Result.{on_ok_weaker}
use Rattle.stm_terms.specs.Texts.{spaced}
use Rattle.stm_desk.specs.DeskView.{state_of}
use Rattle.stm_commands.specs.Questions.{ready_above}
use Rattle.stm_commands.proofs.ReadyTickets.{no_tickets, some_tickets}
use Rattle.stm_commands.proofs.LegalDesks.{desk_possible}
use Rattle.stm_commands.proofs.commands.ready.write_ready_tickets.Goals as goal

pub returns-in_ok-push_str-in-None : goal.returns-in_ok-push_str-in-None
returns-in_ok-push_str-in-None c =
    let d = c.args.desk.now in
    let r = (desk_possible d c.history-events.ensures.start c.history-events.ensures.legal).rising in
    c.in_ok-push_str-in-None.ensures.bytes ∙ ap (λ (x : List ℕ). string_bytes c.args.out.now ++ x) (sym (no_tickets (state_of d) r c.in-None.ensures))

pub returns-in_ok-write_number-in-Some : goal.returns-in_ok-write_number-in-Some
returns-in_ok-write_number-in-Some c =
    let d = c.args.desk.now in
    let r = (desk_possible d c.history-events.ensures.start c.history-events.ensures.legal).rising in
    let t = c.in-Some.first in
    let rest = spaced decimal (ready_above t (state_of d)) in
    on_ok_weaker c.write_ready_above.result
    (λ e. e ∙ ap (λ (x : List ℕ). x ++ rest) c.in_ok-write_number-in-Some.ensures ∙ append_assoc (string_bytes c.args.out.now) (decimal t) rest
    ∙ ap (λ (x : List ℕ). string_bytes c.args.out.now ++ x) (sym (some_tickets (state_of d) t r c.in-Some.ensures)))
    c.write_ready_above.ensures
