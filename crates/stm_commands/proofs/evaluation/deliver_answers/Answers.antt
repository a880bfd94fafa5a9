use Rattle.std.proofs.Common.{rules, arith, ◌≡◌, ◌∷◌, suc, List, length, ap, ◌∙◌, subst, map}
use Rattle.stm_desk.specs.DeskView.{state_of}
use Rattle.stm_commands.specs.Evaluation.{delivered_all}
use Rattle.stm_commands.specs.OpenInvariant.{handed_out, OwnTheirTickets}
use Rattle.stm_commands.proofs.EvaluatedJobs.{Answer, IsLeft, left_next, left_none, own_answers_grown}
use Rattle.stm_commands.proofs.Growing.{grown_trans}
use Rattle.stm_commands.proofs.evaluation.deliver_answers.Goals as goal

pub loop-answer-preserved : goal.loop-answer-preserved
loop-answer-preserved c =
    let i = c.loop-answer.invariant in
    let o = c.in_ok-so_far.ensures in
    let e : c.loop-answer.answer-iterator.rest.items ≡ c.in-Some.answer ∷ c.next.new.self.rest.items = search rules in
    let n : length c.loop-answer.answer-iterator.rest.items ≡ suc (length c.next.new.self.rest.items) = ap (λ (rest : List Answer). length rest) e in
    record {
      left = λ cells jobs answered stand.
          left_next cells (record { desk = c.loop-answer.desk; count = c.loop-answer.so_far.count; stop = c.loop-answer.so_far.stop }) _
          (delivered_all (record { desk = c.args.desk.now; count = c.args.before.count; stop = c.args.before.stop }) (map (handed_out cells) jobs)) c.in-Some.answer c.next.new.self.rest.items o.grown (o.done cells)
          (subst (λ (rest : List Answer). IsLeft cells (record { desk = c.loop-answer.desk; count = c.loop-answer.so_far.count; stop = c.loop-answer.so_far.stop })
          (delivered_all (record { desk = c.args.desk.now; count = c.args.before.count; stop = c.args.before.stop }) (map (handed_out cells) jobs)) rest) e (i.left cells jobs answered stand));
      own = own_answers_grown c.loop-answer.desk c.deliver_answer.new.desk c.next.new.self.rest.items o.grown (subst (OwnTheirTickets (state_of c.loop-answer.desk)) e i.own).1;
      grown = grown_trans _ _ _ i.grown o.grown;
      same_store = o.store ∙ i.same_store;
      few = let f = o.few in let g = i.few in omega (arith, n);
    }

pub returns-clause-done : goal.returns-clause-done
returns-clause-done c = λ cells jobs answered stand.
    let none : length c.loop-answer.answer-iterator.rest.items ≡ 0 = search rules in
    left_none cells (record { desk = c.loop-answer.desk; count = c.loop-answer.so_far.count; stop = c.loop-answer.so_far.stop })
    (delivered_all (record { desk = c.args.desk.now; count = c.args.before.count; stop = c.args.before.stop }) (map (handed_out cells) jobs)) c.loop-answer.answer-iterator.rest.items none (c.loop-answer.invariant.left cells jobs answered stand)

pub deliver_answer-requires-clause-own : goal.deliver_answer-requires-clause-own
deliver_answer-requires-clause-own c =
    let e : c.loop-answer.answer-iterator.rest.items ≡ c.in-Some.answer ∷ c.next.new.self.rest.items = search rules in
    (subst (OwnTheirTickets (state_of c.loop-answer.desk)) e c.loop-answer.invariant.own).0
