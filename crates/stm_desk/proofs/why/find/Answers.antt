use Rattle.std.proofs.Common.{ℕ, Ok, Err, Result, rules, sym, subst}
use Rattle.std.proofs.lemmas.List.Sorted.{answers_always}
use Rattle.stm_desk.proofs.FoundWrites.{IsFound, is_found}
use Rattle.stm_desk.proofs.why.find.Goals as goal

-- the closure gives a write's variable
pub returns-in-Ok : goal.returns-in-Ok
returns-in-Ok c =
    let facts = c.binary_search_by_key.ensures in
    let by_key = facts.position (λ write. write.0) (answers_always _ _ _ (λ f a r g called. search rules)) in
    let found : IsFound c.args.variable c.args.writes.now c.binary_search_by_key.result = is_found c.args.variable c.args.writes.now c.binary_search_by_key.result c.requires facts.bound by_key in
    let here : IsFound c.args.variable c.args.writes.now (Ok c.in-Ok.at) = subst (λ (r : Result ℕ ℕ). IsFound c.args.variable c.args.writes.now r) c.in-Ok.is found in
    sym (here.at.1 _)

pub returns-in-Err : goal.returns-in-Err
returns-in-Err c =
    let facts = c.binary_search_by_key.ensures in
    let by_key = facts.position (λ write. write.0) (answers_always _ _ _ (λ f a r g called. search rules)) in
    let found : IsFound c.args.variable c.args.writes.now c.binary_search_by_key.result = is_found c.args.variable c.args.writes.now c.binary_search_by_key.result c.requires facts.bound by_key in
    let here : IsFound c.args.variable c.args.writes.now (Err c.in-Err.field-0) = subst (λ (r : Result ℕ ℕ). IsFound c.args.variable c.args.writes.now r) c.in-Err.is found in
    sym here.none
