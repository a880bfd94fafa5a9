use Rattle.std.proofs.Common.{◌≡◌, ◌<◌, ap, ◌∙◌, map, length, string_bytes, is_some, true, false, rules, arith}
use Rattle.stm_store.specs.Tables.{declared_cells, number_of, may_hold}
use Rattle.stm_store.specs.Entries.{declared_of}
use Rattle.stm_store.proofs.Places.{inserted}
use Rattle.stm_store.proofs.Declaring.{table-added}
use Rattle.stm_store.proofs.table.Table.declare.Goals as goal

pub invariant_of-self-2 : goal.invariant_of-self-2
invariant_of-self-2 c =
    let es = c.self.inside.entries.entries in
    let key_is : string_bytes c.in_ok-key.key ≡ c.args.name.now = search rules in
    let none : is_some (number_of c.args.name.now c.args.self.now) ≡ false = search rules in
    let fresh : is_some (number_of c.args.name.now (map declared_of es)) ≡ false = rw c.self.view_is none in
    let is = ap (map declared_of) c.in-Ok.ensures.entries ∙ inserted c.args.name.now es c.in_ok-key.key c.args.kind c.args.value key_is fresh in
    let holds : may_hold (declared_cells (map declared_of es)) c.args.kind c.args.value ≡ true = rw c.self.view_is (search rules) in
    let less : length (map declared_of es) < 1000000 = rw c.self.view_is (omega arith) in
    rw is (table-added (map declared_of es) (record { name = c.args.name.now; kind = c.args.kind; value = c.args.value }) c.self.invariant less holds fresh c.requires)

pub returns-clause-done : goal.returns-clause-done
returns-clause-done c =
    let es = c.self.inside.entries.entries in
    let key_is : string_bytes c.in_ok-key.key ≡ c.args.name.now = search rules in
    let none : is_some (number_of c.args.name.now c.args.self.now) ≡ false = search rules in
    let fresh : is_some (number_of c.args.name.now (map declared_of es)) ≡ false = rw c.self.view_is none in (
      search rules,
      rw (← c.self.view_is) (ap (map declared_of) c.in-Ok.ensures.entries ∙ inserted c.args.name.now es c.in_ok-key.key c.args.kind c.args.value key_is fresh),
    )
