use Rattle.std.proofs.Common.{◌≡◌, None, ap, ◌∙◌, map, string_bytes, rules}
use Rattle.stm_store.specs.Naming.{number_named, MayHaveType, NumbersAreBelow}
use Rattle.stm_store.specs.NameEntries.{named_of}
use Rattle.stm_store.proofs.NewNames.{inserted, known-added}
use Rattle.stm_store.proofs.names.Names.add.Goals as goal

pub invariant_of-self-2 : goal.invariant_of-self-2
invariant_of-self-2 c =
    let es = c.self.inside.entries.entries in
    let key_is : string_bytes c.in_ok-key.key ≡ c.args.name.now = search rules in
    let fresh : number_named c.args.name.now (map named_of es) ≡ None = rw c.self.view_is c.requires.fresh in
    let key_fresh : number_named (string_bytes c.in_ok-key.key) (map named_of es) ≡ None = rw key_is fresh in
    let above : NumbersAreBelow c.args.number (map named_of es) = rw c.self.view_is c.requires.above in
    let held : MayHaveType (map named_of es) c.args.kind = rw c.self.view_is c.requires.held in
    let is = ap (map named_of) c.in-Ok.ensures.entries ∙ inserted es c.in_ok-key.key (c.args.number, c.args.kind) key_fresh in
    rw (is, key_is) (known-added (map named_of es) (record { name = c.args.name.now; number = c.args.number; kind = c.args.kind }) c.self.invariant c.requires.name fresh above held)

pub returns-clause-done : goal.returns-clause-done
returns-clause-done c =
    let es = c.self.inside.entries.entries in
    let key_is : string_bytes c.in_ok-key.key ≡ c.args.name.now = search rules in
    let fresh : number_named (string_bytes c.in_ok-key.key) (map named_of es) ≡ None = rw (key_is, c.self.view_is) c.requires.fresh in
    rw (← c.self.view_is, ← key_is) (ap (map named_of) c.in-Ok.ensures.entries ∙ inserted es c.in_ok-key.key (c.args.number, c.args.kind) fresh)
