use Rattle.stm_store.proofs.FreshNumbersInRange.{writable, rising, addable, result_number}
use Rattle.stm_store.proofs.apply.perform.Goals as goal

pub change-requires-clause-writable : goal.change-requires-clause-writable
change-requires-clause-writable c =
    let f = rw c.in-Commits.is at c.requires.fits in
    let room = rw c.in-Commits.is at c.requires.room in
    rw c.as_slice.ensures (writable c.args.cells.now c.in-Commits.writes c.in-Commits.news c.in-Commits.result f room)

pub change-requires-clause-rising : goal.change-requires-clause-rising
change-requires-clause-rising c =
    let f = rw c.in-Commits.is at c.requires.fits in
    rw c.as_slice.ensures (rising c.args.cells.now c.in-Commits.writes c.in-Commits.news c.in-Commits.result f)

pub change-requires-clause-addable : goal.change-requires-clause-addable
change-requires-clause-addable c =
    let f = rw c.in-Commits.is at c.requires.fits in
    let room = rw c.in-Commits.is at c.requires.room in
    rw c.as_slice-in-Commits.ensures (addable c.args.cells.now c.in-Commits.writes c.in-Commits.news c.in-Commits.result f room)

pub renumber-requires : goal.renumber-requires
renumber-requires c =
    let f = rw c.in-Commits.is at c.requires.fits in
    let room = rw c.in-Commits.is at c.requires.room in
    rw c.len-first_new.ensures (result_number c.args.cells.now c.in-Commits.writes c.in-Commits.news c.in-Commits.result f room)
