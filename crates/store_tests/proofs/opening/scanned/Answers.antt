use Rattle.std.proofs.lemmas.Result.{IfOk-at_ok}
use Rattle.nand_model.specs.MemoryState.{device}
use Rattle.store_tests.proofs.opening.scanned.Goals as goal

pub new-requires-clause-written : goal.new-requires-clause-written
new-requires-clause-written g c = λ honest.
    let opened = IfOk-at_ok _ c.expect-opened.ensures c.open.ensures.opened in
    c.the_opened_pages_are_the_newest.ensures.written (device c.open.new.device).flash c.expect-opened.result.index (opened.tables.newest honest)
