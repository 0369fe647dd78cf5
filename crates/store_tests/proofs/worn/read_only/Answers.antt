use Rattle.std.proofs.Common.{ap}
use Rattle.std.proofs.lemmas.Result.{IfOk-at_ok}
use Rattle.nand_model.specs.MemoryState.{device}
use Rattle.block_state.specs.TableOf.{table}
use Rattle.flash_tree.specs.Places.{numbers_of}
use Rattle.store_tests.proofs.Carrying.{carries_newest}
use Rattle.store_tests.proofs.worn.read_only.Goals as goal

pub new-requires-clause-written : goal.new-requires-clause-written
new-requires-clause-written g c = λ honest.
    let opened = IfOk-at_ok _ c.expect-opened.ensures c.open.ensures.opened in
    c.the_opened_pages_are_the_newest.ensures.written (device c.open.new.device).flash c.expect-opened.result.index (opened.tables.newest honest)

pub new-requires-in-Ok-clause-carrying : goal.new-requires-in-Ok-clause-carrying
new-requires-in-Ok-clause-carrying g c = λ honest.
    let opened = c.expect-opened.result in
    let is = IfOk-at_ok _ c.expect-opened.ensures c.open.ensures.opened in
    carries_newest (device c.open.new.device) (device c.in-Ok.pages.device) opened.index c.in-Ok.pages.index (ap device c.in-Ok.ensures.device) c.in-Ok.ensures.index
    (c.the_opened_pages_are_the_newest.ensures.pages (device c.open.new.device) (table opened.blocks) opened.index (numbers_of opened.numbers) is honest)
