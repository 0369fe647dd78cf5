use Rattle.flash_tree.specs.Places.{numbers_of}
use Rattle.block_state.specs.TableOf.{table}
use Rattle.salvage.proofs.opening.find_newest.Goals as goal

pub returns-in-Ok-clause-pages : goal.returns-in-Ok-clause-pages
returns-in-Ok-clause-pages g c = λ honest.
    let opened = c.in-Ok.opened in
    c.the_opened_pages_are_the_newest.ensures.pages (g.N.Nand.state c.open.new.device) (table opened.blocks) opened.index (numbers_of opened.numbers) c.in-Ok.ensures.opened honest
