use Rattle.std.proofs.Common.{◌+◌, ◌∙◌, ap, length, arith}
use Rattle.std.proofs.lemmas.Result.{err_from_is_err_and}
use Rattle.nand_model.specs.Calls.{Device}
use Rattle.nand_model.specs.declared.geometry.Geometry.{Geometry}
use Rattle.block_state.specs.Table.{Table}
use Rattle.block_state.specs.TableOf.{table}
use Rattle.transactions.specs.Checking.{log_of}
use Rattle.flash_log.specs.laws.Bills.{pays_none}
use Rattle.flash_log.specs.laws.Erased.{erased_here}
use Rattle.flash_log.specs.laws.Found.{found_here}
use Rattle.flash_log.specs.laws.Keeping.{same_here, keeps_passes, keeps_nothing}
use Rattle.flash_log.specs.laws.CommittedPages.{committed_where, data_where, committed_here, data_here}
use Rattle.flash_log.proofs.Keeping.{may_later, pages_committed, pages_on}
use Rattle.flash_log.proofs.Writing.{clear_fresh, fresh_taken, pays_once, pays_untaken, ends_on}
use Rattle.flash_log.proofs.copying.copy_once.Goals as goal

pub write_copies-requires-clause-clear : goal.write_copies-requires-clause-clear
write_copies-requires-clause-clear g c =
    let took = c.take_block.ensures in
    clear_fresh c.in_ok-block.block _ _ (fresh_taken c.in_ok-block.block _ _ (table c.args.blocks.now) _ took.passes took.can_write c.in_ok-block.ensures.ends.0 c.in_ok-block.ensures.ends.1)

pub write_copies-requires-clause-fits : goal.write_copies-requires-clause-fits
write_copies-requires-clause-fits g c =
    let took = c.in_ok-block.ensures in
    let next = took.ends.0.next in
    let within_limit = c.requires.copies.within_limit in
    let pages = ap (λ (x : Geometry). x.pages) (took.passes.geometry ∙ c.requires.can_write.geometry) in
    omega (arith, next, within_limit, pages)

pub write_copies-requires-clause-copies : goal.write_copies-requires-clause-copies
write_copies-requires-clause-copies g c =
    let took = c.take_block.ensures in
    may_later _ _ (table c.args.blocks.now) _ c.args.copies.now took.lasts (omega (arith, took.passes.next_group)) took.passes.committed
    (λ honest power. committed_where _ _ (table c.args.blocks.now) (took.passes.newest honest)) c.requires.copies

pub returns-clause-ends : goal.returns-clause-ends
returns-clause-ends g c =
    let took = c.take_block.ensures in
    let keeps = keeps_passes _ _ (table c.args.blocks.now) (table c.args.blocks.now) _ (same_here _) took.lasts took.can_write took.numbers (λ is. is) (erased_here _ (table c.args.blocks.now)) took.passes in
    ends_on (length c.args.copies.now) c.args.spare (g.N.Nand.state c.write_copies.new.device) (table c.args.blocks.now) (table c.take_block.new.blocks) (table c.write_copies.new.blocks) c.write_copies.result took.passes.geometry took.passes.committed keeps.rises (c.write_copies.ensures.ends c.args.spare)

pub returns-clause-within_limit : goal.returns-clause-within_limit
returns-clause-within_limit g c = c.write_copies.ensures.within_limit c.args.spare c.in_ok-block.ensures.turn.bad

pub returns-clause-pages : goal.returns-clause-pages
returns-clause-pages g c =
    let d : Device = g.N.Nand.state c.args.device.now in
    let t : Table = table c.args.blocks.now in
    let took = c.take_block.ensures in
    pages_on c.args.copies.now (log_of d t) (log_of (g.N.Nand.state c.take_block.new.device) (table c.take_block.new.blocks))
    (keeps_passes _ _ (table c.args.blocks.now) (table c.args.blocks.now) _ (same_here _) took.lasts took.can_write took.numbers (λ is. is) (erased_here _ (table c.args.blocks.now)) took.passes)
    (λ honest. committed_where _ _ t (took.passes.newest honest)) (λ honest. data_where _ _ t (took.passes.newest honest)) took.passes.found
    (log_of (g.N.Nand.state c.write_copies.new.device) (table c.write_copies.new.blocks)) c.write_copies.result c.write_copies.ensures.pages

pub returns-clause-pays : goal.returns-clause-pays
returns-clause-pays g c =
    let took = c.take_block.ensures in
    let wrote = c.write_copies.ensures in
    pays_once (length c.args.copies.now) c.args.spare (log_of (g.N.Nand.state c.args.device.now) (table c.args.blocks.now)) (log_of (g.N.Nand.state c.take_block.new.device) (table c.take_block.new.blocks))
    (log_of (g.N.Nand.state c.write_copies.new.device) (table c.write_copies.new.blocks)) c.write_copies.result took.lasts took.costs.changes took.costs.reads took.passes.failures
    (let answered = c.in_ok-block.ensures.answers in omega (arith, answered)) wrote.pages.keeps.rises (wrote.ends c.args.spare) wrote.pays

pub returns-in_err-block-clause-pages : goal.returns-in_err-block-clause-pages
returns-in_err-block-clause-pages g c =
    let d : Device = g.N.Nand.state c.args.device.now in
    let t : Table = table c.args.blocks.now in
    let took = c.take_block.ensures in
    let p = err_from_is_err_and c.from_residual.result c.from_residual.ensures.1 in
    rw p.1 (pages_committed c.args.copies.now (log_of d t) (log_of (g.N.Nand.state c.take_block.new.device) (table c.take_block.new.blocks))
    (keeps_passes _ _ (table c.args.blocks.now) (table c.args.blocks.now) _ (same_here _) took.lasts took.can_write took.numbers (λ is. is) (erased_here _ (table c.args.blocks.now)) took.passes)
    (λ honest. committed_where _ _ t (took.passes.newest honest)) (λ honest. data_where _ _ t (took.passes.newest honest)) took.passes.found p.0)

pub returns-in_err-block-clause-pays : goal.returns-in_err-block-clause-pays
returns-in_err-block-clause-pays g c =
    let took = c.take_block.ensures in
    let p = err_from_is_err_and c.from_residual.result c.from_residual.ensures.1 in
    rw p.1 (pays_untaken (length c.args.copies.now) (log_of (g.N.Nand.state c.args.device.now) (table c.args.blocks.now)) (log_of (g.N.Nand.state c.take_block.new.device) (table c.take_block.new.blocks)) p.0
    took.lasts took.costs.changes took.costs.reads took.passes.failures)

pub returns-then-next_group-ge-NUMBER_END-clause-pages : goal.returns-then-next_group-ge-NUMBER_END-clause-pages
returns-then-next_group-ge-NUMBER_END-clause-pages g c =
    let d : Device = g.N.Nand.state c.args.device.now in
    let t : Table = table c.args.blocks.now in
    pages_committed c.args.copies.now (log_of d t) (log_of d t) (keeps_nothing d t c.requires.can_write) (λ honest. committed_here t d.flash) (λ honest. data_here t d.flash) (λ honest. found_here t d) _

pub returns-then-next_group-ge-NUMBER_END-clause-pays : goal.returns-then-next_group-ge-NUMBER_END-clause-pays
returns-then-next_group-ge-NUMBER_END-clause-pays g c = pays_none (length c.args.copies.now + 1) ((g.N.Nand.state c.args.device.now).geometry.pages + 2) (log_of (g.N.Nand.state c.args.device.now) (table c.args.blocks.now)) _
