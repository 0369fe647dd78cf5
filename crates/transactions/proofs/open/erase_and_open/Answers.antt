use Rattle.std.proofs.Common.{refl, sym, ◌∙◌, arith, rules}
use Rattle.nand_model.specs.Calls.{Device}
use Rattle.nand_model.specs.laws.Changes.{shrinks-erase}
use Rattle.flash_tree.specs.laws.Newest.{erase_keeps_elsewhere}
use Rattle.block_state.specs.TableOf.{table}
use Rattle.block_state.specs.laws.Checkpoint.{other_than_it}
use Rattle.transactions.specs.laws.Handing.{hands_erased}
use Rattle.transactions.specs.laws.Truth.{true_erased, true_opened}
use Rattle.transactions.specs.laws.Ready.{ready_erased, ready_opened}
use Rattle.transactions.proofs.open.erase_and_open.Goals as goal

pub returns-in_err-erase-clause-can_write : goal.returns-in_err-erase-clause-can_write
returns-in_err-erase-clause-can_write g c = ready_erased c.args.block _ _ _ _ c.requires.can_write c.requires.block.closed c.erase.ensures.erases

pub returns-clause-can_write : goal.returns-clause-can_write
returns-clause-can_write g c =
    let old : Device = g.N.Nand.state c.args.device.now in
    let new : Device = g.N.Nand.state c.erase.new.self in
    let does = c.in_ok-erase.ensures.erases in
    let can_write = ready_erased c.args.block old new (table c.args.blocks.now) _ c.requires.can_write c.requires.block.closed c.erase.ensures.erases in
    ready_opened c.args.block new _ _ can_write (search rules) (search rules) does.next (λ honest. does.pages (sym does.lasts.honest ∙ honest))
    (record { sets = c.open.ensures.sets; open_block = c.open.ensures.open; checkpoint = c.open.ensures.checkpoint ∙ other_than_it c.args.block _ c.requires.block.first; next_seq = c.open.ensures.seq })

pub returns-clause-below : goal.returns-clause-below
returns-clause-below g c = λ honest.
    let old : Device = g.N.Nand.state c.args.device.now in
    let new : Device = g.N.Nand.state c.erase.new.self in
    (ready_erased c.args.block old new (table c.args.blocks.now) _ c.requires.can_write c.requires.block.closed c.erase.ensures.erases).below (c.erase.ensures.erases.lasts.honest ∙ honest)

pub returns-in_err-erase-clause-newest : goal.returns-in_err-erase-clause-newest
returns-in_err-erase-clause-newest g c = λ honest. erase_keeps_elsewhere c.args.block _ _ (shrinks-erase c.args.block _ _ _ honest c.erase.ensures.erases)

pub returns-clause-newest : goal.returns-clause-newest
returns-clause-newest g c = λ honest. erase_keeps_elsewhere c.args.block _ _ (shrinks-erase c.args.block _ _ _ honest c.erase.ensures.erases)

pub returns-in_err-erase-clause-numbers : goal.returns-in_err-erase-clause-numbers
returns-in_err-erase-clause-numbers g c =
    let does = c.erase.ensures.erases in
    hands_erased c.args.block _ _ _ _ _ does refl (omega arith) (omega (arith, does.lasts.changes)) (true_erased c.args.block _ _ (table c.args.blocks.now) (table c.args.blocks.now) _ does c.requires.block.first refl)

pub returns-clause-numbers : goal.returns-clause-numbers
returns-clause-numbers g c =
    let done = c.in_ok-erase.ensures.erases in
    hands_erased c.args.block _ _ _ _ _ c.erase.ensures.erases c.open.ensures.sets.next_group (omega (arith, c.open.ensures.seq)) (omega (arith, c.open.ensures.seq, done.changes done.ends.was))
    (true_opened c.args.block _ _ (table c.args.blocks.now) (table c.open.new.self) done c.requires.block.first (c.open.ensures.checkpoint ∙ other_than_it c.args.block _ c.requires.block.first))
