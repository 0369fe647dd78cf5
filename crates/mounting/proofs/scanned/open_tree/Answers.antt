use Rattle.std.proofs.Common.{None, sym, ◌∙◌}
use Rattle.flash_tree.specs.Places.{numbers_of}
use Rattle.block_state.specs.TableOf.{table}
use Rattle.mounting.proofs.Answering.{tree_after}
use Rattle.tree_walk.specs.Trees.{keeps_key}
use Rattle.mounting.proofs.Covering.{covers_after}
use Rattle.mounting.proofs.Firsts.{scan_after}
use Rattle.mounting.proofs.Pruning.{scan_pruned}
use Rattle.mounting.proofs.ReadsTree.{reads_scanned}
use Rattle.mounting.proofs.scanned.open_tree.Goals as goal

pub returns-in-Ok-clause-read : goal.returns-in-Ok-clause-read
returns-in-Ok-clause-read g c =
    let a = g.N.Nand.state c.in_ok-device.device in
    let b = g.N.Nand.state c.in_ok-device-2.device in
    let was = c.in_ok-device.opened in
    let found = c.in_ok-device-2.found in
    let reads = c.in_ok-device-2.ensures.reads in
    let opened = c.in_ok-device.ensures.opened in
    rw c.in-Ok.ensures.same (record {
      tables = scan_pruned (keeps_key found.tree) a b (table was.blocks) (table c.prune.new.blocks) was.index c.prune.new.index (numbers_of was.numbers) reads opened
          (c.prune.ensures.opened None a b (numbers_of was.numbers) reads opened.tables) c.prune.ensures.only;
      tree_on = λ honest.
          let before = sym reads.lasts.honest ∙ honest in
          tree_after a b was.index found.spare found.tree reads
          (c.the_opened_pages_are_the_newest.ensures.pages a (table was.blocks) was.index (numbers_of was.numbers) opened before) before
          (c.in_ok-device-2.ensures.tree before);
    })

pub returns-in-Ok-clause-names : goal.returns-in-Ok-clause-names
returns-in-Ok-clause-names g c = rw c.in-Ok.ensures.same (λ honest.
    let d = g.N.Nand.state c.args.device in
    let a = g.N.Nand.state c.in_ok-device.device in
    let b = g.N.Nand.state c.in_ok-device-2.device in
    let was = c.in_ok-device.opened in
    let found = c.in_ok-device-2.found in
    let before = c.in_ok-device.ensures.reads.lasts.honest ∙ honest in
    covers_after a b was.index found.names found.spare found.tree c.in_ok-device-2.ensures.reads
    (c.the_opened_pages_are_the_newest.ensures.pages a (table was.blocks) was.index (numbers_of was.numbers) c.in_ok-device.ensures.opened before) before
    (c.in_ok-device-2.ensures.names before))

pub returns-in-Ok-clause-within_limit : goal.returns-in-Ok-clause-within_limit
returns-in-Ok-clause-within_limit g c = rw c.in-Ok.ensures.same (λ honest.
    let a = g.N.Nand.state c.args.device in
    let b = g.N.Nand.state c.in_ok-device.device in
    let found = c.in_ok-device-2.found in
    let scanned = c.in_ok-device.ensures in
    reads_scanned a b (g.N.Nand.state c.in_ok-device-2.device) found.spare found.tree scanned.reads scanned.issued (c.in_ok-device-2.ensures.within_limit (scanned.reads.lasts.honest ∙ honest)))

pub returns-in-Ok-clause-firsts : goal.returns-in-Ok-clause-firsts
returns-in-Ok-clause-firsts g c =
    let a = g.N.Nand.state c.in_ok-device.device in
    let b = g.N.Nand.state c.in_ok-device-2.device in
    let was = c.in_ok-device.opened in
    rw c.in-Ok.ensures.same (scan_after a b _ _ (table was.blocks) (table c.prune.new.blocks) (numbers_of was.numbers) c.in_ok-device-2.ensures.reads c.prune.ensures.counts c.in_ok-device.ensures.firsts)

pub returns-in-Ok-clause-none : goal.returns-in-Ok-clause-none
returns-in-Ok-clause-none g c =
    let a = g.N.Nand.state c.in_ok-device.device in
    let b = g.N.Nand.state c.in_ok-device-2.device in
    rw c.in-Ok.ensures.same (c.prune.ensures.opened None a b (numbers_of c.in_ok-device.opened.numbers) c.in_ok-device-2.ensures.reads c.in_ok-device.ensures.opened.tables).noted
