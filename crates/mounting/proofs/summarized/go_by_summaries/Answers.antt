use Rattle.std.proofs.Common.{false, None}
use Rattle.std.proofs.lemmas.Result.{err_from_is_err_and}
use Rattle.nand_model.specs.Trusting.{trusted_as}
use Rattle.flash_tree.specs.Places.{numbers_of}
use Rattle.block_state.specs.TableOf.{table}
use Rattle.mounting.proofs.Deciding.{ListsKeys, decide}
use Rattle.mounting.proofs.Found.{found_tree, found_names, found_blocks, since_by, sure_committed}
use Rattle.mounting.proofs.Lent.{reads_trusted}
use Rattle.mounting.proofs.SureFound.{ends_found}
use Rattle.mounting.proofs.summarized.go_by_summaries.Goals as goal

pub returns-in_err-device-clause-fault : goal.returns-in_err-device-clause-fault
returns-in_err-device-clause-fault g c =
    let d = g.N.Nand.state c.args.device in
    let e = c.in_err-device.ensures in
    let p = err_from_is_err_and c.from_residual.result c.from_residual.ensures.1 in
    rw (p.1, p.2) (λ is. ends_found d c.args.opened (c.requires.tree is) (g.N.Nand.state c.in_err-device.field-0.0.0) c.in_err-device.field-0.0.1 (e.fault is.0) e.why is.0)

pub on_trusted-requires : goal.on_trusted-requires
on_trusted-requires g c = λ κs within.
    let a = g.N.Nand.state c.args.device in
    let b = g.N.Nand.state c.in_ok-device.device in
    let opened = c.args.opened in
    let n = numbers_of opened.numbers in
    let found = c.in_ok-device.found in
    let e = c.in_ok-device.ensures in
    let y = c.prune.new.index in
    let u = table c.prune.new.blocks in
    let inside = g.met.N.Nand.within c.in_ok-device.device in
    let still = c.prune.ensures.opened None (trusted_as false a) (trusted_as false b) n (reads_trusted false a b e.reads) c.requires.opened in
    let lists : ListsKeys = record { committed = c.the_list_of_a_block_is_whole.ensures.committed; all = c.the_list_of_a_block_is_whole.ensures.all } in
    let keys = c.the_headers_report_the_keys.ensures in (
      within,
      (
        found_tree _ a b opened u y found.spare found.tree found.names e.reads still c.prune.ensures.only e.tree e.names c.requires.knows inside keys lists (decide b y n _).1,
        (
          found_names _ a b opened u y found.spare found.tree found.names e.reads still c.prune.ensures.only e.tree e.names c.requires.knows inside keys lists (decide b y n _).1,
          found_blocks _ a b opened u y found.spare found.tree found.names e.reads still c.prune.ensures.only e.tree e.names c.requires.knows inside keys lists (decide b y n _).1 _ _ c.prune.ensures.counts,
        ),
      ),
    )

pub returns-in-Ok-clause-read : goal.returns-in-Ok-clause-read
returns-in-Ok-clause-read g c =
    let a = g.N.Nand.state c.args.device in
    let b = g.N.Nand.state c.in_ok-device.device in
    let opened = c.args.opened in
    let found = c.in_ok-device.found in
    let e = c.in_ok-device.ensures in
    let inside = g.met.N.Nand.within c.in_ok-device.device in
    let lists : ListsKeys = record { committed = c.the_list_of_a_block_is_whole.ensures.committed; all = c.the_list_of_a_block_is_whole.ensures.all } in
    rw c.in-Ok.ensures.same (since_by _ a b _ _ c.on_trusted.ensures.inner c.on_trusted.ensures.seen e.reads e.power
    (λ is. (decide b c.prune.new.index (numbers_of opened.numbers) _).2 (sure_committed lists c.the_headers_report_the_keys.ensures c.the_tree_looks_up_its_footprint.ensures.keys a b opened c.prune.new.index found.spare found.tree e.reads is (c.requires.tree is) inside
    c.prune.ensures.only (e.tree is.0))))
