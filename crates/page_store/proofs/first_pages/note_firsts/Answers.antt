use Rattle.std.proofs.Common.{◌≡◌, ◌<◌, length, arith, ap, subst}
use Rattle.std.proofs.lemmas.Option.{slice_get-get_or}
use Rattle.nand_model.specs.declared.geometry.Geometry.{Geometry}
use Rattle.block_state.specs.TableOf.{table}
use Rattle.page_store.specs.KnownFirsts.{NotesFirsts}
use Rattle.page_store.proofs.Noting.{noted_more}
use Rattle.page_store.proofs.KnowingFirsts.{knows_firsts}
use Rattle.page_store.proofs.first_pages.note_firsts.Goals as goal

pub loop-block-preserved : goal.loop-block-preserved
loop-block-preserved c =
    let blocks = ap (λ (g : Geometry). g.blocks) c.geometry.ensures in
    let within : c.loop-block.block < length c.args.firsts.now = omega (arith, c.loop-block-test.true, c.blocks-block-end.ensures, blocks, c.requires.size) in
    noted_more c.args.firsts.now c.loop-block.block _ _ _ _ (slice_get-get_or c.args.firsts.now c.loop-block.block _ within) c.note_first.ensures c.loop-block.invariant

pub returns-clause-knows : goal.returns-clause-knows
returns-clause-knows c d read is =
    let blocks = ap (λ (g : Geometry). g.blocks) c.geometry.ensures in
    let end : c.loop-block.block ≡ (table c.args.blocks.now).geometry.blocks = omega (arith, c.loop-block-test.false, c.loop-block.auto.block-end, c.blocks-block-end.ensures, blocks) in
    knows_firsts d c.args.firsts.now (table c.args.blocks.now) (table c.loop-block.blocks) read is c.loop-block.invariant.only
    (subst (λ n. NotesFirsts c.args.firsts.now n (table c.args.blocks.now) (table c.loop-block.blocks)) end c.loop-block.invariant.notes)
