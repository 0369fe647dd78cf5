use Rattle.std.proofs.Common.{◌≡◌, ap, ◌∙◌, arith}
use Rattle.nand_model.specs.declared.geometry.Geometry.{Geometry}
use Rattle.block_state.specs.declared.blocks.BlockEntry.{BlockEntry}
use Rattle.block_state.specs.Table.{Table}
use Rattle.block_state.specs.TableOf.{table}
use Rattle.block_state.specs.laws.Committed.{some_committed, fewest_fits}
use Rattle.flash_log.proofs.choice.victim.Goals as goal

pub returns-in_err-block-clause-none : goal.returns-in_err-block-clause-none
returns-in_err-block-clause-none c =
    let t : Table = table c.args.blocks.now in
    rw c.from_residual.ensures (λ spare scarce (most, leaves, has). some_committed t spare most has scarce c.in_err-block.ensures.none)

pub returns-else-committed-pages-clause-none : goal.returns-else-committed-pages-clause-none
returns-else-committed-pages-clause-none c = λ spare scarce (most, leaves, has).
    let t : Table = table c.args.blocks.now in
    let fits = fewest_fits t spare most c.in_ok-block.block has scarce c.in_ok-block.ensures.found in
    let committed : c.entry-committed.result.committed ≡ (t.entry c.in_ok-block.block).committed = ap (λ (e : BlockEntry). e.committed) c.entry-committed.ensures in
    let pages : c.pages.result ≡ t.geometry.pages = c.pages.ensures ∙ ap (λ (g : Geometry). g.pages) c.geometry.ensures in
    omega (arith, fits, committed, pages, leaves, c.if-committed-pages.false)
