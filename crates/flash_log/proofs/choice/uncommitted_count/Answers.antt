use Rattle.std.proofs.Common.{◌≡◌, ◌≤◌, ◌+◌, Some, sym, ap, ◌∙◌, arith}
use Rattle.block_state.specs.declared.blocks.BlockEntry.{BlockEntry}
use Rattle.block_state.specs.Committed.{free_count, is_uncommitted, uncommitted_count}
use Rattle.block_state.specs.Table.{Table}
use Rattle.block_state.specs.TableOf.{table}
use Rattle.block_state.specs.laws.Counting.{counts_most}
use Rattle.block_state.specs.laws.Committed.{free_where_uncommitted}
use Rattle.flash_log.proofs.choice.uncommitted_count.Goals as goal

pub entry-requires : goal.entry-requires
entry-requires c = (c.args.blocks.now.whole.open_block c.in-Some.block (sym c.in-Some.ensures)).within

pub overflow_add-result : goal.overflow_add-result
overflow_add-result c =
    let t : Table = table c.args.blocks.now in
    let opened : t.open_block ≡ Some c.in-Some.block = sym c.in-Some.ensures in
    let may = c.args.blocks.now.whole.open_block c.in-Some.block opened in
    let none : (t.entry c.in-Some.block).committed ≡ 0 = sym (ap (λ (e : BlockEntry). e.committed) c.entry.ensures) ∙ c.if-entry-eq0.true in
    let more : uncommitted_count t ≡ free_count t + 1 = free_where_uncommitted t c.in-Some.block opened may.within may.good none in
    let most : uncommitted_count t ≤ t.geometry.blocks = counts_most (is_uncommitted t) t.geometry.blocks in
    omega (arith, more, most, c.free_count-free.ensures, t.geometry.most_blocks)

pub returns-in-Some : goal.returns-in-Some
returns-in-Some c =
    let t : Table = table c.args.blocks.now in
    let opened : t.open_block ≡ Some c.in-Some.block = sym c.in-Some.ensures in
    let may = c.args.blocks.now.whole.open_block c.in-Some.block opened in
    let none : (t.entry c.in-Some.block).committed ≡ 0 = sym (ap (λ (e : BlockEntry). e.committed) c.entry.ensures) ∙ c.if-entry-eq0.true in
    let more : uncommitted_count t ≡ free_count t + 1 = free_where_uncommitted t c.in-Some.block opened may.within may.good none in
    omega (arith, more, c.free_count-free.ensures)
