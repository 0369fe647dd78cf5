use Rattle.std.proofs.Common.{sym, ◌∙◌}
use Rattle.nand_model.specs.Memory.{flash_of}
use Rattle.nand_model.proofs.Whole.{whole_committed_pages, clean_committed, sized_committed}
use Rattle.nand_model.proofs.memory.MemNand.copy.Goals as goal

pub invariant_of-result : goal.invariant_of-result
invariant_of-result c =
    let e = c.in_ok-blocks.ensures in
    let old = c.args.self.now in
    let blocks = c.in_ok-blocks.blocks.items in
    record {
      whole = whole_committed_pages old.geometry old.blocks.items blocks old.whole e.len e.lens e.sizes
          (clean_committed (flash_of old.blocks.items) (flash_of blocks) e.views (λ b p is. sym (e.nexts b) ∙ is) old.whole.clean)
          (λ b p is. old.whole.next b p (sym (e.nexts b) ∙ is))
          (sized_committed old.geometry.bytes (flash_of old.blocks.items) (flash_of blocks) e.views old.whole.sized);
    }
