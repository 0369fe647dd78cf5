use Rattle.std.proofs.Common.{sym, ◌∙◌, ap, length}
use Rattle.nand_model.specs.Memory.{flash_of, size_at, view_at}
use Rattle.nand_model.proofs.Whole.{whole_committed_pages, clean_committed, sized_committed}
use Rattle.nand_model.proofs.memory.MemNand.put_mark.Goals as goal

pub invariant_of-self : goal.invariant_of-self
invariant_of-self c =
    let e = c.mark_block.ensures in
    let old = c.args.self.now in
    let blocks = c.mark_block.new.blocks.items in
    let pages = λ (b l : _). ap (λ ps. view_at ps l) (e.pages b) in
    record {
      whole = whole_committed_pages old.geometry old.blocks.items blocks old.whole e.len (λ k. ap length (e.pages k)) (λ k l. ap (λ ps. size_at ps l) (e.pages k))
          (clean_committed (flash_of old.blocks.items) (flash_of blocks) pages (λ b p is. sym (e.next b) ∙ is) old.whole.clean)
          (λ b p is. old.whole.next b p (sym (e.next b) ∙ is))
          (sized_committed old.geometry.bytes (flash_of old.blocks.items) (flash_of blocks) pages old.whole.sized);
    }
