use Rattle.std.proofs.Common.{ℕ, ◌≡◌, None, Some, sym, ◌∙◌, ap, length}
use Rattle.nand_model.specs.Memory.{flash_of, size_at, view_at}
use Rattle.nand_model.proofs.Whole.{whole_committed_pages, clean_committed, sized_committed}
use Rattle.nand_model.proofs.memory.MemNand.power_up.Goals as goal

pub invariant_of-self : goal.invariant_of-self
invariant_of-self c =
    let e = c.clear_nexts.ensures in
    let old = c.args.self.now in
    let blocks = c.clear_nexts.new.blocks.items in
    let pages = λ (b l : ℕ). ap (λ ps. view_at ps l) (e.pages b) in
    let none = λ (b p : ℕ) (is : (flash_of blocks).next b ≡ Some p). let no : None ≡ Some p = sym (e.next b) ∙ is in no in
    record {
      whole = whole_committed_pages old.geometry old.blocks.items blocks old.whole e.len (λ k. ap length (e.pages k)) (λ k l. ap (λ ps. size_at ps l) (e.pages k))
          (clean_committed (flash_of old.blocks.items) (flash_of blocks) pages (λ b p is. let no = none b p is in cc) old.whole.clean)
          (λ b p is. let no = none b p is in absurd cc)
          (sized_committed old.geometry.bytes (flash_of old.blocks.items) (flash_of blocks) pages old.whole.sized);
    }
