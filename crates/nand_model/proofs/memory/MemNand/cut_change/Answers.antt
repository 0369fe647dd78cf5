use Rattle.std.proofs.Common.{ℕ, ◌≡◌, Some, None, inl, inr, sym, ◌∙◌, ap, length}
use Rattle.std.proofs.lemmas.Bool.{cases_eq}
use Rattle.nand_model.specs.Memory.{flash_of, next_at, size_at, view_at}
use Rattle.nand_model.proofs.Whole.{whole_committed_pages, clean_committed, sized_committed}
use Rattle.nand_model.proofs.memory.MemNand.cut_change.Goals as goal

pub invariant_of-self : goal.invariant_of-self
invariant_of-self c =
    let e = c.clear_next.ensures in
    let old = c.args.self.now in
    let b : ℕ = c.args.block in
    let blocks = c.clear_next.new.blocks.items in
    let pages = λ (k l : ℕ). ap (λ ps. view_at ps l) (e.pages k) in
    let nexts : (k p : ℕ) → next_at blocks k ≡ Some p → next_at old.blocks.items k ≡ Some p = λ k p is. elim (cases_eq k b) [
      | inl at ↦ let no : None ≡ Some p = sym e.next ∙ ap (next_at blocks) (sym at) ∙ is in absurd cc
      | inr ne ↦ sym (e.nexts k ne) ∙ is
    ] in
    record {
      whole = whole_committed_pages old.geometry old.blocks.items blocks old.whole e.len (λ k. ap length (e.pages k)) (λ k l. ap (λ ps. size_at ps l) (e.pages k))
          (clean_committed (flash_of old.blocks.items) (flash_of blocks) pages nexts old.whole.clean)
          (λ k p is. old.whole.next k p (nexts k p is))
          (sized_committed old.geometry.bytes (flash_of old.blocks.items) (flash_of blocks) pages old.whole.sized);
    }
