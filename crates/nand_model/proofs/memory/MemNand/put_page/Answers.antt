use Rattle.std.proofs.Common.{◌≡◌, ◌∙◌, ap, sym, subst, refl, inl, inr, Some, None, ◌⊎◌, ℕ, List, get_or, ◌<◌, arith}
use Rattle.std.proofs.lemmas.Bool.{cases_eq}
use Rattle.nand_model.specs.Flash.{Page, Erased, Written, Uncorrectable}
use Rattle.nand_model.specs.Memory.{flash_of, next_at, page_of}
use Rattle.nand_model.specs.declared.nand.PageKind.{PageKind}
use Rattle.nand_model.specs.declared.nand.PageKind.TheVariants as kinds
use Rattle.nand_model.proofs.Whole.{whole_committed_pages, clean_erased, sized_programmed}
use Rattle.nand_model.proofs.memory.MemNand.put_page.Goals as goal

page_is : (kind : PageKind) (bytes tag : List ℕ) → (page_of kind bytes tag ≡ Erased) ⊎ (page_of kind bytes tag ≡ Written bytes tag) ⊎ (page_of kind bytes tag ≡ Uncorrectable)
page_is kinds.Erased bytes tag = inl refl
page_is kinds.Written bytes tag = inr (inl refl)
page_is kinds.Uncorrectable bytes tag = inr (inr refl)

pub invariant_of-self : goal.invariant_of-self
invariant_of-self c =
    let e = c.write_page.ensures in
    let old = c.args.self.now in
    let before = flash_of old.blocks.items in
    let new = c.write_page.new.blocks.items in
    let after = flash_of new in
    let b : ℕ = c.args.block in
    let p : ℕ = c.args.page in
    let bytes : List ℕ = c.args.bytes.now in
    let tag : List ℕ = c.args.tag.now in
    let page : (after.page b p ≡ Erased) ⊎ (after.page b p ≡ Written bytes tag) ⊎ (after.page b p ≡ Uncorrectable) =
    subst (λ (x : Page). (x ≡ Erased) ⊎ (x ≡ Written bytes tag) ⊎ (x ≡ Uncorrectable)) (sym e.here) (page_is c.args.kind bytes tag) in
    record {
      whole = whole_committed_pages old.geometry old.blocks.items new old.whole e.len e.lens e.sizes
          (clean_erased before after b e.others old.whole.clean (inl e.next) e.nexts)
          (λ k q is. elim (cases_eq k b) [
            | inr ne ↦ old.whole.next k q (sym (e.nexts k ne) ∙ is)
            | inl at ↦ let no : None ≡ Some q = sym e.next ∙ ap (next_at new) (sym at) ∙ is in absurd cc
          ])
          (sized_programmed before after b p e.block e.others old.geometry.bytes bytes tag old.whole.sized
          (record { len = c.requires.size; each = λ i. let fits : get_or bytes i 0 < 256 = omega (arith, c.type_inv.bytes i) in fits })
          (record { len = c.told-tag; each = c.fits-tag }) page);
    }
