use Rattle.std.proofs.Common.{◌≡◌, ◌∙◌, ap, sym, subst, inl, inr, Some, None, ◌⊎◌, ◌+◌, ◌<◌, ℕ, List, get_or, arith}
use Rattle.std.proofs.lemmas.Bool.{cases_eq}
use Rattle.nand_model.specs.Flash.{Page, Erased, Written, Uncorrectable}
use Rattle.nand_model.specs.Memory.{flash_of, next_at, view_at, pages_at}
use Rattle.nand_model.proofs.Whole.{whole_committed_pages, clean_programmed, sized_programmed, programmed_is}
use Rattle.nand_model.proofs.memory.MemNandNand.program.Goals as goal
use Rattle.nand_model.proofs.memory.MemNandNand.program.Goals.{then-eq, else-eq}

pub invariant_of-self-2 : goal.invariant_of-self-2
invariant_of-self-2 c =
    let e = c.write_page.ensures in
    let old = c.args.self.now in
    let before = flash_of old.blocks.items in
    let new = c.write_page.new.blocks.items in
    let after = flash_of new in
    let b : ℕ = c.args.block in
    let p : ℕ = c.args.page in
    let bytes : List ℕ = c.args.bytes.now in
    let tag : List ℕ = c.args.tag.now in
    let next : (next_at new b ≡ None) ⊎ (next_at new b ≡ Some (p + 1)) = elim c.if-eq.branch [ then-eq w ↦ inr (e.next ∙ w.next-is) | else-eq w ↦ inl (e.next ∙ w.next-is) ] in
    let here : view_at (pages_at new b) p ≡ _ = e.here ∙ c.kind_after_program-kind.ensures bytes tag in
    let page : (after.page b p ≡ Erased) ⊎ (after.page b p ≡ Written bytes tag) ⊎ (after.page b p ≡ Uncorrectable) =
    subst (λ (x : Page). (x ≡ Erased) ⊎ (x ≡ Written bytes tag) ⊎ (x ≡ Uncorrectable)) (sym here) (programmed_is c.begin_change-end.result c.fates-fates.result.now bytes tag) in
    record {
      whole = whole_committed_pages old.geometry old.blocks.items new old.whole e.len e.lens e.sizes
          (clean_programmed before after b p e.block e.others old.whole.clean c.requires.next next e.nexts)
          (λ k q is. elim (cases_eq k b) [
            | inr ne ↦ old.whole.next k q (sym (e.nexts k ne) ∙ is)
            | inl at ↦ let mine : next_at new b ≡ Some q = ap (next_at new) (sym at) ∙ is in
                elim next [
                  | inl none ↦ let no : None ≡ Some q = sym none ∙ mine in absurd cc
                  | inr some ↦ let one : Some (p + 1) ≡ Some q = sym some ∙ mine in let is_next : p + 1 ≡ q = cc in let lt = c.requires.page in omega arith
                ]
          ])
          (sized_programmed before after b p e.block e.others old.geometry.bytes bytes tag old.whole.sized
          (record { len = c.requires.size; each = λ i. let fits : get_or bytes i 0 < 256 = omega (arith, c.type_inv.bytes i) in fits })
          (record { len = c.told-tag; each = c.fits-tag }) page);
    }
