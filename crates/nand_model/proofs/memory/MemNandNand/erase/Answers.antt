use Rattle.std.proofs.Common.{◌≡◌, ◌∙◌, ap, sym, inl, inr, Some, None, ◌⊎◌, ℕ, rules, arith}
use Rattle.std.proofs.lemmas.Bool.{cases_eq}
use Rattle.nand_model.specs.Flash.{Page, Erased}
use Rattle.nand_model.specs.Calls.{EraseLeaves}
use Rattle.nand_model.specs.Plans.{erase_result}
use Rattle.nand_model.specs.Memory.{flash_of, next_at, view_at, pages_at}
use Rattle.nand_model.specs.declared.plan.End.{End}
use Rattle.nand_model.specs.declared.plan.End.TheVariants as ends
use Rattle.nand_model.proofs.Whole.{whole_committed_pages, clean_erased, sized_erased, leaves_any}
use Rattle.nand_model.proofs.memory.MemNandNand.erase.Goals as goal
use Rattle.nand_model.proofs.memory.MemNandNand.erase.Goals.{then-eq, else-eq}

all_erased : (end : End) (old new : Page) → end ≡ ends.Whole → EraseLeaves (erase_result end) old new → new ≡ Erased
all_erased ends.Whole old new is leaves = leaves
all_erased ends.Failed old new is leaves = absurd cc
all_erased ends.Cut old new is leaves = absurd cc

pub invariant_of-self-2 : goal.invariant_of-self-2
invariant_of-self-2 c =
    let e = c.erase_block.ensures in
    let old = c.args.self.now in
    let before = flash_of old.blocks.items in
    let new = c.erase_block.new.blocks.items in
    let after = flash_of new in
    let b : ℕ = c.args.block in
    let end : End = c.begin_change-end.result in
    let next : (next_at new b ≡ None) ⊎ ((next_at new b ≡ Some 0) × ((l : ℕ) → view_at (pages_at new b) l ≡ Erased)) =
    elim c.if-eq.branch [
      | then-eq w ↦ let whole : end ≡ ends.Whole = search rules in inr (e.next ∙ w.next-is, λ l. all_erased end _ _ whole (e.leaves l))
      | else-eq w ↦ inl (e.next ∙ w.next-is)
    ] in
    let clean_next : (next_at new b ≡ None) ⊎ ((l : ℕ) → view_at (pages_at new b) l ≡ Erased) = elim next [ inl none ↦ inl none | inr some ↦ inr some.1 ] in
    record {
      whole = whole_committed_pages old.geometry old.blocks.items new old.whole e.len e.lens e.sizes
          (clean_erased before after b e.others old.whole.clean clean_next e.nexts)
          (λ k q is. elim (cases_eq k b) [
            | inr ne ↦ old.whole.next k q (sym (e.nexts k ne) ∙ is)
            | inl at ↦ let mine : next_at new b ≡ Some q = ap (next_at new) (sym at) ∙ is in
                elim next [
                  | inl none ↦ let no : None ≡ Some q = sym none ∙ mine in absurd cc
                  | inr some ↦ let one : Some 0 ≡ Some q = sym some.0 ∙ mine in let is_first : 0 ≡ q = cc in omega arith
                ]
          ])
          (sized_erased before after b e.others old.geometry.bytes old.whole.sized (λ l. leaves_any end _ _ (e.leaves l)));
    }
