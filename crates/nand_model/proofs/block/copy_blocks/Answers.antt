use Rattle.std.proofs.Common.{◌≡◌, ◌<◌, ◌≤◌, ℕ, ◌++◌, List, [], ◌∷◌, length, None, Some, false, below_more, ap, sym, ◌∙◌, arith}
use Rattle.std.specs.Prelude.{slice_get}
use Rattle.std.specs.Option.{option_map_or}
use Rattle.std.proofs.lemmas.Grind.{common_steps}
use Rattle.std.proofs.lemmas.Option.{gets}
use Rattle.nand_model.specs.declared.block.MemBlock.{MemBlock}
use Rattle.nand_model.specs.Memory.{view_at, size_at, pages_at, bad_at, next_at}
use Rattle.nand_model.proofs.Slots.{map_or_push_old, map_or_push_new, everywhere}
use Rattle.nand_model.specs.laws.Memory.{map_or_past}
use Rattle.nand_model.proofs.block.copy_blocks.Goals as goal

pub loop-block-preserved : goal.loop-block-preserved
loop-block-preserved c =
    let inv = c.loop-block.invariant in
    let e = c.in_ok-pages.ensures in
    let copy : List MemBlock = c.loop-block.copy.items in
    let idx : ℕ = c.loop-block.block-index in
    let block : MemBlock = c.block-item.result in
    let made : MemBlock = record { bad = block.bad; next = block.next; pages = c.in_ok-pages.pages } in
    let items : c.push.new.self.items ≡ copy ++ made ∷ [] = c.in_ok-push.ensures.items in
    let there : slice_get c.args.blocks.now.items idx ≡ Some block = grind (arith, common_steps, gets) in
    let pages_old : (k : ℕ) → k < idx → pages_at c.push.new.self.items k ≡ pages_at copy k =
    λ k lt. ap (λ xs. pages_at xs k) items ∙ map_or_push_old (λ x. x.pages.items) [] copy made k (omega arith) in
    let pages_new : pages_at c.push.new.self.items idx ≡ c.in_ok-pages.pages.items =
    ap (λ xs. pages_at xs idx) items ∙ map_or_push_new (λ x. x.pages.items) [] copy made idx (sym inv.len) in
    let pages_there : pages_at c.args.blocks.now.items idx ≡ block.pages.items = ap (λ o. option_map_or (λ (x : MemBlock). x.pages.items) o []) there in
    record {
      len = grind (arith, common_steps);
      lens = below_more _ _ (λ k lt. ap length (pages_old k lt) ∙ inv.lens k lt) (ap length pages_new ∙ e.len ∙ ap length (sym pages_there));
      sizes = λ k p. below_more (λ k. size_at (pages_at c.push.new.self.items k) p ≡ size_at (pages_at c.args.blocks.now.items k) p) _
          (λ k lt. ap (λ ps. size_at ps p) (pages_old k lt) ∙ inv.sizes k p lt)
          (ap (λ ps. size_at ps p) pages_new ∙ e.sizes p ∙ ap (λ ps. size_at ps p) (sym pages_there)) k;
      views = λ k p. below_more (λ k. view_at (pages_at c.push.new.self.items k) p ≡ view_at (pages_at c.args.blocks.now.items k) p) _
          (λ k lt. ap (λ ps. view_at ps p) (pages_old k lt) ∙ inv.views k p lt)
          (ap (λ ps. view_at ps p) pages_new ∙ e.views p ∙ ap (λ ps. view_at ps p) (sym pages_there)) k;
      bads = below_more _ _
          (λ k lt. ap (λ xs. bad_at xs k) items ∙ map_or_push_old (λ x. x.bad) false copy made k (omega arith) ∙ inv.bads k lt)
          (ap (λ xs. bad_at xs idx) items ∙ map_or_push_new (λ x. x.bad) false copy made idx (sym inv.len) ∙ sym (ap (λ o. option_map_or (λ (x : MemBlock). x.bad) o false) there));
      nexts = below_more _ _
          (λ k lt. ap (λ xs. next_at xs k) items ∙ map_or_push_old (λ x. x.next) None copy made k (omega arith) ∙ inv.nexts k lt)
          (ap (λ xs. next_at xs idx) items ∙ map_or_push_new (λ x. x.next) None copy made idx (sym inv.len) ∙ sym (ap (λ o. option_map_or (λ (x : MemBlock). x.next) o None) there));
    }

-- past the end both have nothing
ends_alike : (xs ys : List MemBlock) (n : ℕ) → length xs ≡ n → length ys ≡ n → (k : ℕ) → n ≤ k → pages_at xs k ≡ pages_at ys k
ends_alike xs ys n is is' k le = map_or_past _ _ xs k (omega arith) ∙ sym (map_or_past _ _ ys k (omega arith))

pub returns-clause-lens : goal.returns-clause-lens
returns-clause-lens c = everywhere _ c.loop-block.block-index c.loop-block.invariant.lens
    (λ k le. ap length (ends_alike _ _ _ c.loop-block.invariant.len (omega arith) k le))

pub returns-clause-sizes : goal.returns-clause-sizes
returns-clause-sizes c = everywhere _ c.loop-block.block-index (λ k lt p. c.loop-block.invariant.sizes k p lt)
    (λ k le p. ap (λ ps. size_at ps p) (ends_alike _ _ _ c.loop-block.invariant.len (omega arith) k le))

pub returns-clause-views : goal.returns-clause-views
returns-clause-views c = everywhere _ c.loop-block.block-index (λ k lt p. c.loop-block.invariant.views k p lt)
    (λ k le p. ap (λ ps. view_at ps p) (ends_alike _ _ _ c.loop-block.invariant.len (omega arith) k le))

pub returns-clause-bads : goal.returns-clause-bads
returns-clause-bads c = everywhere _ c.loop-block.block-index c.loop-block.invariant.bads
    (λ k le. map_or_past _ _ c.loop-block.copy.items k (omega arith) ∙ sym (map_or_past _ _ c.args.blocks.now.items k (omega arith)))

pub returns-clause-nexts : goal.returns-clause-nexts
returns-clause-nexts c = everywhere _ c.loop-block.block-index c.loop-block.invariant.nexts
    (λ k le. map_or_past _ _ c.loop-block.copy.items k (omega arith) ∙ sym (map_or_past _ _ c.args.blocks.now.items k (omega arith)))
