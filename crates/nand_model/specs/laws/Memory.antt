-- What the sizes of blocks in memory say of the flash that they represent.
use Rattle.std.specs.Prelude.{◌≡◌, ◌≤◌, ℕ, zero, suc, List, [], ◌∷◌, length, slice_get}
use Rattle.std.specs.Option.{option_map_or}
use Rattle.std.proofs.Common.{refl, ap, inl, inr, arith}
use Rattle.std.proofs.lemmas.Bool.{cases_lt}
use Rattle.nand_model.specs.Flash.{IsWithin, Erased}
use Rattle.nand_model.specs.Memory.{IsWhole, flash_of, view_at, pages_at}
use Rattle.nand_model.specs.declared.geometry.Geometry.{Geometry}
use Rattle.nand_model.specs.declared.block.MemPage.{MemPage}
use Rattle.nand_model.specs.declared.block.MemBlock.{MemBlock}

-- nothing lies past the end
pub map_or_past : {X Y : Type 0} (f : X → Y) (d : Y) (xs : List X) (k : ℕ) → length xs ≤ k → option_map_or f (slice_get xs k) d ≡ d
map_or_past f d [] k h = refl
map_or_past f d (x ∷ xs) zero h = absurd (omega arith)
map_or_past f d (x ∷ xs) (suc k) h = map_or_past f d xs k (omega arith)

pub view_at_past : (pages : List MemPage) (k : ℕ) → length pages ≤ k → view_at pages k ≡ Erased
view_at_past pages k le = map_or_past _ _ pages k le

pub within_of : (geometry : Geometry) (blocks : List MemBlock) → IsWhole geometry blocks → IsWithin geometry.pages geometry.blocks (flash_of blocks)
within_of geometry blocks whole = record {
  bad = λ b le. map_or_past _ _ blocks b (omega (arith, whole.count));
  next = λ b le. map_or_past _ _ blocks b (omega (arith, whole.count));
  block = λ b p le. ap (λ (ps : List MemPage). view_at ps p) (map_or_past _ _ blocks b (omega (arith, whole.count)));
  page = λ b p le. elim (cases_lt b geometry.blocks) [
    | inl lt ↦ view_at_past (pages_at blocks b) p (omega (arith, whole.pages b lt))
    | inr ge ↦ ap (λ (ps : List MemPage). view_at ps p) (map_or_past _ _ blocks b (omega (arith, whole.count)))
  ];
  next_page = whole.next;
}
