-- The sizes of a device are those of a volume.
use mathlib.Core.Logic.{∥∥₁_elim}
use Rattle.std.specs.Prelude.{◌≤◌, ℕ, ◌+◌}
use Rattle.std.proofs.Common.{arith}
use Rattle.nand_model.specs.Size.{IsSize}
use Rattle.nand_model.specs.declared.geometry.Geometry.{Geometry}
use Rattle.volume_terms.specs.Sizes.{IsSizes}
use Rattle.volume_terms.specs.laws.Number.{one_of_four}
use Rattle.flash_tree.specs.Mount.{sizes_of}
use Rattle.flash_tree.specs.Tree.{IsPageSize}

-- so many spare blocks leave blocks enough
pub sizes_are : (g : Geometry) (spare : ℕ) → spare + 4 ≤ g.blocks → IsSizes (sizes_of g spare)
sizes_are g spare room = record {
  page_bytes = one_of_four g.bytes 512 1024 2048 4096 (λ none. ∥∥₁_elim g.sizes (λ x y. absurd x) (λ (size : IsSize g.bytes g.pages g.blocks). none size.bytes_of_page));
  block_pages = one_of_four g.pages 32 64 128 256 (λ none. ∥∥₁_elim g.sizes (λ x y. absurd x) (λ (size : IsSize g.bytes g.pages g.blocks). none size.pages_of_block));
  some_blocks = g.least_blocks;
  few_blocks = g.most_blocks;
  spare_blocks = room;
}

-- a device's pages can be filled by headers
pub is_page_size : (g : Geometry) → IsPageSize g.bytes
is_page_size g = record { least = omega (arith, g.least_bytes); most = g.most_bytes }
