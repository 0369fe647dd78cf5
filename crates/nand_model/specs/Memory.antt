-- What the blocks of a device in memory represent.
use Rattle.std.specs.Prelude.{◌≡◌, ◌<◌, ◌≤◌, ℕ, Bool, false, Option, Some, None, List, length, slice_get, []}
use Rattle.std.specs.Option.{option_map_or}
use Rattle.nand_model.specs.Flash.{Flash, Page, Erased, Written, Uncorrectable, IsClean, IsSized}
use Rattle.nand_model.specs.declared.geometry.Geometry.{Geometry}
use Rattle.nand_model.specs.declared.nand.PageKind.{PageKind}
use Rattle.nand_model.specs.declared.nand.PageKind.TheVariants as kinds
use Rattle.nand_model.specs.declared.block.MemPage.{MemPage}
use Rattle.nand_model.specs.declared.block.MemBlock.{MemBlock}

-- the page of this kind; data and tag represent nothing where it isn't written
abbrev pub page_of : PageKind → List ℕ → List ℕ → Page
page_of kinds.Erased bytes tag = Erased
page_of kinds.Written bytes tag = Written bytes tag
page_of kinds.Uncorrectable bytes tag = Uncorrectable

-- the page at a place of a block
abbrev pub view_at : List MemPage → ℕ → Page
view_at pages p = option_map_or (λ m. page_of m.kind m.bytes.items m.tag) (slice_get pages p) Erased

-- how many bytes the page there has room for
abbrev pub size_at : List MemPage → ℕ → ℕ
size_at pages p = option_map_or (λ m. length m.bytes.items) (slice_get pages p) 0

abbrev pub pages_at : List MemBlock → ℕ → List MemPage
pages_at blocks b = option_map_or (λ x. x.pages.items) (slice_get blocks b) []

abbrev pub bad_at : List MemBlock → ℕ → Bool
bad_at blocks b = option_map_or (λ x. x.bad) (slice_get blocks b) false

abbrev pub next_at : List MemBlock → ℕ → Option ℕ
next_at blocks b = option_map_or (λ x. x.next) (slice_get blocks b) None

abbrev pub flash_of : List MemBlock → Flash
flash_of blocks = record { bad = bad_at blocks; next = next_at blocks; page = λ b p. view_at (pages_at blocks b) p }

-- the blocks have these sizes, what can be programmed next is erased, and what is written has a page's bytes
pub record IsWhole (geometry : Geometry) (blocks : List MemBlock) : Type 0 where
  pub count : length blocks ≡ geometry.blocks
  pub pages : (b : ℕ) → b < geometry.blocks → length (pages_at blocks b) ≡ geometry.pages
  pub bytes : (b p : ℕ) → b < geometry.blocks → p < geometry.pages → size_at (pages_at blocks b) p ≡ geometry.bytes
  pub clean : IsClean (flash_of blocks)
  pub next : (b p : ℕ) → next_at blocks b ≡ Some p → p ≤ geometry.pages
  pub sized : IsSized geometry.bytes (flash_of blocks)
