-- What a device knows of its calls.
use Rattle.std.specs.Prelude.{◌≡◌, ◌≤◌, ◌<◌, ℕ, Bool, Some, List, length}
use Rattle.nand_model.specs.declared.geometry.Geometry.{Geometry}
use Rattle.port_nand.specs.Blocks.{bad_at, next_at}
use Rattle.port_nand.specs.Calls.{Call, is_gone, is_marked, next_page}
use Rattle.port_nand.specs.declared.block.Block.{Block}
use Rattle.port_nand.specs.declared.request.Request.{Request}
use Rattle.port_nand.specs.declared.request.Request.TheVariants as requests

-- whether the request to an open device is of a block and a page that it has
abbrev pub IsBelow : ℕ → ℕ → Request → Type 0
IsBelow blocks pages requests.Sizes = ⊥
IsBelow blocks pages (requests.IsMarked block) = block < blocks
IsBelow blocks pages (requests.ReadTag block page) = (block < blocks) × (page < pages)
IsBelow blocks pages (requests.ReadPage block page) = (block < blocks) × (page < pages)
IsBelow blocks pages (requests.LastTag block page) = (block < blocks) × (page < pages)
IsBelow blocks pages (requests.NextTag block page) = (block < blocks) × (page < pages)
IsBelow blocks pages (requests.Program block page) = (block < blocks) × (page < pages)
IsBelow blocks pages (requests.Erase block) = block < blocks
IsBelow blocks pages (requests.MarkBad block) = block < blocks

-- The marks, the next pages and whether power is gone are held as the calls say, of as many blocks as there are, and no next page is past the
-- last.
pub record Knows (geometry : Geometry) (blocks : List Block) (gone : Bool) (calls : List Call) : Type 0 where
  pub count : length blocks ≡ geometry.blocks
  pub bad : (b : ℕ) → bad_at blocks b ≡ is_marked calls b
  pub next : (b : ℕ) → next_at blocks b ≡ next_page calls b
  pub most : (b p : ℕ) → next_page calls b ≡ Some p → p ≤ geometry.pages
  pub power : gone ≡ is_gone calls
