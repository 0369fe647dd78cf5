-- The index of the pages that survive on a device, and why there is none.
use Rattle.std.specs.Prelude.{◌≡◌, ◌<◌, ◌^◌, ℕ, true, Some}
use Rattle.nand_model.specs.Calls.{Device}
use Rattle.nand_model.specs.Flash.{Flash}
use Rattle.nand_model.specs.declared.geometry.Geometry.{Geometry}
use Rattle.flash_tree.specs.Newest.{Spot}
use Rattle.chunk_index.specs.declared.form.CommittedPage.{CommittedPage}
use Rattle.chunk_index.specs.declared.index.Index.{Index}
use Rattle.chunk_index.specs.Maps.{committed_pages}
use Rattle.page_store.specs.Opened.{committed_at}
use Rattle.page_store.specs.declared.opening.OpenFault.{OpenFault}
use Rattle.page_store.specs.declared.opening.OpenFault.TheVariants as faults
use Rattle.surviving_pages.specs.Surviving.{IsNewestSurvivor}

-- each page that the index has lies on a device of these sizes
abbrev pub LiesOn : Geometry → Index → Type 0
LiesOn g x = (o c : ℕ) (k : CommittedPage) → committed_pages x o c ≡ Some k → (k.block < g.blocks) × (k.page < g.pages)

-- The index has exactly the newest surviving page of each key of a chunk that a tree may look up, with its place and version.
pub record HasSurvivors (flash : Flash) (x : Index) : Type 0 where
  pub each : (o c : ℕ) (s : Spot) → c < 2 ^ 32 → IsNewestSurvivor flash o c s → committed_pages x o c ≡ Some (committed_at s)
  pub only : (o c : ℕ) (k : CommittedPage) → committed_pages x o c ≡ Some k → (c < 2 ^ 32) × ((s : Spot) × IsNewestSurvivor flash o c s × (k ≡ committed_at s))

-- Why no pages were found: memory was refused, or the device is gone. Lost is never returned.
abbrev pub WhyNotFound : Device → OpenFault → Type 0
WhyNotFound device faults.NoMemory = Unit {0}
WhyNotFound device faults.Lost = ⊥
WhyNotFound device faults.Gone = device.gone ≡ true
