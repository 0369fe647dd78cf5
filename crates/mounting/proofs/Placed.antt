-- Pages that lie as a scan finds them.
use Rattle.std.specs.Prelude.{◌≡◌, ℕ, Some}
use Rattle.std.proofs.Common.{refl, sym, ◌∙◌, subst}
use Rattle.nand_model.specs.Calls.{Device}
use Rattle.nand_model.specs.declared.nand.Nand.{Ghosts}
use Rattle.posix_profile.specs.State.{Objects}
use Rattle.flash_tree.specs.Mount.{Answers, IsTreeOf, sizes_of}
use Rattle.block_state.specs.Table.{Table}
use Rattle.chunk_index.specs.declared.index.Index.{Index}
use Rattle.chunk_index.specs.Maps.{CountsAgree, committed_pages}
use Rattle.page_store.specs.declared.flash_pages.FlashPages.{FlashPages}
use Rattle.mounting.specs.Mounted.{KeepsPlaces}
use Rattle.mounting.specs.Places.{ArePlaced, HasTables}

-- what is so of a table is so of the one that it is
pub of_table : (P : Table → Type 0) (t u v : Table) → u ≡ v → Some u ≡ Some t → P v → P t
of_table P t u v same is holds = let one : u ≡ t = cc in subst P (sym same ∙ one) holds

-- the pages of a tree whose tables these are
pub are_placed : {N : Type 0} {nand : Ghosts N} (d e : Device) (x : Index) (spare s : ℕ) (pages : FlashPages N nand) (objects : Objects) → e ≡ d → s ≡ spare → HasTables d.flash x pages
    → Answers d.geometry d.flash (IsTreeOf spare objects) → KeepsPlaces d.flash (sizes_of d.geometry spare) objects (committed_pages x) → ArePlaced e s pages
are_placed d e x spare s pages objects same spares tables answers places =
    let at : ArePlaced d spare pages = record {
      objects = objects;
      answers = answers;
      places = subst (λ (y : Index). KeepsPlaces d.flash (sizes_of d.geometry spare) objects (committed_pages y)) (sym tables.index) places;
      tables = record { index = refl; marks = tables.marks; counts = λ t is. subst (CountsAgree t) (sym tables.index) (tables.counts t is) };
    } in
    subst (λ (k : Device). ArePlaced k s pages) (sym same) (subst (λ (k : ℕ). ArePlaced d k pages) (sym spares) at)
