-- A mount finds the tree of a flash that a format left by whichever way it goes.
use Rattle.std.specs.Prelude.{ℕ}
use Rattle.nand_model.specs.Calls.{Device}
use Rattle.posix_profile.specs.State.{Objects}
use Rattle.flash_tree.specs.Sound.{IsSoundFlash}
use Rattle.formatting.specs.Formatting.{StartsTrue}
use Rattle.page_store.specs.Checked.{IsConsistent}

pub starts_consistent : (d : Device) (spare : ℕ) (tree : Objects) → StartsTrue d → IsSoundFlash d.geometry d.flash spare tree → IsConsistent d.geometry d.flash
starts_consistent d spare tree starts sound = record {
  truth = starts.checkpoints;
  mountable = ∣ starts.mountable ∣₁;
  spare = spare;
  objects = tree;
  volume = sound.volume;
  shows = sound.shows;
}
