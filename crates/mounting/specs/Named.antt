-- A tree that was gone through, on a device that is trusted or not.
-- From: this project.
use Rattle.std.specs.Prelude.{◌≡◌, Bool, true, false}
use Rattle.nand_model.specs.Calls.{Device}
use Rattle.nand_model.specs.Changes.{OnlyReads}
use Rattle.flash_tree.specs.Places.{numbers_of}
use Rattle.block_state.specs.TableOf.{table}
use Rattle.page_store.specs.Checked.{HasTrueFlash}
use Rattle.nand_model.specs.Trusting.{trusted_as}
use Rattle.mounting.specs.Mounted.{IsTreeRead, CoversNewest}
use Rattle.mounting.specs.declared.tree_on.NamedTree.{NamedTree}

-- the index has the hashes of the tree's names
abbrev pub CoversNamed : {N : Type 0} → Device → NamedTree N → Type 0
CoversNamed device named = CoversNewest named.names device named.on.spare named.on.tree

-- the pages of the tree are committed, and the index has the hashes of its names
pub record IsNamedTree {N : Type 0} (device : Device) (named : NamedTree N) : Type 0 where
  pub tree : IsTreeRead device (table named.on.blocks) named.on.index (numbers_of named.on.numbers) named.on.spare named.on.tree
  pub names : device.honest ≡ true → CoversNamed device named

-- The device was only read, and has power if it had it; it is seen as it is trusted.
pub record IsReadAs (reported : Bool) (old new seen : Device) : Type 0 where
  pub reads : OnlyReads old new
  pub power : old.gone ≡ false → new.gone ≡ false
  pub seen_is : seen ≡ trusted_as reported new

-- The device was only read, and is trusted or not; it is, if its flash was true.
pub record IsTrustedSince (old new seen : Device) : Type 0 where
  pub reported : Bool
  pub read : IsReadAs reported old new seen
  pub trusted : HasTrueFlash old → reported ≡ true
