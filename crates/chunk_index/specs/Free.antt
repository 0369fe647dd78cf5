-- What an index and a table of blocks say of the blocks of a flash.
use Rattle.std.specs.Prelude.{◌≡◌, ◌<◌, ◌≤◌, ℕ, Some}
use Rattle.nand_model.specs.Flash.{Flash}
use Rattle.volume_terms.specs.Sizes.{Sizes}
use Rattle.posix_profile.specs.State.{Objects}
use Rattle.flash_tree.specs.Mount.{HasFree}
use Rattle.flash_tree.specs.Newest.{Spot, IsNewest, HasNewest}
use Rattle.flash_tree.specs.Tree.{InFootprint}
use Rattle.block_state.specs.Committed.{uncommitted_count}
use Rattle.block_state.specs.Table.{Table}
use Rattle.chunk_index.specs.declared.form.CommittedPage.{CommittedPage}
use Rattle.chunk_index.specs.declared.index.Index.{Index}
use Rattle.chunk_index.specs.Maps.{CommittedMap, committed_pages, CountsAgree}

-- each key that is looked up to see the objects is committed in the block where its newest page lies
abbrev pub KeepsTree : Flash → Sizes → Objects → CommittedMap → Type 0
KeepsTree flash z objects m = (o c : ℕ) (s : Spot) → InFootprint z (HasNewest flash) objects o c → IsNewest flash o c s → (p : CommittedPage) × (m o c ≡ Some p) × (p.block ≡ s.block)

-- the blocks of the table are marked as those of the flash
abbrev pub HasMarks : Flash → Table → Type 0
HasMarks flash t = (b : ℕ) → b < t.geometry.blocks → (t.entry b).bad ≡ flash.bad b

-- A table has the marks of a flash and the counts of an index, in which each key that is looked up to see the objects is committed in the block
-- where its newest page lies.
pub record KnowTree (t : Table) (x : Index) (flash : Flash) (z : Sizes) (objects : Objects) : Type 0 where
  pub counts : CountsAgree t x
  pub marks : HasMarks flash t
  pub tree : KeepsTree flash z objects (committed_pages x)

-- so many blocks as the table counts good ones without a committed page, or any number below that, are free
abbrev pub UncommittedAreFree : Table → Flash → Sizes → Objects → Type 0
UncommittedAreFree t flash z objects = (count : ℕ) → count ≤ uncommitted_count t → HasFree t.geometry flash z objects count
