-- What the end of a volume leaves.
-- From: this project.
use Rattle.std.specs.Prelude.{◌≡◌, ◌⊎◌, ◌<◌, ◌≤◌, ℕ, true, false, None}
use Rattle.std.specs.FinMap as map
use Rattle.volume_terms.specs.Sizes.{Sizes}
use Rattle.posix_profile.specs.State.{Objects, State}
use Rattle.object_store.specs.Stores.{settled}
use Rattle.flash_tree.specs.Newest.{HasNewest}
use Rattle.flash_tree.specs.Tree.{InFootprint}
use Rattle.pages.specs.State.{PagesState}
use Rattle.pages.specs.Stores.{GoesOn, HasPage, bad_on}
use Rattle.paged_objects.specs.Ending.{HasEnded}
use Rattle.paged_objects.specs.Representing.{Shown}
use Rattle.posix_calls.specs.PageVolumes.{pages_of, is_read_only, is_stopped, IsVolumeOf}
use Rattle.posix_calls.specs.declared.page_volume.PageVolume.{PageVolume}

-- the first n descriptors are not open, and names keep the same objects
pub record IsClosed (n : ℕ) (s t : State) : Type 0 where
  pub closed : (fd : ℕ) → fd < n → map.get t.handles fd ≡ None
  pub settles : settled t.objects ≡ settled s.objects

-- a tree that a mount of the old pages shows is shown of the new ones, or this one is
abbrev pub ShowsOldOrNew : Sizes → (old new : PagesState) → Objects → Type 0
ShowsOldOrNew z old new committed = (tree : Objects) → Shown z old tree → Shown z new tree ⊎ Shown z new committed

-- The first n descriptors were closed in turn. The volume goes on, and represents a state in which they are; or it is stopped for its
-- reason. A mount shows the tree that it did, or what names keep of the objects. The device is left as it is.
pub record Closes {P : Type 0} (state : P → PagesState) (n : ℕ) (a b : PageVolume P) : Type 0 where
  pub goes_on : GoesOn (state (pages_of a)) (state (pages_of b))
  pub read_only : is_read_only b ≡ is_read_only a
  pub device : (state (pages_of b)).device ≡ (state (pages_of a)).device
  pub represents : is_stopped b ≡ false → (z : Sizes) (s : State) → IsVolumeOf state z s a → (t : State) × IsVolumeOf state z t b × IsClosed n s t
  pub tree : (z : Sizes) (s : State) → IsVolumeOf state z s a → ShowsOldOrNew z (state (pages_of a)) (state (pages_of b)) (settled s.objects)
  pub cause : is_stopped b ≡ true → (z : Sizes) (s : State) → IsVolumeOf state z s a → HasEnded (state (pages_of a)) (state (pages_of b))

-- The store is sound, with no more bad blocks than there are to spare; and on an honest device a key has a committed page exactly where it is
-- looked up to see the tree.
pub record KeepsOnly (z : Sizes) (p : PagesState) (tree : Objects) : Type 0 where
  pub sound : p.sound ≡ true
  pub within_limit : bad_on p.device ≤ p.spare
  pub all : p.device.honest ≡ true → (o c : ℕ) → InFootprint z (HasNewest p.device.flash) tree o c → HasPage p.committed o c
  pub only : p.device.honest ≡ true → (o c : ℕ) → HasPage p.committed o c → InFootprint z (HasNewest p.device.flash) tree o c

-- the volume can be written, and represents this state
abbrev pub CanWrite : {P : Type 0} → (P → PagesState) → Sizes → State → PageVolume P → Type 0
CanWrite state z s v = (is_read_only v ≡ false) × IsVolumeOf state z s v
