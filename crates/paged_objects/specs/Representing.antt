-- Which objects a store of pages holds, and which tree its device keeps for a mount.
use Rattle.std.specs.Prelude.{◌≡◌, true}
use Rattle.flash_tree.specs.Mount.{sizes_of}
use Rattle.volume_terms.specs.Sizes.{Sizes, buffer_pages}
use Rattle.posix_profile.specs.State.{Objects}
use Rattle.object_store.specs.Stores.{settled}
use Rattle.pages.specs.Maps.{PageMap}
use Rattle.pages.specs.State.{PagesState}
use Rattle.pages.specs.Stores.{SamePages, FindsSince, IsCarried}
use Rattle.paged_objects.specs.Holding.{HoldsObjects}
use Rattle.object_store.specs.Stores.{CanHave}

-- the numbers of the volume on a store's device
abbrev pub volume_of : PagesState → Sizes
volume_of p = sizes_of p.device.geometry p.spare

-- The tree is that of some pages which hold objects of a volume: those of them that names keep. An honest device has these
-- pages, and where the store is sound they are the ones that it committed last; and a mount by summaries finds them, where one could go by the
-- flash with which the store began.
pub record Shown (z : Sizes) (p : PagesState) (tree : Objects) : Type 0 where
  pub pages : PageMap
  pub objects : Objects
  pub sizes : volume_of p ≡ z
  pub carried : p.device.honest ≡ true → IsCarried p.device p.spare pages
  pub committed : p.sound ≡ true → SamePages p.committed pages
  pub found : FindsSince p pages
  pub holds : HoldsObjects z pages objects
  pub can : CanHave z objects
  pub settles : tree ≡ settled objects

-- A sound store holds these objects. It has the sizes of the volume, and takes as many pages at once as its buffer has. A mount
-- would show some tree of it.
pub record PagesRepresent (z : Sizes) (p : PagesState) (objects : Objects) : Type 0 where
  pub sound : p.sound ≡ true
  pub sizes : volume_of p ≡ z
  pub page_bytes : p.page_bytes ≡ z.page_bytes
  pub most : p.most ≡ buffer_pages z
  pub holds : HoldsObjects z p.present objects
  pub shown : (tree : Objects) × Shown z p tree
