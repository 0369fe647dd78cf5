-- The newest page of each key, as a map.
use Rattle.std.specs.Prelude.{◌≡◌, ◌<◌, ℕ, true, List, Option, Some, IsSome, Contains}
use Rattle.std.specs.BTreeMap.{BTreeMap, get}
use Rattle.std.specs.declared.cmp.Ordering.{Ordering}
use Rattle.std.specs.Ordering.{nat_cmp, ordering_then}
use Rattle.nand_model.specs.Flash.{Flash}
use Rattle.nand_model.specs.Calls.{Device}
use Rattle.flash_tree.specs.Newest.{Spot, IsAfter, IsNewest}
use Rattle.flash_tree.specs.declared.place.Found.{Found}
use Rattle.flash_tree.specs.Places.{spot_of}

-- pages by their keys
abbrev pub KeyMap : Type 0
KeyMap = BTreeMap (ℕ × ℕ) Found

-- the order of keys: by the object, then by the chunk
abbrev pub key_cmp : ℕ × ℕ → ℕ × ℕ → Ordering
key_cmp k l = ordering_then (nat_cmp k.0 l.0) (nat_cmp k.1 l.1)

-- the page that a map has for chunk c of object o
abbrev pub page_of : KeyMap → ℕ → ℕ → Option Found
page_of m o c = get key_cmp m (o, c)

-- The map has a page for exactly the keys of the pages of a list: one of these, which none of them of its key comes after.
pub record AreLatestOf (list : List Found) (m : KeyMap) : Type 0 where
  pub among : (o c : ℕ) (f : Found) → page_of m o c ≡ Some f → Contains list f × (f.tag.object ≡ o) × (f.tag.chunk ≡ c)
  pub last : (o c : ℕ) (f g : Found) → page_of m o c ≡ Some f → Contains list g → g.tag.object ≡ o → g.tag.chunk ≡ c → IsAfter (spot_of g) (spot_of f) → ⊥
  pub some : (g : Found) → Contains list g → IsSome (page_of m g.tag.object g.tag.chunk)

-- exactly the newest page of each key that has one
pub record HasEachNewest (flash : Flash) (m : KeyMap) : Type 0 where
  pub only : (o c : ℕ) (f : Found) → page_of m o c ≡ Some f → IsNewest flash o c (spot_of f)
  pub each : (o c : ℕ) (s : Spot) → IsNewest flash o c s → (f : Found) × (page_of m o c ≡ Some f) × (spot_of f ≡ s)

-- What is reported of the newest pages: of each device places on it, and of an honest one exactly the newest page of each key.
pub record ReportsNewest (device : Device) (m : KeyMap) : Type 0 where
  pub placed : (o c : ℕ) (f : Found) → page_of m o c ≡ Some f → (f.block < device.geometry.blocks) × (f.page < device.geometry.pages)
  pub exact : device.honest ≡ true → HasEachNewest device.flash m
