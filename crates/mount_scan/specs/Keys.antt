-- The pages of one key among others.
use Rattle.std.specs.Prelude.{◌≡◌, ◌⊎◌, ◌↔◌, ◌<◌, ◌≤◌, ℕ, ◌+◌, List, Some, length, take, slice_get, slice_index_or, Contains}
use Rattle.std.specs.List.{AllPairs}
use Rattle.flash_tree.specs.Newest.{IsAfter}
use Rattle.mount_scan.specs.declared.page_copy.PageCopy.{PageCopy}
use Rattle.flash_tree.specs.declared.place.Found.{Found}
use Rattle.mount_scan.specs.Copies.{FitsCopy, copy_of, spot_of_copy, IsKeyBefore}

-- what pages are sorted by: the key, and then what orders the pages of one key
abbrev pub rank_of : PageCopy → ℕ × ℕ × ℕ × ℕ × ℕ × ℕ
rank_of f = (f.object, f.chunk, f.version, f.seq, f.page, f.block)

-- the pages are of one key
abbrev pub HaveOneKey : PageCopy → PageCopy → Type 0
HaveOneKey f g = (f.object ≡ g.object) × (f.chunk ≡ g.chunk)

-- no key is at two places of the list
abbrev pub HasEachKeyOnce : List PageCopy → Type 0
HasEachKeyOnce list = (i j : ℕ) (x y : PageCopy) → slice_get list i ≡ Some x → slice_get list j ≡ Some y → HaveOneKey x y → i ≡ j

-- the pages are of two keys
abbrev pub HaveOtherKeys : PageCopy → PageCopy → Type 0
HaveOtherKeys f g = HaveOneKey f g → ⊥

-- f is sorted before g: by key, and within one key f does not come after g
abbrev pub IsSortedBefore : PageCopy → PageCopy → Type 0
IsSortedBefore f g = IsKeyBefore f g ⊎ (HaveOneKey f g × (IsAfter (spot_of_copy f) (spot_of_copy g) → ⊥))

-- the next page of the list, if any, has another key
abbrev pub IsLastAt : List PageCopy → ℕ → Type 0
IsLastAt list k = (f g : PageCopy) → slice_get list k ≡ Some f → slice_get list (k + 1) ≡ Some g → HaveOneKey f g → ⊥

-- one of the first p pages of a list, and the next has another key
pub record IsLastOfKey (list : List PageCopy) (p : ℕ) (f : PageCopy) : Type 0 where
  pub index : ℕ
  pub before : index < p
  pub here : slice_get list index ≡ Some f
  pub last : IsLastAt list index

-- of the first p pages those whose next has another key, in the order of keys
pub record AreLastOfKeys (list : List PageCopy) (p : ℕ) (committed : List PageCopy) : Type 0 where
  pub each : (f : PageCopy) → Contains committed f ↔ IsLastOfKey list p f
  pub order : AllPairs IsKeyBefore committed

-- Of the first p pages of a list the last ones of the keys are in front in another, whose other pages from p on are
-- those of the first.
pub record Gathers (first : List PageCopy) (p : ℕ) (list : List PageCopy) (committed : ℕ) : Type 0 where
  pub len : length list ≡ length first
  pub front : committed ≤ p
  pub last : AreLastOfKeys first p (take committed list)
  pub rest : (k : ℕ) (d : PageCopy) → p ≤ k → slice_index_or list k d ≡ slice_index_or first k d

-- of the pages of each key the one that none comes after, so that each key is there once
pub record AreLatest (list committed : List PageCopy) : Type 0 where
  pub among : (f : PageCopy) → Contains committed f → Contains list f
  pub last : (f g : PageCopy) → Contains committed f → Contains list g → HaveOneKey g f → IsAfter (spot_of_copy g) (spot_of_copy f) → ⊥
  pub some : (g : PageCopy) → Contains list g → (f : PageCopy) × Contains committed f × HaveOneKey f g
  pub order : AllPairs HaveOtherKeys committed

-- Some pages were added, and others went that are not the newest of their keys: what is left is from both, and has for each page a
-- page of its key that it does not come after.
pub record Thins (added old new : List PageCopy) : Type 0 where
  pub among : (f : PageCopy) → Contains new f → Contains old f ⊎ Contains added f
  pub some : (g : PageCopy) → Contains old g ⊎ Contains added g → (f : PageCopy) × Contains new f × HaveOneKey f g × (IsAfter (spot_of_copy g) (spot_of_copy f) → ⊥)

-- the copy of one of these pages
abbrev pub IsCopyOf : List Found → PageCopy → Type 0
IsCopyOf added f = (x : Found) × Contains added x × FitsCopy x × (copy_of x ≡ f)

-- Those of some pages that fit were added, and others went that are not the newest of their keys.
pub record ThinsFound (added : List Found) (old new : List PageCopy) : Type 0 where
  pub among : (f : PageCopy) → Contains new f → Contains old f ⊎ IsCopyOf added f
  pub some : (g : PageCopy) → Contains old g ⊎ IsCopyOf added g → (f : PageCopy) × Contains new f × HaveOneKey f g × (IsAfter (spot_of_copy g) (spot_of_copy f) → ⊥)
