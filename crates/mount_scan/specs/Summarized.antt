-- What a scan finds by summaries.
use Rattle.std.specs.Prelude.{◌≡◌, ◌<◌, ◌≤◌, ◌^◌, ℕ, true, List, All, AllPairs, Contains}
use Rattle.nand_model.specs.Flash.{Flash}
use Rattle.nand_model.specs.Calls.{Device}
use Rattle.flash_tree.specs.Newest.{Spot, IsNewest, Numbers, AreAbove}
use Rattle.flash_tree.specs.Summaries.{IsSummarized, AreFindable}
use Rattle.mount_scan.specs.Copies.{HasValidName, copy_at}
use Rattle.mount_scan.specs.Keys.{HaveOtherKeys}
use Rattle.mount_scan.specs.Scanned.{AreCopiesPlaced}
use Rattle.mount_scan.specs.declared.page_copy.PageCopy.{PageCopy}

-- the device is honest, and a mount may go by the summaries of its flash
abbrev pub HasSummarizedFlash : Device → Type 0
HasSummarizedFlash device = (device.honest ≡ true) × IsSummarized device.geometry device.flash

-- each newest page of these keys, of chunks that a tree may look up, has its copy in the list
abbrev pub FindsEach : Flash → (ℕ → ℕ → Type 0) → List PageCopy → Type 0
FindsEach flash keys list = (o c : ℕ) (s : Spot) → keys o c → c < 2 ^ 32 → IsNewest flash o c s → Contains list (copy_at s)

-- the key of chunk c of object o, and no other
abbrev pub IsKey : (o c : ℕ) → ℕ → ℕ → Type 0
IsKey o c k l = (k ≡ o) × (l ≡ c)

-- What is found: of each device places on it, each key once, of chunks that a tree may look up, named as a valid tag may name them; and
-- of a summarized flash the newest page of each key that can be found, and no version above the numbers of all groups.
pub record FindsNeeded (device : Device) (list : List PageCopy) : Type 0 where
  pub placed : AreCopiesPlaced device.geometry.blocks device.geometry.pages list
  pub low : All (λ (f : PageCopy). f.chunk < 2 ^ 32) list
  pub named : All HasValidName list
  pub order : AllPairs HaveOtherKeys list
  pub found : HasSummarizedFlash device → (o c : ℕ) → AreFindable device.geometry device.flash (IsKey o c) → FindsEach device.flash (IsKey o c) list
  pub versions : HasSummarizedFlash device → (n : Numbers) → AreAbove device.flash n → All (λ (f : PageCopy). f.version ≤ n.group) list
