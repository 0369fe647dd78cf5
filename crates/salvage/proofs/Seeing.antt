-- What was seen of pages is seen after a look-up.
use Rattle.std.specs.Prelude.{◌≡◌, ◌≤◌, ℕ, List, Some}
use Rattle.std.proofs.Common.{sym, ◌∙◌, arith}
use Rattle.nand_model.specs.Calls.{Device}
use Rattle.chunk_index.specs.declared.index.Index.{Index}
use Rattle.flash_tree.specs.Tree.{IsPageSize, IsSingle}
use Rattle.page_store.specs.Newest.{seen_pages}
use Rattle.pages.specs.Maps.{PageMap, has}
use Rattle.pages.specs.State.{PagesState, OnlyFinds}
use Rattle.volume_terms.specs.Sizes.{Sizes}
use Rattle.tree_walk.specs.Visits.{IsSeen}

pub still_seen : (z : Sizes) (p q : PagesState) → OnlyFinds p q → IsSeen z p → IsSeen z q
still_seen z p q lookups is = record {
  sound = lookups.sound ∙ is.sound;
  size = is.size ∙ sym lookups.page_bytes;
}

-- the pages of a device have a size that a header can fill
pub page_size : (z : Sizes) (device : Device) (x : Index) (page : List ℕ) → IsSeen z (seen_pages device x page) → IsPageSize z.page_bytes
page_size z device x page is =
    let same : z.page_bytes ≡ device.geometry.bytes = is.size in
    let least : 512 ≤ device.geometry.bytes = device.geometry.least_bytes in
    let most : device.geometry.bytes ≤ 4096 = device.geometry.most_bytes in
    record { least = omega (arith, same, least); most = omega (arith, same, most) }

-- a key has one page
pub single : (m : PageMap) → IsSingle (has m)
single m o n xs ys x y = let two : Some xs ≡ Some ys = sym x ∙ y in cc
