-- What was seen of a store is seen after a look-up.
use Rattle.std.specs.Prelude.{◌≡◌, ◌≤◌, Some}
use Rattle.std.proofs.Common.{sym, ◌∙◌, arith}
use Rattle.flash_tree.specs.Tree.{IsPageSize, IsSingle}
use Rattle.pages.specs.Maps.{PageMap, has}
use Rattle.pages.specs.State.{PagesState, OnlyFinds}
use Rattle.volume_terms.specs.Sizes.{Sizes}
use Rattle.tree_walk.specs.Visits.{IsSeen}

pub still_seen : (z : Sizes) (p q : PagesState) → OnlyFinds p q → IsSeen z p → IsSeen z q
still_seen z p q lookups seen = record {
  sound = lookups.sound ∙ seen.sound;
  size = seen.size ∙ sym lookups.page_bytes;
}

pub page_size : (z : Sizes) (p : PagesState) → 512 ≤ p.page_bytes → p.page_bytes ≤ 4096 → IsSeen z p → IsPageSize z.page_bytes
page_size z p least most seen = let size = seen.size in record { least = omega (arith, size, least); most = omega (arith, size, most) }

pub single : (m : PageMap) → IsSingle (has m)
single m o n xs ys x y = let two : Some xs ≡ Some ys = sym x ∙ y in cc
