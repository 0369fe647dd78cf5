-- A flash that holds nothing but an empty volume has no checkpoint.
use Rattle.std.specs.Prelude.{◌≡◌, ◌≤◌, ℕ, None}
use Rattle.std.proofs.Common.{ap, arith}
use Rattle.nand_model.specs.Calls.{Device}
use Rattle.page_tags.specs.declared.tag.Tag.{Tag}
use Rattle.page_tags.specs.Tags.{IsTag}
use Rattle.volume_terms.specs.Sizes.{root_number}
use Rattle.flash_tree.specs.Slots.{check_object}
use Rattle.flash_tree.specs.Checkpoints.{Checkpoint, check_tag, IsWhole, IsTrueFlash}
use Rattle.flash_tree.specs.laws.Checking.{first_tag, none_checked}
use Rattle.formatting.specs.Formatting.{single_tag, root_key, HoldsOnlyRoot}
use Rattle.formatting.proofs.Rooted.{only_tag}

-- the tag of the root's header is one
pub root_valid : (spare : ℕ) (d : Device) (only : HoldsOnlyRoot spare d) → IsTag (single_tag root_key only.number)
root_valid spare d only = record {
  count = (omega arith, omega arith);
  index = omega arith;
  object = (omega arith, omega arith);
  chunk = omega arith;
  version = (only.some, omega arith);
  group = omega (arith, within_limit);
  seq = (only.some, omega (arith, within_limit));
} where
  within_limit : only.number ≤ 4096
  within_limit = omega (arith, only.within_limit, d.geometry.most_blocks)

-- it is the only one, so there is no checkpoint
pub root_true : (spare : ℕ) (d : Device) → HoldsOnlyRoot spare d → IsTrueFlash d.geometry d.flash
root_true spare d only = (none_checked d.geometry d.flash none None).right where
  none : (c : Checkpoint) → IsWhole d.geometry d.flash c → ⊥
  none c whole =
      let tag : check_tag c 0 ≡ single_tag root_key only.number = only_tag d.flash _ (single_tag root_key only.number) (root_valid spare d only) only.alone c.block 0 (check_tag c 0) whole.good (first_tag d.geometry d.flash c whole) in
      let object : check_object ≡ root_number = ap (λ (t : Tag). t.object) tag in
      omega (arith, object)
