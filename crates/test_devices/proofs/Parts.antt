-- The pages of the group that a page names.
use Rattle.std.specs.Prelude.{◌≡◌, ◌↔◌, ℕ, ◌+◌, ◌-◌, IsTrue, Bool}
use Rattle.std.proofs.Common.{sym, ◌∙◌, ap}
use Rattle.nand_model.specs.Flash.{Flash}
use Rattle.page_tags.specs.declared.tag.Tag.{Tag}
use Rattle.flash_tree.specs.Groups.{HasTag, IsPart}
use Rattle.flash_tree.specs.Newest.{Spot}
use Rattle.flash_tree.specs.Places.{group_of}
use Rattle.test_devices.specs.Searching.{IsPartTag}
use Rattle.flash_tree.specs.laws.Newest.{one_tag}

-- where a page has a tag, that decides whether it is part i
pub part_by_tag : (f : Flash) (s : Spot) (i : ℕ) (t : Tag) → HasTag f s.block (s.page - s.tag.index + i) t → IsPartTag t s.tag i ↔ IsPart f (group_of s) i
part_by_tag f s i t has = (
  λ is. record { tag = t; has = has; index = is.index; count = is.count; group = is.group; seq = is.seq },
  λ part.
      let same : part.tag ≡ t = one_tag f s.block (s.page - s.tag.index + i) part.tag t part.has has in
      record {
        index = ap (λ (u : Tag). u.index) (sym same) ∙ part.index;
        count = ap (λ (u : Tag). u.count) (sym same) ∙ part.count;
        group = ap (λ (u : Tag). u.group) (sym same) ∙ part.group;
        seq = ap (λ (u : Tag). u.seq) (sym same) ∙ part.seq;
      },
)

-- where a page has no tag, it is no part
pub no_part : (f : Flash) (s : Spot) (i : ℕ) → ((t : Tag) → HasTag f s.block (s.page - s.tag.index + i) t → ⊥) → IsPart f (group_of s) i → ⊥
no_part f s i none part = none part.tag part.has

-- an answer that reports on a part as the tag does
pub reported_by_tag : (f : Flash) (s : Spot) (i : ℕ) (t : Tag) (answers : Bool) → HasTag f s.block (s.page - s.tag.index + i) t
    → (IsTrue answers ↔ IsPartTag t s.tag i) → IsTrue answers ↔ IsPart f (group_of s) i
reported_by_tag f s i t answers has is = let by_tag = part_by_tag f s i t has in (λ reported_so. by_tag.0 (is.0 reported_so), λ part. is.1 (by_tag.1 part))
