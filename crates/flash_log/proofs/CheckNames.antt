-- What a group of the object of checkpoints leaves.
use Rattle.std.proofs.Common.{◌≡◌, ◌≢◌, ◌<◌, ◌+◌, ℕ, List, Result, Ok, Err, sym, ap, subst, ◌∙◌, inl, inr}
use Rattle.nand_model.specs.Flash.{Flash, Written}
use Rattle.nand_model.specs.Changes.{Grows}
use Rattle.flash_tree.specs.Groups.{Group, SameGroups}
use Rattle.flash_tree.specs.Keeping.{StaysNewest}
use Rattle.page_tags.specs.Tags.{tag_bytes}
use Rattle.page_tags.specs.declared.tag.Tag.{Tag}
use Rattle.page_tags.specs.laws.Tag.{same_tag}
use Rattle.flash_tree.specs.Newest.{Spot, Holds, IsNewest}
use Rattle.flash_tree.specs.Slots.{check_object}
use Rattle.flash_tree.specs.laws.Added.{newest_other}
use Rattle.flash_tree.specs.laws.Newest.{held_before, same_groups_keep}
use Rattle.transactions.specs.declared.source.PageName.{PageName}
use Rattle.transactions.specs.declared.group.Placed.{Placed}
use Rattle.transactions.specs.declared.group.GroupFault.{GroupFault}
use Rattle.transactions.specs.declared.group.GroupFault.TheVariants as groups
use Rattle.transactions.specs.Groups.{AddsPages, GroupsAfter}
use Rattle.transactions.specs.Written.{tag_in}

module _ (g : Group) (name : ℕ → PageName) (bytes : ℕ → List ℕ) (old new : Flash) (grows : Grows old new) (own : (i : ℕ) → i < g.size → (name i).key.object ≡ check_object) where
  -- no page of it is of another object
  pub other_object : (o k : ℕ) → o ≢ check_object → (i : ℕ) → i < g.size → (tag_in g name i).object ≡ o → (tag_in g name i).chunk ≡ k → ⊥
  other_object o k other i lt object chunk = other (sym object ∙ own i lt)

  added_stays : AddsPages g name bytes old new → (o k : ℕ) (s : Spot) → o ≢ check_object → IsNewest old o k s → StaysNewest old new o k s
  added_stays adds o k s other newest = newest_other g (tag_in g name) bytes old new adds.group grows adds.pages o k s (other_object o k other) newest

  -- a valid page of another object was valid before
  holds_before : AddsPages g name bytes old new → (o k : ℕ) (s : Spot) → o ≢ check_object → Holds new o k s → Holds old o k s
  holds_before adds o k s other h = elim ((adds.group h.group).0 h.whole) [
    | inl was ↦ held_before old new grows o k s h was
    | inr is ↦
        let lt : h.index < g.size = subst (λ (x : Group). h.index < x.size) is h.within in
        let there = adds.pages h.index lt in
        let pages : Written h.has.bytes (tag_bytes s.tag) ≡ Written (bytes h.index) (tag_bytes (tag_in g name h.index)) =
        sym h.has.page ∙ ap (λ b. new.page b s.page) (h.block ∙ ap (λ (x : Group). x.block) is) ∙ ap (new.page g.block) (h.page ∙ ap (λ (x : Group). x.start + h.index) is) ∙ there.0 in
        let tags : tag_bytes s.tag ≡ tag_bytes (tag_in g name h.index) = cc in
        let tag : s.tag ≡ tag_in g name h.index = same_tag _ _ h.has.valid there.1 tags in
        absurd (other (sym h.object ∙ ap (λ (u : Tag). u.object) tag ∙ own h.index lt))
  ]

  -- however the writing of the group ends
  pub trees_before : (r : Result Placed GroupFault) → GroupsAfter g name bytes old new r → (o k : ℕ) (s : Spot) → o ≢ check_object → Holds new o k s → Holds old o k s
  trees_before (Ok placed) adds o k s other h = holds_before adds o k s other h
  trees_before (Err groups.NoRoom) same o k s other h = held_before old new grows o k s h ((same h.group).0 h.whole)
  trees_before (Err groups.Failed) same o k s other h = held_before old new grows o k s h ((same h.group).0 h.whole)
  trees_before (Err groups.Lost) same o k s other h = held_before old new grows o k s h ((same h.group).0 h.whole)
  trees_before (Err groups.Gone) (inl same) o k s other h = held_before old new grows o k s h ((same h.group).0 h.whole)
  trees_before (Err groups.Gone) (inr adds) o k s other h = holds_before adds o k s other h

  same_stays : SameGroups old new → (o k : ℕ) (s : Spot) → IsNewest old o k s → StaysNewest old new o k s
  same_stays same o k s newest = same_groups_keep old new same grows o k s newest

  -- the newest pages of other objects stay, however the writing of the group ends
  pub trees_stay : (r : Result Placed GroupFault) → GroupsAfter g name bytes old new r → (o k : ℕ) (s : Spot) → o ≢ check_object → IsNewest old o k s → StaysNewest old new o k s
  trees_stay (Ok placed) adds o k s other newest = added_stays adds o k s other newest
  trees_stay (Err groups.NoRoom) same o k s other newest = same_stays same o k s newest
  trees_stay (Err groups.Failed) same o k s other newest = same_stays same o k s newest
  trees_stay (Err groups.Lost) same o k s other newest = same_stays same o k s newest
  trees_stay (Err groups.Gone) (inl same) o k s other newest = same_stays same o k s newest
  trees_stay (Err groups.Gone) (inr adds) o k s other newest = added_stays adds o k s other newest
