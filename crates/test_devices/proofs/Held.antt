-- What one page holds of a key.
use Rattle.std.specs.Prelude.{◌≡◌, ◌↔◌, ℕ, IsTrue, true, false, Bool}
use Rattle.std.proofs.Common.{sym, ◌∙◌, subst}
use Rattle.std.proofs.lemmas.Bool.{false≢true}
use Rattle.nand_model.specs.Flash.{Flash}
use Rattle.nand_model.specs.Calls.{Device}
use Rattle.nand_model.specs.Changes.{OnlyReads}
use Rattle.page_tags.specs.declared.tag.Tag.{Tag}
use Rattle.flash_tree.specs.Groups.{HasTag, IsGroup}
use Rattle.flash_tree.specs.Newest.{Spot, Holds}
use Rattle.flash_tree.specs.Places.{group_of, CountsByTag}
use Rattle.flash_tree.specs.laws.Newest.{one_tag}
use Rattle.flash_tree.specs.laws.Place.{counts_by_tag, same_flash}

-- a page with no tag holds nothing
pub none_held : (f : Flash) (o c b p : ℕ) → ((t : Tag) → HasTag f b p t → ⊥) → (s : Spot) → s.block ≡ b → s.page ≡ p → Holds f o c s → ⊥
none_held f o c b p none s block page held =
    none s.tag (subst (λ k. HasTag f k p s.tag) block (subst (λ l. HasTag f s.block l s.tag) page held.has))

-- what is held at a page has the page's tag
pub held_spot : (f : Flash) (o c b p : ℕ) (t : Tag) → HasTag f b p t → (s : Spot) → s.block ≡ b → s.page ≡ p → Holds f o c s → s ≡ (record { block = b; page = p; tag = t })
held_spot f o c b p t has s block page held =
    let here : HasTag f b p s.tag = subst (λ k. HasTag f k p s.tag) block (subst (λ l. HasTag f s.block l s.tag) page held.has) in
    let tag : s.tag ≡ t = one_tag f b p s.tag t here has in
    λ i. record { block = block i; page = page i; tag = tag i }

-- where the page holds something of the key, its tag says so
pub held_says : (f : Flash) (o c b p : ℕ) (t : Tag) → HasTag f b p t → (s : Spot) → s.block ≡ b → s.page ≡ p → Holds f o c s → CountsByTag f o c (record { block = b; page = p; tag = t })
held_says f o c b p t has s block page held =
    let at : Spot = record { block = b; page = p; tag = t } in
    (counts_by_tag f o c at).0 (subst (Holds f o c) (held_spot f o c b p t has s block page held) held)

-- a page whose group is not whole holds nothing
pub broken_held : (old mid : Device) → OnlyReads old mid → old.honest ≡ true → (o c b p : ℕ) (t : Tag) (whole : Bool) → HasTag old.flash b p t
    → (mid.honest ≡ true → IsTrue whole ↔ IsGroup mid.flash (group_of (record { block = b; page = p; tag = t }))) → whole ≡ false
    → (s : Spot) → s.block ≡ b → s.page ≡ p → Holds old.flash o c s → ⊥
broken_held old mid reads honest o c b p t whole has answers not s block page held =
    let says = held_says old.flash o c b p t has s block page held in
    let there : IsGroup mid.flash (group_of (record { block = b; page = p; tag = t })) = subst (λ f. IsGroup f (group_of (record { block = b; page = p; tag = t }))) (sym (same_flash old mid reads honest)) says.whole in
    let is : IsTrue whole = (answers (reads.lasts.honest ∙ honest)).1 there in
    let broken : IsTrue false = subst IsTrue not is in
    absurd (false≢true broken)
