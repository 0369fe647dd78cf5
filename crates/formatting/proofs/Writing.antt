-- A page that stands alone on a device.
use Rattle.std.specs.Prelude.{◌≡◌, ◌≢◌, ◌⊎◌, ◌≤◌, ◌<◌, ℕ, ◌+◌, ◌-◌, true, false, List}
use Rattle.std.proofs.Common.{sym, ◌∙◌, ap, subst, inl, inr, arith}
use Rattle.std.proofs.lemmas.Bool.{cases_order, cases_lt}
use Rattle.nand_model.specs.Flash.{Erased, IsClean, IsWithin}
use Rattle.nand_model.specs.Calls.{Device}
use Rattle.nand_model.specs.declared.geometry.Geometry.{Geometry}
use Rattle.page_tags.specs.declared.tag.Tag.{Tag}
use Rattle.flash_tree.specs.declared.place.FreshPage.{FreshPage}
use Rattle.formatting.specs.Formatting.{Keeps, AreClear, OthersStay, single_tag, HasFirstPage, Takes, LiesAlone, WritesFirst}
use Rattle.formatting.specs.declared.root.Attempt.TheVariants as attempts

-- Where the blocks before one are bad and those after it are ready, its first page is the only one.
pub lies_alone : (d : Device) (b : ℕ) (bytes : List ℕ) (tag : Tag) → d.honest ≡ true → IsClean d.flash → IsWithin d.geometry.pages d.geometry.blocks d.flash
    → HasFirstPage d b bytes tag → ((k : ℕ) → k < b → d.flash.bad k ≡ true) → AreClear d (b + 1) → LiesAlone d.flash bytes tag
lies_alone d b bytes tag honest clean within has before after = record { block = b; good = has.good; page = has.page honest; others = others } where
  others : (k l : ℕ) → d.flash.bad k ≡ false → (k ≢ b) ⊎ (l ≢ 0) → d.flash.page k l ≡ Erased
  others k l good apart = elim (cases_order k b) [
    | inr (inl lt) ↦ let two : true ≡ false = sym (before k lt) ∙ good in absurd cc
    | inr (inr gt) ↦ elim (cases_lt k d.geometry.blocks) [
      | inl lt ↦ clean k 0 l (after k (omega arith) lt good) (omega arith)
      | inr past ↦ within.block k l past
    ]
    | inl same ↦ elim apart [
      | inl ne ↦ absurd (ne same)
      | inr later ↦ ap (λ n. d.flash.page n l) same ∙ clean b 1 l has.next (some l later)
    ]
  ] where
    some : (l : ℕ) → l ≢ 0 → 1 ≤ l
    some l ne = elim (cases_lt l 1) [ inl lt ↦ absurd (ne (omega arith)) | inr le ↦ le ]

-- The page that a block took, after others failed, is the only one.
pub writes_first : (old mid new : Device) (b failed : ℕ) (page : FreshPage) → Keeps old mid → Keeps mid new → mid.failures ≡ old.failures + failed → failed ≤ b → b < old.geometry.blocks
    → ((k : ℕ) → k < b → mid.flash.bad k ≡ true) → AreClear mid b → OthersStay b mid.flash new.flash → Takes mid new b page.bytes.items (single_tag page.key (failed + 1)) attempts.Written
    → (new.honest ≡ true → IsClean new.flash) → IsWithin new.geometry.pages new.geometry.blocks new.flash → WritesFirst old new page
writes_first old mid new b failed page first then count within_limit inside bad can_write others takes clean within = record {
  alone = λ honest.
      let is : new.honest ≡ true = then.lasts.honest ∙ first.lasts.honest ∙ honest in
      let number : failed + 1 ≡ 1 + (new.failures - old.failures) = omega (arith, takes.1, count) in
      subst (λ n. LiesAlone new.flash page.bytes.items (single_tag page.key n)) number (lies_alone new b page.bytes.items (single_tag page.key (failed + 1)) is (clean is) within takes.0 before after);
  within_limit = omega (arith, takes.1, count, within_limit, inside);
  has_power = takes.2;
} where
  before : (k : ℕ) → k < b → new.flash.bad k ≡ true
  before k lt = (others k (λ same. omega arith)).0 ∙ bad k lt

  after : AreClear new (b + 1)
  after k past lt good =
      let stays = others k (λ same. omega arith) in
      let there : k < mid.geometry.blocks = subst (λ (g : Geometry). k < g.blocks) then.lasts.geometry lt in
      stays.1 ∙ can_write k (omega arith) there (sym stays.0 ∙ good)
