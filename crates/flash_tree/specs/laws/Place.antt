-- What counts, by the tag of one page.
use Rattle.std.specs.Prelude.{◌≡◌, ◌<◌, ◌≤◌, ◌↔◌, ℕ, ◌-◌, true, false}
use Rattle.std.proofs.Common.{refl, sym, ◌∙◌, ap, subst, inl, inr, arith}
use Rattle.std.proofs.lemmas.Bool.{cases_Bool, cases_lt}
use Rattle.nand_model.specs.Flash.{Flash, Erased, Written, IsWithin}
use Rattle.nand_model.specs.Calls.{Device, Lasts}
use Rattle.nand_model.specs.Changes.{OnlyReads}
use Rattle.page_tags.specs.declared.tag.Tag.{Tag}
use Rattle.page_tags.specs.Tags.{tag_bytes}
use Rattle.flash_tree.specs.Groups.{HasTag, IsPart, IsGroup}
use Rattle.flash_tree.specs.Newest.{Spot, Holds}
use Rattle.flash_tree.specs.laws.Newest.{one_tag}
use Rattle.flash_tree.specs.Places.{group_of, CountsByTag}

-- reads leave an honest device the flash that it has
pub same_flash : (old new : Device) → OnlyReads old new → old.honest ≡ true → new.flash ≡ old.flash
same_flash old new reads honest = let page = reads.page honest in λ i. record { bad = reads.bad i; next = reads.next i; page = page i }

-- a device that has power had it before
pub had_power : (a b : Device) → Lasts a b → b.gone ≡ false → a.gone ≡ false
had_power a b lasts is = elim (cases_Bool a.gone) [
  | inr power ↦ power
  | inl gone ↦ let two : true ≡ false = sym gone ∙ sym (ap (λ (d : Device). d.gone) (lasts.gone gone)) ∙ is in absurd cc
]

-- an erased page has none
pub no_tag : (f : Flash) (b p : ℕ) (t : Tag) → f.page b p ≡ Erased → HasTag f b p t → ⊥
no_tag f b p t erased has = let two : Erased ≡ Written has.bytes (tag_bytes t) = sym erased ∙ has.page in absurd cc

-- a page with a tag is on the device
pub tag_placed : (pages blocks : ℕ) (f : Flash) (b p : ℕ) (t : Tag) → IsWithin pages blocks f → HasTag f b p t → (b < blocks) × (p < pages)
tag_placed pages blocks f b p t within has = (elim (cases_lt b blocks) [ inl lt ↦ lt | inr ge ↦ absurd (no_tag f b p t (within.block b p ge) has) ], elim (cases_lt p pages) [ inl lt ↦ lt | inr ge ↦ absurd (no_tag f b p t (within.page b p ge) has) ])

-- A page that counts is one of the group that its own tag names.
pub held_group : (f : Flash) (o c : ℕ) (s : Spot) → Holds f o c s → (s.tag.index ≤ s.page) × IsGroup f (group_of s)
held_group f o c s held =
    let part : IsPart f held.group held.index = held.whole.each held.index held.within in
    let here : HasTag f s.block s.page part.tag =
    subst (λ b. HasTag f b s.page part.tag) (sym held.block) (subst (λ p. HasTag f held.group.block p part.tag) (sym held.page) part.has) in
    let same : part.tag ≡ s.tag = one_tag f s.block s.page part.tag s.tag here held.has in
    let index : s.tag.index ≡ held.index = ap (λ (t : Tag). t.index) (sym same) ∙ part.index in
    let count : s.tag.count ≡ held.group.size = ap (λ (t : Tag). t.count) (sym same) ∙ part.count in
    let number : s.tag.group ≡ held.group.number = ap (λ (t : Tag). t.group) (sym same) ∙ part.group in
    let seq : s.tag.seq ≡ held.group.seq = ap (λ (t : Tag). t.seq) (sym same) ∙ part.seq in
    let start : s.page - s.tag.index ≡ held.group.start = omega (arith, index, held.page) in
    let group : held.group ≡ group_of s = λ i. record { block = sym held.block i; start = sym start i; size = sym count i; number = sym number i; seq = sym seq i } in
    (omega (arith, index, held.page), subst (IsGroup f) group held.whole)

-- a page counts by its own tag
pub counts_by_tag : (f : Flash) (o c : ℕ) (s : Spot) → Holds f o c s ↔ CountsByTag f o c s
counts_by_tag f o c s = (
  λ held. let group = held_group f o c s held in record { has = held.has; object = held.object; chunk = held.chunk; start = group.0; whole = group.1 },
  λ by_tag. record {
    group = group_of s;
    whole = by_tag.whole;
    index = s.tag.index;
    within = by_tag.has.valid.index;
    block = refl;
    page = omega (arith, by_tag.start);
    has = by_tag.has;
    object = by_tag.object;
    chunk = by_tag.chunk;
  },
)
