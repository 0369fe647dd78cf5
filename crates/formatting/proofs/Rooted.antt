-- A device that holds nothing but the root's header is sound.
use Rattle.std.specs.Prelude.{◌≡◌, ◌<◌, ◌≤◌, ℕ, zero, suc, ◌+◌, ◌-◌, Bool, true, false, not, ◌&&◌, nat_eq, List, [], Some, None, slice_get}
use Rattle.std.specs.FinMap as map
use Rattle.std.specs.Ordering.{nat_cmp}
use Rattle.std.specs.Cmp.{nat_cmp_total}
use Rattle.std.proofs.Common.{refl, sym, ◌∙◌, ap, subst, inl, inr, arith}
use Rattle.std.proofs.lemmas.Bool.{cases_eq, not-true, leb-true, eq-eqb, and_parts}
use Rattle.nand_model.specs.Flash.{Flash, Erased, Written}
use Rattle.nand_model.specs.Calls.{Device}
use Rattle.nand_model.specs.declared.geometry.Geometry.{Geometry}
use Rattle.page_tags.specs.declared.tag.Tag.{Tag}
use Rattle.page_tags.specs.Tags.{tag_bytes, IsTag}
use Rattle.page_tags.specs.Headers.{header_bytes}
use Rattle.page_tags.specs.Slots.{Entry}
use Rattle.volume_terms.specs.Sizes.{Sizes, root_number, capacity}
use Rattle.posix_profile.specs.State.{Object, Dir}
use Rattle.posix_profile.specs.Charge.{charge}
use Rattle.posix_profile.specs.laws.Map.{insert_cases}
use Rattle.posix_profile.specs.laws.Fresh.{fresh, fresh_tree, fresh_fits}
use Rattle.flash_tree.specs.Groups.{HasTag, Group, IsPart}
use Rattle.flash_tree.specs.Newest.{Spot, Holds, IsAfter, HasNewest, AreAbove}
use Rattle.flash_tree.specs.laws.Newest.{one_tag}
use Rattle.flash_tree.specs.laws.Order.{not_after_itself}
use Rattle.flash_tree.specs.Tree.{ReadsDir, ReadsAs}
use Rattle.flash_tree.specs.Mount.{sizes_of, bad_blocks, IsFree, HasRoom}
use Rattle.flash_tree.specs.Sound.{IsSoundFlash}
use Rattle.flash_tree.specs.laws.Free.{free_of_picked}
use Rattle.volume_terms.specs.Sizes.{number_limit}
use Rattle.flash_tree.specs.declared.place.FreshPage.{FreshPage}
use Rattle.directories.specs.HeadPages.{IsHeadPage}
use Rattle.directories.specs.Heads.{fields_in}
use Rattle.directories.specs.declared.head.DirectoryHead.{DirectoryHead}
use Rattle.formatting.proofs.Counting.{enough_picked}
use Rattle.formatting.specs.laws.SizesOf.{sizes_are}
use Rattle.formatting.specs.Formatting.{Keeps, single_tag, LiesAlone, HoldsOnly, empty_root, root_key, HoldsOnlyRoot}

-- ---- the page is the newest of its key, and no other page has a tag

module _ (flash : Flash) (bytes : List ℕ) (tag : Tag) (valid : IsTag tag) (alone : LiesAlone flash bytes tag) where
  has : HasTag flash alone.block 0 tag
  has = record { bytes = bytes; page = alone.page; valid = valid }

  -- what has a tag in a good block is that page
  pub only_there : (b p : ℕ) (t : Tag) → flash.bad b ≡ false → HasTag flash b p t → (b ≡ alone.block) × (p ≡ 0)
  only_there b p t good there = elim (cases_eq b alone.block) [
    | inr ne ↦ let two : Erased ≡ Written there.bytes (tag_bytes t) = sym (alone.others b p good (inl ne)) ∙ there.page in absurd cc
    | inl same ↦ elim (cases_eq p 0) [
      | inr ne ↦ let two : Erased ≡ Written there.bytes (tag_bytes t) = sym (alone.others b p good (inr ne)) ∙ there.page in absurd cc
      | inl first ↦ (same, first)
    ]
  ]

  -- and has its tag
  pub only_tag : (b p : ℕ) (t : Tag) → flash.bad b ≡ false → HasTag flash b p t → t ≡ tag
  only_tag b p t good there =
      let at = only_there b p t good there in
      one_tag flash alone.block 0 t tag (subst (λ k. HasTag flash k 0 t) at.0 (subst (λ l. HasTag flash b l t) at.1 there)) has

  abbrev spot : Spot
  spot = record { block = alone.block; page = 0; tag = tag }

  pub only_spot : (o c : ℕ) (s : Spot) → Holds flash o c s → s ≡ spot
  only_spot o c s holds =
      let good : flash.bad s.block ≡ false = ap flash.bad holds.block ∙ holds.whole.good in
      let at = only_there s.block s.page s.tag good holds.has in
      let is : s.tag ≡ tag = only_tag s.block s.page s.tag good holds.has in
      λ i. record { block = at.0 i; page = at.1 i; tag = is i }

  module _ (index : tag.index ≡ 0) (count : tag.count ≡ 1) where
    abbrev group : Group
    group = record { block = alone.block; start = 0; size = 1; number = tag.group; seq = tag.seq }

    part : (i : ℕ) → i < 1 → IsPart flash group i
    part zero lt = record { tag = tag; has = has; index = index; count = count; group = refl; seq = refl }
    part (suc i) lt = absurd (omega arith)

    holds : Holds flash tag.object tag.chunk spot
    holds = record {
      group = group;
      whole = record { good = alone.good; some = omega arith; each = part };
      index = 0;
      within = omega arith;
      block = refl;
      page = refl;
      has = has;
      object = refl;
      chunk = refl;
    }

    pub newest_there : HasNewest flash tag.object tag.chunk bytes
    newest_there = record {
      spot = spot;
      newest = record { holds = holds; last = λ t held after. not_after_itself spot (subst (λ s. IsAfter s spot) (only_spot tag.object tag.chunk t held) after) };
      stored = alone.page;
    }

-- ---- the tag of the root's page is one

root_tag : (page : FreshPage) (d : ℕ) (head : DirectoryHead) (n : ℕ) → IsHeadPage page d root_number head → 1 ≤ n → n ≤ 4096 → IsTag (single_tag page.key n)
root_tag page d head n is some within_limit = record {
  count = (omega arith, omega arith);
  index = omega arith;
  object = (omega (arith, is.object_is), omega (arith, is.object_is));
  chunk = omega (arith, is.chunk_is);
  version = (some, omega arith);
  group = omega (arith, within_limit);
  seq = (some, omega (arith, within_limit));
}

-- ---- the volume

only_root : (o : ℕ) (object : Object) → map.get fresh.objects o ≡ Some object → (o ≡ root_number) × (object ≡ Dir 0 map.empty)
only_root o object is = elim (insert_cases nat_cmp_total map.nat_cmp-IsAntisymmetric map.empty root_number (Dir 0 map.empty) o object is) [
  | inl here ↦ here
  | inr there ↦ let two : None ≡ Some object = sym (map.get-empty nat_cmp o) ∙ there.1 in absurd cc
]

-- an empty list has no element
none_listed : (i : ℕ) (e : Entry) → slice_get [] i ≡ Some e → ⊥
none_listed i e is = cc

module _ (g : Geometry) (flash : Flash) (spare : ℕ) (room : spare + 4 ≤ g.blocks) (few_bad : bad_blocks g flash ≤ spare) (page : FreshPage)
    (is : IsHeadPage page g.bytes root_number (empty_root spare)) (n : ℕ) (some : 1 ≤ n) (within_limit : n ≤ 4096)
    (alone : LiesAlone flash page.bytes.items (single_tag page.key n)) where
  abbrev z : Sizes
  z = sizes_of g spare

  abbrev head : DirectoryHead
  head = empty_root spare

  valid : IsTag (single_tag page.key n)
  valid = root_tag page g.bytes head n is some within_limit

  newest : HasNewest flash root_number 0 page.bytes.items
  newest = subst (λ o. HasNewest flash o 0 page.bytes.items) is.object_is
      (subst (λ c. HasNewest flash page.key.object c page.bytes.items) is.chunk_is (newest_there flash page.bytes.items (single_tag page.key n) valid alone refl refl))

  -- the root is an empty directory
  abbrev root_reads : ReadsDir z (HasNewest flash) root_number 0 map.empty
  root_reads = record {
    fields = fields_in g.bytes head;
    has = (subst (λ (xs : List ℕ). HasNewest flash root_number 0 xs) is.head_is.encodes newest, is.head_is.valid);
    kind = refl;
    when = refl;
    slots = [];
    size = refl;
    each = λ i e there. absurd (none_listed i e there);
    once = λ i j a b there at same. absurd (none_listed i a there);
    entries_are = refl;
  }

  each : (o : ℕ) (x : Object) → map.get fresh.objects o ≡ Some x → ReadsAs z (HasNewest flash) o x
  each o x there =
      let only = only_root o x there in
      subst (λ k. ReadsAs z (HasNewest flash) k x) (sym only.0) (subst (ReadsAs z (HasNewest flash) root_number) (sym only.1) root_reads)

  above : AreAbove flash (record { version = number_limit; group = number_limit; seq = number_limit })
  above b p t good has =
      let tag : t ≡ single_tag page.key n = only_tag flash page.bytes.items (single_tag page.key n) valid alone b p t good has in
      let small : n ≤ number_limit = omega (arith, within_limit) in (
        subst (λ (u : Tag). u.version ≤ number_limit) (sym tag) small,
        subst (λ (u : Tag). u.group ≤ number_limit) (sym tag) small,
        subst (λ (u : Tag). u.seq ≤ number_limit) (sym tag) small,
      )

  -- a good block other than the root's holds none of its pages
  abbrev picks : ℕ → Bool
  picks b = not (flash.bad b) && not (nat_eq b alone.block)

  free : (b : ℕ) → b < g.blocks → picks b ≡ true → IsFree g flash z fresh.objects b
  free b within picked = record {
    within = within;
    good = not-true (flash.bad b) (and_parts (not (flash.bad b)) (not (nat_eq b alone.block)) picked).0;
    apart = λ o c s looked newest same.
        let there : s.block ≡ alone.block = ap (λ (t : Spot). t.block) (only_spot flash page.bytes.items (single_tag page.key n) valid alone o c s newest.holds) in
        let other : nat_eq b alone.block ≡ false = not-true (nat_eq b alone.block) (and_parts (not (flash.bad b)) (not (nat_eq b alone.block)) picked).1 in
        let same_number : nat_eq b alone.block ≡ true = eq-eqb b alone.block (sym same ∙ there) in
        let two : true ≡ false = sym same_number ∙ other in
        cc;
  }

  has_room : HasRoom g flash spare fresh.objects
  has_room = record {
    fits = leb-true (charge z fresh.objects) (capacity z) (fresh_fits z (sizes_are g spare room));
    free = λ within_limit. free_of_picked g flash z fresh.objects picks (1 + spare - bad_blocks g flash) free (omega (arith, enough_picked flash.bad alone.block g.blocks, room));
  }

  pub sound : IsSoundFlash g flash spare fresh.objects
  sound = record {
    volume = record { fields = root_reads.fields; has = root_reads.has; kind = refl; spare_is = refl; room = room };
    shows = record { tree = fresh_tree z; each = each };
    room = has_room;
    few_bad = few_bad;
    numbers = above;
  }

-- what a formatting leaves
pub volume_of : (old new : Device) (spare : ℕ) (page : FreshPage) → old.honest ≡ true → spare + 4 ≤ old.geometry.blocks → Keeps old new → bad_blocks new.geometry new.flash ≤ spare
    → IsHeadPage page old.geometry.bytes root_number (empty_root spare) → HoldsOnly new page → IsSoundFlash new.geometry new.flash spare fresh.objects
volume_of old new spare page honest room keeps few_bad is only =
    let same : old.geometry ≡ new.geometry = sym keeps.lasts.geometry in
    let some_room : spare + 4 ≤ new.geometry.blocks = subst (λ (g : Geometry). spare + 4 ≤ g.blocks) same room in
    let head = subst (λ (g : Geometry). IsHeadPage page g.bytes root_number (empty_root spare)) same is in
    sound new.geometry new.flash spare some_room few_bad page head only.number only.some (omega (arith, only.within_limit, new.geometry.most_blocks)) (only.alone (keeps.lasts.honest ∙ honest))

-- and the only page that it leaves
pub root_alone : (old new : Device) (spare : ℕ) (page : FreshPage) → old.honest ≡ true → Keeps old new → IsHeadPage page old.geometry.bytes root_number (empty_root spare) → HoldsOnly new page → HoldsOnlyRoot spare new
root_alone old new spare page honest keeps is only = record { number = only.number; some = only.some; within_limit = only.within_limit; alone = alone } where
  keyed : LiesAlone new.flash page.bytes.items (single_tag root_key only.number)
  keyed =
      subst (λ (c : ℕ). LiesAlone new.flash page.bytes.items (single_tag (record { object = root_number; chunk = c }) only.number)) is.chunk_is
      (subst (λ (o : ℕ). LiesAlone new.flash page.bytes.items (single_tag (record { object = o; chunk = page.key.chunk }) only.number)) is.object_is
      (only.alone (keeps.lasts.honest ∙ honest)))

  alone : LiesAlone new.flash (header_bytes (fields_in new.geometry.bytes (empty_root spare))) (single_tag root_key only.number)
  alone =
      subst (λ (g : Geometry). LiesAlone new.flash (header_bytes (fields_in g.bytes (empty_root spare))) (single_tag root_key only.number)) (sym keeps.lasts.geometry)
      (subst (λ (xs : List ℕ). LiesAlone new.flash xs (single_tag root_key only.number)) is.head_is.encodes keyed)
