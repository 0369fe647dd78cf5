-- What a header and a search of the slots report on a directory that is there.
use Rattle.std.specs.Prelude.{◌≡◌, ◌<◌, ◌≤◌, ℕ, length, Option, Some, None, slice_get, true}
use Rattle.std.specs.FinMap as map
use Rattle.std.proofs.Common.{refl, sym, ◌∙◌, subst, arith}
use Rattle.page_tags.specs.Headers.{IsHeader, greatest_recorded}
use Rattle.page_tags.specs.declared.header.ObjectKind.TheVariants as kinds
use Rattle.page_tags.specs.Slots.{Entry}
use Rattle.flash_tree.specs.Tree.{IsPageSize}
use Rattle.volume_terms.specs.Sizes.{Sizes, page_slots}
use Rattle.posix_profile.specs.State.{Name, Entries}
use Rattle.pages.specs.Maps.{PageMap}
use Rattle.pages.specs.State.{PagesState, OnlyFinds}
use Rattle.directories.specs.Directories.{DirIn, HasBeside, SlotOf, ReportsEnd}
use Rattle.directories.specs.Heads.{IsHeadOf, SaysHead}
use Rattle.directories.specs.Slots.{AreSlots, Finds}
use Rattle.directories.specs.declared.head.DirectoryHead.{DirectoryHead}
use Rattle.directories.specs.declared.lookup.Located.{Located}
use Rattle.directories.proofs.Lists.{entries_len}
use Rattle.directories.proofs.Reading.{head_is, slots_are, slot_is, found_leads}

module _ (p q : PagesState) (lookups : OnlyFinds p q) (z : Sizes) (o moment : ℕ) (entries : Entries) (d : DirIn p z o moment entries) (sized : (512 ≤ p.page_bytes) × (p.page_bytes ≤ 4096))
    (head : DirectoryHead) (s : SaysHead p o head) where
  pub within_limit : z.page_bytes ≤ 4096
  within_limit = let most : p.page_bytes ≤ 4096 = sized.1 in omega (arith, d.size, most)

  least : 512 ≤ z.page_bytes
  least = let low : 512 ≤ p.page_bytes = sized.0 in omega (arith, d.size, low)

  pub page_size : IsPageSize z.page_bytes
  page_size = record { least = omega (arith, least); most = within_limit }

  -- a page has a slot
  pub some_slots : 1 ≤ page_slots z
  some_slots = omega (arith, least)

  pub head_says : IsHeadOf head d.reads.fields
  head_says = head_is p z o moment entries d page_size head s

  pub length_is : head.length ≡ length d.reads.slots
  length_is = head_says.length_is ∙ d.reads.size

  pub count_is : head.length ≡ map.len entries
  count_is = length_is ∙ sym (entries_len d.reads.slots d.reads.once entries d.reads.entries_are)

  pub sound_on : q.sound ≡ true
  sound_on = lookups.sound ∙ d.sound

  pub size_on : z.page_bytes ≡ q.page_bytes
  size_on = d.size ∙ sym lookups.page_bytes

  -- the slots that the header counts are there
  pub are_on : AreSlots (SlotOf z q.present o) 0 head.length
  are_on = subst (λ (m : PageMap). AreSlots (SlotOf z m o) 0 head.length) (sym lookups.present) (subst (λ n. AreSlots (SlotOf z p.present o) 0 n) (sym length_is) (slots_are p z o moment entries d))

  at_entry : (name : Name) (found : Option Located) → Finds (SlotOf z q.present o) 0 head.length name found → Finds (SlotOf z p.present o) 0 (length d.reads.slots) name found
  at_entry name found is = subst (λ n. Finds (SlotOf z p.present o) 0 n name found) length_is (subst (λ (m : PageMap). Finds (SlotOf z m o) 0 head.length name found) lookups.present is)

  -- a slot that was found is one of the directory's
  pub located : (name : Name) (l : Located) → Finds (SlotOf z q.present o) 0 head.length name (Some l)
      → (e : Entry) × (slice_get d.reads.slots l.place ≡ Some e) × (e.name ≡ name) × (l.object ≡ e.object)
  located name l is =
      let at = at_entry name (Some l) is in
      (at.entry, slot_is p z o moment entries d within_limit l.place at.entry at.most at.there, at.name_is, at.object_is)

  pub leads_nowhere : (name : Name) → Finds (SlotOf z q.present o) 0 head.length name None → None ≡ map.get entries name
  leads_nowhere name is = found_leads p z o moment entries d within_limit name None (at_entry name None is)

-- what is reported of the page behind the slots
module _ (p q : PagesState) (lookups : OnlyFinds p q) (z : Sizes) (o : ℕ) (head : DirectoryHead) (s : SaysHead p o head) where
  pub reported_end : HasBeside z q.present o head.length head.length → ReportsEnd z p o
  reported_end is = (s.0, subst (λ n. HasBeside z p.present o n n) s.1.length_is (subst (λ (m : PageMap). HasBeside z m o head.length head.length) lookups.present is))

-- what is reported of a directory that is there, where its entries are in the count elsewhere
module _ (p : PagesState) (z : Sizes) (o moment : ℕ) (entries : Entries) (d : DirIn p z o moment entries) (count : ℕ) (is : count ≡ map.len entries) where
  abbrev pub head_of : DirectoryHead
  head_of = record { spare = d.reads.fields.spare; length = count; moment = d.reads.fields.moment }

  totaled : count ≡ d.reads.fields.length
  totaled = is ∙ entries_len d.reads.slots d.reads.once entries d.reads.entries_are ∙ sym d.reads.size

  pub head_reported : SaysHead p o head_of
  head_reported = (
    record { fields = d.reads.fields; has = d.reads.has.0; valid = subst (λ n. IsHeader n d.reads.fields) d.size d.reads.has.1; kind = d.reads.kind },
    record { spare = refl; length_is = totaled; moment = refl },
  )

  -- a header can say so many
  pub few_counted : count < 4294967296
  few_counted =
      let most : d.reads.fields.length ≤ greatest_recorded z.page_bytes kinds.Directory =
      subst (λ k. d.reads.fields.length ≤ greatest_recorded z.page_bytes k) d.reads.kind d.reads.has.1.length_fits in
      omega (arith, most, totaled)
