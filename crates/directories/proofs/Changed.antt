-- What a directory reads after a change of its slots.
use Rattle.std.specs.Prelude.{◌≡◌, ◌<◌, ◌≤◌, ℕ, ◌+◌, List, length, take, set, Some, slice_get}
use Rattle.std.specs.FinMap as map
use Rattle.std.proofs.Common.{refl, sym, ◌∙◌, ap, subst, inl, inr, arith}
use Rattle.std.proofs.lemmas.List.{length-take}
use Rattle.page_tags.specs.Slots.{Entry}
use Rattle.flash_tree.specs.Tree.{slot_pairs}
use Rattle.flash_tree.specs.Tree.{ReadsDir}
use Rattle.volume_terms.specs.Sizes.{Sizes}
use Rattle.volume_terms.specs.laws.List.{slice_get_there}
use Rattle.posix_profile.specs.State.{Entries}
use Rattle.pages.specs.Maps.{PageMap, has}
use Rattle.directories.specs.Directories.{SlotOf, ReadsDirectory}
use Rattle.directories.specs.Heads.{fields_in}
use Rattle.directories.specs.Writes.{HasHead, KeepsSlots}
use Rattle.directories.specs.declared.head.DirectoryHead.{DirectoryHead}
use Rattle.flash_tree.specs.laws.SlotCounts.{AreOnce}
use Rattle.directories.proofs.Lists.{put_len, fewer, origin, once_fewer, entries_fewer, entries_len}
use Rattle.directories.proofs.Reading.{one_entry}

-- ---- the slots afterwards

module _ (z : Sizes) (old new : PageMap) (o before : ℕ) (entries : Entries) (r : ReadsDir z (has old) o before entries) where
  -- one slot less
  pub fewer_each : z.page_bytes ≤ 4096 → (last : ℕ) → length r.slots ≡ last + 1 → (i : ℕ) (e : Entry) → slice_get r.slots i ≡ Some e → (l : Entry) → slice_get r.slots last ≡ Some l
      → (i < last → (x : Entry) × SlotOf z old o last x × SlotOf z new o i x) → KeepsSlots z old new o last i → (k : ℕ) (y : Entry) → slice_get (take last (set r.slots i l)) k ≡ Some y → SlotOf z new o k y
  fewer_each within_limit last len i e at_i l at_last filled committed k y at =
      let x = origin r.slots r.once entries r.entries_are i e at_i last len l at_last k y at in
      elim x.4 [
        | inl p ↦
            let f = filled (omega (arith, p.0, x.3)) in
            let there : SlotOf z old o last y = r.each last y (ap (slice_get r.slots) (sym p.1) ∙ x.1) in
            let one : f.0 ≡ y = one_entry z within_limit old o last f.0 y f.1 there in
            subst (λ n. SlotOf z new o n y) (sym p.0) (subst (λ e. SlotOf z new o i e) one f.2)
        | inr p ↦ committed k y p.0 x.3 (r.each k y (ap (slice_get r.slots) (sym p.1) ∙ x.1))
      ]

-- where the slots of a directory stay, each name in one of them was there before
pub slots_were : (z : Sizes) → z.page_bytes ≤ 4096 → (old new : PageMap) (o moment : ℕ) (entries : Entries) (r : ReadsDir z (has old) o moment entries)
    → ((k : ℕ) (e : Entry) → k < map.len entries → SlotOf z old o k e → SlotOf z new o k e) → (k : ℕ) (e : Entry) → k < map.len entries → SlotOf z new o k e → SlotOf z old o k e
slots_were z within_limit old new o moment entries r stay k e less at =
    let counted : map.len entries ≡ length r.slots = entries_len r.slots r.once entries r.entries_are in
    let s = slice_get_there r.slots k (omega (arith, less, counted)) in
    let there : SlotOf z old o k s.0 = r.each k s.0 s.1 in
    subst (λ (x : Entry). SlotOf z old o k x) (one_entry z within_limit new o k s.0 e (stay k s.0 less there) at) there

-- ---- what it reads

module _ (z : Sizes) (old new : PageMap) (o before moment : ℕ) (entries : Entries) (r : ReadsDir z (has old) o before entries) (head : DirectoryHead) (h : HasHead z new o head)
    (spare : head.spare ≡ r.fields.spare) (when : head.moment ≡ moment) where
  pub reads_slots : (slots : List Entry) (now : Entries) → head.length ≡ length slots → ((k : ℕ) (e : Entry) → slice_get slots k ≡ Some e → SlotOf z new o k e) → AreOnce slots
      → now ≡ map.from_entries (slot_pairs slots) → ReadsDirectory z new o moment now r.fields.spare
  reads_slots slots now len each once are = (
    record {
      fields = fields_in z.page_bytes head;
      has = (h.has, h.valid);
      kind = refl;
      when = when;
      slots = slots;
      size = len;
      each = each;
      once = once;
      entries_are = are;
    },
    spare,
  )

  -- one slot less
  pub reads_fewer : z.page_bytes ≤ 4096 → length r.slots ≡ head.length + 1 → (i : ℕ) (e : Entry) → slice_get r.slots i ≡ Some e
      → (i < head.length → (x : Entry) × SlotOf z old o head.length x × SlotOf z new o i x) → KeepsSlots z old new o head.length i → ReadsDirectory z new o moment (map.remove entries e.name) r.fields.spare
  reads_fewer within_limit len i e at_i filled committed =
      let last : ℕ = head.length in
      let l = slice_get_there r.slots last (omega (arith, len)) in
      reads_slots (fewer r.slots r.once entries r.entries_are i e at_i last len l.0 l.1) (map.remove entries e.name)
      (let t : length (fewer r.slots r.once entries r.entries_are i e at_i last len l.0 l.1) ≡ _ = length-take last (set r.slots i l.0) in omega (arith, t, put_len r.slots i l.0, len))
      (fewer_each z old new o before entries r within_limit last len i e at_i l.0 l.1 filled committed)
      (once_fewer r.slots r.once entries r.entries_are i e at_i last len l.0 l.1) (entries_fewer r.slots r.once entries r.entries_are i e at_i last len l.0 l.1)

-- a directory whose pages stay
pub reads_committed : (z : Sizes) (m n : PageMap) (o moment : ℕ) (entries : Entries) (r : ReadsDir z (has m) o moment entries) → ((c : ℕ) → n o c ≡ m o c) → ReadsDirectory z n o moment entries r.fields.spare
reads_committed z m n o moment entries r same = (
  record {
    fields = r.fields;
    has = (same 0 ∙ r.has.0, r.has.1);
    kind = r.kind;
    when = r.when;
    slots = r.slots;
    size = r.size;
    each = λ i e at. let s = r.each i e at in (s.0, same _ ∙ s.1, s.2, s.3);
    once = r.once;
    entries_are = r.entries_are;
  },
  refl,
)
