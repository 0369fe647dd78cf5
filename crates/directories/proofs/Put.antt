-- Lists of slots in which an entry is put, and what a directory reads then.
use Rattle.std.specs.Prelude.{◌≡◌, ◌≢◌, ◌⊎◌, ◌<◌, ◌≤◌, ℕ, ◌+◌, List, [], ◌∷◌, ◌++◌, length, set, Option, Some, None, slice_get}
use Rattle.std.specs.FinMap as map
use Rattle.std.proofs.Common.{refl, sym, ◌∙◌, subst, inl, inr, arith}
use Rattle.std.proofs.lemmas.List.{length-append}
use Rattle.std.proofs.lemmas.Option.{slice_get_within}
use Rattle.page_tags.specs.SlotEntry.{entry_of}
use Rattle.page_tags.specs.Slots.{Entry}
use Rattle.flash_tree.specs.Tree.{slot_pairs, IsPageSize, ReadsDir}
use Rattle.flash_tree.specs.laws.SlotCounts.{AreOnce}
use Rattle.volume_terms.specs.Sizes.{Sizes, page_slots}
use Rattle.volume_terms.specs.laws.List.{get_push}
use Rattle.posix_profile.specs.State.{Name, Entries}
use Rattle.pages.specs.Changes.{IsChange}
use Rattle.pages.specs.Maps.{PageMap, has, after_change}
use Rattle.pages.specs.declared.change.Change.{Change}
use Rattle.directories.specs.Changing.{PutsName}
use Rattle.directories.specs.Directories.{HasOnly, ReadsDirectory, SlotOf}
use Rattle.directories.specs.SlotLists.{IsPut, WritesSlots}
use Rattle.directories.specs.Writes.{EndsInZeros, IsNotAt, IsNotWritten, IsWritten, WritesIn, WritesPages}
use Rattle.directories.specs.declared.head.DirectoryHead.{DirectoryHead}
use Rattle.directories.specs.declared.writing.Writing.{Writing}
use Rattle.directories.specs.declared.writing.Written.{Written}
use Rattle.directories.proofs.Changed.{reads_slots}
use Rattle.directories.proofs.Lists.{entries_len, entries_push, entries_put, get_put, no_slot, once_push, once_put, put_len}
use Rattle.directories.proofs.PageCounts.{only_written}
use Rattle.directories.proofs.Reading.{count_after}
use Rattle.directories.proofs.SlotLists.{writes_slots}
use Rattle.directories.proofs.Written.{alone_below}

-- the slots are those of the entries: the name is in this one of them, or it is none of the entries
abbrev pub IsAtSlot : List Entry → Entries → Name → Option ℕ → Type 0
IsAtSlot slots entries name None = map.get entries name ≡ None
IsAtSlot slots entries name (Some i) = (e : Entry) × (slice_get slots i ≡ Some e) × (e.name ≡ name)

-- ---- an entry that is put

module _ (slots : List Entry) (once : AreOnce slots) (entries : Entries) (are : entries ≡ map.from_entries (slot_pairs slots)) (entry : Entry) where
  -- the list with it, and where it is
  abbrev pub put_list : Option ℕ → List Entry
  put_list None = slots ++ entry ∷ []
  put_list (Some i) = set slots i entry

  abbrev pub put_number : Option ℕ → ℕ
  put_number None = length slots
  put_number (Some i) = i

  abbrev pub put_count : Option ℕ → ℕ
  put_count None = length slots + 1
  put_count (Some i) = length slots

  pub put_size : (place : Option ℕ) → length (put_list place) ≡ put_count place
  put_size None = length-append slots (entry ∷ [])
  put_size (Some i) = put_len slots i entry

  pub put_get : (place : Option ℕ) (k : ℕ) (e : Entry) → slice_get (put_list place) k ≡ Some e → ((k ≡ put_number place) × (e ≡ entry)) ⊎ ((k ≢ put_number place) × (slice_get slots k ≡ Some e))
  put_get None k e at = elim (get_push slots entry k e at) [
    | inl x ↦ inr (λ same. omega (arith, same, x.0), x.1)
    | inr x ↦ inl x
  ]
  put_get (Some i) k e at = get_put slots i entry k e at

  module _ (place : Option ℕ) (at : IsAtSlot slots entries entry.name place) where
    pub is_put : IsPut entry slots (put_list place)
    is_put = go place at where
      go : (p : Option ℕ) → IsAtSlot slots entries entry.name p → IsPut entry slots (put_list p)
      go None absent = inr (no_slot slots once entries are entry absent, refl)
      go (Some i) there = inl (i, there.0, there.1, there.2, refl)

    pub put_once : AreOnce (put_list place)
    put_once = go place at where
      go : (p : Option ℕ) → IsAtSlot slots entries entry.name p → AreOnce (put_list p)
      go None absent = once_push slots once entries are entry absent
      go (Some i) there = once_put slots once entries are i there.0 there.1 entry (sym there.2)

    pub put_are : map.insert entries entry.name entry.object ≡ map.from_entries (slot_pairs (put_list place))
    put_are = go place at where
      go : (p : Option ℕ) → IsAtSlot slots entries entry.name p → map.insert entries entry.name entry.object ≡ map.from_entries (slot_pairs (put_list p))
      go None absent = entries_push slots once entries are entry absent
      go (Some i) there = entries_put slots once entries are i there.0 there.1 entry (sym there.2)

-- ---- the directory with a list of slots that is written

module _ (z : Sizes) (page_size : IsPageSize z.page_bytes) (m : PageMap) (o before : ℕ) (entries : Entries) (r : ReadsDir z (has m) o before entries) (writing : Writing) (head : DirectoryHead) (change : Change)
    (w : WritesIn (record { sizes = z; pages = m; object = o }) writing head change) (counts : writing.before ≡ length r.slots) (new : List Entry) (len : length new ≡ writing.afterwards)
    (from : (k : ℕ) (e : Entry) → slice_get new k ≡ Some e → IsWritten writing k e ⊎ (IsNotWritten writing k × (slice_get r.slots k ≡ Some e))) where
  made_each : (k : ℕ) (e : Entry) → slice_get new k ≡ Some e → SlotOf z (after_change change m) o k e
  made_each k e at = elim (from k e at) [
    | inl x ↦ w.written k e x
    | inr x ↦
        let low = slice_get_within r.slots k e x.1 in
        let high = slice_get_within new k e at in
        w.others k e (record { other = x.0; before = omega (arith, low, counts); afterwards = omega (arith, high, len) }) (r.each k e x.1)
  ]

  pub made_writes : (bytes most : ℕ) → IsChange change bytes most → z.page_bytes ≡ bytes → WritesSlots z change o new
  made_writes bytes most is size = writes_slots z m change o bytes most is size new (subst (EndsInZeros z change o) (sym len) w.zeros) made_each

  module _ (length_is : head.length ≡ writing.afterwards) (moment : ℕ) (spare : head.spare ≡ r.fields.spare) (when : head.moment ≡ moment) (now : Entries) (once : AreOnce new) (are : now ≡ map.from_entries (slot_pairs new)) where
    pub made_becomes : ReadsDirectory z (after_change change m) o moment now r.fields.spare
    made_becomes = reads_slots z m (after_change change m) o before moment entries r head w.header spare when new now (length_is ∙ sym len) made_each once are

    pub made_count : map.len now ≡ head.length
    made_count = count_after z page_size (after_change change m) o moment now made_becomes.0 head w.header

    pub made_ends : 1 ≤ page_slots z → WritesPages (record { sizes = z; pages = m; object = o }) writing change → writing.second ≡ None → writing.first.number < writing.afterwards → writing.before ≤ writing.afterwards
        → HasOnly z m o (map.len entries) → HasOnly z (after_change change m) o (map.len now)
    made_ends some pages alone within more only =
        let count : map.len entries ≡ length r.slots = entries_len r.slots r.once entries r.entries_are in
        subst (HasOnly z (after_change change m) o) (sym (made_count ∙ length_is))
        (only_written z m (after_change change m) o writing writing.afterwards some (alone_below writing writing.afterwards within alone) (pages.others m) (map.len entries) (omega (arith, count, counts, more)) only)

-- one entry is put
module _ (z : Sizes) (page_size : IsPageSize z.page_bytes) (m : PageMap) (o before : ℕ) (entries : Entries) (r : ReadsDir z (has m) o before entries) (writing : Writing) (head : DirectoryHead) (change : Change)
    (w : WritesIn (record { sizes = z; pages = m; object = o }) writing head change) (counts : writing.before ≡ length r.slots) (alone : writing.second ≡ None)
    (place : Option ℕ) (number_is : writing.first.number ≡ put_number r.slots r.once entries r.entries_are (entry_of writing.first.slot) place) (afterwards : writing.afterwards ≡ put_count r.slots r.once entries r.entries_are (entry_of writing.first.slot) place) where
  abbrev entry : Entry
  entry = entry_of writing.first.slot

  abbrev pub put_new : List Entry
  put_new = put_list r.slots r.once entries r.entries_are entry place

  put_from : (k : ℕ) (e : Entry) → slice_get put_new k ≡ Some e → IsWritten writing k e ⊎ (IsNotWritten writing k × (slice_get r.slots k ≡ Some e))
  put_from k e at = elim (put_get r.slots r.once entries r.entries_are entry place k e at) [
    | inl x ↦ inl (inl (x.0 ∙ sym number_is, x.1))
    | inr x ↦ inr ((λ same. x.0 (same ∙ number_is), subst (λ (p : Option Written). IsNotAt p k) (sym alone) tt), x.1)
  ]

  put_len_is : length put_new ≡ writing.afterwards
  put_len_is = put_size r.slots r.once entries r.entries_are entry place ∙ sym afterwards

  pub put_writes : (bytes most : ℕ) → IsChange change bytes most → z.page_bytes ≡ bytes → WritesSlots z change o put_new
  put_writes = made_writes z page_size m o before entries r writing head change w counts put_new put_len_is put_from

  module _ (at : IsAtSlot r.slots entries entry.name place) (within : writing.first.number < writing.afterwards) (length_is : head.length ≡ writing.afterwards) (moment : ℕ) (spare : head.spare ≡ r.fields.spare) (when : head.moment ≡ moment)
      (some : 1 ≤ page_slots z) (pages : WritesPages (record { sizes = z; pages = m; object = o }) writing change) (bytes most : ℕ) (is : IsChange change bytes most) (size : z.page_bytes ≡ bytes) where
    now_once : AreOnce put_new
    now_once = put_once r.slots r.once entries r.entries_are entry place at

    now_are : map.insert entries entry.name entry.object ≡ map.from_entries (slot_pairs put_new)
    now_are = put_are r.slots r.once entries r.entries_are entry place at

    now_count : map.len (map.insert entries entry.name entry.object) ≡ writing.afterwards
    now_count = made_count z page_size m o before entries r writing head change w counts put_new put_len_is put_from length_is moment spare when (map.insert entries entry.name entry.object) now_once now_are ∙ length_is

    more : (k : ℕ) → map.len entries ≤ k → k < map.len (map.insert entries entry.name entry.object) → k ≡ writing.first.number
    more k low high = go place afterwards number_is where
      count : map.len entries ≡ length r.slots
      count = entries_len r.slots r.once entries r.entries_are

      go : (p : Option ℕ) → writing.afterwards ≡ put_count r.slots r.once entries r.entries_are entry p → writing.first.number ≡ put_number r.slots r.once entries r.entries_are entry p → k ≡ writing.first.number
      go None a b = omega (arith, a, b, low, high, count, now_count)
      go (Some i) a b = absurd (omega (arith, a, low, high, count, now_count))

    grows : writing.before ≤ writing.afterwards
    grows = go place afterwards where
      go : (p : Option ℕ) → writing.afterwards ≡ put_count r.slots r.once entries r.entries_are entry p → writing.before ≤ writing.afterwards
      go None a = omega (arith, a, counts)
      go (Some i) a = omega (arith, a, counts)

    pub puts_name : PutsName (record { sizes = z; pages = m; object = o; moment = before; entries = entries; reads = r }) moment writing.first.slot change
    puts_name = record {
      makes = record {
        becomes = made_becomes z page_size m o before entries r writing head change w counts put_new put_len_is put_from length_is moment spare when (map.insert entries entry.name entry.object) now_once now_are;
        ends = made_ends z page_size m o before entries r writing head change w counts put_new put_len_is put_from length_is moment spare when (map.insert entries entry.name entry.object) now_once now_are some pages alone within grows;
      };
      more = λ k low high. pages.keys k entry (inl (more k low high, refl));
      slots = (put_new, is_put r.slots r.once entries r.entries_are entry place at, put_writes bytes most is size);
    }
