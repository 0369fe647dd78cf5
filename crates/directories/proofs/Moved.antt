-- An entry that is put after one was taken, and what a directory reads then.
use Rattle.std.specs.Prelude.{◌≡◌, ◌≢◌, ◌<◌, ◌≤◌, ℕ, ◌+◌, ◌-◌, List, length, take, set, Option, Some, None, slice_get}
use Rattle.std.specs.FinMap as map
use Rattle.std.specs.Cmp.Lexicographic.{nat_list_cmp_total}
use Rattle.std.proofs.Common.{refl, sym, ◌∙◌, ap, subst, inl, inr, arith}
use Rattle.std.proofs.lemmas.List.{length-take}
use Rattle.std.proofs.lemmas.Option.{slice_get_within}
use Rattle.page_tags.specs.SlotEntry.{entry_of}
use Rattle.page_tags.specs.Slots.{Entry}
use Rattle.page_tags.specs.declared.slot.Slot.{Slot}
use Rattle.flash_tree.specs.Tree.{slot_pairs, IsPageSize, ReadsDir}
use Rattle.flash_tree.specs.laws.SlotCounts.{AreOnce}
use Rattle.volume_terms.specs.Sizes.{Sizes}
use Rattle.volume_terms.specs.laws.List.{slice_get_there}
use Rattle.posix_profile.specs.State.{Name, Entries}
use Rattle.posix_profile.specs.laws.Map.{cases_key, get_removed, removed_none}
use Rattle.posix_profile.specs.laws.Name.{name_same}
use Rattle.pages.specs.Changes.{IsChange}
use Rattle.pages.specs.Maps.{PageMap, has, after_change}
use Rattle.pages.specs.declared.change.Change.{Change}
use Rattle.directories.specs.Changing.{MovesName}
use Rattle.directories.specs.Directories.{HasOnly, ReadsDirectory, SlotOf}
use Rattle.directories.specs.Moving.{IsMovedTo, MovesSlot, count_by, header_by, number_by, written_by}
use Rattle.directories.specs.Named.{IsFoundAt}
use Rattle.directories.specs.SlotLists.{IsWithout}
use Rattle.directories.specs.Writes.{EndsInZeros}
use Rattle.directories.specs.declared.head.DirectoryHead.{DirectoryHead}
use Rattle.directories.specs.declared.lookup.Located.{Located}
use Rattle.directories.specs.declared.moving.Moving.{Moving}
use Rattle.directories.proofs.Changed.{reads_slots}
use Rattle.directories.proofs.Lists.{entries_fewer, entries_len, fewer, once_fewer, origin, put_here, put_len, put_there, take_there}
use Rattle.directories.proofs.Reading.{count_after, one_entry}
use Rattle.directories.proofs.SlotLists.{writes_slots}
use Rattle.directories.proofs.Put.{IsAtSlot, is_put, put_are, put_count, put_get, put_list, put_number, put_once, put_size}

module _ (slots : List Entry) (once : AreOnce slots) (entries : Entries) (are : entries ≡ map.from_entries (slot_pairs slots)) (p : ℕ) (e : Entry) (at_p : slice_get slots p ≡ Some e)
    (last : ℕ) (len : length slots ≡ last + 1) (l : Entry) (at_last : slice_get slots last ≡ Some l) (from : Name) (name_is : e.name ≡ from) where
  abbrev others : List Entry
  others = fewer slots once entries are p e at_p last len l at_last

  -- where another name is then
  pub at_moved : (to : Name) (found : Option Located) (target : Option ℕ) → IsFoundAt slots entries to found → IsMovedTo found p last target → IsAtSlot others (map.remove entries from) to target
  at_moved to None None is moved = elim (cases_key nat_list_cmp_total name_same from to) [
    | inl here ↦ subst (λ (k : Name). map.get (map.remove entries from) k ≡ None) here (removed_none nat_list_cmp_total name_same entries from)
    | inr other ↦ get_removed nat_list_cmp_total name_same entries from to (λ e. other (sym e)) ∙ is
  ]
  at_moved to None (Some i) is moved = absurd moved
  at_moved to (Some f) None is moved =
      let both : Some is.0 ≡ Some e = sym is.1 ∙ ap (slice_get slots) moved ∙ at_p in
      let one : is.0 ≡ e = cc in
      let here : from ≡ to = sym name_is ∙ sym (ap (λ (x : Entry). x.name) one) ∙ is.2 in
      subst (λ (k : Name). map.get (map.remove entries from) k ≡ None) here (removed_none nat_list_cmp_total name_same entries from)
  at_moved to (Some f) (Some i) is moved = elim moved.1 [
    | inl x ↦
        let within = slice_get_within slots p e at_p in
        let apart : last ≢ p = λ same. moved.0 (x.0 ∙ same) in
        let less : p < last = omega (arith, within, len, apart) in
        let both : Some is.0 ≡ Some l = sym is.1 ∙ ap (slice_get slots) x.0 ∙ at_last in
        let one : is.0 ≡ l = cc in
        (is.0, ap (slice_get others) x.1 ∙ take_there last (set slots p l) p is.0 less (put_here slots p l within ∙ ap Some (sym one)), is.2)
    | inr x ↦
        let within = slice_get_within slots f.place is.0 is.1 in
        let less : f.place < last = omega (arith, within, len, x.0) in
        (is.0, ap (slice_get others) x.1 ∙ take_there last (set slots p l) f.place is.0 less (put_there slots p l f.place is.0 moved.0 is.1), is.2)
  ]

module _ (z : Sizes) (page_size : IsPageSize z.page_bytes) (m : PageMap) (o before : ℕ) (entries : Entries) (r : ReadsDir z (has m) o before entries) (moving : Moving) (slot : Slot) (base : DirectoryHead) (change : Change)
    (w : MovesSlot (record { sizes = z; pages = m; object = o }) moving (written_by moving slot) (header_by moving base) change) (count : moving.before ≡ length r.slots)
    (e : Entry) (at_p : slice_get r.slots moving.place ≡ Some e) (from : Name) (name_is : e.name ≡ from) where
  abbrev entry : Entry
  entry = entry_of slot

  abbrev last : ℕ
  last = moving.before - 1

  len : length r.slots ≡ last + 1
  len = omega (arith, count, slice_get_within r.slots moving.place e at_p)

  l : (x : Entry) × (slice_get r.slots last ≡ Some x)
  l = slice_get_there r.slots last (omega (arith, len))

  abbrev mid : List Entry
  mid = fewer r.slots r.once entries r.entries_are moving.place e at_p last len l.0 l.1

  mid_len : length mid ≡ last
  mid_len = let t = length-take last (set r.slots moving.place l.0) in omega (arith, t, put_len r.slots moving.place l.0, len)

  mid_once : AreOnce mid
  mid_once = once_fewer r.slots r.once entries r.entries_are moving.place e at_p last len l.0 l.1

  abbrev left : Entries
  left = map.remove entries from

  mid_are : left ≡ map.from_entries (slot_pairs mid)
  mid_are = subst (λ (k : Name). map.remove entries k ≡ map.from_entries (slot_pairs mid)) name_is (entries_fewer r.slots r.once entries r.entries_are moving.place e at_p last len l.0 l.1)

  abbrev new : List Entry
  new = put_list mid mid_once left mid_are entry moving.target

  number_is : (target : Option ℕ) → put_number mid mid_once left mid_are entry target ≡ number_by target moving.before
  number_is None = mid_len
  number_is (Some i) = refl

  count_is : (target : Option ℕ) → put_count mid mid_once left mid_are entry target ≡ count_by target moving.before
  count_is None = omega (arith, mid_len, len, count)
  count_is (Some i) = mid_len

  new_len : length new ≡ count_by moving.target moving.before
  new_len = put_size mid mid_once left mid_are entry moving.target ∙ count_is moving.target

  each : (k : ℕ) (y : Entry) → slice_get new k ≡ Some y → SlotOf z (after_change change m) o k y
  each k y at = elim (put_get mid mid_once left mid_are entry moving.target k y at) [
    | inl x ↦ subst (λ (v : Entry). SlotOf z (after_change change m) o k v) (sym x.1) (subst (λ n. SlotOf z (after_change change m) o n entry) (sym (x.0 ∙ number_is moving.target)) w.put_there)
    | inr x ↦
        let other : k ≢ number_by moving.target moving.before = λ same. x.0 (same ∙ sym (number_is moving.target)) in
        let t = origin r.slots r.once entries r.entries_are moving.place e at_p last len l.0 l.1 k y x.1 in
        elim t.4 [
          | inl q ↦
              let f = w.filled (λ same. omega (arith, same, q.0, t.3)) (λ same. other (q.0 ∙ same)) in
              let there : SlotOf z m o last y = r.each last y (ap (slice_get r.slots) (sym q.1) ∙ t.1) in
              let one : f.0 ≡ y = one_entry z page_size.most m o last f.0 y f.1 there in
              subst (λ n. SlotOf z (after_change change m) o n y) (sym q.0) (subst (λ (v : Entry). SlotOf z (after_change change m) o moving.place v) one f.2)
          | inr q ↦ w.others k y q.0 other t.3 (r.each k y (ap (slice_get r.slots) (sym q.1) ∙ t.1))
        ]
  ]

  module _ (found : Option Located) (is_found : IsFoundAt r.slots entries slot.name.now found) (moved : IsMovedTo found moving.place (moving.before - 1) moving.target) (moment : ℕ) (spare : base.spare ≡ r.fields.spare) (when : base.moment ≡ moment)
      (bytes most : ℕ) (is : IsChange change bytes most) (size : z.page_bytes ≡ bytes) (turns : HasOnly z m o moving.before → HasOnly z (after_change change m) o (count_by moving.target moving.before)) where
    at_slot : IsAtSlot mid left entry.name moving.target
    at_slot = at_moved r.slots r.once entries r.entries_are moving.place e at_p last len l.0 l.1 from name_is entry.name found moving.target is_found moved

    abbrev now : Entries
    now = map.insert left entry.name entry.object

    becomes : ReadsDirectory z (after_change change m) o moment now r.fields.spare
    becomes = reads_slots z m (after_change change m) o before moment entries r (header_by moving base) w.header spare when new now (sym new_len) each
        (put_once mid mid_once left mid_are entry moving.target at_slot) (put_are mid mid_once left mid_are entry moving.target at_slot)

    counted : map.len now ≡ count_by moving.target moving.before
    counted = count_after z page_size (after_change change m) o moment now becomes.0 (header_by moving base) w.header

    entries_count : map.len entries ≡ moving.before
    entries_count = entries_len r.slots r.once entries r.entries_are ∙ sym count

    fewer_now : map.len now ≤ map.len entries
    fewer_now = go moving.target counted where
      go : (target : Option ℕ) → map.len now ≡ count_by target moving.before → map.len now ≤ map.len entries
      go None t = omega (arith, t, entries_count)
      go (Some i) t = omega (arith, t, entries_count)

    without : IsWithout from r.slots mid
    without =
        let one : length r.slots - 1 ≡ last = omega (arith, len) in
        record {
          place = moving.place;
          entry = e;
          there = at_p;
          name_is = name_is;
          last = l.0;
          behind = ap (slice_get r.slots) one ∙ l.1;
          new_is = ap (λ k. take k (set r.slots moving.place l.0)) (sym one);
        }

    pub moves_name : MovesName (record { sizes = z; pages = m; object = o; moment = before; entries = entries; reads = r }) moment from slot change
    moves_name = record {
      makes = record {
        becomes = becomes;
        ends = λ only. subst (HasOnly z (after_change change m) o) (sym counted) (turns (subst (HasOnly z m o) entries_count only));
      };
      more = λ k low high. absurd (omega (arith, low, high, fewer_now));
      slots = (
        new,
        (mid, without, is_put mid mid_once left mid_are entry moving.target at_slot),
        writes_slots z m change o bytes most is size new (subst (EndsInZeros z change o) (sym new_len) w.zeros) each,
      );
    }
