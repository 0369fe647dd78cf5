-- What is reported of a directory that is there.
use Rattle.std.specs.Prelude.{◌≡◌, ◌<◌, ◌≤◌, ℕ, List, length, Option, Some, None, option_map, slice_get}
use Rattle.std.specs.FinMap as map
use Rattle.std.proofs.Common.{sym, ◌∙◌, ap, subst, arith}
use Rattle.std.proofs.lemmas.Option.{slice_get_within}
use Rattle.page_tags.specs.Headers.{Fields, IsHeader, header_bytes}
use Rattle.page_tags.specs.Slots.{Entry}
use Rattle.flash_tree.specs.Tree.{IsPageSize, ReadsDir}
use Rattle.flash_tree.specs.laws.Finding.{same_header}
use Rattle.flash_tree.specs.laws.OneTree.{one_slot}
use Rattle.volume_terms.specs.Sizes.{Sizes}
use Rattle.volume_terms.specs.laws.List.{slice_get_there}
use Rattle.posix_profile.specs.State.{Name, Entries}
use Rattle.pages.specs.Maps.{PageMap, has}
use Rattle.pages.specs.State.{PagesState, OnlyFinds}
use Rattle.directories.specs.Directories.{DirIn, SlotOf}
use Rattle.directories.specs.Heads.{IsHeadOf, IsHeaded, SaysHead, fields_in}
use Rattle.directories.specs.Writes.{HasHead}
use Rattle.directories.specs.Slots.{AreSlots, Finds}
use Rattle.directories.specs.declared.head.DirectoryHead.{DirectoryHead}
use Rattle.directories.specs.declared.lookup.Located.{Located}
use Rattle.directories.proofs.Lists.{entries_len, leads, none}
use Rattle.directories.proofs.Searching.{one_page}

single : (m : PageMap) (o c : ℕ) (xs ys : List ℕ) → m o c ≡ Some xs → m o c ≡ Some ys → xs ≡ ys
single m o c xs ys = one_page m o c xs ys

-- a slot is one entry
pub one_entry : (z : Sizes) → z.page_bytes ≤ 4096 → (m : PageMap) (d i : ℕ) (a b : Entry) → SlotOf z m d i a → SlotOf z m d i b → a ≡ b
one_entry z within_limit m d i a b = one_slot z within_limit (has m) (single m) d i a b

-- the header counts the entries
pub count_after : (z : Sizes) → IsPageSize z.page_bytes → (m : PageMap) (o moment : ℕ) (entries : Entries) (r : ReadsDir z (has m) o moment entries) (head : DirectoryHead) → HasHead z m o head → map.len entries ≡ head.length
count_after z size m o moment entries r head h =
    entries_len r.slots r.once entries r.entries_are ∙ sym r.size
    ∙ ap (λ (f : Fields). f.length) (same_header z size (has m) (single m) o r.fields (fields_in z.page_bytes head) r.has (h.has, h.valid))

module _ (p : PagesState) (z : Sizes) (o moment : ℕ) (entries : Entries) (d : DirIn p z o moment entries) where
  -- its header alone says what it says
  pub fields_are : IsPageSize z.page_bytes → (h : IsHeaded p o) → h.fields ≡ d.reads.fields
  fields_are size h = same_header z size (has p.present) (single p.present) o h.fields d.reads.fields (h.has, subst (λ n. IsHeader n h.fields) (sym d.size) h.valid) d.reads.has

  pub head_is : IsPageSize z.page_bytes → (head : DirectoryHead) → SaysHead p o head → IsHeadOf head d.reads.fields
  head_is size head s = subst (IsHeadOf head) (fields_are size s.0) s.1

  -- its slots are there
  pub slots_are : AreSlots (SlotOf z p.present o) 0 (length d.reads.slots)
  slots_are i low less = let at = slice_get_there d.reads.slots i less in (at.0, d.reads.each i at.0 at.1)

  -- a slot that is reported is the one of the directory
  pub slot_is : z.page_bytes ≤ 4096 → (i : ℕ) (e : Entry) → i < length d.reads.slots → SlotOf z p.present o i e → slice_get d.reads.slots i ≡ Some e
  slot_is within_limit i e less at =
      let s = slice_get_there d.reads.slots i less in
      s.1 ∙ ap Some (one_entry z within_limit p.present o i s.0 e (d.reads.each i s.0 s.1) at)

  -- where a name was found, it leads to the object
  pub found_leads : z.page_bytes ≤ 4096 → (name : Name) (found : Option Located) → Finds (SlotOf z p.present o) 0 (length d.reads.slots) name found → option_map (λ (x : Located). x.object) found ≡ map.get entries name
  found_leads within_limit name (Some l) is =
      let at = slot_is within_limit l.place is.entry is.most is.there in
      ap Some is.object_is ∙ sym (leads d.reads.slots d.reads.once entries d.reads.entries_are l.place is.entry at) ∙ ap (map.get entries) is.name_is
  found_leads within_limit name None is = sym (none d.reads.slots d.reads.once entries d.reads.entries_are name (λ k e at same.
      let within = slice_get_within d.reads.slots k e at in
      let s = is k (omega arith) within in
      s.2 (ap (λ (x : Entry). x.name) (one_entry z within_limit p.present o k s.0 e s.1 (d.reads.each k e at)) ∙ same)))

-- the directory, after a look-up
abbrev pub later : (p q : PagesState) (z : Sizes) (o moment : ℕ) (entries : Entries) → OnlyFinds p q → DirIn p z o moment entries → DirIn q z o moment entries
later p q z o moment entries lookups d = record {
  sound = lookups.sound ∙ d.sound;
  size = d.size ∙ sym lookups.page_bytes;
  reads = record {
    fields = d.reads.fields;
    has = (subst (λ (m : PageMap). m o 0 ≡ Some (header_bytes d.reads.fields)) (sym lookups.present) d.reads.has.0, d.reads.has.1);
    kind = d.reads.kind;
    when = d.reads.when;
    slots = d.reads.slots;
    size = d.reads.size;
    each = λ i e at. subst (λ (m : PageMap). SlotOf z m o i e) (sym lookups.present) (d.reads.each i e at);
    once = d.reads.once;
    entries_are = d.reads.entries_are;
  };
}
