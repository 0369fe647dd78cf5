-- What a look-up through an index reports on a directory whose names it holds.
use Rattle.std.specs.Prelude.{◌≡◌, ◌<◌, ◌≤◌, ℕ, Option, Some, None}
use Rattle.std.specs.FinMap as map
use Rattle.std.proofs.Common.{sym, ◌∙◌, ap, subst, arith}
use Rattle.page_tags.specs.Slots.{Entry}
use Rattle.name_index.specs.Hashes.{fnv1a}
use Rattle.name_index.specs.Names.{Holds}
use Rattle.name_index.specs.declared.index.NameIndex.{NameIndex}
use Rattle.volume_terms.specs.Sizes.{Sizes}
use Rattle.volume_terms.specs.laws.List.{slice_get_there}
use Rattle.posix_profile.specs.State.{Name, Entries}
use Rattle.pages.specs.Maps.{PageMap}
use Rattle.pages.specs.State.{PagesState, OnlyFinds}
use Rattle.pages.specs.laws.State.{finds_none}
use Rattle.directories.specs.Directories.{DirIn, SlotOf}
use Rattle.directories.specs.Heads.{SaysHead}
use Rattle.directories.specs.Named.{NamedIn, FindsHeld, ReportsHeld, IsFoundAt, IsSought}
use Rattle.directories.specs.Slots.{Finds}
use Rattle.directories.specs.declared.head.DirectoryHead.{DirectoryHead}
use Rattle.directories.specs.declared.lookup.Located.{Located}
use Rattle.directories.proofs.Lists.{leads}
use Rattle.directories.proofs.Reading.{later, one_entry}
use Rattle.directories.proofs.Reported.{count_is, length_is, head_says, located, leads_nowhere}

module _ (names : NameIndex) (p : PagesState) (z : Sizes) (o moment : ℕ) (entries : Entries) (d : NamedIn names p z o moment entries) where
  abbrev pub dir : DirIn p z o moment entries
  dir = record { sound = d.sound; size = d.size; reads = d.reads }

  module _ (sized : (512 ≤ p.page_bytes) × (p.page_bytes ≤ 4096)) where
    pub few_bytes : z.page_bytes ≤ 4096
    few_bytes = let most : p.page_bytes ≤ 4096 = sized.1 in omega (arith, d.size, most)

    module _ (head : DirectoryHead) (s : SaysHead p o head) where
      -- the other slots have other names: their hashes are other ones
      finds_all : (name : Name) (found : Option Located) → FindsHeld (Holds names o (fnv1a name)) (SlotOf z p.present o) head.length name found → Finds (SlotOf z p.present o) 0 head.length name found
      finds_all name (Some l) is = is
      finds_all name None is = λ i low less.
          let len = length_is p p (finds_none p) z o moment entries dir sized head s in
          let count = count_is p p (finds_none p) z o moment entries dir sized head s in
          let at = slice_get_there d.reads.slots i (omega (arith, less, len)) in
          let there = d.reads.each i at.0 at.1 in (
            at.0,
            there,
            λ same.
                let held = d.hashes i at.0 (omega (arith, less, count)) there in
                let f = is i less (subst (λ (n : Name). Holds names o (fnv1a n) i) same held) in
                f.2 (ap (λ (x : Entry). x.name) (one_entry z few_bytes p.present o i f.0 at.0 f.1 there) ∙ same),
          )

      found_at : (name : Name) (found : Option Located) → Finds (SlotOf z p.present o) 0 head.length name found → IsFoundAt d.reads.slots entries name found
      found_at name (Some l) is = located p p (finds_none p) z o moment entries dir sized head s name l is
      found_at name None is = sym (leads_nowhere p p (finds_none p) z o moment entries dir sized head s name is)

      pub sought_in : (name : Name) (found : Option Located) → FindsHeld (Holds names o (fnv1a name)) (SlotOf z p.present o) head.length name found
          → IsSought z p o name (record { head = head; found = found }) moment entries d.reads
      sought_in name found is = record {
        head = head_says p p (finds_none p) z o moment entries dir sized head s;
        found = found_at name found (finds_all name found is);
      }

  -- a slot's name leads to its object
  pub was_named : (name : Name) (found : Located) → IsFoundAt d.reads.slots entries name (Some found) → (object : ℕ) × (map.get entries name ≡ Some object)
  was_named name found is = (is.0.object, subst (λ (k : Name). map.get entries k ≡ Some is.0.object) is.2 (leads d.reads.slots d.reads.once entries d.reads.entries_are found.place is.0 is.1))

-- such a directory, after a look-up
abbrev pub named_later : (names : NameIndex) (p q : PagesState) (z : Sizes) (o moment : ℕ) (entries : Entries) → OnlyFinds p q → NamedIn names p z o moment entries → NamedIn names q z o moment entries
named_later names p q z o moment entries lookups d =
    let l = later p q z o moment entries lookups (record { sound = d.sound; size = d.size; reads = d.reads }) in
    record { sound = l.sound; size = l.size; reads = l.reads; hashes = λ s e less at. d.hashes s e less (subst (λ (m : PageMap). SlotOf z m o s e) lookups.present at) }

-- what is reported of a name, whatever is there
module _ (names : NameIndex) (z : Sizes) (p : PagesState) (o : ℕ) (head : DirectoryHead) (s : SaysHead p o head) (name : Name) where
  pub reports_some : (l : Located) → FindsHeld (Holds names o (fnv1a name)) (SlotOf z p.present o) head.length name (Some l) → ReportsHeld names z p o name (Some l.object)
  reports_some l is = (s.0, (l.place, subst (λ n. l.place < n) s.1.length_is is.most, (is.entry, is.there, is.name_is, is.object_is)))

  pub reports_none : FindsHeld (Holds names o (fnv1a name)) (SlotOf z p.present o) head.length name None → ReportsHeld names z p o name None
  reports_none is = (s.0, λ i less held. is i (subst (λ n. i < n) (sym s.1.length_is) less) held)
