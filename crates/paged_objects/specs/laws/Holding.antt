-- Pages that hold objects, read one object at a time, and after a change of one.
use Rattle.std.specs.Prelude.{◌≡◌, ◌≢◌, ◌/◌, ◌+◌, ℕ, zero, suc, List, [], ◌∷◌, Option, Some, None, slice_get}
use Rattle.std.proofs.Common.{refl, sym, ◌∙◌, ap, subst, inl, inr, arith}
use Rattle.std.proofs.lemmas.Bool.{cases_eq}
use Rattle.std.specs.Cmp.{nat_cmp_total}
use Rattle.std.specs.FinMap as map
use Rattle.volume_terms.specs.Sizes.{Sizes, page_slots}
use Rattle.posix_profile.specs.State.{Entries, Object, File, Dir, Objects, IsFile, IsDirectory}
use Rattle.posix_profile.specs.laws.Map.{get_here, get_there, get_removed, removed_none}
use Rattle.pages.specs.Maps.{PageMap, without_cuts}
use Rattle.pages.specs.laws.Maps.{cut_here, cut_elsewhere}
use Rattle.pages.specs.declared.change.Cut.{Cut}
use Rattle.pages.specs.State.{PagesState, OnlyFinds}
use Rattle.directories.specs.Directories.{DirIn}
use Rattle.file_io.specs.Files.{FileIn}
use Rattle.paged_objects.specs.Holding.{HoldsFile, HoldsDirectory, HoldsObject, HoldsObjects, HoldsIn}

-- an object that is there is held
pub held : (z : Sizes) (m : PageMap) (objects : Objects) → HoldsObjects z m objects → (o : ℕ) (x : Option Object) → map.get objects o ≡ x → HoldsObject z m o x
held z m objects holds o x is = subst (HoldsObject z m o) is (holds.each o)

pub held_file : (p : PagesState) (z : Sizes) (objects : Objects) → HoldsIn p z objects → (o : ℕ) (file : IsFile objects o) → HoldsFile z p.present o file.0 file.1
held_file p z objects h o file = held z p.present objects h.holds o (Some (File file.0 file.1)) file.2

pub held_directory : (p : PagesState) (z : Sizes) (objects : Objects) → HoldsIn p z objects → (o : ℕ) (dir : IsDirectory objects o) → HoldsDirectory z p.present o dir.0 dir.1
held_directory p z objects h o dir = held z p.present objects h.holds o (Some (Dir dir.0 dir.1)) dir.2

abbrev pub file_in : (p : PagesState) (z : Sizes) (objects : Objects) → HoldsIn p z objects → (o : ℕ) (file : IsFile objects o) → FileIn p z o file.0 file.1
file_in p z objects h o file = record { sound = h.sound; size = h.size; reads = (held_file p z objects h o file).reads }

abbrev pub directory_in : (p : PagesState) (z : Sizes) (objects : Objects) → HoldsIn p z objects → (o : ℕ) (dir : IsDirectory objects o) → DirIn p z o dir.0 dir.1
directory_in p z objects h o dir = record { sound = h.sound; size = h.size; reads = (held_directory p z objects h o dir).reads }

-- calls that only look for pages leave what is held
pub holds_on : (p q : PagesState) (z : Sizes) (objects : Objects) → OnlyFinds p q → HoldsIn p z objects → HoldsIn q z objects
holds_on p q z objects lookups h = record {
  sound = lookups.sound ∙ h.sound;
  size = h.size ∙ sym lookups.page_bytes;
  holds = subst (λ m. HoldsObjects z m objects) (sym lookups.present) h.holds;
}

module _ (z : Sizes) (m n : PageMap) (o : ℕ) (same : (c : ℕ) → n o c ≡ m o c) where
  same_file : (moment : ℕ) (bytes : List ℕ) → HoldsFile z m o moment bytes → HoldsFile z n o moment bytes
  same_file moment bytes h = record {
    reads = record {
      fields = h.reads.fields;
      has = (same 0 ∙ h.reads.has.0, h.reads.has.1);
      kind = h.reads.kind;
      when = h.reads.when;
      size = h.reads.size;
      each = λ i lt. elim (h.reads.each i lt) [
        | inl there ↦ inl (there.0, (there.1.0, same (1 + i / z.page_bytes) ∙ there.1.1, there.1.2))
        | inr hole ↦ inr hole
      ];
    };
    only = λ c some absent. same c ∙ h.only c some absent;
  }

  same_directory : (moment : ℕ) (entries : Entries) → HoldsDirectory z m o moment entries → HoldsDirectory z n o moment entries
  same_directory moment entries h = record {
    reads = record {
      fields = h.reads.fields;
      has = (same 0 ∙ h.reads.has.0, h.reads.has.1);
      kind = h.reads.kind;
      when = h.reads.when;
      slots = h.reads.slots;
      size = h.reads.size;
      each = λ i entry is. let s = h.reads.each i entry is in (s.0, same (1 + i / page_slots z) ∙ s.1, s.2, s.3);
      once = h.reads.once;
      entries_are = h.reads.entries_are;
    };
    only = λ c behind. same c ∙ h.only c behind;
    spare = h.spare;
  }

  -- where the pages of a number stay, it holds what it did
  pub same_object : (x : Option Object) → HoldsObject z m o x → HoldsObject z n o x
  same_object None h = λ c. same c ∙ h c
  same_object (Some (File moment bytes)) h = same_file moment bytes h
  same_object (Some (Dir moment entries)) h = same_directory moment entries h

-- the pages of every other number stay
abbrev pub KeepsOthers : PageMap → PageMap → ℕ → Type 0
KeepsOthers m n o = (q c : ℕ) → q ≢ o → n q c ≡ m q c

module _ (z : Sizes) (m n : PageMap) (objects : Objects) (holds : HoldsObjects z m objects) where
  -- pages that are the same hold the same
  pub same_objects : ((o c : ℕ) → n o c ≡ m o c) → HoldsObjects z n objects
  same_objects same = record { each = λ o. same_object z m n o (same o) (map.get objects o) (holds.each o) }

  -- one object has other pages
  pub put_object : (o : ℕ) (x : Object) → KeepsOthers m n o → HoldsObject z n o (Some x) → HoldsObjects z n (map.insert objects o x)
  put_object o x keeps new = record {
    each = λ q. elim (cases_eq q o) [
      | inl here ↦
          let got : map.get (map.insert objects o x) q ≡ Some x = ap (map.get (map.insert objects o x)) here ∙ get_here nat_cmp_total map.nat_cmp-IsAntisymmetric objects o x in
          subst (HoldsObject z n q) (sym got) (subst (λ k. HoldsObject z n k (Some x)) (sym here) new)
      | inr other ↦
          subst (HoldsObject z n q) (sym (get_there nat_cmp_total map.nat_cmp-IsAntisymmetric objects o x q other))
          (same_object z m n q (λ c. keeps q c other) (map.get objects q) (holds.each q))
    ];
  }

  -- one object has no pages any more
  pub take_object : (o : ℕ) → KeepsOthers m n o → ((c : ℕ) → n o c ≡ None) → HoldsObjects z n (map.remove objects o)
  take_object o keeps gone = record {
    each = λ q. elim (cases_eq q o) [
      | inl here ↦
          let got : map.get (map.remove objects o) q ≡ None = ap (map.get (map.remove objects o)) here ∙ removed_none nat_cmp_total map.nat_cmp-IsAntisymmetric objects o in
          subst (HoldsObject z n q) (sym got) (subst (λ k. HoldsObject z n k None) (sym here) gone)
      | inr other ↦
          subst (HoldsObject z n q) (sym (get_removed nat_cmp_total map.nat_cmp-IsAntisymmetric objects o q other))
          (same_object z m n q (λ c. keeps q c other) (map.get objects q) (holds.each q))
    ];
  }

-- one cut is of its object alone
only_cut : (cut it : Cut) (i : ℕ) → slice_get (cut ∷ []) i ≡ Some it → it ≡ cut
only_cut cut it zero is = cc
only_cut cut it (suc i) is = absurd cc

-- with its cut an object goes
pub cut_object : (z : Sizes) (m : PageMap) (objects : Objects) → HoldsObjects z m objects → (o : ℕ)
    → HoldsObjects z (without_cuts (record { object = o; from = 0 } ∷ []) m) (map.remove objects o)
cut_object z m objects holds o =
    let cut : Cut = record { object = o; from = 0 } in
    take_object z m (without_cuts (cut ∷ []) m) objects holds o
    (λ q c other. cut_elsewhere (cut ∷ []) m q c (λ i is. other (sym is.object ∙ ap (λ (x : Cut). x.object) (only_cut cut is.cut i is.there))))
    (λ c. cut_here (cut ∷ []) m o c 0 (record { cut = cut; there = refl; object = refl; chunk = omega arith }))
