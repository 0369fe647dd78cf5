-- Maps that agree on the footprint of one show the same tree.
use Rattle.std.specs.Prelude.{◌≡◌, ◌<◌, ℕ, ◌+◌, ◌/◌, List, Some}
use Rattle.std.proofs.Common.{refl, inl, inr, arith}
use Rattle.std.specs.FinMap as map
use Rattle.std.proofs.lemmas.Option.{slice_get_within}
use Rattle.page_tags.specs.Headers.{Fields}
use Rattle.volume_terms.specs.Sizes.{Sizes, page_slots}
use Rattle.posix_profile.specs.State.{Entries, Object, File, Dir, Objects}
use Rattle.flash_tree.specs.Tree.{NewestMap, HasHeader, ReadsAs, ReadsFile, ReadsDir, Shows, LooksUp, KeepsFootprint}

module _ (z : Sizes) (m n : NewestMap) (objects : Objects) (keeps : KeepsFootprint z m n objects) (o : ℕ) where
  also : (x : Object) → map.get objects o ≡ Some x → (f : Fields) → HasHeader z m o f → (c : ℕ) (bytes : List ℕ) → LooksUp z f c → m o c bytes → n o c bytes
  also x there f has c bytes looks is = keeps o c bytes (record { object = x; there = there; fields = f; has = has; looks = looks }) is

  same_header : (x : Object) → map.get objects o ≡ Some x → (f : Fields) → HasHeader z m o f → HasHeader z n o f
  same_header x there f has = (also x there f has 0 _ (inl refl) has.0, has.1)

  file : (moment : ℕ) (bytes : List ℕ) → map.get objects o ≡ Some (File moment bytes) → ReadsFile z m o moment bytes → ReadsFile z n o moment bytes
  file moment bytes there r = record {
    fields = r.fields;
    has = same_header (File moment bytes) there r.fields r.has;
    kind = r.kind;
    when = r.when;
    size = r.size;
    each = λ i lt. elim (r.each i lt) [
      | inl set ↦ inl (set.0, (set.1.0, also (File moment bytes) there r.fields r.has (1 + i / z.page_bytes) set.1.0 (inr (inl (r.kind, omega arith, set.0))) set.1.1, set.1.2))
      | inr hole ↦ inr hole
    ];
  }

  dir : (moment : ℕ) (entries : Entries) → map.get objects o ≡ Some (Dir moment entries) → ReadsDir z m o moment entries → ReadsDir z n o moment entries
  dir moment entries there r = record {
    fields = r.fields;
    has = same_header (Dir moment entries) there r.fields r.has;
    kind = r.kind;
    when = r.when;
    slots = r.slots;
    size = r.size;
    each = λ i entry is.
        let s = r.each i entry is in
        let lt : i < r.fields.length = omega (arith, r.size, slice_get_within r.slots i entry is) in
        (s.0, also (Dir moment entries) there r.fields r.has (1 + i / page_slots z) s.0 (inr (inr (r.kind, (i, lt, refl)))) s.1, s.2, s.3);
    once = r.once;
    entries_are = r.entries_are;
  }

  reads : (x : Object) → map.get objects o ≡ Some x → ReadsAs z m o x → ReadsAs z n o x
  reads (File moment bytes) there r = file moment bytes there r
  reads (Dir moment entries) there r = dir moment entries there r

-- what has the data of a tree's footprint shows that tree
pub footprint_law : (z : Sizes) (m n : NewestMap) (objects : Objects) → KeepsFootprint z m n objects → Shows z m objects → Shows z n objects
footprint_law z m n objects keeps shows = record { tree = shows.tree; each = λ o x there. reads z m n objects keeps o x there (shows.each o x there) }
