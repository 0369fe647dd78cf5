-- The objects of a tree, which came without names, get them one after the other.
use Rattle.std.specs.Prelude.{◌≡◌, ◌<◌, ◌+◌, ℕ, true, List, slice_get, Some}
use Rattle.std.proofs.Common.{refl, sym, ◌∙◌, ap, subst, inl, inr, arith}
use Rattle.std.proofs.lemmas.Bool.{cases_eq}
use Rattle.std.specs.Cmp.{nat_cmp_total}
use Rattle.std.specs.Cmp.Lexicographic.{nat_list_cmp_total}
use Rattle.std.specs.FinMap as map
use Rattle.volume_terms.specs.Sizes.{Sizes, IsSizes}
use Rattle.flash_tree.specs.laws.OneTree.{same_options}
use Rattle.posix_profile.specs.State.{Name, Entries, Object, File, Dir, Objects, IsDirectory, entries_of}
use Rattle.posix_profile.specs.Names.{Names}
use Rattle.posix_profile.specs.Changes.{with_name}
use Rattle.posix_profile.specs.Charge.{fits}
use Rattle.posix_profile.specs.WellFormed.{IsForest, IsNamed}
use Rattle.posix_profile.specs.laws.Directory.{with_from, with_committed, with_here, there_after}
use Rattle.posix_profile.specs.laws.Map.{insert_cases}
use Rattle.posix_profile.specs.laws.Name.{name_same, entry_named}
use Rattle.object_store.specs.Totaled.{GetsName}
use Rattle.tree_walk.specs.Building.{IsPartOf, ArePartOf, IsNameless}
use Rattle.tree_walk.proofs.Elements.{none_of}
use Rattle.tree_walk.proofs.Parts.{part_countable}
use Rattle.tree_walk.proofs.Slots.{NamedSlot}

-- a slot is named in the objects
abbrev pub IsNamedIn : Objects → NamedSlot → Type 0
IsNamedIn objects s = Names objects s.directory s.entry.name s.entry.object

-- all objects came, and the names of the first n slots
pub record HasNamed (objects : Objects) (all : List NamedSlot) (n : ℕ) (part : Objects) : Type 0 where
  pub part_of : ArePartOf objects part
  pub all_there : (o : ℕ) (x : Object) → map.get objects o ≡ Some x → (y : Object) × (map.get part o ≡ Some y)
  pub named : (d c : ℕ) (name : Name) → Names part d name c
      → (i : ℕ) × (s : NamedSlot) × (i < n) × (slice_get all i ≡ Some s) × (s.directory ≡ d) × (s.entry.name ≡ name) × (s.entry.object ≡ c)
  pub names : (i : ℕ) (s : NamedSlot) → i < n → slice_get all i ≡ Some s → IsNamedIn part s

pub begins_named : (objects : Objects) (all : List NamedSlot) (part : Objects) → IsNameless objects part → HasNamed objects all 0 part
begins_named objects all part nameless = record {
  part_of = nameless.part_of;
  all_there = nameless.all;
  named = λ d c name n. absurd (nameless.unnamed d c name n);
  names = λ i s lt. absurd (omega (arith, lt));
}

-- each slot is named, and no two are of one name
pub record AreNamedOnce (objects : Objects) (all : List NamedSlot) : Type 0 where
  pub each : (i : ℕ) (s : NamedSlot) → slice_get all i ≡ Some s → IsNamedIn objects s
  pub once : (i j : ℕ) (s t : NamedSlot) → slice_get all i ≡ Some s → slice_get all j ≡ Some t → s.directory ≡ t.directory → s.entry.name ≡ t.entry.name → i ≡ j

part_directory : (x : Object) (moment : ℕ) (entries : Entries) → IsPartOf x (Dir moment entries) → (t : ℕ) × (es : Entries) × (x ≡ Dir t es)
part_directory (File t bytes) moment entries is = absurd cc
part_directory (Dir t es) moment entries is = (t, es, refl)

module _ (z : Sizes) (sizes : IsSizes z) (objects : Objects) (forest : IsForest z objects) (fit : fits z objects ≡ true) (all : List NamedSlot) (are : AreNamedOnce objects all)
    (n : ℕ) (part : Objects) (h : HasNamed objects all n part) (s : NamedSlot) (at : slice_get all n ≡ Some s)
    (moment : ℕ) (entries : Entries) (dir : map.get objects s.directory ≡ Some (Dir moment entries)) where
  abbrev d : ℕ
  d = s.directory

  abbrev name : Name
  name = s.entry.name

  abbrev o : ℕ
  o = s.entry.object

  abbrev more : Objects
  more = with_name part moment d name o

  named_here : Names objects d name o
  named_here = are.each n s at

  -- the directory as far as it is made
  so_far : (some : Entries) × (map.get part d ≡ Some (Dir moment some)) × ((k : Name) (c : ℕ) → map.get some k ≡ Some c → map.get entries k ≡ Some c)
  so_far =
      let y = h.all_there d (Dir moment entries) dir in
      let p = h.part_of d y.0 y.1 in
      let two : Some p.0 ≡ Some (Dir moment entries) = sym p.1 ∙ dir in
      let same : p.0 ≡ Dir moment entries = cc in
      let q : IsPartOf (Dir moment entries) y.0 = subst (λ (x : Object). IsPartOf x y.0) same p.2 in
      (q.0, y.1 ∙ ap Some q.1, q.2)

  is_dir : IsDirectory part d
  is_dir = (moment, so_far.0, so_far.1)

  -- no slot before it is of its name
  apart : (i : ℕ) (t : NamedSlot) → i < n → slice_get all i ≡ Some t → t.directory ≡ d → t.entry.name ≡ name → ⊥
  apart i t lt is dirs names = let one : i ≡ n = are.once i n t s is at dirs names in omega (arith, one, lt)

  entry_there : map.get entries name ≡ Some o
  entry_there =
      let two : Some (Dir moment entries) ≡ Some (Dir named_here.moment named_here.entries) = sym dir ∙ named_here.directory_is in
      let same : entries ≡ named_here.entries = cc in
      ap (λ (es : Entries). map.get es name) same ∙ named_here.object_is

  among : (k : Name) (c : ℕ) → map.get (map.insert (entries_of (map.get part d)) name o) k ≡ Some c → map.get entries k ≡ Some c
  among k c is = elim (insert_cases nat_list_cmp_total name_same (entries_of (map.get part d)) name o k c is) [
    | inl new ↦ ap (map.get entries) new.0 ∙ entry_there ∙ ap Some (sym new.1)
    | inr old ↦ so_far.2 k c (ap (λ (es : Entries). map.get es k) (sym (ap entries_of so_far.1)) ∙ old.1)
  ]

  part_more : ArePartOf objects more
  part_more q y is = elim (insert_cases nat_cmp_total map.nat_cmp-IsAntisymmetric part d (Dir moment (map.insert (entries_of (map.get part d)) name o)) q y is) [
    | inl new ↦ (Dir moment entries, ap (map.get objects) new.0 ∙ dir, (map.insert (entries_of (map.get part d)) name o, new.1, among))
    | inr old ↦ h.part_of q y old.1
  ]

  unnamed : IsDirectory part o → IsNamed part o → ⊥
  unnamed directory named =
      let x = h.part_of o (Dir directory.0 directory.1) directory.2 in
      let t = part_directory x.0 directory.0 directory.1 x.2 in
      let is : IsDirectory objects o = (t.0, t.1, x.1 ∙ ap Some t.2) in
      let w = h.named named.0 o named.1 named.2 in
      let other : Names objects w.1.directory w.1.entry.name o = subst (λ c. Names objects w.1.directory w.1.entry.name c) w.6 (are.each w.0 w.1 w.3) in
      let one = forest.one_name o w.1.directory d w.1.entry.name name is other named_here in
      apart w.0 w.1 w.2 w.3 one.0 one.1

  -- so the next slot may be named
  pub gets : GetsName z part moment d name o
  gets = record {
    directory_is = is_dir;
    absent = none_of (map.get (entries_of (map.get part d)) name) (λ c is. let w = h.named d c name (entry_named part d c name is_dir is) in apart w.0 w.1 w.2 w.3 w.4 w.5);
    there = (let x = forest.leads d o name named_here in h.all_there o x.0 x.1);
    unnamed = unnamed;
    before = part_countable z sizes objects part fit h.part_of;
    after = part_countable z sizes objects more fit part_more;
  }

  pub named_more : HasNamed objects all (n + 1) more
  named_more = record {
    part_of = part_more;
    all_there = λ q x is. let y = h.all_there q x is in there_after part d moment (map.insert (entries_of (map.get part d)) name o) is_dir q y.0 y.1;
    named = λ p c k names. elim (with_from part moment d o name is_dir p c k names) [
      | inl new ↦ (n, s, omega arith, at, sym new.0, sym new.1, sym new.2)
      | inr old ↦ let w = h.named p c k old.1 in (w.0, w.1, omega (arith, w.2), w.3, w.4, w.5, w.6)
    ];
    names = λ i t lt is. elim (cases_eq i n) [
      | inl place ↦
          let two : Some s ≡ Some t = sym at ∙ ap (slice_get all) (sym place) ∙ is in
          let same : s ≡ t = cc in
          subst (IsNamedIn more) same (with_here part moment d o name is_dir)
      | inr other ↦
          let before : i < n = omega (arith, lt, other) in
          with_committed part moment d o name is_dir t.directory t.entry.object t.entry.name (h.names i t before is) (λ dirs names. apart i t before is dirs names)
    ];
  }

-- when each name has come, the objects are there
module _ (objects : Objects) (all : List NamedSlot) (n : ℕ) (part : Objects) (h : HasNamed objects all n part)
    (every : (d c : ℕ) (name : Name) → Names objects d name c → (i : ℕ) × (s : NamedSlot) × (i < n) × (slice_get all i ≡ Some s) × (s.directory ≡ d) × (s.entry.name ≡ name) × (s.entry.object ≡ c)) where
  came : (d c : ℕ) (name : Name) → Names objects d name c → Names part d name c
  came d c name names =
      let w = every d c name names in
      subst (λ q. Names part q name c) w.4 (subst (λ k. Names part w.1.directory k c) w.5 (subst (λ q. Names part w.1.directory w.1.entry.name q) w.6 (h.names w.0 w.1 w.2 w.3)))

  whole : (q : ℕ) (x y : Object) → map.get objects q ≡ Some x → map.get part q ≡ Some y → IsPartOf x y → x ≡ y
  whole q (File moment bytes) y there is of = sym of
  whole q (Dir moment entries) y there is (some, same, among) =
      let back : (name : Name) (c : ℕ) → map.get entries name ≡ Some c → map.get some name ≡ Some c = λ name c got.
      let k = came q c name (record { moment = moment; entries = entries; directory_is = there; object_is = got }) in
      let two : Some (Dir moment some) ≡ Some (Dir k.moment k.entries) = ap Some (sym same) ∙ sym is ∙ k.directory_is in
      let one : some ≡ k.entries = cc in
      ap (λ (es : Entries). map.get es name) one ∙ k.object_is in
      let all_same : some ≡ entries = map.same_map nat_list_cmp_total name_same some entries (λ name. same_options (map.get some name) (map.get entries name) (among name) (back name)) in
      ap (Dir moment) (sym all_same) ∙ sym same

  forth : (q : ℕ) (y : Object) → map.get part q ≡ Some y → map.get objects q ≡ Some y
  forth q y is = let x = h.part_of q y is in x.1 ∙ ap Some (whole q x.0 y x.1 is x.2)

  pub all_came : part ≡ objects
  all_came = map.same_map nat_cmp_total map.nat_cmp-IsAntisymmetric part objects (λ q. same_options (map.get part q) (map.get objects q) (forth q) (λ x there.
      let y = h.all_there q x there in
      let two : Some x ≡ Some y.0 = sym there ∙ forth q y.0 y.1 in
      let same : x ≡ y.0 = cc in
      y.1 ∙ ap Some (sym same)))
