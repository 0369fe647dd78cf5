-- What the computed tests and parents say of the names of a state.
use Rattle.std.specs.Prelude.{◌≡◌, ◌⊎◌, ℕ, true, false, Option, Some, None, nat_eq}
use Rattle.std.proofs.Common.{refl, sym, ◌∙◌, ap, subst, inl, inr}
use Rattle.std.proofs.lemmas.Bool.{true≢false, false≢true, eqb-true, eq-eqb}
use Rattle.std.specs.List.{find as first_of}
use Rattle.std.specs.Option.{option_map_or}
use Rattle.std.specs.Ordering.{nat_cmp}
use Rattle.std.specs.Cmp.{nat_cmp_total}
use Rattle.std.specs.Cmp.Lexicographic.{slice_cmp, nat_list_cmp_total}
use Rattle.std.specs.FinMap as map
use Rattle.volume_terms.specs.Sizes.{Sizes, root_number}
use Rattle.posix_profile.specs.State.{Name, Entries, Object, File, Dir, Objects, State, IsFile, IsDirectory, is_directory, is_file, entries_of}
use Rattle.posix_profile.specs.Names.{Names, Reached, root, has_entry_to, parent, is_named, is_open}
use Rattle.posix_profile.specs.WellFormed.{IsForest, IsNamed, IsOpen}
use Rattle.posix_profile.specs.laws.Map.{value_key, key_value, first_member, none_member, member_get, get_member}

-- names are ordered by their bytes, and only equal names tie
pub name_same : map.IsAntisymmetric (slice_cmp nat_cmp)
name_same = map.slice_cmp-IsAntisymmetric map.nat_cmp-IsAntisymmetric

-- a name leads to one object
pub one_object : (objects : Objects) (d a b : ℕ) (name : Name) → Names objects d name a → Names objects d name b → a ≡ b
one_object objects d a b name m n =
    let dirs : Some (Dir m.moment m.entries) ≡ Some (Dir n.moment n.entries) = sym m.directory_is ∙ n.directory_is in
    let entries : m.entries ≡ n.entries = cc in
    let two : Some a ≡ Some b = sym m.object_is ∙ ap (λ (e : Entries). map.get e name) entries ∙ n.object_is in
    cc

-- what names an object is a directory
pub namer_directory : (objects : Objects) (d o : ℕ) (name : Name) → Names objects d name o → IsDirectory objects d
namer_directory objects d o name n = (n.moment, n.entries, n.directory_is)

-- a directory's entry, as the definitions look it up
pub entry_named : (objects : Objects) (d o : ℕ) (name : Name) → IsDirectory objects d → map.get (entries_of (map.get objects d)) name ≡ Some o → Names objects d name o
entry_named objects d o name dir is = record {
  moment = dir.0;
  entries = dir.1;
  directory_is = dir.2;
  object_is = ap (λ (x : Option Object). map.get (entries_of x) name) (sym dir.2) ∙ is;
}

pub named_entry : (objects : Objects) (d o : ℕ) (name : Name) → Names objects d name o → map.get (entries_of (map.get objects d)) name ≡ Some o
named_entry objects d o name n = ap (λ (x : Option Object). map.get (entries_of x) name) n.directory_is ∙ n.object_is

entry_to : (objects : Objects) (d o : ℕ) (x : Object) → map.get objects d ≡ Some x → has_entry_to o x ≡ true → (name : Name) × Names objects d name o
entry_to objects d o (File moment bytes) is e = absurd (false≢true e)
entry_to objects d o (Dir moment entries) is e =
    let v = value_key nat_list_cmp_total name_same entries (nat_eq o) e in
    let same : o ≡ v.1 = eqb-true o v.1 v.3 in
    (v.0, record { moment = moment; entries = entries; directory_is = is; object_is = v.2 ∙ ap Some (sym same) })

to_entry : (objects : Objects) (d o : ℕ) (name : Name) (n : Names objects d name o) → has_entry_to o (Dir n.moment n.entries) ≡ true
to_entry objects d o name n = key_value nat_list_cmp_total name_same n.entries (nat_eq o) name o n.object_is (eq-eqb o o refl)

pub named_from_test : (objects : Objects) (o : ℕ) → is_named objects o ≡ true → IsNamed objects o
named_from_test objects o e =
    let v = value_key nat_cmp_total map.nat_cmp-IsAntisymmetric objects (has_entry_to o) e in
    let n = entry_to objects v.0 o v.1 v.2 v.3 in
    (v.0, n.0, n.1)

pub test_from_named : (objects : Objects) (o : ℕ) → IsNamed objects o → is_named objects o ≡ true
test_from_named objects o n = key_value nat_cmp_total map.nat_cmp-IsAntisymmetric objects (has_entry_to o) n.0 _ n.2.directory_is (to_entry objects n.0 o n.1 n.2)

pub open_from_test : (s : State) (o : ℕ) → is_open s o ≡ true → IsOpen s.handles o
open_from_test s o e =
    let v = value_key nat_cmp_total map.nat_cmp-IsAntisymmetric s.handles (λ h. nat_eq o h.object) e in
    (v.0, v.1, v.2, sym (eqb-true o v.1.object v.3))

pub test_from_open : (s : State) (o : ℕ) → IsOpen s.handles o → is_open s o ≡ true
test_from_open s o h = key_value nat_cmp_total map.nat_cmp-IsAntisymmetric s.handles (λ h. nat_eq o h.object) h.0 h.1 h.2 (eq-eqb o h.1.object (sym h.3))

-- the parent names the object, or is the root where none does
pub parent_cases : (objects : Objects) (o : ℕ) → ((name : Name) × Names objects (parent objects o) name o) ⊎ ((parent objects o ≡ root_number) × (IsNamed objects o → ⊥))
parent_cases objects o =
    elim (first_of (λ e. has_entry_to o e.1) (map.entries objects)) as
    (λ f. first_of (λ e. has_entry_to o e.1) (map.entries objects) ≡ f
    → ((name : Name) × Names objects (option_map_or (λ (e : ℕ × Object). e.0) f root_number) name o)
    ⊎ ((option_map_or (λ (e : ℕ × Object). e.0) f root_number ≡ root_number) × (IsNamed objects o → ⊥))) [
      | None ↦ λ is. inr (
        refl,
        λ n.
            let no' : has_entry_to o (Dir n.2.moment n.2.entries) ≡ false =
            none_member (λ (e : ℕ × Object). has_entry_to o e.1) (map.entries objects) (n.0, Dir n.2.moment n.2.entries) is
            (get_member nat_cmp_total map.nat_cmp-IsAntisymmetric objects n.0 _ n.2.directory_is) in
            true≢false (sym (to_entry objects n.0 o n.1 n.2) ∙ no'),
      )
      | Some e ↦ λ is.
          let m = first_member (λ (e : ℕ × Object). has_entry_to o e.1) (map.entries objects) e is in
          inl (entry_to objects e.0 o e.1 (member_get nat_cmp_total map.nat_cmp-IsAntisymmetric objects e m.0) m.1)
    ] refl

module _ (z : Sizes) (objects : Objects) (forest : IsForest z objects) where
  -- the parent is a directory that is reached
  pub parent_reached : (o : ℕ) → Reached objects (parent objects o) × IsDirectory objects (parent objects o)
  parent_reached o = elim (parent_cases objects o) [
    | inl n ↦ (forest.reached _ _ _ n.1, namer_directory objects _ _ _ n.1)
    | inr r ↦ (subst (Reached objects) (sym r.0) root, subst (IsDirectory objects) (sym r.0) forest.root)
  ]

  -- of a directory that is named it is the one that names it
  pub parent_is : (d o : ℕ) (name : Name) → IsDirectory objects o → Names objects d name o → parent objects o ≡ d
  parent_is d o name dir n = elim (parent_cases objects o) [
    | inl p ↦ (forest.one_name o _ d _ name dir p.1 n).0
    | inr r ↦ absurd (r.1 (d, name, n))
  ]

-- an object that is there is a directory where it is no file
pub directory_or : (objects : Objects) (o : ℕ) (x : Object) → map.get objects o ≡ Some x → is_file (map.get objects o) ≡ false → IsDirectory objects o
directory_or objects o (File moment bytes) is no' = let two : true ≡ false = ap is_file (sym is) ∙ no' in absurd cc
directory_or objects o (Dir moment entries) is no' = (moment, entries, is)

-- and a file where it is no directory
pub file_or : (objects : Objects) (o : ℕ) (x : Object) → map.get objects o ≡ Some x → is_directory (map.get objects o) ≡ false → IsFile objects o
file_or objects o (File moment bytes) is no' = (moment, bytes, is)
file_or objects o (Dir moment entries) is no' = let two : true ≡ false = ap is_directory (sym is) ∙ no' in absurd cc

pub not_both : (objects : Objects) (o : ℕ) → IsFile objects o → IsDirectory objects o → ⊥
not_both objects o f d = let two : Some (File f.0 f.1) ≡ Some (Dir d.0 d.1) = sym f.2 ∙ d.2 in cc
