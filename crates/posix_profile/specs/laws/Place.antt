-- What the place is worth to a command: the object that is there, and the name that leads to it or that nothing has.
use Rattle.std.specs.Prelude.{◌≡◌, ◌⊎◌, ℕ, true, false, ◌||◌, Option, Some, None, is_none, nat_lt}
use Rattle.std.proofs.Common.{refl, sym, ◌∙◌, ap, subst, inl, inr, arith}
use Rattle.std.proofs.lemmas.Bool.{ltb-false}
use Rattle.std.specs.FinMap as map
use Rattle.std.specs.Cmp.Lexicographic.{slice_cmp}
use Rattle.std.specs.Ordering.{nat_cmp}
use Rattle.volume_terms.specs.Sizes.{Sizes}
use Rattle.posix_profile.specs.State.{Name, Entries, Object, Dir, Objects, IsFile, IsDirectory, entries_of}
use Rattle.posix_profile.specs.Names.{Names}
use Rattle.posix_profile.specs.Paths.{Component, Dot, DotDot, Named, last_name, is_dot, is_dot_dot}
use Rattle.posix_profile.specs.WellFormed.{IsForest}
use Rattle.volume_terms.specs.Names.{IsName}
use Rattle.posix_profile.specs.laws.Path.{Ends}
use Rattle.posix_profile.specs.laws.Name.{entry_named, not_both, namer_directory}

-- where nothing is, the path ends in a name that the directory hasn't
pub absent_name : (objects : Objects) (d : ℕ) (last : Option Component) (object : Option ℕ) → object ≡ None → Ends objects d last object
    → IsName (last_name last) × (map.get (entries_of (map.get objects d)) (last_name last) ≡ None)
absent_name objects d None object none ends = let two : None ≡ Some ends.0 = sym none ∙ ends.1 in absurd cc
absent_name objects d (Some Dot) object none ends = let two : None ≡ Some ends.0 = sym none ∙ ends.1 in absurd cc
absent_name objects d (Some DotDot) object none ends = let two : None ≡ Some ends.0 = sym none ∙ ends.1 in absurd cc
absent_name objects d (Some (Named name)) object none ends = (ends.0, sym ends.1 ∙ none)

same_directory : (objects : Objects) (o n : ℕ) (object : Option ℕ) → object ≡ Some o → object ≡ Some n → IsDirectory objects n → IsDirectory objects o
same_directory objects o n object is there dir = let two : Some n ≡ Some o = sym there ∙ is in let same : n ≡ o = cc in subst (IsDirectory objects) same dir

-- what is there is a directory, or the path ends in the name that leads to it
pub found_name : (objects : Objects) (d o : ℕ) (last : Option Component) (object : Option ℕ) → IsDirectory objects d → object ≡ Some o → Ends objects d last object
    → (IsDirectory objects o × (is_dot last || is_dot_dot last || is_none last ≡ true)) ⊎ (IsName (last_name last) × Names objects d (last_name last) o)
found_name objects d o None object dir is ends = inl (same_directory objects o ends.0 object is ends.1 ends.2, refl)
found_name objects d o (Some Dot) object dir is ends = inl (same_directory objects o ends.0 object is ends.1 ends.2, refl)
found_name objects d o (Some DotDot) object dir is ends = inl (same_directory objects o ends.0 object is ends.1 ends.2, refl)
found_name objects d o (Some (Named name)) object dir is ends = inr (ends.0, entry_named objects d o name dir (sym ends.1 ∙ is))

-- what is there is an object
pub found_there : (z : Sizes) (objects : Objects) (forest : IsForest z objects) (d o : ℕ) (last : Option Component) (object : Option ℕ) → IsDirectory objects d → object ≡ Some o → Ends objects d last object
    → (x : Object) × (map.get objects o ≡ Some x)
found_there z objects forest d o last object dir is ends = elim (found_name objects d o last object dir is ends) [
  | inl there ↦ (Dir there.0.0 there.0.1, there.0.2)
  | inr named ↦ forest.leads d o (last_name last) named.1
]

-- a file has no names, and a directory without entries has none
pub file_empty : (objects : Objects) (o : ℕ) → IsFile objects o → (c : ℕ) (k : Name) → Names objects o k c → ⊥
file_empty objects o file c k names = not_both objects o file (namer_directory objects o c k names)

pub none_empty : (objects : Objects) (o : ℕ) → nat_lt 0 (map.len (entries_of (map.get objects o))) ≡ false → (c : ℕ) (k : Name) → Names objects o k c → ⊥
none_empty objects o none c k names =
    let same : entries_of (map.get objects o) ≡ names.entries = ap entries_of names.directory_is in
    let zero' : map.len names.entries ≡ 0 = omega (arith, ltb-false 0 (map.len (entries_of (map.get objects o))) none, ap (λ (e : Entries). map.len e) same) in
    let empty : names.entries ≡ map.empty = map.empty_of_len names.entries zero' in
    let two : None ≡ Some c = sym (map.get-empty (slice_cmp nat_cmp) k) ∙ ap (λ (e : Entries). map.get e k) (sym empty) ∙ names.object_is in
    cc
