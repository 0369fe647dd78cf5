-- What the names of a state are after a directory's entries changed, or an object was put there.
use Rattle.std.specs.Prelude.{◌≡◌, ◌≢◌, ◌⊎◌, ◌<◌, ◌^◌, ℕ, Option, Some}
use Rattle.std.proofs.Common.{sym, ◌∙◌, ap, subst, inl, inr}
use Rattle.std.proofs.lemmas.Bool.{cases_eq}
use Rattle.std.specs.Cmp.{nat_cmp_total}
use Rattle.std.specs.Cmp.Lexicographic.{nat_list_cmp_total}
use Rattle.std.specs.FinMap as map
use Rattle.volume_terms.specs.Sizes.{Sizes}
use Rattle.posix_profile.specs.State.{Name, Entries, Object, Dir, Objects, IsFile, IsDirectory, entries_of}
use Rattle.posix_profile.specs.Names.{Names}
use Rattle.posix_profile.specs.Changes.{with_name, without_name}
use Rattle.posix_profile.specs.WellFormed.{IsObject}
use Rattle.volume_terms.specs.Names.{IsName}
use Rattle.posix_profile.specs.laws.Map.{get_here, get_there, insert_cases, get_removed, remove_cases}
use Rattle.posix_profile.specs.laws.Name.{name_same, not_both, entry_named, named_entry}

dir_same : (objects : Objects) (d : ℕ) (m n : ℕ) (x y : Entries) → map.get objects d ≡ Some (Dir m x) → map.get objects d ≡ Some (Dir n y) → x ≡ y
dir_same objects d m n x y a b = let two : Some (Dir m x) ≡ Some (Dir n y) = sym a ∙ b in cc

-- a directory has other entries
module _ (objects : Objects) (d moment : ℕ) (entries : Entries) (dir : IsDirectory objects d) where
  abbrev after : Objects
  after = map.insert objects d (Dir moment entries)

  here : map.get after d ≡ Some (Dir moment entries)
  here = get_here nat_cmp_total map.nat_cmp-IsAntisymmetric objects d (Dir moment entries)

  there : (o : ℕ) → o ≢ d → map.get after o ≡ map.get objects o
  there o ne = get_there nat_cmp_total map.nat_cmp-IsAntisymmetric objects d (Dir moment entries) o ne

  pub names_after : (p c : ℕ) (n : Name) → Names after p n c → ((p ≡ d) × (map.get entries n ≡ Some c)) ⊎ ((p ≢ d) × Names objects p n c)
  names_after p c n names = elim (cases_eq p d) [
    | inl is ↦
        let same : names.entries ≡ entries = dir_same after d _ _ _ _ (ap (map.get after) (sym is) ∙ names.directory_is) here in
        inl (is, ap (λ (e : Entries). map.get e n) (sym same) ∙ names.object_is)
    | inr ne ↦ inr (ne, record { moment = names.moment; entries = names.entries; directory_is = sym (there p ne) ∙ names.directory_is; object_is = names.object_is })
  ]

  pub names_here : (c : ℕ) (n : Name) → map.get entries n ≡ Some c → Names after d n c
  names_here c n is = record { moment = moment; entries = entries; directory_is = here; object_is = is }

  pub names_beside : (p c : ℕ) (n : Name) → p ≢ d → Names objects p n c → Names after p n c
  names_beside p c n ne names = record { moment = names.moment; entries = names.entries; directory_is = there p ne ∙ names.directory_is; object_is = names.object_is }

  pub there_after : (o : ℕ) (object : Object) → map.get objects o ≡ Some object → (now : Object) × (map.get after o ≡ Some now)
  there_after o object is = elim (cases_eq o d) [
    | inl same ↦ (Dir moment entries, ap (map.get after) same ∙ here)
    | inr ne ↦ (object, there o ne ∙ is)
  ]

  pub file_after : (o : ℕ) → IsFile objects o → IsFile after o
  file_after o file = elim (cases_eq o d) [
    | inl same ↦ absurd (not_both objects d (subst (IsFile objects) same file) dir)
    | inr ne ↦ (file.0, file.1, there o ne ∙ file.2)
  ]

  pub directory_after : (o : ℕ) → IsDirectory objects o → IsDirectory after o
  directory_after o was = elim (cases_eq o d) [
    | inl same ↦ (moment, entries, ap (map.get after) same ∙ here)
    | inr ne ↦ (was.0, was.1, there o ne ∙ was.2)
  ]

  pub directory_before : (o : ℕ) → IsDirectory after o → IsDirectory objects o
  directory_before o now = elim (cases_eq o d) [
    | inl same ↦ subst (IsDirectory objects) (sym same) dir
    | inr ne ↦ (now.0, now.1, sym (there o ne) ∙ now.2)
  ]

  pub each_after : (z : Sizes) → ((o : ℕ) (object : Object) → map.get objects o ≡ Some object → IsObject z o object)
      → moment < 2 ^ 64 → ((n : Name) (c : ℕ) → map.get entries n ≡ Some c → IsName n)
      → (o : ℕ) (object : Object) → map.get after o ≡ Some object → IsObject z o object
  each_after z each small names o object is = elim (insert_cases nat_cmp_total map.nat_cmp-IsAntisymmetric objects d (Dir moment entries) o object is) [
    | inl new ↦
        let was = each d _ dir.2 in
        subst (λ n. IsObject z n object) (sym new.0) (subst (IsObject z d) (sym new.1) (record { numbered = was.numbered; number = was.number; moment = small; content = names }))
    | inr old ↦ each o object old.1
  ]

-- the directory gets a name
module _ (objects : Objects) (moment d o : ℕ) (name : Name) (dir : IsDirectory objects d) where
  abbrev entries_with : Entries
  entries_with = map.insert (entries_of (map.get objects d)) name o

  pub with_from : (p c : ℕ) (n : Name) → Names (with_name objects moment d name o) p n c
      → ((p ≡ d) × (n ≡ name) × (c ≡ o)) ⊎ ((p ≡ d → n ≡ name → ⊥) × Names objects p n c)
  with_from p c n names = elim (names_after objects d moment entries_with dir p c n names) [
    | inl in' ↦ elim (insert_cases nat_list_cmp_total name_same (entries_of (map.get objects d)) name o n c in'.1) [
      | inl new ↦ inl (in'.0, new.0, new.1)
      | inr old ↦ inr (λ _. old.0, subst (λ k. Names objects k n c) (sym in'.0) (entry_named objects d c n dir old.1))
    ]
    | inr out ↦ inr ((λ is _. out.0 is), out.1)
  ]

  pub with_committed : (p c : ℕ) (n : Name) → Names objects p n c → (p ≡ d → n ≡ name → ⊥) → Names (with_name objects moment d name o) p n c
  with_committed p c n names other = elim (cases_eq p d) [
    | inl is ↦
        let was : Names objects d n c = subst (λ k. Names objects k n c) is names in
        let got = get_there nat_list_cmp_total name_same (entries_of (map.get objects d)) name o n (other is) ∙ named_entry objects d c n was in
        subst (λ k. Names (with_name objects moment d name o) k n c) (sym is) (names_here objects d moment entries_with dir c n got)
    | inr ne ↦ names_beside objects d moment entries_with dir p c n ne names
  ]

  pub with_here : Names (with_name objects moment d name o) d name o
  with_here = names_here objects d moment entries_with dir o name (get_here nat_list_cmp_total name_same (entries_of (map.get objects d)) name o)

-- the directory loses a name
module _ (objects : Objects) (moment d : ℕ) (name : Name) (dir : IsDirectory objects d) where
  abbrev entries_without : Entries
  entries_without = map.remove (entries_of (map.get objects d)) name

  pub without_from : (p c : ℕ) (n : Name) → Names (without_name objects moment d name) p n c → (p ≡ d → n ≡ name → ⊥) × Names objects p n c
  without_from p c n names = elim (names_after objects d moment entries_without dir p c n names) [
    | inl in' ↦
        let old = remove_cases nat_list_cmp_total name_same (entries_of (map.get objects d)) name n c in'.1 in
        ((λ _. old.0), subst (λ k. Names objects k n c) (sym in'.0) (entry_named objects d c n dir old.1))
    | inr out ↦ ((λ is _. out.0 is), out.1)
  ]

  pub without_committed : (p c : ℕ) (n : Name) → Names objects p n c → (p ≡ d → n ≡ name → ⊥) → Names (without_name objects moment d name) p n c
  without_committed p c n names other = elim (cases_eq p d) [
    | inl is ↦
        let was : Names objects d n c = subst (λ k. Names objects k n c) is names in
        let got = get_removed nat_list_cmp_total name_same (entries_of (map.get objects d)) name n (other is) ∙ named_entry objects d c n was in
        subst (λ k. Names (without_name objects moment d name) k n c) (sym is) (names_here objects d moment entries_without dir c n got)
    | inr ne ↦ names_beside objects d moment entries_without dir p c n ne names
  ]

-- the names of a directory that hang together are names, also after one comes or goes
module _ (z : Sizes) (objects : Objects) (d : ℕ) (dir : IsDirectory objects d) (each : (o : ℕ) (object : Object) → map.get objects o ≡ Some object → IsObject z o object) where
  names_are : (n : Name) (c : ℕ) → map.get (entries_of (map.get objects d)) n ≡ Some c → IsName n
  names_are n c is = (each d _ dir.2).content n c (ap (λ (x : Option Object). map.get (entries_of x) n) (sym dir.2) ∙ is)

  pub names_with : (name : Name) (o : ℕ) → IsName name → (n : Name) (c : ℕ) → map.get (map.insert (entries_of (map.get objects d)) name o) n ≡ Some c → IsName n
  names_with name o ok n c is = elim (insert_cases nat_list_cmp_total name_same (entries_of (map.get objects d)) name o n c is) [
    | inl new ↦ subst IsName (sym new.0) ok
    | inr old ↦ names_are n c old.1
  ]

  pub names_without : (name : Name) (n : Name) (c : ℕ) → map.get (map.remove (entries_of (map.get objects d)) name) n ≡ Some c → IsName n
  names_without name n c is = names_are n c (remove_cases nat_list_cmp_total name_same (entries_of (map.get objects d)) name n c is).1
