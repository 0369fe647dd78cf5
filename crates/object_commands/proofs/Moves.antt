-- What a move of a name costs, and when it may be done.
use Rattle.std.specs.Prelude.{◌≡◌, ◌≢◌, ◌<◌, ◌≤◌, ℕ, ◌+◌, ◌-◌, Bool, true, false, not, ◌&&◌, [], ◌∷◌, Option, Some, None, is_some, nat_le, nat_lt}
use Rattle.std.proofs.Common.{refl, sym, ◌∙◌, ap, subst, inl, inr, arith}
use Rattle.std.proofs.lemmas.Bool.{cases_eq, cond-true, cond-false, leb-true}
use Rattle.std.proofs.lemmas.Bool.Decides.{nat_tests}
use Rattle.std.specs.Cmp.{nat_cmp_total}
use Rattle.std.specs.Cmp.Lexicographic.{nat_list_cmp_total}
use Rattle.std.specs.FinMap as map
use Rattle.volume_terms.specs.Sizes.{Sizes, capacity, page_slots}
use Rattle.posix_profile.specs.State.{Name, Entries, Object, Dir, Objects, State, IsDirectory, is_file, is_directory, entries_of}
use Rattle.posix_profile.specs.Names.{Names}
use Rattle.posix_profile.specs.Charge.{charge, fits}
use Rattle.volume_terms.specs.Rounding.{ceiling}
use Rattle.posix_profile.specs.laws.Charge.{fits_less, insert_less}
use Rattle.posix_profile.specs.Changes.{with_name, without_name}
use Rattle.posix_profile.specs.laws.Directory.{directory_after, without_committed}
use Rattle.posix_profile.specs.laws.Map.{cases_key, get_here, get_there, get_removed, removed_none}
use Rattle.posix_profile.specs.laws.Name.{name_same, namer_directory, named_entry, one_object}
use Rattle.posix_profile.specs.NameSteps.{rename_tests_onto}
use Rattle.posix_profile.specs.Paths.{Place, first_error}
use Rattle.posix_profile.specs.declared.reply.Errno.TheVariants as errors
use Rattle.command_plans.specs.Rooms.{entry_units}
use Rattle.command_plans.specs.laws.Plan.{directory_unless}
use Rattle.command_plans.specs.laws.Room.{entries_charge, one_more, name_charge, removed_fits}

module _ (z : Sizes) (objects : Objects) (moment d x : ℕ) (a : Name) (some : 0 < page_slots z) (from : Names objects d a x) where
  abbrev between : Objects
  between = without_name objects moment d a

  abbrev es : Entries
  es = entries_of (map.get objects d)

  dir : IsDirectory objects d
  dir = namer_directory objects d x a from

  there : map.get es a ≡ Some x
  there = named_entry objects d x a from

  shorter : map.len es ≡ map.len (map.remove es a) + 1
  shorter =
      let less : map.len (map.remove es a) ≡ map.len es - 1 = map.len-remove nat_list_cmp_total es a ∙ cond-true _ _ _ (ap is_some there) in
      omega (arith, less, long)
    where
      long : 1 ≤ map.len es
      long = elim (cases_eq (map.len es) 0) [
        | inl none ↦
            let back = map.len-insert nat_list_cmp_total (map.remove es a) a x ∙ cond-false _ _ _ (ap is_some (removed_none nat_list_cmp_total name_same es a)) in
            let same : map.insert (map.remove es a) a x ≡ es = map.same_map nat_list_cmp_total name_same _ _ (λ q. elim (cases_key nat_list_cmp_total name_same q a) [
              | inl e ↦ ap (map.get (map.insert (map.remove es a) a x)) e ∙ get_here nat_list_cmp_total name_same (map.remove es a) a x ∙ sym there ∙ ap (map.get es) (sym e)
              | inr ne ↦ get_there nat_list_cmp_total name_same (map.remove es a) a x q ne ∙ get_removed nat_list_cmp_total name_same es a q ne
            ]) in
            omega (arith, back, ap (λ (e : Entries). map.len e) same)
        | inr ne ↦ omega arith
      ]

  -- a name that goes gives its entry back
  removed_charge : charge z between + entry_units (map.len es - 1) (page_slots z) ≡ charge z objects
  removed_charge =
      let moved = entries_charge z objects moment d dir (map.remove es a) in
      let same : map.len dir.1 ≡ map.len es = ap (λ (e : Entries). map.len e) (sym (ap entries_of dir.2)) in
      let more = one_more (map.len (map.remove es a)) (page_slots z) some in
      let long : ceiling (map.len dir.1) (page_slots z) ≡ ceiling (map.len (map.remove es a) + 1) (page_slots z) = ap (λ n. ceiling n (page_slots z)) (same ∙ shorter) in
      let units : entry_units (map.len es - 1) (page_slots z) ≡ entry_units (map.len (map.remove es a)) (page_slots z) = ap (λ n. entry_units n (page_slots z)) (let one : map.len es - 1 ≡ map.len (map.remove es a) = omega (arith, shorter) in one) in
      omega (arith, moved, more, long, units)

  module _ (q : ℕ) (b : Name) (to : IsDirectory objects q) (absent : map.get (entries_of (map.get objects q)) b ≡ None) (fit : fits z objects ≡ true) where
    to_after : IsDirectory between q
    to_after = directory_after objects d moment _ dir q to

    -- in the same directory there is as much room as before
    pub same_room : d ≡ q → true ≡ fits z (with_name between moment q b x)
    same_room is =
        let here : map.get between q ≡ Some (Dir moment (map.remove es a)) = ap (map.get between) (sym is) ∙ get_here nat_cmp_total map.nat_cmp-IsAntisymmetric objects d (Dir moment (map.remove es a)) in
        let gone : map.get es b ≡ None = ap (λ k. map.get (entries_of (map.get objects k)) b) is ∙ absent in
        let none : map.get (map.remove es a) b ≡ None = elim (cases_key nat_list_cmp_total name_same b a) [
          | inl e ↦ ap (map.get (map.remove es a)) e ∙ removed_none nat_list_cmp_total name_same es a
          | inr ne ↦ get_removed nat_list_cmp_total name_same es a b ne ∙ gone
        ] in
        let named = name_charge z between moment q x b some to_after (ap (λ (o : Option Object). map.get (entries_of o) b) here ∙ none) in
        let units : entry_units (map.len (entries_of (map.get between q))) (page_slots z) ≡ entry_units (map.len es - 1) (page_slots z) =
        ap (λ (o : Option Object). entry_units (map.len (entries_of o)) (page_slots z)) here ∙ ap (λ n. entry_units n (page_slots z)) (let one : map.len (map.remove es a) ≡ map.len es - 1 = omega (arith, shorter) in one) in
        sym (fits_less z objects (with_name between moment q b x) (omega (arith, named, units, removed_charge)) fit)

    -- in another the entry takes its units
    pub other_room : d ≢ q → nat_le (entry_units (map.len (entries_of (map.get objects q))) (page_slots z)) (capacity z - charge z objects + entry_units (map.len es - 1) (page_slots z)) ≡ fits z (with_name between moment q b x)
    other_room ne =
        let same : map.get between q ≡ map.get objects q = get_there nat_cmp_total map.nat_cmp-IsAntisymmetric objects d (Dir moment (map.remove es a)) q (λ is. ne (sym is)) in
        let named = name_charge z between moment q x b some to_after (ap (λ (o : Option Object). map.get (entries_of o) b) same ∙ absent) in
        let units : entry_units (map.len (entries_of (map.get between q))) (page_slots z) ≡ entry_units (map.len (entries_of (map.get objects q))) (page_slots z) =
        ap (λ (o : Option Object). entry_units (map.len (entries_of o)) (page_slots z)) same in
        decide _ _ _ _ _ (omega (arith, named, units, removed_charge)) (leb-true (charge z objects) (capacity z) fit)
      where
        decide : (a b c d e : ℕ) → a + b ≡ c + d → c ≤ e → nat_le d (e - c + b) ≡ nat_le a e
        decide a b c d e is le = grind (arith, nat_tests)

-- a name that is given to another object costs nothing
named_less : (z : Sizes) (objects : Objects) (moment q x y : ℕ) (b : Name) → Names objects q b y → charge z (with_name objects moment q b x) ≤ charge z objects
named_less z objects moment q x y b names =
    let dir = namer_directory objects q y b names in
    let is : entries_of (map.get objects q) ≡ dir.1 = ap entries_of dir.2 in
    let same : map.len (map.insert (entries_of (map.get objects q)) b x) ≡ map.len dir.1 =
    map.len-insert nat_list_cmp_total (entries_of (map.get objects q)) b x ∙ cond-true _ _ _ (ap is_some (named_entry objects q y b names)) ∙ ap (λ (e : Entries). map.len e) is in
    insert_less z objects q (Dir dir.0 dir.1) _ dir.2 (omega (arith, ap (λ n. ceiling n (page_slots z)) same))

-- so a replaced name leaves as much room as there was
pub onto_fits : (z : Sizes) (objects : Objects) (moment d q x y : ℕ) (a b : Name) → Names objects d a x → Names objects q b y → y ≢ x → fits z objects ≡ true → fits z (with_name (without_name objects moment d a) moment q b x) ≡ true
onto_fits z objects moment d q x y a b from was ne fit =
    let dir = namer_directory objects d x a from in
    let still = without_committed objects moment d a dir q y b was
    (λ is same. ne (one_object objects d y x a (subst (λ m. Names objects d m y) same (subst (λ r. Names objects r b y) is was)) from)) in
    fits_less z (without_name objects moment d a) (with_name (without_name objects moment d a) moment q b x) (named_less z (without_name objects moment d a) moment q x y b still) (removed_fits z objects moment d a dir fit)

-- the tests of what is replaced, by whether it is a file
first_same : (f t : Bool) (n k : ℕ) → (t ≡ false → n ≡ k)
    → first_error ((f && not t, errors.EISDIR) ∷ (not f && t, errors.ENOTDIR) ∷ (not f && nat_lt 0 n, errors.ENOTEMPTY) ∷ []) ≡ first_error ((f && not t, errors.EISDIR) ∷ (not f && t, errors.ENOTDIR) ∷ (not f && nat_lt 0 k, errors.ENOTEMPTY) ∷ [])
first_same true true n k same = refl
first_same true false n k same = refl
first_same false true n k same = refl
first_same false false n k same = ap (λ n. first_error ((nat_lt 0 n, errors.ENOTEMPTY) ∷ [])) (same refl)

pub onto_tests : (s : State) (o there : ℕ) (to : Place) (x y : Object) (n : ℕ) → map.get s.objects o ≡ Some x → map.get s.objects there ≡ Some y → (is_file (map.get s.objects there) ≡ false → n ≡ map.len (entries_of (map.get s.objects there)))
    → first_error ((is_file (map.get s.objects o) && not (is_file (map.get s.objects there)), errors.EISDIR) ∷ (not (is_file (map.get s.objects o)) && is_file (map.get s.objects there), errors.ENOTDIR) ∷ (not (is_file (map.get s.objects o)) && nat_lt 0 n, errors.ENOTEMPTY) ∷ [])
    ≡ first_error (rename_tests_onto s o to (Some there))
onto_tests s o there to x y n is was same =
    let f = is_file (map.get s.objects o) in
    let t = is_file (map.get s.objects there) in
    let k = map.len (entries_of (map.get s.objects there)) in
    first_same f t n k same
    ∙ ap (λ b. first_error ((f && b, errors.EISDIR) ∷ (not f && t, errors.ENOTDIR) ∷ (not f && nat_lt 0 k, errors.ENOTEMPTY) ∷ [])) (sym (directory_unless _ y was))
    ∙ ap (λ b. first_error ((f && is_directory (map.get s.objects there), errors.EISDIR) ∷ (b && t, errors.ENOTDIR) ∷ (b && nat_lt 0 k, errors.ENOTEMPTY) ∷ [])) (sym (directory_unless _ x is))
