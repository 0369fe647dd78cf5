-- The commands on paths keep a state sound.
use Rattle.std.specs.Prelude.{◌≡◌, ◌≢◌, ◌<◌, ◌^◌, ℕ, Bool, true, false, ◌&&◌, ◌||◌, List, Option, Some, None, is_none, Ok, cond}
use Rattle.std.proofs.Common.{refl, sym, ◌∙◌, ap, subst, inl, inr, arith}
use Rattle.std.proofs.lemmas.Bool.{cases_Bool, true≢false, false≢true, or_parts, or_from}
use Rattle.std.specs.FinMap as map
use Rattle.std.specs.Cmp.Lexicographic.{slice_cmp}
use Rattle.std.specs.Ordering.{nat_cmp}
use Rattle.volume_terms.specs.Sizes.{Sizes, IsSizes}
use Rattle.posix_profile.specs.State.{Name, Entries, Object, File, Dir, State, IsFile, is_directory, is_file}
use Rattle.posix_profile.specs.Names.{Names, Below}
use Rattle.posix_profile.specs.Paths.{Place, last_name, is_dot, is_dot_dot, resolve}
use Rattle.posix_profile.specs.Outcomes.{Outcome, answer}
use Rattle.posix_profile.specs.Changes.{new_number, without_name}
use Rattle.posix_profile.specs.NameSteps.{stat_of, stat_step, mkdir_at, mkdir_step, name_removed, rmdir_step, unlink_step, link_at, link_step, is_below, name_moved, rename_tests_onto, is_object, rename_to, rename_step, list_of, list_step, space_step}
use Rattle.posix_profile.specs.WellFormed.{IsWellFormed}
use Rattle.volume_terms.specs.Names.{AreBytes, IsName}
use Rattle.posix_profile.specs.laws.Outcome.{Passed, by_unless, by_place, by_object, by_change}
use Rattle.posix_profile.specs.laws.Number.{new_number_is, new_number_few}
use Rattle.posix_profile.specs.laws.Charge.{fits_less, prune_less, without_less}
use Rattle.posix_profile.specs.laws.Forest.{below_self}
use Rattle.posix_profile.specs.laws.Below.{not_below}
use Rattle.posix_profile.specs.laws.Handle.{zero_absent}
use Rattle.posix_profile.specs.laws.Entry.{no_name, object_added, name_added, name_gone, name_replaced}
use Rattle.posix_profile.specs.laws.Path.{IsPlace, resolve_place}
use Rattle.posix_profile.specs.laws.Place.{absent_name, found_name, found_there, file_empty, none_empty}
use Rattle.posix_profile.specs.laws.Name.{one_object, not_both, file_or}
use Rattle.posix_profile.specs.laws.Sound.{IsSound, LeavesSound, refuse_sound}
use Rattle.posix_profile.specs.declared.reply.Reply.{Reply}
use Rattle.posix_profile.specs.declared.reply.Reply.TheVariants as replies

-- a test that asks for two facts doesn't hold, and the first does: so the second doesn't
second_fails : (a b : Bool) → (a && b) ≡ false → a ≡ true → b ≡ false
second_fails true b e h = e
second_fails false b e h = absurd (false≢true h)

module _ (z : Sizes) (sizes : IsSizes z) (read_only : Bool) (moment : ℕ) (small : moment < 2 ^ 64) (s : State) (sound : IsSound z s) where
  abbrev P : Outcome → Type 0
  P = LeavesSound z

  same : (reply : Reply) → P (answer s reply)
  same reply = record { sound = sound }

  place_at : (path : List ℕ) (place : Place) → AreBytes path → resolve s.objects path ≡ Ok place → IsPlace s.objects place
  place_at = resolve_place z s.objects sound.well_formed.forest

  there_at : (place : Place) (o : ℕ) → IsPlace s.objects place → place.object ≡ Some o → (x : Object) × (map.get s.objects o ≡ Some x)
  there_at place o is object = found_there z s.objects sound.well_formed.forest place.directory o place.last place.object is.directory object is.ends

  stat_of_sound : (o : ℕ) (x : Option Object) → P (stat_of s o x)
  stat_of_sound o None = refuse_sound z s sound _
  stat_of_sound o (Some x) = same _

  pub stat_sound : (path : List ℕ) → P (stat_step s path)
  stat_sound path = by_place P s (refuse_sound z s sound) _ _ (λ place _. by_object P s (refuse_sound z s sound) _ _ (λ o _. stat_of_sound o _))

  list_of_sound : (x : Option Object) → P (list_of s x)
  list_of_sound None = refuse_sound z s sound _
  list_of_sound (Some (File m bytes)) = refuse_sound z s sound _
  list_of_sound (Some (Dir m entries)) = same _

  pub list_sound : (path : List ℕ) → P (list_step s path)
  list_sound path = by_place P s (refuse_sound z s sound) _ _ (λ place _. by_object P s (refuse_sound z s sound) _ _ (λ o _. list_of_sound _))

  mkdir_at_sound : (place : Place) → IsPlace s.objects place → (o : Option ℕ) → place.object ≡ o → P (mkdir_at z read_only moment s place o)
  mkdir_at_sound place is (Some o) there = refuse_sound z s sound _
  mkdir_at_sound place is None none =
      let name = absent_name s.objects place.directory place.last place.object none is.ends in
      let number = new_number_is s.objects in
      let no_entry : (n : Name) (c : ℕ) → map.get (map.empty {X = ℕ} {R = slice_cmp nat_cmp}) n ≡ Some c → ⊥ =
      (λ n c got. let two : None ≡ Some c = sym (map.get-empty (slice_cmp nat_cmp) n) ∙ got in cc) in
      by_unless P s (refuse_sound z s sound) _ _ (λ _. by_change P s (refuse_sound z s sound) z _ _ (λ fit. record {
        sound = record {
          well_formed = object_added z s sound.well_formed moment place.directory (new_number s.objects) (last_name place.last) (Dir moment map.empty) is.directory is.reached name.0 name.1 small
              number.free number.low
              (record { numbered = omega (arith, number.low); number = new_number_few z sizes s.objects sound.fit; moment = small; content = λ n c got. absurd (no_entry n c got) })
              (λ m entries k c e got. let equal : entries ≡ map.empty = cc in no_entry k c (ap (λ (x : Entries). map.get x k) (sym equal) ∙ got));
          fit = fit;
        };
      }))

  pub mkdir_sound : (path : List ℕ) → AreBytes path → P (mkdir_step z read_only moment s path)
  mkdir_sound path are = by_place P s (refuse_sound z s sound) _ _ (λ place is. mkdir_at_sound place (place_at path place are is) place.object refl)

  -- a name of what names nothing goes
  removed : (place : Place) (o : ℕ) → IsPlace s.objects place → place.object ≡ Some o → ((c : ℕ) (k : Name) → Names s.objects o k c → ⊥)
      → IsName (last_name place.last) × Names s.objects place.directory (last_name place.last) o → P (answer (name_removed moment s place) replies.Done)
  removed place o is object empty named = record {
    sound = record {
      well_formed = name_gone z s sound.well_formed moment place.directory o (last_name place.last) named.1 small empty;
      fit =
          let less = without_less z s.objects moment place.directory (last_name place.last) is.directory in
          let pruned = prune_less z (record s { objects = without_name s.objects moment place.directory (last_name place.last) }) in
          fits_less z s.objects _ (omega (arith, less, pruned)) sound.fit;
    };
  }

  pub rmdir_sound : (path : List ℕ) → AreBytes path → P (rmdir_step read_only moment s path)
  rmdir_sound path are = by_place P s (refuse_sound z s sound) _ _ (λ place r. by_unless P s (refuse_sound z s sound) _ _ (λ ends. by_object P s (refuse_sound z s sound) _ _ (λ o object.
      let is = place_at path place are r in
      by_unless P s (refuse_sound z s sound) _ _ (λ tests.
      elim (found_name s.objects place.directory o place.last place.object is.directory object is.ends) [
        | inl dots ↦ absurd (true≢false (sym dots.1 ∙ or_from _ _ (or_from _ _ ends.0 ends.1.0) ends.1.1.0))
        | inr named ↦ removed place o is object (none_empty s.objects o tests.1.0) named
      ]))))

  pub unlink_sound : (path : List ℕ) → AreBytes path → P (unlink_step read_only moment s path)
  unlink_sound path are = by_place P s (refuse_sound z s sound) _ _ (λ place r. by_object P s (refuse_sound z s sound) _ _ (λ o object.
      let is = place_at path place are r in
      let there = there_at place o is object in
      by_unless P s (refuse_sound z s sound) _ _ (λ tests.
      let file = file_or s.objects o there.0 there.1 tests.0 in
      elim (found_name s.objects place.directory o place.last place.object is.directory object is.ends) [
        | inl dots ↦ absurd (not_both s.objects o file dots.0)
        | inr named ↦ removed place o is object (file_empty s.objects o file) named
      ])))

  link_at_sound : (o : ℕ) (place : Place) → IsFile s.objects o → IsPlace s.objects place → (there : Option ℕ) → place.object ≡ there → P (link_at z read_only moment s o place there)
  link_at_sound o place file is (Some there) object = refuse_sound z s sound _
  link_at_sound o place file is None none =
      let name = absent_name s.objects place.directory place.last place.object none is.ends in
      by_unless P s (refuse_sound z s sound) _ _ (λ _. by_change P s (refuse_sound z s sound) z _ _ (λ fit. record {
        sound = record {
          well_formed = name_added z s sound.well_formed moment place.directory o (last_name place.last) is.directory is.reached name.0 name.1 small file;
          fit = fit;
        };
      }))

  pub link_sound : (old new : List ℕ) → AreBytes old → AreBytes new → P (link_step z read_only moment s old new)
  link_sound old new are also = by_place P s (refuse_sound z s sound) _ _ (λ from r. by_object P s (refuse_sound z s sound) _ _ (λ o object.
      let there = there_at from o (place_at old from are r) object in
      by_unless P s (refuse_sound z s sound) _ _ (λ tests. by_place P s (refuse_sound z s sound) _ _ (λ to q.
      link_at_sound o to (file_or s.objects o there.0 there.1 tests.0) (place_at new to also q) to.object refl))))

  -- The object x of the name a in d goes to the name b in q.
  module _ (from to : Place) (x : ℕ) (at : IsPlace s.objects from) (is : IsPlace s.objects to)
      (was : Names s.objects from.directory (last_name from.last) x) (dots : (is_dot to.last || is_dot_dot to.last || is_none to.last) ≡ false)
      (into : (is_directory (map.get s.objects x) && is_below s.objects x to.directory) ≡ false) where
    there_x : (object : Object) × (map.get s.objects x ≡ Some object)
    there_x = sound.well_formed.forest.leads from.directory x (last_name from.last) was

    apart : Below s.objects x to.directory → ⊥
    apart b = elim (cases_Bool (is_directory (map.get s.objects x))) [
      | inl dir ↦ not_below z s.objects sound.well_formed.forest x to.directory is.directory is.reached (second_fails _ _ into dir) b
      | inr no' ↦
          let file = file_or s.objects x there_x.0 there_x.1 no' in
          not_both s.objects to.directory (subst (IsFile s.objects) (sym (below_self s.objects x to.directory (file_empty s.objects x file) b)) file) is.directory
    ]

    moved_onto : (y : ℕ) → IsName (last_name to.last) → ((c : ℕ) → Names s.objects to.directory (last_name to.last) c → c ≡ y) → ((c : ℕ) (k : Name) → Names s.objects y k c → ⊥) → to.directory ≢ y
        → IsWellFormed z (name_moved moment s from to x)
    moved_onto y ok other empty not_y =
        name_replaced z s sound.well_formed moment from.directory to.directory x y (last_name from.last) (last_name to.last) was is.directory is.reached ok small other empty not_y apart

    moved_absent : to.object ≡ None → IsWellFormed z (name_moved moment s from to x)
    moved_absent none =
        let name = absent_name s.objects to.directory to.last to.object none is.ends in
        moved_onto 0 name.0
        (λ c names. absurd (no_name s.objects to.directory c (last_name to.last) name.1 names))
        (λ c k names. zero_absent z s.objects sound.well_formed.forest _ names.directory_is)
        (λ zero'. zero_absent z s.objects sound.well_formed.forest _ (ap (map.get s.objects) (sym zero') ∙ is.directory.2))

    -- what is replaced names nothing
    replaced_empty : (y : ℕ) → to.object ≡ Some y → Passed (rename_tests_onto s x to (Some y)) → (c : ℕ) (k : Name) → Names s.objects y k c → ⊥
    replaced_empty y object tests = elim (cases_Bool (is_directory (map.get s.objects x))) [
      | inl dir ↦ none_empty s.objects y (second_fails _ _ tests.1.1.0 dir)
      | inr no' ↦
          let there = there_at to y is object in
          let x_file : is_file (map.get s.objects x) ≡ true = ap is_file (file_or s.objects x there_x.0 there_x.1 no').2 in
          file_empty s.objects y (file_or s.objects y there.0 there.1 (second_fails _ _ tests.0 x_file))
    ]

    moved_found : (y : ℕ) → to.object ≡ Some y → Passed (rename_tests_onto s x to (Some y)) → IsWellFormed z (name_moved moment s from to x)
    moved_found y object tests = elim (found_name s.objects to.directory y to.last to.object is.directory object is.ends) [
      | inl ends ↦ absurd (true≢false (sym ends.1 ∙ dots))
      | inr named ↦
          let empty = replaced_empty y object tests in
          moved_onto y named.0
          (λ c names. one_object s.objects to.directory c y (last_name to.last) names named.1)
          empty
          (λ loop. empty y (last_name to.last) (subst (λ d. Names s.objects d (last_name to.last) y) loop named.1))
    ]

    moved_to : (there : Option ℕ) → to.object ≡ there → Passed (rename_tests_onto s x to there) → IsWellFormed z (name_moved moment s from to x)
    moved_to None object tests = moved_absent object
    moved_to (Some y) object tests = moved_found y object tests

  same_or : (b : Bool) (o : Outcome) → P o → P (cond b (answer s replies.Done) o)
  same_or true o h = same _
  same_or false o h = h

  rename_to_sound : (from to : Place) (x : ℕ) → IsPlace s.objects from → IsPlace s.objects to → from.object ≡ Some x
      → (is_dot from.last || is_dot_dot from.last || is_none from.last) ≡ false → (is_dot to.last || is_dot_dot to.last || is_none to.last) ≡ false
      → P (rename_to z read_only moment s from to x)
  rename_to_sound from to x at is object ends dots = elim (found_name s.objects from.directory x from.last from.object at.directory object at.ends) [
    | inl odd ↦ absurd (true≢false (sym odd.1 ∙ ends))
    | inr was ↦ same_or (is_object x to.object) _
        (by_unless P s (refuse_sound z s sound) _ _ (λ into. by_unless P s (refuse_sound z s sound) _ _ (λ onto. by_unless P s (refuse_sound z s sound) _ _ (λ _.
        by_change P s (refuse_sound z s sound) z _ _ (λ fit. record {
          sound = record {
            well_formed = moved_to from to x at is was.1 dots into.0 to.object refl onto;
            fit = fit;
          };
        })))))
  ]

  -- the tests of the paths' ends, one path at a time
  ends_apart : (a b c d e f : Bool) → (a || b || c || d) ≡ false → (e || f) ≡ false → ((a || b || e) ≡ false) × ((c || d || f) ≡ false)
  ends_apart a b c d e f g h =
      let abc = or_parts (a || b || c) d g in
      let ab = or_parts (a || b) c abc.0 in
      let ef = or_parts e f h in
      (or_from (a || b) e ab.0 ef.0, or_from (c || d) f (or_from c d ab.1 abc.1) ef.1)

  pub rename_sound : (old new : List ℕ) → AreBytes old → AreBytes new → P (rename_step z read_only moment s old new)
  rename_sound old new are also = by_place P s (refuse_sound z s sound) _ _ (λ from r. by_place P s (refuse_sound z s sound) _ _ (λ to q.
      by_unless P s (refuse_sound z s sound) _ _ (λ tests. by_object P s (refuse_sound z s sound) _ _ (λ x object.
      let ends = ends_apart (is_dot from.last) (is_dot_dot from.last) (is_dot to.last) (is_dot_dot to.last) (is_none from.last) (is_none to.last) tests.0 tests.1.0 in
      rename_to_sound from to x (place_at old from are r) (place_at new to also q) object ends.0 ends.1))))

  pub space_sound : P (space_step z s)
  space_sound = same _
