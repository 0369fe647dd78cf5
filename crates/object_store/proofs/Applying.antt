-- What a change of objects lets a table do, step by step.
use Rattle.std.specs.Prelude.{◌≡◌, ◌≢◌, ◌⊎◌, ◌<◌, ◌≤◌, ℕ, true, Option, Some, None, is_some}
use Rattle.std.proofs.Common.{refl, sym, ◌∙◌, ap, subst, inl, inr, arith}
use Rattle.std.proofs.lemmas.Bool.{cases_eq, cond-true, leb-true}
use Rattle.std.specs.Cmp.{nat_cmp_total}
use Rattle.std.specs.Cmp.Lexicographic.{slice_cmp, nat_list_cmp_total}
use Rattle.std.specs.Ordering.{nat_cmp}
use Rattle.std.specs.FinMap as map
use Rattle.volume_terms.specs.Sizes.{Sizes, IsSizes, capacity, page_slots}
use Rattle.volume_terms.specs.Rounding.{ceiling}
use Rattle.posix_profile.specs.State.{Name, Entries, Object, Dir, Objects, IsDirectory, entries_of}
use Rattle.posix_profile.specs.Names.{Names, Reached, root, below}
use Rattle.posix_profile.specs.Charge.{cost, charge, fits}
use Rattle.posix_profile.specs.Changes.{new_number, with_name, without_name}
use Rattle.posix_profile.specs.WellFormed.{IsForest, IsNamed}
use Rattle.posix_profile.specs.declared.reply.Kind.{Kind}
use Rattle.posix_profile.specs.declared.reply.Kind.TheVariants as kinds
use Rattle.posix_profile.specs.laws.Charge.{insert_less, without_less}
use Rattle.posix_profile.specs.laws.Directory.{with_from, without_from, without_committed, there_after, directory_after, directory_before}
use Rattle.posix_profile.specs.laws.Fresh.{slots_some}
use Rattle.posix_profile.specs.laws.Map.{cases_key, get_here, get_there, get_removed, removed_none}
use Rattle.posix_profile.specs.laws.Name.{name_same, one_object, namer_directory, named_entry}
use Rattle.posix_profile.specs.laws.Number.{new_number_is, capacity_few}
use Rattle.posix_profile.specs.laws.Total.{total_insert}
use Rattle.posix_profile.specs.laws.Write.{ceiling_at_most}
use Rattle.object_store.specs.Changes.{NamesNothing, empty_object}
use Rattle.object_store.specs.TableFacts.{fresh_facts}
use Rattle.object_store.specs.Totaled.{IsCountable, FreshObject, CanGo, GetsName, LosesName}
use Rattle.object_store.specs.Reported.{GetsObject}
use Rattle.object_store.specs.Stores.{CanHave}
use Rattle.object_store.proofs.Edits.{fresh_facts_are, larger_from}

-- what a volume has room for can be in the count
pub fits_countable : (z : Sizes) (objects : Objects) → IsSizes z → fits z objects ≡ true → IsCountable z objects
fits_countable z objects sizes fit = record { sizes = sizes; within_limit = (let le = leb-true (charge z objects) (capacity z) fit in omega (arith, le, capacity_few z sizes)) }

pub can_count : (z : Sizes) (objects : Objects) → CanHave z objects → IsCountable z objects
can_count z objects can = fits_countable z objects can.numbers can.fit

-- and what costs no more
less_countable : (z : Sizes) (old new : Objects) → IsCountable z old → charge z new ≤ charge z old → IsCountable z new
less_countable z old new old-is le = record { sizes = old-is.sizes; within_limit = (let within_limit = old-is.within_limit in omega (arith, within_limit, le)) }

page_some : (z : Sizes) → IsSizes z → 0 < z.page_bytes
page_some z sizes = elim sizes.page_bytes [ inl a ↦ omega arith | inr b ↦ elim b [ inl c ↦ omega arith | inr d ↦ elim d [ inl e ↦ omega arith | inr f ↦ omega arith ] ] ]

ceiling_none : (d : ℕ) → 0 < d → ceiling 0 d ≤ 0
ceiling_none d some = (ceiling_at_most 0 d 0 some).1 (omega arith)

empty_few : (z : Sizes) (kind : Kind) (moment : ℕ) → IsSizes z → cost z (empty_object kind moment) ≤ 1
empty_few z kinds.File moment sizes = omega (arith, ceiling_none z.page_bytes (page_some z sizes))
empty_few z kinds.Directory moment sizes =
    let len : map.len (map.empty {X = ℕ} {R = slice_cmp nat_cmp}) ≡ 0 = map.len-empty (slice_cmp nat_cmp) ℕ in
    let none : ceiling (map.len (map.empty {X = ℕ} {R = slice_cmp nat_cmp})) (page_slots z) ≡ ceiling 0 (page_slots z) = ap (λ n. ceiling n (page_slots z)) len in
    omega (arith, none, ceiling_none (page_slots z) (slots_some z sizes))

-- A new object, and its name.
module _ (z : Sizes) (objects : Objects) (can : CanHave z objects) (n moment d : ℕ) (name : Name) (kind : Kind) (new : n ≡ new_number objects) (gets : GetsObject z objects moment d name (empty_object kind moment)) where
  abbrev base : Objects
  base = map.insert objects n (empty_object kind moment)

  free : map.get objects n ≡ None
  free = ap (map.get objects) new ∙ (new_number_is objects).free

  no_name_of : IsNamed objects n → ⊥
  no_name_of named = let there = can.forest.leads named.0 n named.1 named.2 in let two : None ≡ Some there.0 = sym free ∙ there.1 in cc

  pub create_fresh : FreshObject z objects n (empty_object kind moment) (fresh_facts kind moment)
  create_fresh =
      let both = fresh_facts_are objects n moment kind free no_name_of in
      record {
        free = free;
        unnamed = no_name_of;
        blank = both.0;
        facts = both.1;
        countable = record {
          sizes = can.numbers;
          within_limit =
              (let more = total_insert nat_cmp_total map.nat_cmp-IsAntisymmetric (cost z) objects n (empty_object kind moment) free in
              let within_limit = (can_count z objects can).within_limit in
              let le = leb-true (charge z objects) (capacity z) can.fit in
              omega (arith, more, le, capacity_few z can.numbers, empty_few z kind moment can.numbers));
        };
      }

  pub create_named : GetsName z base moment d name n
  create_named =
      let dir = gets.directory_is in
      let apart : d ≢ n = λ is. let two : None ≡ Some (Dir dir.0 dir.1) = sym free ∙ ap (map.get objects) (sym is) ∙ dir.2 in absurd cc in
      let same : map.get base d ≡ map.get objects d = get_there nat_cmp_total map.nat_cmp-IsAntisymmetric objects n (empty_object kind moment) d apart in
      record {
        directory_is = (dir.0, dir.1, same ∙ dir.2);
        absent = ap (λ (x : Option Object). map.get (entries_of x) name) same ∙ gets.absent;
        there = (empty_object kind moment, get_here nat_cmp_total map.nat_cmp-IsAntisymmetric objects n (empty_object kind moment));
        unnamed = λ _ named. no_name_of (named.0, named.1, larger_from objects n (empty_object kind moment) free no_name_of create_fresh.blank named.0 n named.1 named.2);
        before = create_fresh.countable;
        after = fits_countable z (with_name base moment d name n) can.numbers
            (subst (λ k. fits z (with_name (map.insert objects k (empty_object kind moment)) moment d name k) ≡ true) (sym new) gets.fits);
      }

-- no directory names itself
own : (z : Sizes) (objects : Objects) → IsForest z objects → (d : ℕ) (name : Name) → Names objects d name d → (k : ℕ) → Reached objects k → k ≡ d → ⊥
own z objects forest d name names k root is = forest.root_unnamed d name (subst (Names objects d name) (sym is) names)
own z objects forest d name names k (below {directory} {object} n up by') is =
    own z objects forest d name names directory up (forest.one_name d directory d n name (namer_directory objects d d name names) (subst (Names objects directory n) is by') names).0

not_own : (z : Sizes) (objects : Objects) → IsForest z objects → (d o : ℕ) (name : Name) → Names objects d name o → d ≢ o
not_own z objects forest d o name names is = own z objects forest d name (subst (Names objects d name) (sym is) names) d (forest.reached d o name names) refl

-- A name goes.
module _ (z : Sizes) (objects : Objects) (can : CanHave z objects) (moment d o : ℕ) (name : Name) (names : Names objects d name o) where
  abbrev left : Objects
  left = without_name objects moment d name

  left_dir : IsDirectory objects d
  left_dir = namer_directory objects d o name names

  pub remove_ready : LosesName z objects d name o
  remove_ready = record {
    names = names;
    there = can.forest.leads d o name names;
    apart = not_own z objects can.forest d o name names;
    only = λ dir p n other. can.forest.one_name o p d n name dir other names;
    countable = can_count z objects can;
  }

  pub left_countable : IsCountable z left
  left_countable = less_countable z objects left (can_count z objects can) (without_less z objects moment d name left_dir)

  -- a directory has then no name
  left_unnamed : IsDirectory left o → IsNamed left o → ⊥
  left_unnamed dir named =
      let old = without_from objects moment d name left_dir named.0 o named.1 named.2 in
      let same = can.forest.one_name o named.0 d named.1 name (directory_before objects d moment _ left_dir o dir) old.1 names in
      old.0 same.0 same.1

  pub left_goes : NamesNothing objects o → CanGo z left o
  left_goes empty = record { blank = λ c n by'. empty c n (without_from objects moment d name left_dir o c n by').1; unnamed = left_unnamed; countable = left_countable }

-- what may go is what the name led to
pub dropped_is : (dropped : Option ℕ) (o : ℕ) → (dropped ≡ None) ⊎ (dropped ≡ Some o) → (k : ℕ) → dropped ≡ Some k → o ≡ k
dropped_is dropped o (inl none) k is = let two : None ≡ Some k = sym none ∙ is in absurd cc
dropped_is dropped o (inr some) k is = let two : Some o ≡ Some k = sym some ∙ is in cc

-- An object is moved.
module _ (z : Sizes) (objects : Objects) (can : CanHave z objects) (moment d q x : ℕ) (a b : Name) (from : Names objects d a x) (to : IsDirectory objects q) where
  abbrev between : Objects
  between = without_name objects moment d a

  from_dir : IsDirectory objects d
  from_dir = namer_directory objects d x a from

  to_after : IsDirectory between q
  to_after = directory_after objects d moment _ from_dir q to

  x_there : (v : Object) × (map.get between x ≡ Some v)
  x_there = let was = can.forest.leads d x a from in there_after objects d moment _ from_dir x was.0 was.1

  -- to a name that the directory has not
  pub move_absent : map.get (entries_of (map.get objects q)) b ≡ None → fits z (with_name between moment q b x) ≡ true → GetsName z between moment q b x
  move_absent absent fit = record {
    directory_is = to_after;
    absent = still;
    there = x_there;
    unnamed = left_unnamed z objects can moment d x a from;
    before = left_countable z objects can moment d x a from;
    after = fits_countable z (with_name between moment q b x) can.numbers fit;
  }
    where
      es : Entries
      es = entries_of (map.get objects d)

      still : map.get (entries_of (map.get between q)) b ≡ None
      still = elim (cases_eq q d) [
        | inr ne ↦ ap (λ (v : Option Object). map.get (entries_of v) b) (get_there nat_cmp_total map.nat_cmp-IsAntisymmetric objects d (Dir moment (map.remove (entries_of (map.get objects d)) a)) q ne) ∙ absent
        | inl is ↦
            ap (λ (v : Option Object). map.get (entries_of v) b) (ap (map.get between) is ∙ get_here nat_cmp_total map.nat_cmp-IsAntisymmetric objects d (Dir moment (map.remove (entries_of (map.get objects d)) a)))
            ∙ elim (cases_key nat_list_cmp_total name_same b a) [
              | inl e ↦ ap (map.get (map.remove (entries_of (map.get objects d)) a)) e ∙ removed_none nat_list_cmp_total name_same (entries_of (map.get objects d)) a
              | inr ne ↦ get_removed nat_list_cmp_total name_same (entries_of (map.get objects d)) a b ne ∙ ap (λ k. map.get (entries_of (map.get objects k)) b) (sym is) ∙ absent
            ]
      ]

  -- in place of another
  module _ (y : ℕ) (was : Names objects q b y) (ne : y ≢ x) where
    abbrev cleared : Objects
    cleared = without_name between moment q b

    abbrev moved : Objects
    moved = with_name between moment q b x

    still_named : Names between q b y
    still_named = without_committed objects moment d a from_dir q y b was
        (λ is same. ne (one_object objects d y x a (subst (λ m. Names objects d m y) same (subst (λ r. Names objects r b y) is was)) from))

    -- to clear a name and give it is to give it
    pub same_moved : with_name cleared moment q b x ≡ moved
    same_moved = map.same_map nat_cmp_total map.nat_cmp-IsAntisymmetric (with_name cleared moment q b x) moved (λ k. elim (cases_eq k q) [
      | inl is ↦ ap (map.get (with_name cleared moment q b x)) is ∙ here_cleared ∙ ap (λ (e : Entries). Some (Dir moment e)) same_entries ∙ sym (ap (map.get moved) is ∙ here_moved)
      | inr far ↦
          get_there nat_cmp_total map.nat_cmp-IsAntisymmetric cleared q _ k far ∙ get_there nat_cmp_total map.nat_cmp-IsAntisymmetric between q _ k far
          ∙ sym (get_there nat_cmp_total map.nat_cmp-IsAntisymmetric between q _ k far)
    ])
      where
        es : Entries
        es = entries_of (map.get between q)

        here_moved : map.get moved q ≡ Some (Dir moment (map.insert (entries_of (map.get between q)) b x))
        here_moved = get_here nat_cmp_total map.nat_cmp-IsAntisymmetric between q (Dir moment (map.insert (entries_of (map.get between q)) b x))

        cleared_is : entries_of (map.get cleared q) ≡ map.remove (entries_of (map.get between q)) b
        cleared_is = ap entries_of (get_here nat_cmp_total map.nat_cmp-IsAntisymmetric between q (Dir moment (map.remove (entries_of (map.get between q)) b)))

        here_cleared : map.get (with_name cleared moment q b x) q ≡ Some (Dir moment (map.insert (map.remove (entries_of (map.get between q)) b) b x))
        here_cleared = get_here nat_cmp_total map.nat_cmp-IsAntisymmetric cleared q (Dir moment (map.insert (entries_of (map.get cleared q)) b x)) ∙ ap (λ (e : Entries). Some (Dir moment (map.insert e b x))) cleared_is

        same_entries : map.insert (map.remove (entries_of (map.get between q)) b) b x ≡ map.insert (entries_of (map.get between q)) b x
        same_entries = map.same_map nat_list_cmp_total name_same _ _ (λ n. elim (cases_key nat_list_cmp_total name_same n b) [
          | inl e ↦
              ap (map.get (map.insert (map.remove (entries_of (map.get between q)) b) b x)) e ∙ get_here nat_list_cmp_total name_same (map.remove (entries_of (map.get between q)) b) b x
              ∙ sym (ap (map.get (map.insert (entries_of (map.get between q)) b x)) e ∙ get_here nat_list_cmp_total name_same (entries_of (map.get between q)) b x)
          | inr far ↦
              get_there nat_list_cmp_total name_same (map.remove (entries_of (map.get between q)) b) b x n far ∙ get_removed nat_list_cmp_total name_same (entries_of (map.get between q)) b n far
              ∙ sym (get_there nat_list_cmp_total name_same (entries_of (map.get between q)) b x n far)
        ])

    pub clear_ready : LosesName z between q b y
    clear_ready = record {
      names = still_named;
      there = (let there = can.forest.leads q y b was in there_after objects d moment _ from_dir y there.0 there.1);
      apart = not_own z objects can.forest q y b was;
      only = λ dir p n other. can.forest.one_name y p q n b (directory_before objects d moment _ from_dir y dir) (without_from objects moment d a from_dir p y n other).1 was;
      countable = left_countable z objects can moment d x a from;
    }

    moved_less : charge z moved ≤ charge z between
    moved_less =
        let is : entries_of (map.get between q) ≡ to_after.1 = ap entries_of to_after.2 in
        let same : map.len (map.insert (entries_of (map.get between q)) b x) ≡ map.len to_after.1 =
        map.len-insert nat_list_cmp_total (entries_of (map.get between q)) b x ∙ cond-true _ _ _ (ap is_some (named_entry between q y b still_named)) ∙ ap (λ (e : Entries). map.len e) is in
        insert_less z between q (Dir to_after.0 to_after.1) _ to_after.2 (omega (arith, ap (λ n. ceiling n (page_slots z)) same))

    moved_countable : IsCountable z moved
    moved_countable = less_countable z between moved (left_countable z objects can moment d x a from) moved_less

    pub move_cleared : GetsName z cleared moment q b x
    move_cleared = record {
      directory_is = directory_after between q moment _ to_after q to_after;
      absent =
          ap (λ (v : Option Object). map.get (entries_of v) b) (get_here nat_cmp_total map.nat_cmp-IsAntisymmetric between q (Dir moment (map.remove (entries_of (map.get between q)) b)))
          ∙ removed_none nat_list_cmp_total name_same (entries_of (map.get between q)) b;
      there = there_after between q moment _ to_after x x_there.0 x_there.1;
      unnamed = λ dir named. left_unnamed z objects can moment d x a from (directory_before between q moment _ to_after x dir)
          (named.0, named.1, (without_from between moment q b to_after named.0 x named.1 named.2).1);
      before = less_countable z between cleared (left_countable z objects can moment d x a from) (without_less z between moment q b to_after);
      after = subst (IsCountable z) (sym same_moved) moved_countable;
    }

    pub replaced_goes : NamesNothing objects y → CanGo z moved y
    replaced_goes empty = record {
      blank = λ c n names. elim (with_from between moment q x b to_after y c n names) [
        | inl new ↦ absurd (not_own z objects can.forest q y b was (sym new.0))
        | inr old ↦ empty c n (without_from objects moment d a from_dir y c n old.1).1
      ];
      unnamed = λ dir named. elim (with_from between moment q x b to_after named.0 y named.1 named.2) [
        | inl new ↦ absurd (ne new.2)
        | inr old ↦
            let before = without_from objects moment d a from_dir named.0 y named.1 old.1 in
            let same = can.forest.one_name y named.0 q named.1 b (directory_before objects d moment _ from_dir y (directory_before between q moment _ to_after y dir)) before.1 was in
            old.0 same.0 same.1
      ];
      countable = moved_countable;
    }
