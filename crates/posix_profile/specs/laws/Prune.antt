-- What a prune leaves, and what a mount shows.
use Rattle.std.specs.Prelude.{◌≡◌, ◌⊎◌, ℕ, Bool, true, false, ◌||◌, Option, Some, None, nat_eq, cond}
use Rattle.std.proofs.Common.{refl, sym, ◌∙◌, subst, inl, inr}
use Rattle.std.proofs.lemmas.Bool.{or_cases, or_left, or_right, eqb-true, eq-eqb, cond-true}
use Rattle.std.specs.Cmp.{nat_cmp_total}
use Rattle.std.specs.Ordering.{nat_cmp}
use Rattle.std.specs.FinMap as map
use Rattle.volume_terms.specs.Sizes.{Sizes, root_number}
use Rattle.posix_profile.specs.State.{Name, Object, Objects, Handle, State, IsDirectory}
use Rattle.posix_profile.specs.Names.{Names, Reached, root, below, is_named, is_open, prune, settle}
use Rattle.posix_profile.specs.WellFormed.{IsForest, IsHandle, AreHandles, IsNamed, IsOpen, IsWellFormed, IsTree}
use Rattle.posix_profile.specs.laws.Map.{retain_cases, retained, get_retained}
use Rattle.posix_profile.specs.laws.Name.{named_from_test, test_from_named, open_from_test, test_from_open}

-- the object is the root, has a name, or is open
abbrev pub IsCommittedKey : State → ℕ → Type 0
IsCommittedKey s o = (o ≡ root_number) ⊎ IsNamed s.objects o ⊎ IsOpen s.handles o

abbrev keep_test : State → ℕ → Bool
keep_test s o = nat_eq o root_number || is_named s.objects o || is_open s o

committed_from_test : (s : State) (o : ℕ) → keep_test s o ≡ true → IsCommittedKey s o
committed_from_test s o e = elim (or_cases (nat_eq o root_number || is_named s.objects o) (is_open s o) e) [
  | inl f ↦ elim (or_cases (nat_eq o root_number) (is_named s.objects o) f) [
    | inl top ↦ inl (eqb-true o root_number top)
    | inr named ↦ inr (inl (named_from_test s.objects o named))
  ]
  | inr open' ↦ inr (inr (open_from_test s o open'))
]

test_from_committed : (s : State) (o : ℕ) → IsCommittedKey s o → keep_test s o ≡ true
test_from_committed s o (inl top) = or_left (nat_eq o root_number || is_named s.objects o) (is_open s o) (or_left (nat_eq o root_number) (is_named s.objects o) (eq-eqb o root_number top))
test_from_committed s o (inr (inl named)) = or_left (nat_eq o root_number || is_named s.objects o) (is_open s o) (or_right (nat_eq o root_number) (is_named s.objects o) (test_from_named s.objects o named))
test_from_committed s o (inr (inr open')) = or_right (nat_eq o root_number || is_named s.objects o) (is_open s o) (test_from_open s o open')

-- what is reached is the root or has a name
reached_committed : (s : State) (o : ℕ) → Reached s.objects o → IsCommittedKey s o
reached_committed s o root = inl refl
reached_committed s o (below {directory} {object} name up names) = inr (inl (directory, name, names))

module _ (z : Sizes) (s : State) (forest : IsForest z s.objects) where
  abbrev left : Objects
  left = (prune s).objects

  was : (o : ℕ) (object : Object) → map.get left o ≡ Some object → IsCommittedKey s o × (map.get s.objects o ≡ Some object)
  was o object is =
      let c = retain_cases nat_cmp_total map.nat_cmp-IsAntisymmetric s.objects (keep_test s) o object is in
      (committed_from_test s o c.0, c.1)

  stays : (o : ℕ) (object : Object) → IsCommittedKey s o → map.get s.objects o ≡ Some object → map.get left o ≡ Some object
  stays o object committed is = retained nat_cmp_total map.nat_cmp-IsAntisymmetric s.objects (keep_test s) o object (test_from_committed s o committed) is

  names_before : (p c : ℕ) (n : Name) → Names left p n c → Names s.objects p n c
  names_before p c n names = record { moment = names.moment; entries = names.entries; directory_is = (was p _ names.directory_is).1; object_is = names.object_is }

  names_stay : (p c : ℕ) (n : Name) → Names s.objects p n c → Names left p n c
  names_stay p c n names = record {
    moment = names.moment;
    entries = names.entries;
    directory_is = stays p _ (reached_committed s p (forest.reached p c n names)) names.directory_is;
    object_is = names.object_is;
  }

  reached_stays : (o : ℕ) → Reached s.objects o → Reached left o
  reached_stays o root = root
  reached_stays o (below {directory} {object} name up names) = below name (reached_stays directory up) (names_stay directory object name names)

  directory_was : (o : ℕ) → IsDirectory left o → IsDirectory s.objects o
  directory_was o d = (d.0, d.1, (was o _ d.2).1)

  pub pruned_forest : IsForest z left
  pruned_forest = record {
    each = λ o object is. forest.each o object (was o object is).1;
    root = (forest.root.0, forest.root.1, stays root_number _ (inl refl) forest.root.2);
    root_unnamed = λ p n names. forest.root_unnamed p n (names_before p root_number n names);
    leads = λ p c n names.
        let old = names_before p c n names in
        let there = forest.leads p c n old in
        (there.0, stays c there.0 (inr (inl (p, n, old))) there.1);
    reached = λ p c n names. reached_stays p (forest.reached p c n (names_before p c n names));
    one_name = λ o a b m n dir na nb. forest.one_name o a b m n (directory_was o dir) (names_before a o m na) (names_before b o n nb);
  }

  pruned_committed : (o : ℕ) (object : Object) → map.get left o ≡ Some object → (o ≡ root_number) ⊎ IsNamed left o ⊎ IsOpen s.handles o
  pruned_committed o object is = go (was o object is).0
    where
      go : IsCommittedKey s o → (o ≡ root_number) ⊎ IsNamed left o ⊎ IsOpen s.handles o
      go (inl top) = inl top
      go (inr (inl named)) = inr (inl (named.0, named.1, names_stay named.0 o named.1 named.2))
      go (inr (inr open')) = inr (inr open')

  pruned_handle : (fd : ℕ) (handle : Handle) → map.get s.handles fd ≡ Some handle → IsHandle s.objects fd handle → IsHandle left fd handle
  pruned_handle fd handle is h =
      let committed : IsCommittedKey s handle.object = inr (inr (fd, handle, is, refl)) in
      record {
        descriptor = h.descriptor;
        offset = h.offset;
        there = (h.there.0, stays handle.object h.there.0 committed h.there.1);
        writes = λ may. let file = h.writes may in (file.0, file.1, stays handle.object _ committed file.2);
      }

  -- a prune leaves a state that is well formed
  pub prune_well_formed : AreHandles s.objects s.handles → IsWellFormed z (prune s)
  prune_well_formed handles = record {
    forest = pruned_forest;
    handles = λ fd handle is. pruned_handle fd handle is (handles fd handle is);
    committed = pruned_committed;
  }

-- in a well formed state there is nothing to prune
pub prune_same : (z : Sizes) (s : State) → IsWellFormed z s → prune s ≡ s
prune_same z s sound =
    let same : (prune s).objects ≡ s.objects =
    map.same_map nat_cmp_total map.nat_cmp-IsAntisymmetric _ _ (λ o. go o (map.get s.objects o) refl) in
    λ i. record s { objects = same i }
  where
    go : (o : ℕ) (found : Option Object) → map.get s.objects o ≡ found → map.get (prune s).objects o ≡ map.get s.objects o
    go o None is = get_retained nat_cmp_total map.nat_cmp-IsAntisymmetric s.objects (keep_test s) o ∙ none (keep_test s o) (map.get s.objects o) is
      where
        none : (b : Bool) (x : Option Object) → x ≡ None → cond b x None ≡ x
        none true x e = refl
        none false x e = sym e
    go o (Some object) is = get_retained nat_cmp_total map.nat_cmp-IsAntisymmetric s.objects (keep_test s) o ∙ cond-true _ _ _ (test_from_committed s o (sound.committed o object is))

pub no_handles : (objects : Objects) → AreHandles objects map.empty
no_handles objects fd handle is = let two : None ≡ Some handle = sym (map.get-empty nat_cmp fd) ∙ is in absurd cc

-- what a mount shows of a well formed state is well formed
pub settle_well_formed : (z : Sizes) (s : State) → IsWellFormed z s → IsWellFormed z (settle s)
settle_well_formed z s sound = prune_well_formed z (record s { handles = map.empty }) sound.forest (no_handles s.objects)

-- a state without descriptors that is well formed is a tree
pub well_formed_tree : (z : Sizes) (objects : Objects) → IsWellFormed z (record { objects = objects; handles = map.empty }) → IsTree z objects
well_formed_tree z objects sound = record { forest = sound.forest; all_reached = λ o object is. go o (sound.committed o object is) }
  where
    go : (o : ℕ) → (o ≡ root_number) ⊎ IsNamed objects o ⊎ IsOpen map.empty o → Reached objects o
    go o (inl top) = subst (Reached objects) (sym top) root
    go o (inr (inl named)) = below named.1 (sound.forest.reached named.0 o named.1 named.2) named.2
    go o (inr (inr open')) = let two : None ≡ Some open'.1 = sym (map.get-empty nat_cmp open'.0) ∙ open'.2 in absurd cc

-- and a tree is such a state
pub tree_well_formed : (z : Sizes) (objects : Objects) → IsTree z objects → IsWellFormed z (record { objects = objects; handles = map.empty })
tree_well_formed z objects tree = record {
  forest = tree.forest;
  handles = no_handles objects;
  committed = λ o object is. reached_committed (record { objects = objects; handles = map.empty }) o (tree.all_reached o object is);
}

-- what a mount shows of a well formed state is a tree
pub settled_tree : (z : Sizes) (s : State) → IsWellFormed z s → IsTree z (settle s).objects
settled_tree z s sound = well_formed_tree z (settle s).objects (settle_well_formed z s sound)

-- what a mount shows, it shows again
pub settle_again : (z : Sizes) (s : State) → IsWellFormed z s → settle (settle s) ≡ settle s
settle_again z s sound = prune_same z (settle s) (settle_well_formed z s sound)
