-- Changes of names that keep a state well formed.
use Rattle.std.specs.Prelude.{◌≡◌, ◌≢◌, ◌⊎◌, ◌<◌, ◌≤◌, ◌^◌, ℕ, Some, None}
use Rattle.std.proofs.Common.{refl, sym, ◌∙◌, ap, subst, inl, inr, arith}
use Rattle.std.proofs.lemmas.Bool.{cases_eq}
use Rattle.std.specs.Cmp.{nat_cmp_total}
use Rattle.std.specs.FinMap as map
use Rattle.volume_terms.specs.Sizes.{Sizes, root_number}
use Rattle.posix_profile.specs.State.{Name, Entries, Object, Dir, Objects, State, IsFile, IsDirectory, entries_of}
use Rattle.posix_profile.specs.Names.{Names, Reached, Below, prune}
use Rattle.posix_profile.specs.Changes.{with_name, without_name}
use Rattle.posix_profile.specs.WellFormed.{IsForest, IsObject, AreHandles, IsNamed, IsOpen, IsWellFormed}
use Rattle.volume_terms.specs.Names.{IsName}
use Rattle.posix_profile.specs.laws.Map.{get_here, get_there, insert_cases}
use Rattle.posix_profile.specs.laws.Name.{one_object, not_both, named_entry, namer_directory}
use Rattle.posix_profile.specs.laws.Forest.{Moves, Edits, edited_forest, below_self}
use Rattle.posix_profile.specs.laws.Directory.{there_after, file_after, directory_after, directory_before, each_after, with_from, with_committed, with_here, without_from, without_committed, names_with, names_without}
use Rattle.posix_profile.specs.laws.Handle.{handles_over, zero_absent, Keeps, committed_forest}
use Rattle.posix_profile.specs.laws.Prune.{prune_well_formed}

-- a state whose names stay, and whose new objects have names, stays well formed
well_formed_over : (z : Sizes) (s : State) (new : Objects) → IsWellFormed z s → IsForest z new → AreHandles new s.handles
    → ((o : ℕ) (object : Object) → map.get new o ≡ Some object → ((was : Object) × (map.get s.objects o ≡ Some was)) ⊎ IsNamed new o)
    → ((p c : ℕ) (n : Name) → Names s.objects p n c → Names new p n c) → IsWellFormed z (record s { objects = new })
well_formed_over z s new sound forest handles was names = record {
  forest = forest;
  handles = handles;
  committed = λ o object is. from o (was o object is);
}
  where
    old : (o : ℕ) → (o ≡ root_number) ⊎ IsNamed s.objects o ⊎ IsOpen s.handles o → (o ≡ root_number) ⊎ IsNamed new o ⊎ IsOpen s.handles o
    old o (inl top) = inl top
    old o (inr (inl named)) = inr (inl (named.0, named.1, names named.0 o named.1 named.2))
    old o (inr (inr open')) = inr (inr open')

    from : (o : ℕ) → ((was : Object) × (map.get s.objects o ≡ Some was)) ⊎ IsNamed new o → (o ≡ root_number) ⊎ IsNamed new o ⊎ IsOpen s.handles o
    from o (inl there) = old o (sound.committed o there.0 there.1)
    from o (inr named) = inr (inl named)

-- a name that a directory hasn't leads nowhere
pub no_name : (objects : Objects) (d c : ℕ) (name : Name) → map.get (entries_of (map.get objects d)) name ≡ None → Names objects d name c → ⊥
no_name objects d c name absent names = let two : None ≡ Some c = sym absent ∙ named_entry objects d c name names in cc

-- An object without entries, under a number that is free, gets a name.
module _ (z : Sizes) (s : State) (sound : IsWellFormed z s) (moment d n : ℕ) (name : Name) (x : Object)
    (dir : IsDirectory s.objects d) (up : Reached s.objects d) (ok : IsName name) (absent : map.get (entries_of (map.get s.objects d)) name ≡ None)
    (small : moment < 2 ^ 64) (free : map.get s.objects n ≡ None) (low : 2 ≤ n) (is_object : IsObject z n x)
    (blank : (m : ℕ) (entries : Entries) (k : Name) (c : ℕ) → x ≡ Dir m entries → map.get entries k ≡ Some c → ⊥) where
  abbrev base : Objects
  base = map.insert s.objects n x

  abbrev added : Objects
  added = with_name base moment d name n

  base_here : map.get base n ≡ Some x
  base_here = get_here nat_cmp_total map.nat_cmp-IsAntisymmetric s.objects n x

  base_there : (o : ℕ) → o ≢ n → map.get base o ≡ map.get s.objects o
  base_there o ne = get_there nat_cmp_total map.nat_cmp-IsAntisymmetric s.objects n x o ne

  old_ne : (o : ℕ) (object : Object) → map.get s.objects o ≡ Some object → o ≢ n
  old_ne o object is same = let two : None ≡ Some object = sym free ∙ ap (map.get s.objects) (sym same) ∙ is in cc

  base_old : (o : ℕ) (object : Object) → map.get s.objects o ≡ Some object → map.get base o ≡ Some object
  base_old o object is = base_there o (old_ne o object is) ∙ is

  base_dir : IsDirectory base d
  base_dir = (dir.0, dir.1, base_old d _ dir.2)

  names_base : (p c : ℕ) (k : Name) → Names s.objects p k c → Names base p k c
  names_base p c k names = record { moment = names.moment; entries = names.entries; object_is = names.object_is; directory_is = base_old p _ names.directory_is }

  names_old : (p c : ℕ) (k : Name) → Names base p k c → Names s.objects p k c
  names_old p c k names = elim (cases_eq p n) [
    | inl is ↦
        let two : Some x ≡ Some (Dir names.moment names.entries) = sym base_here ∙ ap (map.get base) (sym is) ∙ names.directory_is in
        absurd (blank names.moment names.entries k c (cc) names.object_is)
    | inr ne ↦ record { moment = names.moment; entries = names.entries; object_is = names.object_is; directory_is = sym (base_there p ne) ∙ names.directory_is }
  ]

  n_unnamed : IsNamed s.objects n → ⊥
  n_unnamed named = let there = sound.forest.leads named.0 n named.1 named.2 in old_ne n there.0 there.1 refl

  base_each : (o : ℕ) (object : Object) → map.get base o ≡ Some object → IsObject z o object
  base_each o object is = elim (insert_cases nat_cmp_total map.nat_cmp-IsAntisymmetric s.objects n x o object is) [
    | inl here ↦ subst (λ k. IsObject z k object) (sym here.0) (subst (IsObject z n) (sym here.1) is_object)
    | inr there ↦ sound.forest.each o object there.1
  ]

  names_added : (p c : ℕ) (k : Name) → Names s.objects p k c → Names added p k c
  names_added p c k names = with_committed base moment d n name base_dir p c k (names_base p c k names)
      (λ is same. no_name s.objects d c name absent (subst (λ m. Names s.objects d m c) same (subst (λ q. Names s.objects q k c) is names)))

  there_added : (o : ℕ) (object : Object) → map.get s.objects o ≡ Some object → (now : Object) × (map.get added o ≡ Some now)
  there_added o object is = there_after base d moment _ base_dir o object (base_old o object is)

  moves_added : Moves s.objects added n 0 d
  moves_added = record {
    committed = λ p c k names ne ney. names_added p c k names;
    moved = λ named. absurd (n_unnamed named);
    empty = λ c k names. zero_absent z s.objects sound.forest _ names.directory_is;
    apart = λ named b. n_unnamed named;
    not_y = λ is. zero_absent z s.objects sound.forest _ (ap (map.get s.objects) (sym is) ∙ dir.2);
    top = up;
  }

  old_from : (p c : ℕ) (k : Name) → Names added p k c → ((p ≡ d) × (k ≡ name) × (c ≡ n)) ⊎ Names s.objects p k c
  old_from p c k names = elim (with_from base moment d n name base_dir p c k names) [ inl new ↦ inl new | inr old ↦ inr (names_old p c k old.1) ]

  edits_added : Edits z s.objects added n 0 d name
  edits_added = record {
    moves = moves_added;
    each = each_after base d moment _ base_dir z base_each small (names_with z base d base_dir base_each name n ok);
    root = directory_after base d moment _ base_dir root_number (sound.forest.root.0, sound.forest.root.1, base_old root_number _ sound.forest.root.2);
    there = there_added;
    back = λ o now ne. let b = directory_before base d moment _ base_dir o now in (b.0, b.1, sym (base_there o ne) ∙ b.2);
    from = λ p c k names. elim (old_from p c k names) [ inl new ↦ inl (new.0, new.2) | inr old ↦ inr old ];
    single = λ now p k names. elim (old_from p n k names) [ inl new ↦ (new.0, new.1) | inr old ↦ absurd (n_unnamed (p, k, old)) ];
    x_there = λ named. there_after base d moment _ base_dir n x base_here;
    not_root = λ is. omega arith;
  }

  files_added : (o : ℕ) → IsFile s.objects o → IsFile added o
  files_added o file = file_after base d moment _ base_dir o (file.0, file.1, base_old o _ file.2)

  was_added : (o : ℕ) (object : Object) → map.get added o ≡ Some object → ((was : Object) × (map.get s.objects o ≡ Some was)) ⊎ IsNamed added o
  was_added o object is = elim (insert_cases nat_cmp_total map.nat_cmp-IsAntisymmetric base d _ o object is) [
    | inl here ↦ inl (Dir dir.0 dir.1, ap (map.get s.objects) here.0 ∙ dir.2)
    | inr there ↦ elim (insert_cases nat_cmp_total map.nat_cmp-IsAntisymmetric s.objects n x o object there.1) [
      | inl new ↦ inr (d, name, subst (λ c. Names added d name c) (sym new.0) (with_here base moment d n name base_dir))
      | inr old ↦ inl (object, old.1)
    ]
  ]

  -- the new object is there
  pub object_there : map.get added n ≡ Some x
  object_there =
      let ne : n ≢ d = λ is. old_ne d _ dir.2 (sym is) in
      get_there nat_cmp_total map.nat_cmp-IsAntisymmetric base d _ n ne ∙ base_here

  pub object_added : IsWellFormed z (record s { objects = with_name (map.insert s.objects n x) moment d name n })
  object_added = well_formed_over z s added sound (edited_forest z s.objects added n 0 d name edits_added sound.forest)
      (handles_over s.objects added s.handles there_added files_added sound.handles) was_added names_added

-- A file gets another name.
module _ (z : Sizes) (s : State) (sound : IsWellFormed z s) (moment d o : ℕ) (name : Name)
    (dir : IsDirectory s.objects d) (up : Reached s.objects d) (ok : IsName name) (absent : map.get (entries_of (map.get s.objects d)) name ≡ None)
    (small : moment < 2 ^ 64) (file : IsFile s.objects o) where
  abbrev linked : Objects
  linked = with_name s.objects moment d name o

  names_linked : (p c : ℕ) (k : Name) → Names s.objects p k c → Names linked p k c
  names_linked p c k names = with_committed s.objects moment d o name dir p c k names
      (λ is same. no_name s.objects d c name absent (subst (λ m. Names s.objects d m c) same (subst (λ q. Names s.objects q k c) is names)))

  file_names_none : (c : ℕ) (k : Name) → Names s.objects o k c → ⊥
  file_names_none c k names = not_both s.objects o file (namer_directory s.objects o c k names)

  there_linked : (k : ℕ) (object : Object) → map.get s.objects k ≡ Some object → (now : Object) × (map.get linked k ≡ Some now)
  there_linked k object is = there_after s.objects d moment _ dir k object is

  edits_linked : Edits z s.objects linked o 0 d name
  edits_linked = record {
    moves = record {
      committed = λ p c k names ne ney. names_linked p c k names;
      moved = λ named. (name, with_here s.objects moment d o name dir);
      empty = λ c k names. zero_absent z s.objects sound.forest _ names.directory_is;
      apart = λ named b. not_both s.objects d (subst (IsFile s.objects) (sym (below_self s.objects o d file_names_none b)) file) dir;
      not_y = λ is. zero_absent z s.objects sound.forest _ (ap (map.get s.objects) (sym is) ∙ dir.2);
      top = up;
    };
    each = each_after s.objects d moment _ dir z sound.forest.each small (names_with z s.objects d dir sound.forest.each name o ok);
    root = directory_after s.objects d moment _ dir root_number sound.forest.root;
    there = there_linked;
    back = λ k now ne. directory_before s.objects d moment _ dir k now;
    from = λ p c k names. elim (with_from s.objects moment d o name dir p c k names) [ inl new ↦ inl (new.0, new.2) | inr old ↦ inr old.1 ];
    single = λ now p k names. absurd (not_both s.objects o file (directory_before s.objects d moment _ dir o now));
    x_there = λ named. there_linked o _ file.2;
    not_root = λ is. not_both s.objects o file (subst (IsDirectory s.objects) (sym is) sound.forest.root);
  }

  was_linked : (k : ℕ) (object : Object) → map.get linked k ≡ Some object → ((was : Object) × (map.get s.objects k ≡ Some was)) ⊎ IsNamed linked k
  was_linked k object is = elim (insert_cases nat_cmp_total map.nat_cmp-IsAntisymmetric s.objects d _ k object is) [
    | inl here ↦ inl (Dir dir.0 dir.1, ap (map.get s.objects) here.0 ∙ dir.2)
    | inr there ↦ inl (object, there.1)
  ]

  pub name_added : IsWellFormed z (record s { objects = with_name s.objects moment d name o })
  name_added = well_formed_over z s linked sound (edited_forest z s.objects linked o 0 d name edits_linked sound.forest)
      (handles_over s.objects linked s.handles there_linked (file_after s.objects d moment _ dir) sound.handles) was_linked names_linked

-- A name of an object that names nothing goes, and what only the name held.
module _ (z : Sizes) (s : State) (sound : IsWellFormed z s) (moment d o : ℕ) (name : Name)
    (names : Names s.objects d name o) (small : moment < 2 ^ 64) (empty : (c : ℕ) (k : Name) → Names s.objects o k c → ⊥) where
  abbrev removed : Objects
  removed = without_name s.objects moment d name

  dir : IsDirectory s.objects d
  dir = namer_directory s.objects d o name names

  keeps_removed : Keeps z s.objects removed o
  keeps_removed = record {
    committed = λ p c k old ne. without_committed s.objects moment d name dir p c k old
        (λ is same. ne (one_object s.objects d c o name (subst (λ m. Names s.objects d m c) same (subst (λ q. Names s.objects q k c) is old)) names));
    empty = empty;
    not_root = λ is. sound.forest.root_unnamed d name (subst (λ c. Names s.objects d name c) (sym is) names);
    each = each_after s.objects d moment _ dir z sound.forest.each small (names_without z s.objects d dir sound.forest.each name);
    root = directory_after s.objects d moment _ dir root_number sound.forest.root;
    there = there_after s.objects d moment _ dir;
    back = directory_before s.objects d moment _ dir;
    from = λ p c k new. (without_from s.objects moment d name dir p c k new).1;
  }

  pub name_gone : IsWellFormed z (prune (record s { objects = without_name s.objects moment d name }))
  name_gone = prune_well_formed z (record s { objects = removed }) (committed_forest z s.objects removed o keeps_removed sound.forest)
      (handles_over s.objects removed s.handles (there_after s.objects d moment _ dir) (file_after s.objects d moment _ dir) sound.handles)

-- An object goes from one name to another, in the place of y, which names nothing, and what only the names held goes.
module _ (z : Sizes) (s : State) (sound : IsWellFormed z s) (moment d q x y : ℕ) (a b : Name)
    (was : Names s.objects d a x) (to : IsDirectory s.objects q) (up : Reached s.objects q) (ok : IsName b) (small : moment < 2 ^ 64)
    (other : (c : ℕ) → Names s.objects q b c → c ≡ y) (empty : (c : ℕ) (k : Name) → Names s.objects y k c → ⊥) (not_y : q ≢ y)
    (apart : Below s.objects x q → ⊥) where
  abbrev middle : Objects
  middle = without_name s.objects moment d a

  abbrev moved : Objects
  moved = with_name middle moment q b x

  old_dir : IsDirectory s.objects d
  old_dir = namer_directory s.objects d x a was

  mid_dir : IsDirectory middle q
  mid_dir = directory_after s.objects d moment _ old_dir q to

  mid_each : (o : ℕ) (object : Object) → map.get middle o ≡ Some object → IsObject z o object
  mid_each = each_after s.objects d moment _ old_dir z sound.forest.each small (names_without z s.objects d old_dir sound.forest.each a)

  from_moved : (p c : ℕ) (k : Name) → Names moved p k c → ((p ≡ q) × (k ≡ b) × (c ≡ x)) ⊎ ((p ≡ d → k ≡ a → ⊥) × Names s.objects p k c)
  from_moved p c k names = elim (with_from middle moment q x b mid_dir p c k names) [
    | inl new ↦ inl new
    | inr old ↦ inr (without_from s.objects moment d a old_dir p c k old.1)
  ]

  committed_moved : (p c : ℕ) (k : Name) → Names s.objects p k c → c ≢ x → c ≢ y → Names moved p k c
  committed_moved p c k names nex ney =
      let mid : Names middle p k c = without_committed s.objects moment d a old_dir p c k names
      (λ is same. nex (one_object s.objects d c x a (subst (λ m. Names s.objects d m c) same (subst (λ e. Names s.objects e k c) is names)) was)) in
      with_committed middle moment q x b mid_dir p c k mid
      (λ is same. ney (other c (subst (λ m. Names s.objects q m c) same (subst (λ e. Names s.objects e k c) is names))))

  there_moved : (o : ℕ) (object : Object) → map.get s.objects o ≡ Some object → (now : Object) × (map.get moved o ≡ Some now)
  there_moved o object is =
      let mid = there_after s.objects d moment _ old_dir o object is in
      there_after middle q moment _ mid_dir o mid.0 mid.1

  directory_was : (o : ℕ) → IsDirectory moved o → IsDirectory s.objects o
  directory_was o now = directory_before s.objects d moment _ old_dir o (directory_before middle q moment _ mid_dir o now)

  edits_moved : Edits z s.objects moved x y q b
  edits_moved = record {
    moves = record {
      committed = committed_moved;
      moved = λ named. (b, with_here middle moment q x b mid_dir);
      empty = empty;
      apart = λ named below'. apart below';
      not_y = not_y;
      top = up;
    };
    each = each_after middle q moment _ mid_dir z mid_each small (names_with z middle q mid_dir mid_each b x ok);
    root = directory_after middle q moment _ mid_dir root_number (directory_after s.objects d moment _ old_dir root_number sound.forest.root);
    there = there_moved;
    back = λ o now ne. directory_was o now;
    from = λ p c k names. elim (from_moved p c k names) [ inl new ↦ inl (new.0, new.2) | inr old ↦ inr old.1 ];
    single = λ now p k names. elim (from_moved p x k names) [
      | inl new ↦ (new.0, new.1)
      | inr old ↦ let same = sound.forest.one_name x p d k a (directory_was x now) old.1 was in absurd (old.0 same.0 same.1)
    ];
    x_there = λ named. let there = sound.forest.leads d x a was in there_moved x there.0 there.1;
    not_root = λ is. sound.forest.root_unnamed d a (subst (λ c. Names s.objects d a c) is was);
  }

  files_moved : (o : ℕ) → IsFile s.objects o → IsFile moved o
  files_moved o file = file_after middle q moment _ mid_dir o (file_after s.objects d moment _ old_dir o file)

  pub name_replaced : IsWellFormed z (prune (record s { objects = with_name (without_name s.objects moment d a) moment q b x }))
  name_replaced = prune_well_formed z (record s { objects = moved }) (edited_forest z s.objects moved x y q b edits_moved sound.forest)
      (handles_over s.objects moved s.handles there_moved files_moved sound.handles)
