-- Changes of descriptors, and of a file's bytes, that keep a state well formed.
use Rattle.std.specs.Prelude.{◌≡◌, ◌≢◌, ◌⊎◌, ◌<◌, ◌≤◌, ◌^◌, ℕ, true, List, [], length, Some, None}
use Rattle.std.proofs.Common.{sym, ◌∙◌, ap, subst, inl, inr, arith}
use Rattle.std.proofs.lemmas.Bool.{cases_eq}
use Rattle.std.specs.Cmp.{nat_cmp_total}
use Rattle.std.specs.FinMap as map
use Rattle.volume_terms.specs.Sizes.{Sizes, root_number, greatest_length, descriptors, offset_limit}
use Rattle.posix_profile.specs.State.{Name, Object, File, Objects, Handle, Handles, State, IsFile, IsDirectory}
use Rattle.posix_profile.specs.Names.{Names, root, prune}
use Rattle.posix_profile.specs.Changes.{with_bytes, with_offset}
use Rattle.posix_profile.specs.HandleSteps.{may_write, open_on}
use Rattle.posix_profile.specs.WellFormed.{IsForest, IsObject, IsHandle, AreHandles, IsNamed, IsOpen, IsWellFormed}
use Rattle.volume_terms.specs.Names.{AreBytes}
use Rattle.posix_profile.specs.laws.Map.{get_here, get_there, insert_cases, remove_cases}
use Rattle.posix_profile.specs.laws.Name.{not_both}
use Rattle.posix_profile.specs.laws.Forest.{Edits, Moves, edited_forest}
use Rattle.posix_profile.specs.laws.Prune.{prune_well_formed}
use Rattle.posix_profile.specs.declared.command.OpenFlags.{OpenFlags}

-- a descriptor more, or in another form, beside the others
pub handles_with : (objects : Objects) (handles : Handles) (fd : ℕ) (handle : Handle) → AreHandles objects handles → IsHandle objects fd handle → AreHandles objects (map.insert handles fd handle)
handles_with objects handles fd handle are new k other is = elim (insert_cases nat_cmp_total map.nat_cmp-IsAntisymmetric handles fd handle k other is) [
  | inl here ↦ subst (λ n. IsHandle objects n other) (sym here.0) (subst (IsHandle objects fd) (sym here.1) new)
  | inr there ↦ are k other there.1
]

-- what was open still is where the descriptor was free, or represents the same object
pub open_with : (handles : Handles) (fd : ℕ) (handle : Handle) → ((was : Handle) → map.get handles fd ≡ Some was → was.object ≡ handle.object)
    → (o : ℕ) → IsOpen handles o → IsOpen (map.insert handles fd handle) o
open_with handles fd handle same o is = elim (cases_eq is.0 fd) [
  | inl here ↦ (
    fd,
    handle,
    get_here nat_cmp_total map.nat_cmp-IsAntisymmetric handles fd handle,
    sym (same is.1 (ap (map.get handles) (sym here) ∙ is.2)) ∙ is.3,
  )
  | inr there ↦ (is.0, is.1, get_there nat_cmp_total map.nat_cmp-IsAntisymmetric handles fd handle is.0 there ∙ is.2, is.3)
]

-- descriptors go on to represent objects where no object is lost and files stay files
pub handles_over : (old new : Objects) (handles : Handles)
    → ((o : ℕ) (object : Object) → map.get old o ≡ Some object → (now : Object) × (map.get new o ≡ Some now))
    → ((o : ℕ) → IsFile old o → IsFile new o) → AreHandles old handles → AreHandles new handles
handles_over old new handles there files are fd handle is =
    let h = are fd handle is in
    record { descriptor = h.descriptor; offset = h.offset; there = there handle.object h.there.0 h.there.1; writes = λ may. files handle.object (h.writes may) }

-- no object has the number 0, and none is named so
pub zero_absent : (z : Sizes) (objects : Objects) → IsForest z objects → (object : Object) → map.get objects 0 ≡ Some object → ⊥
zero_absent z objects forest object is = absurd (omega (arith, (forest.each 0 object is).numbered))

pub zero_unnamed : (z : Sizes) (objects : Objects) → IsForest z objects → IsNamed objects 0 → ⊥
zero_unnamed z objects forest n = let there = forest.leads n.0 0 n.1 n.2 in zero_absent z objects forest there.0 there.1

-- Names stay but those of y, which names nothing, and nothing is moved.
pub record Keeps (z : Sizes) (old new : Objects) (y : ℕ) : Type 0 where
  pub committed : (p c : ℕ) (n : Name) → Names old p n c → c ≢ y → Names new p n c
  pub empty : (c : ℕ) (n : Name) → Names old y n c → ⊥
  pub not_root : root_number ≢ y
  pub each : (o : ℕ) (object : Object) → map.get new o ≡ Some object → IsObject z o object
  pub root : IsDirectory new root_number
  pub there : (o : ℕ) (object : Object) → map.get old o ≡ Some object → (now : Object) × (map.get new o ≡ Some now)
  pub back : (o : ℕ) → IsDirectory new o → IsDirectory old o
  pub from : (p c : ℕ) (n : Name) → Names new p n c → Names old p n c

pub committed_forest : (z : Sizes) (old new : Objects) (y : ℕ) → Keeps z old new y → IsForest z old → IsForest z new
committed_forest z old new y keeps forest =
    let none : IsNamed old 0 → ⊥ = zero_unnamed z old forest in
    let moves : Moves old new 0 y root_number = record {
      committed = λ p c n names ne ney. keeps.committed p c n names ney;
      moved = λ named. absurd (none named);
      empty = keeps.empty;
      apart = λ named b. none named;
      not_y = keeps.not_root;
      top = root;
    } in
    let none_new : IsNamed new 0 → ⊥ = λ named. none (named.0, named.1, keeps.from named.0 0 named.1 named.2) in
    let edits : Edits z old new 0 y root_number [] = record {
      moves = moves;
      each = keeps.each;
      root = keeps.root;
      there = keeps.there;
      back = λ o d ne. keeps.back o d;
      from = λ p c n names. inr (keeps.from p c n names);
      single = λ d p n names. absurd (none_new (p, n, names));
      x_there = λ named. absurd (none_new named);
      not_root = λ is. omega arith;
    } in
    edited_forest z old new 0 y root_number [] edits forest

module _ (z : Sizes) (s : State) (sound : IsWellFormed z s) where
  -- an offset moves
  pub offset_moved : (fd : ℕ) (handle : Handle) (offset : ℕ) → map.get s.handles fd ≡ Some handle → offset ≤ offset_limit → IsWellFormed z (with_offset s fd handle offset)
  offset_moved fd handle offset is small =
      let h = sound.handles fd handle is in
      record {
        forest = sound.forest;
        handles = handles_with s.objects s.handles fd (record handle { offset = offset }) sound.handles (record { descriptor = h.descriptor; offset = small; there = h.there; writes = h.writes });
        committed = λ o object get. committed_so o (sound.committed o object get);
      }
    where
      committed_so : (o : ℕ) → (o ≡ root_number) ⊎ IsNamed s.objects o ⊎ IsOpen s.handles o
          → (o ≡ root_number) ⊎ IsNamed s.objects o ⊎ IsOpen (map.insert s.handles fd (record handle { offset = offset })) o
      committed_so o (inl top) = inl top
      committed_so o (inr (inl named)) = inr (inl named)
      committed_so o (inr (inr open')) = inr (inr (open_with s.handles fd (record handle { offset = offset })
          (λ was got. let two : Some was ≡ Some handle = sym got ∙ is in let same : was ≡ handle = cc in ap (λ (h : Handle). h.object) same) o open'))

  -- a descriptor is opened on an object that is there
  pub handle_opened : (fd o : ℕ) (flags : OpenFlags) → map.get s.handles fd ≡ None → fd < descriptors
      → (object : Object) × (map.get s.objects o ≡ Some object) → (may_write flags.access ≡ true → IsFile s.objects o)
      → IsWellFormed z (open_on s.objects s fd o flags)
  handle_opened fd o flags free low there file = record {
    forest = sound.forest;
    handles = handles_with s.objects s.handles fd new sound.handles (record { descriptor = low; offset = omega arith; there = there; writes = file });
    committed = λ k object get. committed_so k (sound.committed k object get);
  }
    where
      new : Handle
      new = record { object = o; flags = flags; offset = 0 }

      committed_so : (k : ℕ) → (k ≡ root_number) ⊎ IsNamed s.objects k ⊎ IsOpen s.handles k → (k ≡ root_number) ⊎ IsNamed s.objects k ⊎ IsOpen (map.insert s.handles fd new) k
      committed_so k (inl top) = inl top
      committed_so k (inr (inl named)) = inr (inl named)
      committed_so k (inr (inr open')) = inr (inr (open_with s.handles fd new (λ was got. let two : None ≡ Some was = sym free ∙ got in absurd cc) k open'))

  -- a descriptor is closed
  pub handle_closed : (fd : ℕ) → IsWellFormed z (prune (record s { handles = map.remove s.handles fd }))
  handle_closed fd = prune_well_formed z (record s { handles = map.remove s.handles fd }) sound.forest
      (λ k handle is. sound.handles k handle (remove_cases nat_cmp_total map.nat_cmp-IsAntisymmetric s.handles fd k handle is).1)

  module _ (moment o : ℕ) (bytes : List ℕ) (file : IsFile s.objects o) (small : moment < 2 ^ 64) (are : AreBytes bytes) (short : length bytes ≤ greatest_length z) where
    abbrev new : Objects
    new = with_bytes s.objects moment o bytes

    here : map.get new o ≡ Some (File moment bytes)
    here = get_here nat_cmp_total map.nat_cmp-IsAntisymmetric s.objects o (File moment bytes)

    there : (k : ℕ) → k ≢ o → map.get new k ≡ map.get s.objects k
    there k ne = get_there nat_cmp_total map.nat_cmp-IsAntisymmetric s.objects o (File moment bytes) k ne

    directory_ne : (k : ℕ) → IsDirectory s.objects k → k ≢ o
    directory_ne k d is = not_both s.objects o file (subst (IsDirectory s.objects) is d)

    directory_committed : (k : ℕ) → IsDirectory s.objects k → IsDirectory new k
    directory_committed k d = (d.0, d.1, there k (directory_ne k d) ∙ d.2)

    directory_was : (k : ℕ) → IsDirectory new k → IsDirectory s.objects k
    directory_was k d = elim (cases_eq k o) [
      | inl is ↦ absurd (not_both new o (moment, bytes, here) (subst (IsDirectory new) is d))
      | inr ne ↦ (d.0, d.1, sym (there k ne) ∙ d.2)
    ]

    names_committed : (p c : ℕ) (n : Name) → Names s.objects p n c → Names new p n c
    names_committed p c n names = record {
      moment = names.moment;
      entries = names.entries;
      object_is = names.object_is;
      directory_is = there p (directory_ne p (names.moment, names.entries, names.directory_is)) ∙ names.directory_is;
    }

    names_were : (p c : ℕ) (n : Name) → Names new p n c → Names s.objects p n c
    names_were p c n names =
        let ne : p ≢ o = λ is. not_both new o (moment, bytes, here) (names.moment, names.entries, ap (map.get new) (sym is) ∙ names.directory_is) in
        record { moment = names.moment; entries = names.entries; object_is = names.object_is; directory_is = sym (there p ne) ∙ names.directory_is }

    each_new : (k : ℕ) (object : Object) → map.get new k ≡ Some object → IsObject z k object
    each_new k object is = elim (insert_cases nat_cmp_total map.nat_cmp-IsAntisymmetric s.objects o (File moment bytes) k object is) [
      | inl here' ↦
          let was = sound.forest.each o _ file.2 in
          subst (λ n. IsObject z n object) (sym here'.0) (subst (IsObject z o) (sym here'.1) (record { numbered = was.numbered; number = was.number; moment = small; content = (are, short) }))
      | inr there' ↦ sound.forest.each k object there'.1
    ]

    there_new : (k : ℕ) (object : Object) → map.get s.objects k ≡ Some object → (now : Object) × (map.get new k ≡ Some now)
    there_new k object is = elim (cases_eq k o) [
      | inl same ↦ (File moment bytes, ap (map.get new) same ∙ here)
      | inr ne ↦ (object, there k ne ∙ is)
    ]

    there_old : (k : ℕ) (object : Object) → map.get new k ≡ Some object → (was : Object) × (map.get s.objects k ≡ Some was)
    there_old k object is = elim (cases_eq k o) [
      | inl same ↦ (File file.0 file.1, ap (map.get s.objects) same ∙ file.2)
      | inr ne ↦ (object, sym (there k ne) ∙ is)
    ]

    pub file_committed : (k : ℕ) → IsFile s.objects k → IsFile new k
    file_committed k f = elim (cases_eq k o) [
      | inl same ↦ (moment, bytes, ap (map.get new) same ∙ here)
      | inr ne ↦ (f.0, f.1, there k ne ∙ f.2)
    ]

    keeps : Keeps z s.objects new 0
    keeps = record {
      committed = λ p c n names ne. names_committed p c n names;
      empty = λ c n names. zero_absent z s.objects sound.forest _ names.directory_is;
      not_root = λ is. omega arith;
      each = each_new;
      root = directory_committed root_number sound.forest.root;
      there = there_new;
      back = directory_was;
      from = names_were;
    }

    committed_new : (k : ℕ) → (k ≡ root_number) ⊎ IsNamed s.objects k ⊎ IsOpen s.handles k → (k ≡ root_number) ⊎ IsNamed new k ⊎ IsOpen s.handles k
    committed_new k (inl top) = inl top
    committed_new k (inr (inl named)) = inr (inl (named.0, named.1, names_committed named.0 k named.1 named.2))
    committed_new k (inr (inr open')) = inr (inr open')

    -- the bytes of a file change
    pub bytes_changed : IsWellFormed z (record s { objects = with_bytes s.objects moment o bytes })
    bytes_changed = record {
      forest = committed_forest z s.objects new 0 keeps sound.forest;
      handles = handles_over s.objects new s.handles there_new file_committed sound.handles;
      committed = λ k object is. let was = there_old k object is in committed_new k (sound.committed k was.0 was.1);
    }
