-- What is left when an object loses a name, or a descriptor.
use Rattle.std.specs.Prelude.{◌≡◌, ◌≢◌, ◌⊎◌, ◌<◌, ◌≤◌, ℕ, true, false, List, [], ◌∷◌, length, Some, None, nat_le}
use Rattle.std.proofs.Common.{refl, sym, ◌∙◌, ap, subst, inl, inr, arith}
use Rattle.std.proofs.lemmas.Bool.{cases_eq, leb-true, leb-false}
use Rattle.std.specs.Cmp.{nat_cmp_total}
use Rattle.std.specs.Cmp.Lexicographic.{nat_list_cmp_total}
use Rattle.std.specs.FinMap as map
use Rattle.volume_terms.specs.Sizes.{Sizes, root_number}
use Rattle.posix_profile.specs.State.{Name, Object, Dir, Objects, Handle, State, IsDirectory}
use Rattle.posix_profile.specs.Names.{Names, link_pairs, prune}
use Rattle.posix_profile.specs.Changes.{with_name, without_name}
use Rattle.posix_profile.specs.WellFormed.{IsNamed, IsOpen, IsWellFormed}
use Rattle.posix_profile.specs.laws.Map.{Member, cases_key, insert_cases, get_removed}
use Rattle.posix_profile.specs.laws.Name.{name_same, one_object, namer_directory}
use Rattle.posix_profile.specs.laws.Directory.{with_from, with_committed, with_here, without_from, without_committed, directory_after}
use Rattle.posix_profile.specs.laws.Link.{Lists, link_pairs_list}
use Rattle.posix_profile.specs.laws.Prune.{IsCommittedKey}
use Rattle.object_store.specs.Changes.{without}
use Rattle.object_commands.specs.Names.{Unnames}
use Rattle.object_commands.proofs.PruneOne.{prune_none, prune_one}

module _ (z : Sizes) (s : State) (sound : IsWellFormed z s) (left : Objects) (directory o : ℕ) (name : Name) (lost : Unnames s.objects left directory name o) where
  abbrev after : State
  after = record s { objects = left }

  others_committed : (k : ℕ) (x : Object) → k ≢ o → map.get left k ≡ Some x → IsCommittedKey after k
  others_committed k x ne is = let y = lost.there k x is in go (sound.committed k y.0 y.1)
    where
      go : IsCommittedKey s k → IsCommittedKey after k
      go (inl top) = inl top
      go (inr (inl named)) = inr (inl (lost.others k ne named))
      go (inr (inr open')) = inr (inr open')

  -- of two names one is another
  other_name : (pairs : List (ℕ × Name)) → Lists (λ pair. Names s.objects pair.0 pair.1 o) pairs → 2 ≤ length pairs → IsNamed left o
  other_name [] lists two = absurd (omega arith)
  other_name (a ∷ []) lists two = absurd (omega arith)
  other_name (a ∷ b ∷ rest) lists two = elim (cases_eq a.0 directory) [
    | inr ne ↦ still a (inl refl) (λ is same. ne is)
    | inl first ↦ elim (cases_key nat_list_cmp_total name_same a.1 name) [
      | inr ne ↦ still a (inl refl) (λ is same. ne same)
      | inl last ↦ still b (inr (inl refl)) (λ is same. lists.distinct.0 (inl (λ i. ((first ∙ sym is) i, (last ∙ sym same) i))))
    ]
  ]
    where
      still : (pair : ℕ × Name) → Member (a ∷ b ∷ rest) pair → (pair.0 ≡ directory → pair.1 ≡ name → ⊥) → IsNamed left o
      still pair in' else' = (pair.0, pair.1, lost.committed pair.0 pair.1 (lists.only pair in') else')

  -- of one name none is left
  no_other : (pairs : List (ℕ × Name)) → Lists (λ pair. Names s.objects pair.0 pair.1 o) pairs → length pairs ≤ 1 → IsNamed left o → ⊥
  no_other [] lists one named = lists.all (directory, name) lost.was
  no_other (a ∷ []) lists one named =
      let new = lost.only named.0 named.1 named.2 in
      same (lists.all (directory, name) lost.was) (lists.all (named.0, named.1) new.1) new.0
    where
      same : Member (a ∷ []) (directory, name) → Member (a ∷ []) (named.0, named.1) → (named.0 ≡ directory → named.1 ≡ name → ⊥) → ⊥
      same (inl x) (inl y) else' = else' (ap (λ (p : ℕ × Name). p.0) (y ∙ sym x)) (ap (λ (p : ℕ × Name). p.1) (y ∙ sym x))
      same (inr x) y else' = absurd x
      same (inl x) (inr y) else' = absurd y
  no_other (a ∷ b ∷ rest) lists one named = absurd (omega arith)

  -- one with another name, or a descriptor, stays
  pub name_lost_keeps : (nat_le 2 (length (link_pairs s.objects o)) ≡ true) ⊎ IsOpen s.handles o → without None left ≡ (prune after).objects
  name_lost_keeps why = sym (prune_none after (λ k x there. elim (cases_eq k o) [
    | inl is ↦ subst (IsCommittedKey after) (sym is) (here why)
    | inr ne ↦ others_committed k x ne there
  ]))
    where
      here : (nat_le 2 (length (link_pairs s.objects o)) ≡ true) ⊎ IsOpen s.handles o → IsCommittedKey after o
      here (inl two) = inr (inl (other_name (link_pairs s.objects o) (link_pairs_list s.objects o) (leb-true 2 (length (link_pairs s.objects o)) two)))
      here (inr open') = inr (inr open')

  -- one without goes, and no other
  pub name_lost_drops : nat_le 2 (length (link_pairs s.objects o)) ≡ false → (IsOpen s.handles o → ⊥) → without (Some o) left ≡ (prune after).objects
  name_lost_drops one closed = sym (prune_one after o (λ k x ne there. others_committed k x ne there) uncommitted)
    where
      uncommitted : IsCommittedKey after o → ⊥
      uncommitted (inl top) = sound.forest.root_unnamed directory name (subst (λ k. Names s.objects directory name k) top lost.was)
      uncommitted (inr (inl named)) =
          let within_limit : length (link_pairs s.objects o) < 2 = leb-false 2 (length (link_pairs s.objects o)) one in
          no_other (link_pairs s.objects o) (link_pairs_list s.objects o) (omega arith) named
      uncommitted (inr (inr open')) = closed open'

-- a directory that has changed was there
there_before : (objects : Objects) (d : ℕ) (new : Object) → IsDirectory objects d → (k : ℕ) (x : Object) → map.get (map.insert objects d new) k ≡ Some x → (y : Object) × (map.get objects k ≡ Some y)
there_before objects d new dir k x is = elim (insert_cases nat_cmp_total map.nat_cmp-IsAntisymmetric objects d new k x is) [
  | inl here ↦ (Dir dir.0 dir.1, ap (map.get objects) here.0 ∙ dir.2)
  | inr there ↦ (x, there.1)
]

-- a name that is taken away
pub removed_unnames : (objects : Objects) (moment d o : ℕ) (name : Name) → Names objects d name o → Unnames objects (without_name objects moment d name) d name o
removed_unnames objects moment d o name names =
    let dir = namer_directory objects d o name names in
    record {
      was = names;
      there = there_before objects d _ dir;
      others = λ k ne named. (
        named.0,
        named.1,
        without_committed objects moment d name dir named.0 k named.1 named.2
            (λ is same. ne (one_object objects d k o name (subst (λ m. Names objects d m k) same (subst (λ q. Names objects q named.1 k) is named.2)) names)),
      );
      committed = λ p n old else'. without_committed objects moment d name dir p o n old else';
      only = λ p n new. without_from objects moment d name dir p o n new;
    }

module _ (objects : Objects) (moment d q x : ℕ) (a b : Name) (from : Names objects d a x) (to : IsDirectory objects q) where
  abbrev between : Objects
  between = without_name objects moment d a

  abbrev moved : Objects
  moved = with_name between moment q b x

  dir : IsDirectory objects d
  dir = namer_directory objects d x a from

  to_after : IsDirectory between q
  to_after = directory_after objects d moment _ dir q to

  moved_there : (k : ℕ) (v : Object) → map.get moved k ≡ Some v → (w : Object) × (map.get objects k ≡ Some w)
  moved_there k v is = let mid = there_before between q _ to_after k v is in there_before objects d _ dir k mid.0 mid.1

  -- an object that has a name has one still, but for one whose name is given away
  moved_named : (k p : ℕ) (n : Name) → Names objects p n k → (p ≡ q → n ≡ b → ⊥) → IsNamed moved k
  moved_named k p n old other = elim (cases_eq p d) [
    | inr ne ↦ (p, n, with_committed between moment q x b to_after p k n (without_committed objects moment d a dir p k n old (λ is same. ne is)) other)
    | inl first ↦ elim (cases_key nat_list_cmp_total name_same n a) [
      | inr ne ↦ (p, n, with_committed between moment q x b to_after p k n (without_committed objects moment d a dir p k n old (λ is same. ne same)) other)
      | inl last ↦
          let same : k ≡ x = one_object objects d k x a (subst (λ m. Names objects d m k) last (subst (λ r. Names objects r n k) first old)) from in
          (q, b, subst (Names moved q b) (sym same) (with_here between moment q x b to_after))
    ]
  ]

  -- what had the new name loses it
  pub moved_unnames : (y : ℕ) → Names objects q b y → y ≢ x → Unnames objects moved q b y
  moved_unnames y was ne = record {
    was = was;
    there = moved_there;
    others = λ k apart named. moved_named k named.0 named.1 named.2
        (λ is same. apart (one_object objects q k y b (subst (λ m. Names objects q m k) same (subst (λ r. Names objects r named.1 k) is named.2)) was));
    committed = λ p n old else'. with_committed between moment q x b to_after p y n (without_committed objects moment d a dir p y n old
        (λ is same. ne (one_object objects d y x a (subst (λ m. Names objects d m y) same (subst (λ r. Names objects r n y) is old)) from))) else';
    only = λ p n new. elim (with_from between moment q x b to_after p y n new) [
      | inl here ↦ absurd (ne here.2)
      | inr old ↦ (old.0, (without_from objects moment d a dir p y n old.1).1)
    ];
  }

-- a move to a name that led nowhere drops nothing
pub moved_keeps : (z : Sizes) (s : State) → IsWellFormed z s → (moment d q x : ℕ) (a b : Name) (from : Names s.objects d a x) (to : IsDirectory s.objects q) → ((k : ℕ) → Names s.objects q b k → ⊥)
    → with_name (without_name s.objects moment d a) moment q b x ≡ (prune (record s { objects = with_name (without_name s.objects moment d a) moment q b x })).objects
moved_keeps z s sound moment d q x a b from to absent = sym (prune_none (record s { objects = with_name (without_name s.objects moment d a) moment q b x }) (λ k v there.
    let was = moved_there s.objects moment d q x a b from to k v there in go k (sound.committed k was.0 was.1)))
  where
    go : (k : ℕ) → IsCommittedKey s k → IsCommittedKey (record s { objects = with_name (without_name s.objects moment d a) moment q b x }) k
    go k (inl top) = inl top
    go k (inr (inl named)) = inr (inl (moved_named s.objects moment d q x a b from to k named.0 named.1 named.2
        (λ is same. absent k (subst (λ m. Names s.objects q m k) same (subst (λ r. Names s.objects r named.1 k) is named.2)))))
    go k (inr (inr open')) = inr (inr open')

-- An object loses a descriptor.
module _ (z : Sizes) (s : State) (sound : IsWellFormed z s) (fd : ℕ) (handle : Handle) (stood : map.get s.handles fd ≡ Some handle) where
  abbrev closed : State
  closed = record s { handles = map.remove s.handles fd }

  committed_else : (o : ℕ) → o ≢ handle.object → IsCommittedKey s o → IsCommittedKey closed o
  committed_else o apart (inl top) = inl top
  committed_else o apart (inr (inl named)) = inr (inl named)
  committed_else o apart (inr (inr open')) =
      inr (inr (open'.0, open'.1, get_removed nat_cmp_total map.nat_cmp-IsAntisymmetric s.handles fd open'.0 (λ same. apart (sym open'.3 ∙ other same)) ∙ open'.2, open'.3))
    where
      other : open'.0 ≡ fd → open'.1.object ≡ handle.object
      other same = let two : Some open'.1 ≡ Some handle = sym open'.2 ∙ ap (map.get s.handles) same ∙ stood in ap (λ (h : Handle). h.object) (let e : open'.1 ≡ handle = cc in e)

  -- one that something else keeps stays
  pub closed_keeps : IsCommittedKey closed handle.object → s.objects ≡ (prune closed).objects
  closed_keeps why = sym (prune_none closed (λ k x there. elim (cases_eq k handle.object) [
    | inl is ↦ subst (IsCommittedKey closed) (sym is) why
    | inr ne ↦ committed_else k ne (sound.committed k x there)
  ]))

  -- one without goes, and no other
  pub closed_drops : handle.object ≢ root_number → (IsNamed s.objects handle.object → ⊥) → (IsOpen (map.remove s.handles fd) handle.object → ⊥) → map.remove s.objects handle.object ≡ (prune closed).objects
  closed_drops low unnamed alone = sym (prune_one closed handle.object (λ k x ne there. committed_else k ne (sound.committed k x there)) uncommitted)
    where
      uncommitted : IsCommittedKey closed handle.object → ⊥
      uncommitted (inl top) = low top
      uncommitted (inr (inl named)) = unnamed named
      uncommitted (inr (inr is)) = alone is
