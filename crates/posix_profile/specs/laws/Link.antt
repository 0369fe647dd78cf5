-- The links of an object are the names in the count.
use Rattle.std.specs.Prelude.{◌≡◌, ◌⊎◌, ℕ, ◌+◌, Bool, true, false, T, List, [], ◌∷◌, ◌++◌, length, map as list_map, filter, Option, Some, None, nat_eq, cond}
use Rattle.std.proofs.Common.{refl, sym, ◌∙◌, ap, subst, inl, inr}
use Rattle.std.proofs.lemmas.Bool.{and_parts, true≢false, eqb-true, eq-eqb}
use Rattle.std.proofs.lemmas.List.Sums.{length-filter}
use Rattle.std.specs.List.{flat_map}
use Rattle.std.specs.declared.cmp.Ordering.{Ordering}
use Rattle.std.specs.Cmp.{IsTotalOrder, nat_cmp_total}
use Rattle.std.specs.Cmp.Lexicographic.{nat_list_cmp_total}
use Rattle.std.specs.FinMap as map
use Rattle.std.specs.FinMap.Entries.{is_sorted, below_all}
use Rattle.volume_terms.specs.Sizes.{Sizes}
use Rattle.posix_profile.specs.State.{Name, Entries, Object, File, Dir, Objects, IsDirectory, is_directory}
use Rattle.posix_profile.specs.Names.{Names, names_to, link_pairs, links}
use Rattle.posix_profile.specs.WellFormed.{IsForest}
use Rattle.posix_profile.specs.laws.Map.{Member, map_member, member_map, true_of, of_true, above_differs, member_get, get_member}
use Rattle.posix_profile.specs.laws.Name.{name_same}
use Rattle.posix_profile.specs.laws.Path.{filter_member}

-- no element is there twice
abbrev pub AreDistinct : {X : Type 0} → List X → Type 0
AreDistinct [] = Unit {0}
AreDistinct (x ∷ xs) = (Member xs x → ⊥) × AreDistinct xs

-- The list has each x of which P holds, once, and nothing else.
pub record Lists {X : Type 0} (P : X → Type 0) (xs : List X) : Type 0 where
  pub distinct : AreDistinct xs
  pub only : (x : X) → Member xs x → P x
  pub all : (x : X) → P x → Member xs x

-- the pair is a directory and a name in it that leads to the object
abbrev pub IsNameOf : Objects → ℕ → ℕ × Name → Type 0
IsNameOf objects o pair = Names objects pair.0 pair.1 o

-- there are so many x of which P holds, as a list of them says
pub record AreSoMany {X : Type 0} (P : X → Type 0) (count : ℕ) : Type 0 where
  pub list : List X
  pub lists : Lists P list
  pub count_is : count ≡ length list

append_member : {X : Type 0} (xs ys : List X) (x : X) → Member (xs ++ ys) x → Member xs x ⊎ Member ys x
append_member [] ys x is = inr is
append_member (y ∷ xs) ys x (inl is) = inl (inl is)
append_member (y ∷ xs) ys x (inr is) = elim (append_member xs ys x is) [ inl a ↦ inl (inr a) | inr b ↦ inr b ]

member_left : {X : Type 0} (xs ys : List X) (x : X) → Member xs x → Member (xs ++ ys) x
member_left [] ys x is = absurd is
member_left (y ∷ xs) ys x (inl is) = inl is
member_left (y ∷ xs) ys x (inr is) = inr (member_left xs ys x is)

member_right : {X : Type 0} (xs ys : List X) (x : X) → Member ys x → Member (xs ++ ys) x
member_right [] ys x is = is
member_right (y ∷ xs) ys x is = inr (member_right xs ys x is)

distinct_append : {X : Type 0} (xs ys : List X) → AreDistinct xs → AreDistinct ys → ((x : X) → Member xs x → Member ys x → ⊥) → AreDistinct (xs ++ ys)
distinct_append [] ys a b apart = b
distinct_append (x ∷ xs) ys a b apart = (
  (λ is. elim (append_member xs ys x is) [ inl m ↦ a.0 m | inr m ↦ apart x (inl refl) m ]),
  distinct_append xs ys a.1 b (λ y m n. apart y (inr m) n),
)

distinct_map : {X Y : Type 0} (f : X → Y) (xs : List X) → ((a b : X) → f a ≡ f b → a ≡ b) → AreDistinct xs → AreDistinct (list_map f xs)
distinct_map f [] same a = tt
distinct_map f (x ∷ xs) same a =
    ((λ is. let m = map_member f xs (f x) is in a.0 (subst (Member xs) (sym (same x m.0 m.2)) m.1)), distinct_map f xs same a.1)

flat_member : {X Y : Type 0} (f : X → List Y) (xs : List X) (y : Y) → Member (flat_map f xs) y → (x : X) × Member xs x × Member (f x) y
flat_member f [] y is = absurd is
flat_member f (x ∷ xs) y is = elim (append_member (f x) (flat_map f xs) y is) [
  | inl here ↦ (x, inl refl, here)
  | inr later ↦ let m = flat_member f xs y later in (m.0, inr m.1, m.2)
]

member_flat : {X Y : Type 0} (f : X → List Y) (xs : List X) (x : X) (y : Y) → Member xs x → Member (f x) y → Member (flat_map f xs) y
member_flat f [] x y is in' = absurd is
member_flat f (z ∷ xs) x y (inl is) in' = member_left (f z) (flat_map f xs) y (subst (λ w. Member (f w) y) is in')
member_flat f (z ∷ xs) x y (inr is) in' = member_right (f z) (flat_map f xs) y (member_flat f xs x y is in')

member_filter : {X : Type 0} (p : X → Bool) (xs : List X) (x : X) → Member xs x → p x ≡ true → Member (filter p xs) x
member_filter p [] x is e = absurd is
member_filter p (y ∷ xs) x is e = go (p y) refl is (member_filter p xs x)
  where
    go : (b : Bool) → p y ≡ b → Member (y ∷ xs) x → (Member xs x → p x ≡ true → Member (filter p xs) x) → Member (cond b (y ∷ filter p xs) (filter p xs)) x
    go true f (inl here) rest = inl here
    go true f (inr later) rest = inr (rest later e)
    go false f (inl here) rest = absurd (true≢false (sym e ∙ ap p here ∙ f))
    go false f (inr later) rest = rest later e

-- of entries in order, what the first of those that pass are of
module _ {K X : Type 0} {R : K → K → Ordering} (o : IsTotalOrder R) (same : map.IsAntisymmetric R) where
  -- the keys of those that pass a test
  distinct_keys : (p : K × X → Bool) (es : List (K × X)) → T (is_sorted R es) → AreDistinct (list_map (λ (e : K × X). e.0) (filter p es))
  distinct_keys p [] sorted = tt
  distinct_keys p (e ∷ es) sorted = go (p e) (distinct_keys p es (of_true _ (and_parts (below_all R e.0 es) (is_sorted R es) (true_of _ sorted)).1))
    where
      go : (b : Bool) → AreDistinct (list_map (λ (e : K × X). e.0) (filter p es)) → AreDistinct (list_map (λ (e : K × X). e.0) (cond b (e ∷ filter p es) (filter p es)))
      go true rest = (
        (λ is.
            let m = map_member (λ (e : K × X). e.0) (filter p es) e.0 is in
            above_differs o same e.0 es m.0 (of_true _ (and_parts (below_all R e.0 es) (is_sorted R es) (true_of _ sorted)).0) (filter_member p es m.0 m.1).1 (sym m.2)),
        rest,
      )
      go false rest = rest

  -- the values that pass a test, where equal ones that pass have one key
  distinct_values : (p : X → Bool) (es : List (K × X)) → T (is_sorted R es) → ((a b : K × X) → Member es a → Member es b → p a.1 ≡ true → a.1 ≡ b.1 → a.0 ≡ b.0)
      → AreDistinct (filter p (list_map (λ (e : K × X). e.1) es))
  distinct_values p [] sorted one = tt
  distinct_values p (e ∷ es) sorted one =
      go (p e.1) refl (distinct_values p es (of_true _ (and_parts (below_all R e.0 es) (is_sorted R es) (true_of _ sorted)).1) (λ a b m n. one a b (inr m) (inr n)))
    where
      go : (b : Bool) → p e.1 ≡ b → AreDistinct (filter p (list_map (λ (e : K × X). e.1) es)) → AreDistinct (cond b (e.1 ∷ filter p (list_map (λ (e : K × X). e.1) es)) (filter p (list_map (λ (e : K × X). e.1) es)))
      go true passes rest = (
        (λ is.
            let m = map_member (λ (e : K × X). e.1) es e.1 (filter_member p (list_map (λ (e : K × X). e.1) es) e.1 is).1 in
            above_differs o same e.0 es m.0 (of_true _ (and_parts (below_all R e.0 es) (is_sorted R es) (true_of _ sorted)).0) m.1
            (sym (one e m.0 (inl refl) (inr m.1) passes m.2))),
        rest,
      )
      go false passes rest = rest

  -- pairs of a key and what the value has, each once
  distinct_flat : {Y : Type 0} (f : X → List Y) (es : List (K × X)) → T (is_sorted R es) → ((x : X) → AreDistinct (f x))
      → AreDistinct {X = K × Y} (flat_map (λ (e : K × X). list_map (λ y. (e.0, y)) (f e.1)) es)
  distinct_flat f [] sorted each = tt
  distinct_flat f (e ∷ es) sorted each =
      let p = and_parts (below_all R e.0 es) (is_sorted R es) (true_of _ sorted) in
      distinct_append (list_map (λ y. (e.0, y)) (f e.1)) (flat_map (λ (e : K × X). list_map (λ y. (e.0, y)) (f e.1)) es)
      (distinct_map (λ y. (e.0, y)) (f e.1) (λ a b is i. (is i).1) (each e.1))
      (distinct_flat f es (of_true _ p.1) each)
      (λ y m n.
      let a = map_member (λ y. (e.0, y)) (f e.1) y m in
      let b = flat_member (λ (e : K × X). list_map (λ y. (e.0, y)) (f e.1)) es y n in
      let c = map_member (λ y. (b.0.0, y)) (f b.0.1) y b.2 in
      above_differs o same e.0 es b.0 (of_true _ p.0) b.1 (λ i. ((sym c.2 ∙ a.2) i).0))

names_to_distinct : (o : ℕ) (x : Object) → AreDistinct (names_to o x)
names_to_distinct o (File moment bytes) = tt
names_to_distinct o (Dir moment entries) = distinct_keys nat_list_cmp_total name_same (λ e. nat_eq o e.1) (map.entries entries) (map.entries_sorted entries)

names_to_only : (o : ℕ) (x : Object) (objects : Objects) (d : ℕ) (name : Name) → map.get objects d ≡ Some x → Member (names_to o x) name → Names objects d name o
names_to_only o (File moment bytes) objects d name is in' = absurd in'
names_to_only o (Dir moment entries) objects d name is in' =
    let m = map_member (λ (e : Name × ℕ). e.0) (filter (λ (e : Name × ℕ). nat_eq o e.1) (map.entries entries)) name in' in
    let f = filter_member (λ (e : Name × ℕ). nat_eq o e.1) (map.entries entries) m.0 m.1 in
    let got = member_get nat_list_cmp_total name_same entries m.0 f.1 in
    record {
      moment = moment;
      entries = entries;
      directory_is = is;
      object_is = ap (map.get entries) m.2 ∙ got ∙ ap Some (sym (eqb-true o m.0.1 f.0));
    }

names_to_all : (o : ℕ) (objects : Objects) (d : ℕ) (name : Name) (n : Names objects d name o) → Member (names_to o (Dir n.moment n.entries)) name
names_to_all o objects d name n =
    member_map (λ (e : Name × ℕ). e.0) (filter (λ (e : Name × ℕ). nat_eq o e.1) (map.entries n.entries)) (name, o)
    (member_filter (λ (e : Name × ℕ). nat_eq o e.1) (map.entries n.entries) (name, o) (get_member nat_list_cmp_total name_same n.entries name o n.object_is) (eq-eqb o o refl))

-- the pairs of a directory and a name that lead to the object, each once
pub link_pairs_list : (objects : Objects) (o : ℕ) → Lists (λ pair. Names objects pair.0 pair.1 o) (link_pairs objects o)
link_pairs_list objects o = record {
  distinct = distinct_flat nat_cmp_total map.nat_cmp-IsAntisymmetric (names_to o) (map.entries objects) (map.entries_sorted objects) (names_to_distinct o);
  only = λ pair in'.
      let m = flat_member (λ (e : ℕ × Object). list_map (λ name. (e.0, name)) (names_to o e.1)) (map.entries objects) pair in' in
      let p = map_member (λ name. (m.0.0, name)) (names_to o m.0.1) pair m.2 in
      let got = member_get nat_cmp_total map.nat_cmp-IsAntisymmetric objects m.0 m.1 in
      let is : pair ≡ (m.0.0, p.0) = p.2 in
      subst (λ (q : ℕ × Name). Names objects q.0 q.1 o) (sym is) (names_to_only o m.0.1 objects m.0.0 p.0 got p.1);
  all = λ pair n.
      member_flat (λ (e : ℕ × Object). list_map (λ name. (e.0, name)) (names_to o e.1)) (map.entries objects) (pair.0, Dir n.moment n.entries) pair
      (get_member nat_cmp_total map.nat_cmp-IsAntisymmetric objects pair.0 _ n.directory_is)
      (member_map (λ name. (pair.0, name)) (names_to o (Dir n.moment n.entries)) pair.1 (names_to_all o objects pair.0 pair.1 n));
}

-- the directory names this directory
abbrev pub IsSubdirectory : Objects → ℕ → ℕ → Type 0
IsSubdirectory objects d o = ((name : Name) × Names objects d name o) × IsDirectory objects o

is_directory_true : (objects : Objects) (o : ℕ) (x : Option Object) → map.get objects o ≡ x → is_directory x ≡ true → IsDirectory objects o
is_directory_true objects o None is e = absurd (true≢false (sym e))
is_directory_true objects o (Some (File m bytes)) is e = absurd (true≢false (sym e))
is_directory_true objects o (Some (Dir m entries)) is e = (m, entries, is)

-- the subdirectories of a directory, each once
pub subdirectories_list : (z : Sizes) (objects : Objects) (d moment : ℕ) (entries : Entries) → IsForest z objects → map.get objects d ≡ Some (Dir moment entries)
    → Lists (IsSubdirectory objects d) (filter (λ o. is_directory (map.get objects o)) (map.values entries))
subdirectories_list z objects d moment entries forest is = record {
  distinct = distinct_values nat_list_cmp_total name_same test (map.entries entries) (map.entries_sorted entries) (λ a b m n passes equal.
      (forest.one_name a.1 d d a.0 b.0 (is_directory_true objects a.1 (map.get objects a.1) refl passes) (named a m)
      (subst (λ o. Names objects d b.0 o) (sym equal) (named b n))).1);
  only = λ o in'.
      let f = filter_member test (map.values entries) o in' in
      let m = map_member (λ (e : Name × ℕ). e.1) (map.entries entries) o f.1 in
      ((m.0.0, subst (λ k. Names objects d m.0.0 k) (sym m.2) (named m.0 m.1)), is_directory_true objects o (map.get objects o) refl f.0);
  all = λ o sub.
      let n = sub.0.1 in
      let dirs : Some (Dir moment entries) ≡ Some (Dir n.moment n.entries) = sym is ∙ n.directory_is in
      let same : entries ≡ n.entries = cc in
      let got : map.get entries sub.0.0 ≡ Some o = ap (λ (e : Entries). map.get e sub.0.0) same ∙ n.object_is in
      member_filter test (map.values entries) o
      (member_map (λ (e : Name × ℕ). e.1) (map.entries entries) (sub.0.0, o) (get_member nat_list_cmp_total name_same entries sub.0.0 o got))
      (ap is_directory sub.1.2);
}
  where
    test : ℕ → Bool
    test o = is_directory (map.get objects o)

    named : (e : Name × ℕ) → Member (map.entries entries) e → Names objects d e.0 e.1
    named e m = record { moment = moment; entries = entries; directory_is = is; object_is = member_get nat_list_cmp_total name_same entries e m }

-- a file has as many links as there are pairs of a directory and a name that lead to it
pub file_links : (objects : Objects) (o moment : ℕ) (bytes : List ℕ) → AreSoMany (IsNameOf objects o) (links objects o (File moment bytes))
file_links objects o moment bytes = record { list = link_pairs objects o; lists = link_pairs_list objects o; count_is = refl }

-- a directory has 2 and as many as it has subdirectories
pub directory_links : (z : Sizes) (objects : Objects) (d : ℕ) (dir : IsDirectory objects d) → IsForest z objects → (n : ℕ) × AreSoMany (IsSubdirectory objects d) n × (links objects d (Dir dir.0 dir.1) ≡ 2 + n)
directory_links z objects d (moment, entries, is) forest =
    let children : List ℕ = filter (λ o. is_directory (map.get objects o)) (map.values entries) in (
      length children,
      record { list = children; lists = subdirectories_list z objects d moment entries forest is; count_is = refl },
      ap (λ n. 2 + n) (sym (length-filter (λ o. is_directory (map.get objects o)) (map.values entries))),
    )
