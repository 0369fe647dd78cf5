-- What the place is to which a path leads.
use Rattle.std.specs.Prelude.{◌≡◌, ◌≢◌, ◌<◌, ◌≤◌, ℕ, Bool, true, false, ◌&&◌, List, [], ◌∷◌, length, filter, map as list_map, Option, Some, None, Result, Ok, Err, IfOk, nat_eq, nat_lt, cond, All, Contains}
use Rattle.std.proofs.Common.{refl, sym, ◌∙◌, ap, subst, inl, inr}
use Rattle.std.proofs.lemmas.Bool.{true≢false, eq-eqb, ltb-true, ltb-false, false_from_ne_true}
use Rattle.std.proofs.lemmas.List.Elements.{All-nil, All-cons, All-contains, All-head, All-tail}
use Rattle.std.specs.List.{slice_split, onto_first}
use Rattle.std.specs.Cmp.Lexicographic.{pointwise, bytes_decides}
use Rattle.std.specs.FinMap as map
use Rattle.volume_terms.specs.Sizes.{Sizes, root_number, name_limit}
use Rattle.posix_profile.specs.State.{Objects, IsDirectory, is_file, entries_of}
use Rattle.posix_profile.specs.Names.{Reached, root, below, parent}
use Rattle.posix_profile.specs.Paths.{Component, Dot, DotDot, Named, Place, slash, component, parts, path_tests, first_error, leads_to, arrive, pass, walk, walk_from_root, walk_unless, resolve, ends_in_slash}
use Rattle.posix_profile.specs.WellFormed.{IsForest}
use Rattle.volume_terms.specs.Names.{AreBytes, IsName}
use Rattle.posix_profile.specs.laws.Map.{Member, member_any, map_member}
use Rattle.posix_profile.specs.laws.Name.{entry_named, parent_reached, directory_or}
use Rattle.posix_profile.specs.laws.Outcome.{Passed, passed_from_none}
use Rattle.posix_profile.specs.declared.reply.Errno.{Errno}
use Rattle.posix_profile.specs.declared.reply.Errno.TheVariants as errors

pub all_from_members : {X : Type 0} (P : X → Type 0) (xs : List X) → ((x : X) → Member xs x → P x) → All P xs
all_from_members P [] h = All-nil P
all_from_members P (x ∷ xs) h = All-cons P x xs (h x (inl refl)) (all_from_members P xs (λ y is. h y (inr is)))

member_from_contains : {X : Type 0} (xs : List X) (x : X) → Contains xs x → Member xs x
member_from_contains xs x is = All-contains (Member xs) xs x (all_from_members (Member xs) xs (λ y m. m)) is

member_holds : {X : Type 0} (P : X → Type 0) (xs : List X) (x : X) → All P xs → Member xs x → P x
member_holds P [] x all is = absurd is
member_holds P (y ∷ ys) x all (inl is) = subst P (sym is) (All-head P y ys all)
member_holds P (y ∷ ys) x all (inr is) = member_holds P ys x (All-tail P y ys all) is

pub filter_member : {X : Type 0} (p : X → Bool) (xs : List X) (x : X) → Member (filter p xs) x → (p x ≡ true) × Member xs x
filter_member p [] x is = absurd is
filter_member p (y ∷ ys) x is = go (filter_member p ys x) (p y) refl is
  where
    go : (Member (filter p ys) x → (p x ≡ true) × Member ys x) → (b : Bool) → p y ≡ b → Member (cond b (y ∷ filter p ys) (filter p ys)) x → (p x ≡ true) × Member (y ∷ ys) x
    go rest true e (inl here) = (ap p here ∙ e, inl here)
    go rest true e (inr later) = let m = rest later in (m.0, inr m.1)
    go rest false e later = let m = rest later in (m.0, inr m.1)

-- a byte of a part is a byte of the path, and no slash
onto_member : (x : ℕ) (ps : List (List ℕ)) (P : ℕ → Type 0) → P x → ((part : List ℕ) → Member ps part → (b : ℕ) → Member part b → P b)
    → (part : List ℕ) → Member (onto_first x ps) part → (b : ℕ) → Member part b → P b
onto_member x [] P here rest part (inl is) b in' = go (subst (λ p. Member p b) is in')
  where
    go : Member (x ∷ []) b → P b
    go (inl e) = subst P (sym e) here
    go (inr e) = absurd e
onto_member x [] P here rest part (inr is) b in' = absurd is
onto_member x (p ∷ ps) P here rest part (inl is) b in' = go (subst (λ q. Member q b) is in')
  where
    go : Member (x ∷ p) b → P b
    go (inl e) = subst P (sym e) here
    go (inr e) = rest p (inl refl) b e
onto_member x (p ∷ ps) P here rest part (inr is) b in' = rest part (inr is) b in'

split_member : (test : ℕ → Bool) (path : List ℕ) (P : ℕ → Type 0) → ((b : ℕ) → Member path b → test b ≡ false → P b)
    → (part : List ℕ) → Member (slice_split test path) part → (b : ℕ) → Member part b → P b
split_member test [] P h part (inl is) b in' = absurd (subst (λ p. Member p b) is in')
split_member test [] P h part (inr is) b in' = absurd is
split_member test (x ∷ xs) P h part is b in' = go (split_member test xs P (λ b m e. h b (inr m) e)) (test x) refl is
  where
    go : ((part : List ℕ) → Member (slice_split test xs) part → (b : ℕ) → Member part b → P b)
        → (t : Bool) → test x ≡ t → Member (cond t ([] ∷ slice_split test xs) (onto_first x (slice_split test xs))) part → P b
    go rest true e (inl nil) = absurd (subst (λ p. Member p b) nil in')
    go rest true e (inr later) = rest part later b in'
    go rest false e m = onto_member x (slice_split test xs) P (h x (inl refl) e) rest part m b in'

-- a component that is a name is one that an entry may have
abbrev pub IsComponent : Component → Type 0
IsComponent Dot = Unit {0}
IsComponent DotDot = Unit {0}
IsComponent (Named name) = IsName name

not_list : (bytes other : List ℕ) → pointwise nat_eq bytes other ≡ false → bytes ≢ other
not_list bytes other e is = true≢false (sym ((bytes_decides bytes other).1 is) ∙ e)

component_is : (bytes : List ℕ) → AreBytes bytes → 1 ≤ length bytes → length bytes ≤ name_limit → (Contains bytes 0 → ⊥) → (Contains bytes 47 → ⊥) → IsComponent (component bytes)
component_is bytes are some within_limit zero' slash' =
    elim (pointwise nat_eq bytes (46 ∷ [])) as (λ b. pointwise nat_eq bytes (46 ∷ []) ≡ b
    → IsComponent (cond b Dot (cond (pointwise nat_eq bytes (46 ∷ 46 ∷ [])) DotDot (Named bytes)))) [
      | true ↦ λ e. tt
      | false ↦ λ e. elim (pointwise nat_eq bytes (46 ∷ 46 ∷ [])) as (λ b. pointwise nat_eq bytes (46 ∷ 46 ∷ []) ≡ b → IsComponent (cond b DotDot (Named bytes))) [
        | true ↦ λ f. tt
        | false ↦ λ f. record {
          bytes = are;
          some = some;
          within_limit = within_limit;
          no_zero = zero';
          no_slash = slash';
          not_dot = not_list bytes (46 ∷ []) e;
          not_dot_dot = not_list bytes (46 ∷ 46 ∷ []) f;
        }
      ] refl
    ] refl

-- each component of a path that passes the tests
components_are : (path : List ℕ) → AreBytes path → Passed (path_tests path) → (c : Component) → Member (list_map component (parts path)) c → IsComponent c
components_are path are passed c is =
    let m = map_member component (parts path) c is in
    let f = filter_member (λ part. nat_lt 0 (length part)) (slice_split (nat_eq slash) path) m.0 m.1 in
    let bytes : (b : ℕ) → Member m.0 b → (b < 256) × (b ≢ 0) × (b ≢ 47) =
    split_member (nat_eq slash) path (λ b. (b < 256) × (b ≢ 0) × (b ≢ 47))
    (λ b in' e. (
      member_holds (λ b. b < 256) path b are in',
      λ z'. true≢false (sym (member_any (nat_eq 0) path b in' (eq-eqb 0 b (sym z'))) ∙ passed.1.1.0),
      λ s'. true≢false (sym (eq-eqb 47 b (sym s')) ∙ e),
    ))
    m.0 f.1 in
    let within_limit : nat_lt name_limit (length m.0) ≡ false =
    false_from_ne_true _ (λ e. true≢false (sym (member_any (λ part. nat_lt name_limit (length part)) (parts path) m.0 m.1 e) ∙ passed.1.1.1.0)) in
    subst IsComponent (sym m.2) (component_is m.0
    (all_from_members (λ b. b < 256) m.0 (λ b in'. (bytes b in').0))
    (ltb-true 0 (length m.0) f.0)
    (ltb-false name_limit (length m.0) within_limit)
    (λ has. (bytes 0 (member_from_contains m.0 0 has)).1 refl)
    (λ has. (bytes 47 (member_from_contains m.0 47 has)).2 refl))

-- a name is what an entry may be called, and leads where the entry leads; whatever else ends a path leads to a directory
abbrev pub Ends : Objects → ℕ → Option Component → Option ℕ → Type 0
Ends objects d None object = (o : ℕ) × (object ≡ Some o) × IsDirectory objects o
Ends objects d (Some Dot) object = (o : ℕ) × (object ≡ Some o) × IsDirectory objects o
Ends objects d (Some DotDot) object = (o : ℕ) × (object ≡ Some o) × IsDirectory objects o
Ends objects d (Some (Named name)) object = IsName name × (object ≡ map.get (entries_of (map.get objects d)) name)

-- the place is in a directory that is reached
pub record IsPlace (objects : Objects) (place : Place) : Type 0 where
  pub directory : IsDirectory objects place.directory
  pub reached : Reached objects place.directory
  pub ends : Ends objects place.directory place.last place.object

ok_same : (p q : Place) → ◌≡◌ {A = Result Place Errno} (Ok p) (Ok q) → p ≡ q
ok_same p q e = cc

module _ (z : Sizes) (objects : Objects) (forest : IsForest z objects) where
  -- a component leads from a directory that is reached to a directory that is reached, or to a file, or nowhere
  lead_directory : (d o : ℕ) (c : Component) → IsDirectory objects d → Reached objects d → leads_to objects d c ≡ Some o → is_file (map.get objects o) ≡ false
      → IsDirectory objects o × Reached objects o
  lead_directory d o Dot dir up is no' = let same : d ≡ o = cc in (subst (IsDirectory objects) same dir, subst (Reached objects) same up)
  lead_directory d o DotDot dir up is no' =
      let same : parent objects d ≡ o = cc in
      let p = parent_reached z objects forest d in
      (subst (IsDirectory objects) same p.1, subst (Reached objects) same p.0)
  lead_directory d o (Named name) dir up is no' =
      let n = entry_named objects d o name dir is in
      let x = forest.leads d o name n in
      (directory_or objects o x.0 x.1 no', below name up n)

  arrive_place : (s : Bool) (d : ℕ) (c : Component) (place : Place) → IsDirectory objects d → Reached objects d → IsComponent c
      → (found : Option ℕ) → leads_to objects d c ≡ found → arrive objects s d c found ≡ Ok place → IsPlace objects place
  arrive_place s d c place dir up ok None leads is =
      subst (IsPlace objects) (ok_same _ _ is) (record { directory = dir; reached = up; ends = ends_none c ok leads })
    where
      ends_none : (c : Component) → IsComponent c → leads_to objects d c ≡ None → Ends objects d (Some c) None
      ends_none Dot ok is = absurd cc
      ends_none DotDot ok is = absurd cc
      ends_none (Named name) ok is = (ok, sym is)
  arrive_place s d c place dir up ok (Some o) leads is = go (is_file (map.get objects o) && s) is
    where
      ends_some : (c : Component) → IsComponent c → leads_to objects d c ≡ Some o → Ends objects d (Some c) (Some o)
      ends_some Dot ok is = (d, sym is, dir)
      ends_some DotDot ok is = (parent objects d, sym is, (parent_reached z objects forest d).1)
      ends_some (Named name) ok is = (ok, sym is)

      go : (b : Bool) → cond b (Err errors.ENOTDIR) (Ok (record { directory = d; last = Some c; object = Some o; slash_follows = s })) ≡ Ok place → IsPlace objects place
      go true e = absurd cc
      go false e = subst (IsPlace objects) (ok_same _ _ e) (record { directory = dir; reached = up; ends = ends_some c ok leads })

  pass_place : (d : ℕ) (c : Component) (place : Place) (on : ℕ → Result Place Errno) → IsDirectory objects d → Reached objects d
      → ((o : ℕ) → IsDirectory objects o → Reached objects o → on o ≡ Ok place → IsPlace objects place)
      → (found : Option ℕ) → leads_to objects d c ≡ found → pass objects found on ≡ Ok place → IsPlace objects place
  pass_place d c place on dir up rest None leads is = absurd cc
  pass_place d c place on dir up rest (Some o) leads is = go (is_file (map.get objects o)) refl is
    where
      go : (b : Bool) → is_file (map.get objects o) ≡ b → cond b (Err errors.ENOTDIR) (on o) ≡ Ok place → IsPlace objects place
      go true f e = absurd cc
      go false f e = let there = lead_directory d o c dir up leads f in rest o there.0 there.1 e

  walk_place : (s : Bool) (d : ℕ) (c : Component) (cs : List Component) (place : Place) → IsDirectory objects d → Reached objects d
      → ((x : Component) → Member (c ∷ cs) x → IsComponent x) → walk objects s d c cs ≡ Ok place → IsPlace objects place
  walk_place s d c [] place dir up ok is = arrive_place s d c place dir up (ok c (inl refl)) (leads_to objects d c) refl is
  walk_place s d c (next ∷ rest) place dir up ok is =
      pass_place d c place (λ o. walk objects s o next rest) dir up
      (λ o there below'. walk_place s o next rest place there below' (λ x m. ok x (inr m)))
      (leads_to objects d c) refl is

  root_place : (s : Bool) (cs : List Component) (place : Place) → ((x : Component) → Member cs x → IsComponent x) → walk_from_root objects s cs ≡ Ok place → IsPlace objects place
  root_place s [] place ok is = subst (IsPlace objects) (ok_same _ _ is) (record { directory = forest.root; reached = root; ends = (root_number, refl, forest.root) })
  root_place s (c ∷ cs) place ok is = walk_place s root_number c cs place forest.root root ok is

  unless_place : (path : List ℕ) (place : Place) → AreBytes path → (e : Option Errno) → first_error (path_tests path) ≡ e → walk_unless objects path e ≡ Ok place → IsPlace objects place
  unless_place path place are (Some error) reported is = absurd cc
  unless_place path place are None reported is = root_place (ends_in_slash path) (list_map component (parts path)) place (components_are path are (passed_from_none (path_tests path) reported)) is

  -- where a path leads
  pub resolve_place : (path : List ℕ) (place : Place) → AreBytes path → resolve objects path ≡ Ok place → IsPlace objects place
  unfolding resolve
  resolve_place path place are is = unless_place path place are (first_error (path_tests path)) refl is

-- what holds of each value that a result can have holds of the result
of_each : {X E : Type 0} (P : X → Type 0) (r : Result X E) → ((x : X) → r ≡ Ok x → P x) → IfOk r P
of_each P (Ok x) each = each x refl
of_each P (Err error) each = tt

-- the same of the path's result
pub resolved_place : (z : Sizes) (objects : Objects) (path : List ℕ) → IsForest z objects → AreBytes path → IfOk (resolve objects path) (IsPlace objects)
resolved_place z objects path forest are = of_each (IsPlace objects) (resolve objects path) (λ place is. resolve_place z objects forest path place are is)
