-- Where the path of a name in a directory leads.
use Rattle.std.specs.Prelude.{◌≡◌, ℕ, suc, ◌++◌, Bool, true, false, ◌&&◌, List, [], ◌∷◌, length, filter, map as list_map, Option, Some, None, Result, Ok, Err, nat_eq, nat_lt, cond, All, Contains, ◌≤◌}
use Rattle.std.specs.FinMap as map
use Rattle.std.specs.Cmp.Lexicographic.{pointwise, bytes_decides}
use Rattle.std.specs.List.{slice_split, onto_first}
use Rattle.std.proofs.Common.{refl, sym, ◌∙◌, ap, subst, inl, inr, arith}
use Rattle.std.proofs.lemmas.Bool.{false_from_ne_true, cond-true, cond-false, eqb-true, cases_Bool, lt-ltb}
use Rattle.std.proofs.lemmas.List.{map-append}
use Rattle.std.proofs.lemmas.List.Splits.{slice_split_none, length-slice_split}
use Rattle.volume_terms.specs.Names.{IsName}
use Rattle.posix_profile.specs.State.{Name, Entries, Object, Dir, Objects, is_file, entries_of}
use Rattle.posix_profile.specs.Paths.{Component, Named, Place, slash, component, parts, path_tests, first_error, ends_in_slash, leads_to, arrive, pass, walk, walk_from_root, walk_unless, resolve}
use Rattle.posix_profile.specs.declared.reply.Errno.{Errno}
use Rattle.posix_profile.specs.declared.reply.Errno.TheVariants as errors
use Rattle.posix_profile.specs.laws.Map.{Member}
use Rattle.posix_profile.specs.laws.Path.{all_from_members}
use Rattle.plain_volume.specs.Items.{IsFound, path_below, root_path}

-- a path that leads somewhere is walked
pub walked : (objects : Objects) (path : List ℕ) (place : Place) → resolve objects path ≡ Ok place → walk_from_root objects (ends_in_slash path) (list_map component (parts path)) ≡ Ok place
unfolding resolve
walked objects path place is = go (first_error (path_tests path)) is
  where
    go : (e : Option Errno) → walk_unless objects path e ≡ Ok place → walk_from_root objects (ends_in_slash path) (list_map component (parts path)) ≡ Ok place
    go (Some error) reported = absurd cc
    go None reported = reported

-- a name is a component of its own
named : (name : Name) → IsName name → component name ≡ Named name
named name is =
    cond-false _ _ _ (false_from_ne_true (pointwise nat_eq name (46 ∷ [])) (λ e. is.not_dot ((bytes_decides name (46 ∷ [])).0 e)))
    ∙ cond-false _ _ _ (false_from_ne_true (pointwise nat_eq name (46 ∷ 46 ∷ [])) (λ e. is.not_dot_dot ((bytes_decides name (46 ∷ 46 ∷ [])).0 e)))

contains_from_member : (xs : List ℕ) (x : ℕ) → Member xs x → Contains xs x
contains_from_member [] x m = absurd m
contains_from_member (y ∷ ys) x (inl is) = (0, omega arith, sym is)
contains_from_member (y ∷ ys) x (inr m) = let k = contains_from_member ys x m in (suc k.0, omega (arith, k.1), k.2)

-- no byte of a name is a slash
no_slash : (name : List ℕ) → (Contains name 47 → ⊥) → All (λ b. nat_eq slash b ≡ false) name
no_slash name none = all_from_members (λ b. nat_eq slash b ≡ false) name (λ b in'. false_from_ne_true (nat_eq slash b) (λ e. none (subst (Contains name) (sym (eqb-true slash b e)) (contains_from_member name b in'))))

onto_more : (x : ℕ) (name : List ℕ) (ps : List (List ℕ)) → 1 ≤ length ps → onto_first x (ps ++ name ∷ []) ≡ onto_first x ps ++ name ∷ []
onto_more x name [] some = absurd (omega (arith, some))
onto_more x name (p ∷ ps) some = refl

split_below : (name : List ℕ) → All (λ b. nat_eq slash b ≡ false) name → (path : List ℕ) → slice_split (nat_eq slash) (path ++ 47 ∷ name) ≡ slice_split (nat_eq slash) path ++ name ∷ []
split_below name none [] = ap (λ k. [] ∷ k) (slice_split_none (nat_eq slash) name none)
split_below name none (x ∷ path) = go (nat_eq slash x) (split_below name none path)
  where
    go : (b : Bool) → slice_split (nat_eq slash) (path ++ 47 ∷ name) ≡ slice_split (nat_eq slash) path ++ name ∷ []
        → cond b ([] ∷ slice_split (nat_eq slash) (path ++ 47 ∷ name)) (onto_first x (slice_split (nat_eq slash) (path ++ 47 ∷ name))) ≡ cond b ([] ∷ slice_split (nat_eq slash) path) (onto_first x (slice_split (nat_eq slash) path)) ++ name ∷ []
    go true is = ap (λ k. [] ∷ k) is
    go false is = ap (onto_first x) is ∙ onto_more x name (slice_split (nat_eq slash) path) (omega (arith, length-slice_split (nat_eq slash) path))

filter_more : (f : List ℕ → Bool) (name : List ℕ) (ps : List (List ℕ)) → f name ≡ true → filter f (ps ++ name ∷ []) ≡ filter f ps ++ name ∷ []
filter_more f name [] is = cond-true _ _ _ is
filter_more f name (p ∷ ps) is = go (f p) (filter_more f name ps is)
  where
    go : (b : Bool) → filter f (ps ++ name ∷ []) ≡ filter f ps ++ name ∷ [] → cond b (p ∷ filter f (ps ++ name ∷ [])) (filter f (ps ++ name ∷ [])) ≡ cond b (p ∷ filter f ps) (filter f ps) ++ name ∷ []
    go true e = ap (λ k. p ∷ k) e
    go false e = e

-- the parts of the path of a name in a directory
parts_below : (directory : List ℕ) (name : Name) → IsName name → parts (path_below directory name) ≡ parts directory ++ name ∷ []
parts_below directory name is = elim (cases_Bool (pointwise nat_eq directory root_path)) [
  | inl root ↦ ap (λ k. parts (k ++ 47 ∷ name)) (cond-true (pointwise nat_eq directory root_path) [] directory root) ∙ ends [] ∙ ap (λ p. parts p ++ name ∷ []) (sym ((bytes_decides directory root_path).0 root))
  | inr other ↦ ap (λ k. parts (k ++ 47 ∷ name)) (cond-false (pointwise nat_eq directory root_path) [] directory other) ∙ ends directory
]
  where
    ends : (path : List ℕ) → parts (path ++ 47 ∷ name) ≡ parts path ++ name ∷ []
    ends path = ap (filter (λ part. nat_lt 0 (length part))) (split_below name (no_slash name is.no_slash) path)
        ∙ filter_more (λ part. nat_lt 0 (length part)) name (slice_split (nat_eq slash) path) (lt-ltb 0 (length name) (omega (arith, is.some)))

-- where a walk ends
arrives : (objects : Objects) (s : Bool) (d : ℕ) (c : Component) (place : Place) (found : Option ℕ) → arrive objects s d c found ≡ Ok place → place.object ≡ found
arrives objects s d c place None is = ap (λ (p : Place). p.object) (ok_same is)
  where
    ok_same : {p q : Place} → ◌≡◌ {A = Result Place Errno} (Ok p) (Ok q) → q ≡ p
    ok_same e = cc
arrives objects s d c place (Some o) is = go (is_file (map.get objects o) && s) is
  where
    go : (b : Bool) → cond b (Err errors.ENOTDIR) (Ok (record { directory = d; last = Some c; object = Some o; slash_follows = s })) ≡ Ok place → place.object ≡ Some o
    go true e = absurd cc
    go false e = (let same : place ≡ record { directory = d; last = Some c; object = Some o; slash_follows = s } = cc in ap (λ (p : Place). p.object) same)

-- a walk goes on by a name from where it ended
walk_below : (objects : Objects) (s t : Bool) (name : Name) (cs : List Component) (from d : ℕ) (c : Component) (place next : Place)
    → walk objects s from c cs ≡ Ok place → place.object ≡ Some d → walk objects t from c (cs ++ Named name ∷ []) ≡ Ok next → next.object ≡ leads_to objects d (Named name)
walk_below objects s t name [] from d c place next is object_is reported = go (leads_to objects from c) (sym (arrives objects s from c place (leads_to objects from c) is) ∙ object_is) reported
  where
    go : (found : Option ℕ) → found ≡ Some d → pass objects found (λ o. walk objects t o (Named name) []) ≡ Ok next → next.object ≡ leads_to objects d (Named name)
    go None e on = absurd cc
    go (Some o) e on = at (is_file (map.get objects o)) on
      where
        same : o ≡ d
        same = cc

        at : (b : Bool) → cond b (Err errors.ENOTDIR) (walk objects t o (Named name) []) ≡ Ok next → next.object ≡ leads_to objects d (Named name)
        at true k = absurd cc
        at false k = arrives objects t o (Named name) next (leads_to objects o (Named name)) k ∙ ap (λ n. leads_to objects n (Named name)) same
walk_below objects s t name (more ∷ cs) from d c place next is object_is reported = go (λ o i j. walk_below objects s t name cs o d more place next i object_is j) (leads_to objects from c) is reported
  where
    go : ((o : ℕ) → walk objects s o more cs ≡ Ok place → walk objects t o more (cs ++ Named name ∷ []) ≡ Ok next → next.object ≡ leads_to objects d (Named name))
        → (found : Option ℕ) → pass objects found (λ o. walk objects s o more cs) ≡ Ok place → pass objects found (λ o. walk objects t o more (cs ++ Named name ∷ [])) ≡ Ok next → next.object ≡ leads_to objects d (Named name)
    go rest None a b = absurd cc
    go rest (Some o) a b = at (is_file (map.get objects o)) a b
      where
        at : (file : Bool) → cond file (Err errors.ENOTDIR) (walk objects s o more cs) ≡ Ok place → cond file (Err errors.ENOTDIR) (walk objects t o more (cs ++ Named name ∷ [])) ≡ Ok next → next.object ≡ leads_to objects d (Named name)
        at true i j = absurd cc
        at false i j = rest o i j

root_below : (objects : Objects) (s t : Bool) (name : Name) (cs : List Component) (d : ℕ) (place next : Place)
    → walk_from_root objects s cs ≡ Ok place → place.object ≡ Some d → walk_from_root objects t (cs ++ Named name ∷ []) ≡ Ok next → next.object ≡ leads_to objects d (Named name)
root_below objects s t name [] d place next is object_is reported =
    let same : 1 ≡ d = (let two : Some 1 ≡ Some d = ap (λ (p : Place). p.object) (root_place place is) ∙ object_is in cc) in
    arrives objects t 1 (Named name) next (leads_to objects 1 (Named name)) reported ∙ ap (λ n. leads_to objects n (Named name)) same
  where
    root_place : (p : Place) → ◌≡◌ {A = Result Place Errno} (Ok (record { directory = 1; last = None; object = Some 1; slash_follows = s })) (Ok p) → record { directory = 1; last = None; object = Some 1; slash_follows = s } ≡ p
    root_place p e = cc
root_below objects s t name (c ∷ cs) d place next is object_is reported = walk_below objects s t name cs _ d c place next is object_is reported

-- the path of a name in a directory leads to what the directory names so
pub found_below : (objects : Objects) (path : List ℕ) (name : Name) (d o moment : ℕ) (entries : Entries) (object : Object) → IsName name
    → IsFound objects path d (Dir moment entries) → IsFound objects (path_below path name) o object → map.get entries name ≡ Some o
found_below objects path name d o moment entries object is above there =
    let components : list_map component (parts (path_below path name)) ≡ list_map component (parts path) ++ Named name ∷ [] =
    ap (list_map component) (parts_below path name is) ∙ map-append component (parts path) (name ∷ []) ∙ ap (λ c. list_map component (parts path) ++ c ∷ []) (named name is) in
    let leads = root_below objects (ends_in_slash path) (ends_in_slash (path_below path name)) name (list_map component (parts path)) d above.place there.place
    (walked objects path above.place above.leads) above.object_is
    (ap (walk_from_root objects (ends_in_slash (path_below path name))) (sym components) ∙ walked objects (path_below path name) there.place there.leads) in
    ap (λ x. map.get (entries_of x) name) (sym above.there) ∙ sym leads ∙ there.object_is

-- the path of the root leads to it
pub root_found : (objects : Objects) (o : ℕ) (object : Object) → IsFound objects root_path o object → o ≡ 1
root_found objects o object found =
    let place = walked objects root_path found.place found.leads in
    let top : record { directory = 1; last = None; object = Some 1; slash_follows = true } ≡ found.place = cc in
    (let two : Some 1 ≡ Some o = ap (λ (p : Place). p.object) top ∙ found.object_is in cc)
