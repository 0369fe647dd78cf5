-- The walk over a path, as a loop goes it.
use Rattle.std.specs.Prelude.{◌≡◌, ℕ, ◌+◌, ◌<◌, Bool, false, List, [], ◌∷◌, map as list_map, length, Option, Some, None, Result, Ok, Err, if◌then◌else◌}
use Rattle.std.specs.FinMap as map
use Rattle.std.proofs.Common.{refl, sym, ◌∙◌, ap, subst, arith, drop, get_or, add-one, drop-cons, inl, inr}
use denote.Bor.{Bor}
use Rattle.volume_terms.specs.Sizes.{Sizes, root_number}
use Rattle.posix_profile.specs.State.{Objects, IsDirectory, is_file}
use Rattle.posix_profile.specs.Names.{parent}
use Rattle.posix_profile.specs.laws.Name.{entry_named, directory_or, parent_reached, parent_is, parent_cases}
use Rattle.posix_profile.specs.Paths.{Component, Dot, DotDot, Named, Place, component, parts, path_tests, first_error, ends_in_slash, arrive, leads_to, pass, walk, walk_from_root, walk_unless, resolve}
use Rattle.posix_profile.specs.WellFormed.{IsForest}
use Rattle.posix_profile.specs.declared.reply.Errno.{Errno}
use Rattle.posix_profile.specs.declared.reply.Errno.TheVariants as errors
use Rattle.object_store.specs.Facts.{NamedBy}
use Rattle.object_store.specs.Stores.{Meaning, IsLawful}
use Rattle.object_store.specs.laws.Store.{unread_after, reports_on}
use Rattle.object_store.specs.declared.refusal.Refusal.{Refusal}
use Rattle.object_store.specs.declared.refusal.Refusal.TheVariants as refusals
use Rattle.command_plans.specs.declared.path.parts.PathPlace.{PathPlace}
use Rattle.command_plans.specs.Paths.{goes_on, place_of, Passes, Leads}

module _ (z : Sizes) (objects : Objects) (forest : IsForest z objects) (directory : ℕ) (dir : IsDirectory objects directory) where
  -- the directory that names a directory is its parent, and where none does the root is
  pub above_is : (o : ℕ) → NamedBy objects directory (Some o) → o ≡ parent objects directory
  above_is o named = sym (parent_is z objects forest o directory named.0 dir named.1)

  pub above_none : NamedBy objects directory None → root_number ≡ parent objects directory
  above_none none = elim (parent_cases objects directory) [
    | inl named ↦ absurd (none (parent objects directory, named.0, named.1))
    | inr top ↦ sym top.0
  ]

  -- what is no file is a directory where a component leads
  pub lead_directory : (c : Component) (o : ℕ) → Some o ≡ leads_to objects directory c → is_file (map.get objects o) ≡ false → IsDirectory objects o
  lead_directory Dot o is no' = let same : o ≡ directory = cc in subst (IsDirectory objects) (sym same) dir
  lead_directory DotDot o is no' = let same : o ≡ parent objects directory = cc in subst (IsDirectory objects) (sym same) (parent_reached z objects forest directory).1
  lead_directory (Named name) o is no' =
      let there = forest.leads directory o name (entry_named objects directory o name dir (sym is)) in
      directory_or objects o there.0 there.1 no'

-- the end of the walk, after the last component
abbrev pub finish : Objects → Bool → ℕ → Option Component → Result Place Errno
finish objects slash_follows directory None = Ok (record { directory = root_number; last = None; object = Some root_number; slash_follows = slash_follows })
finish objects slash_follows directory (Some last) = arrive objects slash_follows directory last (leads_to objects directory last)

-- the walk over what is left
abbrev pub going : Objects → Bool → ℕ → Option Component → List Component → Result Place Errno
going objects slash_follows directory last [] = finish objects slash_follows directory last
going objects slash_follows directory last (next ∷ more) = goes_on objects directory last (λ o. walk objects slash_follows o next more)

pub going_start : (objects : Objects) (slash_follows : Bool) (rest : List Component) → going objects slash_follows root_number None rest ≡ walk_from_root objects slash_follows rest
going_start objects slash_follows [] = refl
going_start objects slash_follows (next ∷ more) = refl

pub going_more : (objects : Objects) (slash_follows : Bool) (o : ℕ) (next : Component) (more : List Component) → going objects slash_follows o (Some next) more ≡ walk objects slash_follows o next more
going_more objects slash_follows o next [] = refl
going_more objects slash_follows o next (n ∷ more) = refl

pub drop_at : {A : Type 0} (xs : List A) (i : ℕ) (d : A) → i < length xs → drop i xs ≡ get_or xs i d ∷ drop (i + 1) xs
drop_at xs i d lt = rw (add-one, drop-cons xs i d)

pub some_at : {A : Type 0} (xs : List A) (i : ℕ) → i < length xs → (x : A) × (drop i xs ≡ x ∷ drop (i + 1) xs)
some_at [] i lt = absurd (omega arith)
some_at (x ∷ xs) i lt = (get_or (x ∷ xs) i x, drop_at (x ∷ xs) i x lt)

pub walk_more : (objects : Objects) (slash_follows : Bool) (directory o : ℕ) (last : Option Component) (rest more : List Component) (here next : Component) (all : Result Place Errno)
    → rest ≡ next ∷ more → here ≡ next → going objects slash_follows directory last rest ≡ all → ((on : ℕ → Result Place Errno) → goes_on objects directory last on ≡ on o)
    → going objects slash_follows o (Some here) more ≡ all
walk_more objects slash_follows directory o last rest more here next all is same reported step =
    ap (λ c. going objects slash_follows o (Some c) more) same
    ∙ going_more objects slash_follows o next more
    ∙ sym (step (λ o. walk objects slash_follows o next more))
    ∙ ap (going objects slash_follows directory last) (sym is)
    ∙ reported

walk_stops : (objects : Objects) (slash_follows : Bool) (directory : ℕ) (last : Option Component) (rest more : List Component) (next : Component) (all : Result Place Errno) (e : Errno)
    → rest ≡ next ∷ more → going objects slash_follows directory last rest ≡ all → ((on : ℕ → Result Place Errno) → goes_on objects directory last on ≡ Err e) → Err e ≡ all
walk_stops objects slash_follows directory last rest more next all e is reported step =
    sym (step (λ o. walk objects slash_follows o next more)) ∙ ap (going objects slash_follows directory last) (sym is) ∙ reported

-- a walk over all components
pub walk_done : (objects : Objects) (slash_follows : Bool) (directory : ℕ) (last : Option Component) (rest : List Component) (here : Component) (all : Result Place Errno)
    → rest ≡ [] → last ≡ Some here → going objects slash_follows directory last rest ≡ all → arrive objects slash_follows directory here (leads_to objects directory here) ≡ all
walk_done objects slash_follows directory last rest here all done is reported =
    ap (finish objects slash_follows directory) (sym is) ∙ ap (going objects slash_follows directory last) (sym done) ∙ reported

-- an error that is handed on
pub leads_back : {S : Type 0} (m : Meaning S) (a b : S) (all : Result Place Errno) (r : Result PathPlace Refusal) (x y : Refusal)
    → r ≡ Err x → x ≡ y → Leads m all a b (Err y) → Leads m all a b r
leads_back m a b all r x y is same reported = subst (λ r. Leads m all a b r) (sym is) (subst (λ x. Leads m all a b (Err x)) (sym same) reported)

-- a walk that a step ends
pub walk_err : {S : Type 0} (m : Meaning S) (law : IsLawful m) (objects : Objects) (a b c : S) (slash_follows : Bool) (directory : ℕ) (last : Option Component) (rest more : List Component) (next : Component) (all : Result Place Errno)
    → m.reads a b → rest ≡ next ∷ more → going objects slash_follows directory last rest ≡ all
    → (r : Result PathPlace Refusal) (x y : Refusal) → r ≡ Err x → x ≡ y → Passes m objects (goes_on objects directory last) b c (Err y) → Leads m all a c r
walk_err m law objects a b c slash_follows directory last rest more next all reads is reported r x y same from passes =
    leads_back m a c all r x y same from (go y passes)
  where
    go : (y : Refusal) → Passes m objects (goes_on objects directory last) b c (Err y) → Leads m all a c (Err y)
    go (refusals.Fault fault) p = unread_after m law a b c reads fault p
    go (refusals.Error e) p = walk_stops objects slash_follows directory last rest more next all e is reported p

-- a walk that ends after calls that read
pub leads_same : {S : Type 0} (m : Meaning S) (law : IsLawful m) (a b c : S) (here all : Result Place Errno)
    → m.reads a b → here ≡ all → (r : Result PathPlace Refusal) → Leads m here b c r → Leads m all a c r
leads_same m law a b c here all reads is r reported =
    subst (λ all. Leads m all a c r) is (reports_on m law a b c (λ place. Ok (place_of place) ≡ here) (λ e. Err e ≡ here) reads r reported)

map_map : {A B C : Type 0} (f : A → B) (g : B → C) (xs : List A) → list_map (λ x. g (f x)) xs ≡ list_map g (list_map f xs)
map_map f g [] = refl
map_map f g (x ∷ xs) = ap (λ ys. g (f x) ∷ ys) (map_map f g xs)

pub resolve_is : (objects : Objects) (path : List ℕ) (pieces : List (Bor (List ℕ))) (slash_follows : Bool) (r : Result Place Errno)
    → list_map (λ part. part.now) pieces ≡ parts path → slash_follows ≡ ends_in_slash path → None ≡ first_error (path_tests path)
    → r ≡ walk_from_root objects slash_follows (list_map (λ part. component part.now) pieces) → r ≡ resolve objects path
unfolding resolve
resolve_is objects path pieces slash_follows r are ends none reported =
    reported
    ∙ ap (walk_from_root objects slash_follows) (map_map (λ (part : Bor (List ℕ)). part.now) component pieces ∙ ap (list_map component) are)
    ∙ ap (λ b. walk_from_root objects b (list_map component (parts path))) ends
    ∙ ap (walk_unless objects path) none

pub resolve_stops : (objects : Objects) (path : List ℕ) (e : Errno) → Some e ≡ first_error (path_tests path) → Err e ≡ resolve objects path
unfolding resolve
resolve_stops objects path e some = ap (walk_unless objects path) some

-- a component that is not last and leads to no file
pub passes_on : (objects : Objects) (o : ℕ) (found : Option ℕ) (on : ℕ → Result Place Errno) → Some o ≡ found → is_file (map.get objects o) ≡ false → pass objects found on ≡ on o
passes_on objects o found on is no' =
    ap (λ f. pass objects f on) (sym is) ∙ ap (λ b. if b then Err errors.ENOTDIR else on o) no'
