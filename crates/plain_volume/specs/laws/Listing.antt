-- The items that are read of a tree.
use Rattle.std.specs.Prelude.{◌≡◌, ℕ, ◌++◌, Bool, List, [], ◌∷◌, length, drop, Some, Result, Ok}
use Rattle.std.specs.FinMap as map
use Rattle.std.proofs.Common.{refl, sym, ◌∙◌, ap, subst, arith, append_assoc}
use Rattle.std.proofs.lemmas.List.{append-nil}
use Rattle.posix_profile.specs.NameSteps.{info}
use Rattle.posix_profile.specs.Paths.{Place}
use Rattle.posix_profile.specs.State.{Object, Objects, State}
use Rattle.posix_profile.specs.declared.reply.Errno.{Errno}
use Rattle.volume_terms.specs.Sizes.{Sizes}
use Rattle.plain_volume.specs.Items.{Item, IsFound, IsRead, AreRead, content_of, paths_below, root_path}
use Rattle.plain_volume.specs.Reading.{Reports}

-- a path leads to one object
pub one_found : (objects : Objects) (path : List ℕ) (o p : ℕ) (x y : Object) → IsFound objects path o x → IsFound objects path p y → (o ≡ p) × (x ≡ y)
one_found objects path o p x y a b =
    let place : a.place ≡ b.place = (let two : ◌≡◌ {A = Result Place Errno} (Ok a.place) (Ok b.place) = sym a.leads ∙ b.leads in cc) in
    let number : o ≡ p = (let two : Some o ≡ Some p = sym a.object_is ∙ ap (λ (k : Place). k.object) place ∙ b.object_is in cc) in
    (number, (let two : Some x ≡ Some y = sym a.there ∙ ap (λ k. map.get objects k) number ∙ b.there in cc))

-- and is read in one way
pub one_item : (objects : Objects) (a b : Item) → a.path ≡ b.path → IsRead objects a → IsRead objects b → a ≡ b
one_item objects a b same x y =
    let found = one_found objects b.path x.number y.number x.object y.object (subst (λ p. IsFound objects p x.number x.object) same x.found) y.found in
    let reported : a.reported ≡ b.reported = x.reported_is ∙ ap content_of found.1 ∙ sym y.reported_is in
    let informed : a.info ≡ b.info = x.info_is ∙ (λ i. info objects (found.0 i) (found.1 i)) ∙ sym y.info_is in
    λ i. record { path = same i; info = informed i; reported = reported i }

-- so is a tree
pub one_reading : (objects : Objects) (paths others : List (List ℕ)) (items more : List Item) → paths ≡ others → AreRead objects paths items → AreRead objects others more → items ≡ more
one_reading objects [] [] [] [] same a b = refl
one_reading objects (path ∷ paths) (other ∷ others) (x ∷ items) (y ∷ more) same a b =
    let head : path ≡ other = cc in
    let tail : paths ≡ others = cc in
    let item : x ≡ y = one_item objects x y (a.0 ∙ head ∙ sym b.0) a.1 b.1 in
    let rest = one_reading objects (paths ++ paths_below x.path x.reported) (others ++ paths_below y.path y.reported) items more (λ i. tail i ++ paths_below (item i).path (item i).reported) a.2 b.2 in
    λ i. item i ∷ rest i
one_reading objects [] others (x ∷ items) more same a b = absurd a
one_reading objects (path ∷ paths) others [] more same a b = absurd a
one_reading objects paths [] items (y ∷ more) same a b = absurd b
one_reading objects paths (other ∷ others) items [] same a b = absurd b
one_reading objects [] (other ∷ others) items more same a b = absurd cc
one_reading objects (path ∷ paths) [] items more same a b = absurd cc

-- what reports afterwards too
pub reports_both : {V : Type 0} (shows : V → Sizes → Bool → State → Type 0) (old between new : V) (P Q R : Objects → Type 0) → Reports shows old between P → Reports shows between new Q → ((objects : Objects) → P objects → Q objects → R objects) → Reports shows old new R
reports_both shows old between new P Q R first second both = λ z read_only s shown.
    let a = first z read_only s shown in
    let b = second z read_only s a.1 in
    (both s.objects a.0 b.0, b.1)

pub reports_then : {V : Type 0} (shows : V → Sizes → Bool → State → Type 0) (old new : V) (P Q : Objects → Type 0) → ((objects : Objects) → P objects → Q objects) → Reports shows old new P → Reports shows old new Q
reports_then shows old new P Q on reported = λ z read_only s shown. let a = reported z read_only s shown in (on s.objects a.0, a.1)

-- the items so far, and those of the paths that wait, are those of the tree
abbrev pub AreReadSoFar : Objects → List (List ℕ) → List Item → Type 0
AreReadSoFar objects waiting items = (more : List Item) → AreRead objects waiting more → AreRead objects (root_path ∷ []) (items ++ more)

pub so_far_none : (objects : Objects) → AreReadSoFar objects (root_path ∷ []) []
so_far_none objects = λ more are. are

pub so_far_next : (objects : Objects) (path : List ℕ) (waiting after : List (List ℕ)) (items : List Item) (item : Item) → item.path ≡ path → IsRead objects item → after ≡ waiting ++ paths_below item.path item.reported
    → AreReadSoFar objects (path ∷ waiting) items → AreReadSoFar objects after (items ++ item ∷ [])
so_far_next objects path waiting after items item is read grown so_far = λ more are.
    subst (AreRead objects (root_path ∷ [])) (sym (append_assoc items (item ∷ []) more)) (so_far (item ∷ more) (is, read, subst (λ p. AreRead objects p more) grown are))

pub so_far_all : (objects : Objects) (waiting : List (List ℕ)) (items : List Item) → waiting ≡ [] → AreReadSoFar objects waiting items → AreRead objects (root_path ∷ []) items
so_far_all objects waiting items none so_far = subst (AreRead objects (root_path ∷ [])) (append-nil items) (so_far [] (subst (λ p. AreRead objects p []) (sym none) tt))

pub so_far_start : (objects : Objects) (waiting : List (List ℕ)) (items : List Item) → waiting ≡ root_path ∷ [] → items ≡ [] → AreReadSoFar objects waiting items
so_far_start objects waiting items first none = subst (λ p. AreReadSoFar objects p items) (sym first) (subst (λ k. AreReadSoFar objects (root_path ∷ []) k) (sym none) (so_far_none objects))

pub none_wait : {A : Type 0} (xs ys : List A) → xs ≡ ys → ys ≡ drop 1 xs → xs ≡ []
none_wait [] ys same rest = refl
none_wait (x ∷ xs) ys same rest = absurd (omega (arith, ap (λ k. length k) (same ∙ rest)))
