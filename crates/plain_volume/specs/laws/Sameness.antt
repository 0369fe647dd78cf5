-- Two trees of which the same is read are the same.
use Rattle.std.specs.Prelude.{◌≡◌, ◌↔◌, Bool, IsTrue, ℕ, ◌++◌, List, [], ◌∷◌, Option, Some, None}
use Rattle.std.specs.FinMap as map
use Rattle.std.specs.Cmp.{nat_cmp_total}
use Rattle.std.specs.Cmp.Lexicographic.{nat_list_cmp_total}
use Rattle.std.proofs.Common.{refl, sym, ◌∙◌, ap, subst, inl, inr}
use Rattle.volume_terms.specs.Sizes.{Sizes}
use Rattle.posix_profile.specs.NameSteps.{info}
use Rattle.posix_profile.specs.Names.{Reached, root, below}
use Rattle.posix_profile.specs.State.{Name, Entries, Object, File, Dir, Objects, State}
use Rattle.posix_profile.specs.WellFormed.{IsForest, IsTree, IsWellFormed}
use Rattle.posix_profile.specs.declared.reply.Info.{Info}
use Rattle.posix_profile.specs.laws.Map.{Member, member_map, map_member, get_member, member_get}
use Rattle.posix_profile.specs.laws.Name.{name_same}
use Rattle.posix_profile.specs.laws.Prune.{well_formed_tree}
use Rattle.posix_profile.specs.laws.Sound.{IsSound}
use Rattle.plain_volume.specs.Items.{OfDirectory, Item, IsFound, IsRead, AreRead, content_of, path_below, paths_below, root_path}
use Rattle.plain_volume.specs.laws.Listing.{one_item, one_reading}
use Rattle.plain_volume.specs.laws.Paths.{found_below, root_found}

member_left : {A : Type 0} (xs ys : List A) (x : A) → Member xs x → Member (xs ++ ys) x
member_left [] ys x m = absurd m
member_left (y ∷ xs) ys x (inl is) = inl is
member_left (y ∷ xs) ys x (inr m) = inr (member_left xs ys x m)

member_right : {A : Type 0} (xs ys : List A) (x : A) → Member ys x → Member (xs ++ ys) x
member_right [] ys x m = m
member_right (y ∷ xs) ys x m = inr (member_right xs ys x m)

-- each item is read
each_read : (objects : Objects) (paths : List (List ℕ)) (items : List Item) (item : Item) → AreRead objects paths items → Member items item → IsRead objects item
each_read objects paths [] item are m = absurd m
each_read objects [] (x ∷ items) item are m = absurd are
each_read objects (path ∷ paths) (x ∷ items) item are (inl is) = subst (IsRead objects) (sym is) are.1
each_read objects (path ∷ paths) (x ∷ items) item are (inr m) = each_read objects (paths ++ paths_below x.path x.reported) items item are.2 m

-- each path that waits is read
path_read : (objects : Objects) (paths : List (List ℕ)) (items : List Item) (path : List ℕ) → AreRead objects paths items → Member paths path → (item : Item) × Member items item × (item.path ≡ path)
path_read objects [] items path are m = absurd m
path_read objects (p ∷ paths) [] path are m = absurd are
path_read objects (p ∷ paths) (x ∷ items) path are (inl is) = (x, inl refl, are.0 ∙ sym is)
path_read objects (p ∷ paths) (x ∷ items) path are (inr m) =
    let k = path_read objects (paths ++ paths_below x.path x.reported) items path are.2 (member_left paths (paths_below x.path x.reported) path m) in
    (k.0, inr k.1, k.2)

-- and each path that an item names
below_read : (objects : Objects) (paths : List (List ℕ)) (items : List Item) (item : Item) (path : List ℕ) → AreRead objects paths items → Member items item → Member (paths_below item.path item.reported) path
    → (next : Item) × Member items next × (next.path ≡ path)
below_read objects paths [] item path are m reported = absurd m
below_read objects [] (x ∷ items) item path are m reported = absurd are
below_read objects (p ∷ paths) (x ∷ items) item path are (inl is) reported =
    let k = path_read objects (paths ++ paths_below x.path x.reported) items path are.2 (member_right paths (paths_below x.path x.reported) path (subst (λ (i : Item). Member (paths_below i.path i.reported) path) is reported)) in
    (k.0, inr k.1, k.2)
below_read objects (p ∷ paths) (x ∷ items) item path are (inr m) reported =
    let k = below_read objects (paths ++ paths_below x.path x.reported) items item path are.2 m reported in
    (k.0, inr k.1, k.2)

info_number : (objects : Objects) (o : ℕ) (x : Object) → (info objects o x).object ≡ o
info_number objects o (File moment bytes) = refl
info_number objects o (Dir moment entries) = refl

-- the number of what is read
number_is : (objects : Objects) (item : Item) (read : IsRead objects item) → item.info.object ≡ read.number
number_is objects item read = ap (λ (i : Info). i.object) read.info_is ∙ info_number objects read.number read.object

key_member : (entries : Entries) (name : Name) (o : ℕ) → map.get entries name ≡ Some o → Member (map.keys entries) name
key_member entries name o is = member_map (λ e. e.0) (map.entries entries) (name, o) (get_member nat_list_cmp_total name_same entries name o is)

module _ (z : Sizes) (objects : Objects) (forest : IsForest z objects) (items : List Item) (are : AreRead objects (root_path ∷ []) items) where
  -- a name in a directory that is read is read too, of the object that it leads to
  pub name_read : (item : Item) → Member items item → (d o moment : ℕ) (entries : Entries) (name : Name) → IsFound objects item.path d (Dir moment entries) → item.reported ≡ OfDirectory (map.keys entries) → map.get entries name ≡ Some o
      → (next : Item) × Member items next × (next.path ≡ path_below item.path name) × (next.info.object ≡ o)
  name_read item m d o moment entries name found reported is =
      let k = below_read objects (root_path ∷ []) items item (path_below item.path name) are m
      (subst (λ t. Member (paths_below item.path t) (path_below item.path name)) (sym reported) (member_map (path_below item.path) (map.keys entries) name (key_member entries name o is))) in
      let read = each_read objects (root_path ∷ []) items k.0 are k.1 in
      let leads = found_below objects item.path name d read.number moment entries read.object ((forest.each d (Dir moment entries) found.there).content name o is) found (subst (λ p. IsFound objects p read.number read.object) k.2 read.found) in
      let same : read.number ≡ o = (let two : Some read.number ≡ Some o = sym leads ∙ is in cc) in
      (k.0, k.1, k.2, number_is objects k.0 read ∙ same)

  -- what is reached is read
  pub reached_read : (o : ℕ) → Reached objects o → (item : Item) × Member items item × (item.info.object ≡ o)
  reached_read o root =
      let k = path_read objects (root_path ∷ []) items root_path are (inl refl) in
      let read = each_read objects (root_path ∷ []) items k.0 are k.1 in
      (k.0, k.1, number_is objects k.0 read ∙ root_found objects read.number read.object (subst (λ p. IsFound objects p read.number read.object) k.2 read.found))
  reached_read o (below {directory} {object} name up names) =
      let k = reached_read directory up in
      let read = each_read objects (root_path ∷ []) items k.0 are k.1 in
      let number : read.number ≡ directory = sym (number_is objects k.0 read) ∙ k.2 in
      let same : read.object ≡ Dir names.moment names.entries = (let two : Some read.object ≡ Some (Dir names.moment names.entries) = sym read.found.there ∙ ap (map.get objects) number ∙ names.directory_is in cc) in
      let next = name_read k.0 k.1 read.number object names.moment names.entries name (subst (IsFound objects k.0.path read.number) same read.found) (read.reported_is ∙ ap content_of same) names.object_is in
      (next.0, next.1, next.3)

key_there : (entries : Entries) (name : Name) → Member (map.keys entries) name → (o : ℕ) × (map.get entries name ≡ Some o)
key_there entries name m =
    let e = map_member (λ e. e.0) (map.entries entries) name m in
    (e.0.1, ap (map.get entries) e.2 ∙ member_get nat_list_cmp_total name_same entries e.0 e.1)

module _ (y z : Sizes) (a b : Objects) (first : IsForest y a) (second : IsForest z b) (items : List Item) (here : AreRead a (root_path ∷ []) items) (there : AreRead b (root_path ∷ []) items) where
  -- a directory that is read of both names the same
  names_same : (item : Item) → Member items item → (d e m n : ℕ) (old new : Entries) → IsFound a item.path d (Dir m old) → IsFound b item.path e (Dir n new) → item.reported ≡ OfDirectory (map.keys old) → item.reported ≡ OfDirectory (map.keys new)
      → (name : Name) (o : ℕ) → map.get old name ≡ Some o → map.get new name ≡ Some o
  names_same item in' d e m n old new found holds reported says name o is =
      let keys : map.keys old ≡ map.keys new = (let two : OfDirectory (map.keys old) ≡ OfDirectory (map.keys new) = sym reported ∙ says in cc) in
      let other = key_there new name (subst (λ k. Member k name) keys (key_member old name o is)) in
      let x = name_read y a first items here item in' d o m old name found reported is in
      let w = name_read z b second items there item in' e other.0 n new name holds says other.1 in
      let one : x.0 ≡ w.0 = one_item a x.0 w.0 (x.2 ∙ sym w.2) (each_read a (root_path ∷ []) items x.0 here x.1) (each_read a (root_path ∷ []) items w.0 here w.1) in
      other.1 ∙ ap Some (sym w.3 ∙ ap (λ (i : Item). i.info.object) (sym one) ∙ x.3)

same_from : (a b : Objects) (o p : ℕ) (x w : Object) → info a o x ≡ info b p w → content_of x ≡ content_of w
    → ((m n : ℕ) (old new : Entries) → x ≡ Dir m old → w ≡ Dir n new → old ≡ new) → x ≡ w
same_from a b o p (File m old) (File n new) informed reported names =
    let moments : m ≡ n = ap (λ (i : Info). i.moment) informed in
    let bytes : old ≡ new = cc in
    λ i. File (moments i) (bytes i)
same_from a b o p (Dir m old) (Dir n new) informed reported names =
    let moments : m ≡ n = ap (λ (i : Info). i.moment) informed in
    let entries = names m n old new refl refl in
    λ i. Dir (moments i) (entries i)
same_from a b o p (File m old) (Dir n new) informed reported names = absurd cc
same_from a b o p (Dir m old) (File n new) informed reported names = absurd cc

some_both : (x y : Option ℕ) → ((o : ℕ) → x ≡ Some o → y ≡ Some o) → ((o : ℕ) → y ≡ Some o → x ≡ Some o) → x ≡ y
some_both None None f g = refl
some_both None (Some o) f g = g o refl
some_both (Some o) y f g = sym (f o refl)

module _ (y z : Sizes) (a b : Objects) (first : IsForest y a) (second : IsForest z b) (items : List Item) (here : AreRead a (root_path ∷ []) items) (there : AreRead b (root_path ∷ []) items) where
  -- what is reached in the one tree is in the other
  object_same : (o : ℕ) (x : Object) → Reached a o → map.get a o ≡ Some x → map.get b o ≡ Some x
  object_same o x up is =
      let k = reached_read y a first items here o up in
      let r = each_read a (root_path ∷ []) items k.0 here k.1 in
      let q = each_read b (root_path ∷ []) items k.0 there k.1 in
      let r_number : r.number ≡ o = sym (number_is a k.0 r) ∙ k.2 in
      let q_number : q.number ≡ o = sym (number_is b k.0 q) ∙ k.2 in
      let r_object : r.object ≡ x = (let two : Some r.object ≡ Some x = sym r.found.there ∙ ap (map.get a) r_number ∙ is in cc) in
      let same : r.object ≡ q.object = same_from a b r.number q.number r.object q.object (sym r.info_is ∙ q.info_is) (sym r.reported_is ∙ q.reported_is) (λ m n old new is_old is_new.
      let found = subst (IsFound a k.0.path r.number) is_old r.found in
      let holds = subst (IsFound b k.0.path q.number) is_new q.found in
      let reported = r.reported_is ∙ ap content_of is_old in
      let says = q.reported_is ∙ ap content_of is_new in
      map.same_map nat_list_cmp_total name_same old new (λ name. some_both (map.get old name) (map.get new name)
      (names_same y z a b first second items here there k.0 k.1 r.number q.number m n old new found holds reported says name)
      (names_same z y b a second first items there here k.0 k.1 q.number r.number n m new old holds found says reported name))) in
      ap (map.get b) (sym q_number) ∙ q.found.there ∙ ap Some (sym same ∙ r_object)

-- trees of which the same is read are the same
pub same_read : (y z : Sizes) (a b : Objects) → IsTree y a → IsTree z b → (items : List Item) → AreRead a (root_path ∷ []) items → AreRead b (root_path ∷ []) items → a ≡ b
same_read y z a b first second items here there = map.same_map nat_cmp_total map.nat_cmp-IsAntisymmetric a b (λ o. both (map.get a o) (map.get b o)
    (λ x is. object_same y z a b first.forest second.forest items here there o x (first.all_reached o x is) is)
    (λ x is. object_same z y b a second.forest first.forest items there here o x (second.all_reached o x is) is))
  where
    both : (x w : Option Object) → ((o : Object) → x ≡ Some o → w ≡ Some o) → ((o : Object) → w ≡ Some o → x ≡ Some o) → x ≡ w
    both None None f g = refl
    both None (Some o) f g = g o refl
    both (Some o) w f g = sym (f o refl)

-- what is read of two trees is the same exactly where they are
pub reported_same : (y z : Sizes) (a b : Objects) → IsTree y a → IsTree z b → (items others : List Item) → AreRead a (root_path ∷ []) items → AreRead b (root_path ∷ []) others → (same : Bool) → IsTrue same ↔ (items ≡ others) → IsTrue same ↔ (a ≡ b)
reported_same y z a b first second items others here there same reported = (
  λ is. same_read y z a b first second items here (subst (AreRead b (root_path ∷ [])) (sym (reported.0 is)) there),
  λ is. reported.1 (one_reading a (root_path ∷ []) (root_path ∷ []) items others refl here (subst (λ k. AreRead k (root_path ∷ []) others) (sym is) there)),
)

-- a sound state without descriptors has a tree
pub state_tree : (z : Sizes) (s : State) → IsSound z s → s.handles ≡ map.empty → IsTree z s.objects
state_tree z s sound none = well_formed_tree z s.objects (subst (λ h. IsWellFormed z (record { objects = s.objects; handles = h })) none sound.well_formed)
