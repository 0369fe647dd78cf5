-- Maps seen as those of a state.
use Rattle.std.specs.Prelude.{◌≡◌, ◌<◌, ℕ, ◌+◌, List, [], ◌∷◌, map as list_map, length, sum_by, Option, Some, None, is_some}
use Rattle.std.proofs.Common.{refl, ◌∙◌, ap}
use Rattle.std.specs.Ordering.{nat_cmp}
use Rattle.std.specs.Cmp.{nat_cmp_total}
use Rattle.std.specs.Option.{option_map, option_copied}
use Rattle.std.specs.BTreeMap as tree
use Rattle.std.specs.BTreeMap.{BTreeMap, insert_entry}
use Rattle.std.specs.FinMap as map
use Rattle.std.proofs.lemmas.List.{length-map}
use Rattle.std.specs.Int.{div_ceil}
use Rattle.std.specs.List.{fold}
use Rattle.std.specs.Map.Iter.{TakesFirst}
use Rattle.std.proofs.lemmas.Map.Iter.{rest_all}
use Rattle.volume_terms.specs.Sizes.{Sizes}
use Rattle.posix_profile.specs.Charge.{cost, charge}
use Rattle.volume_terms.specs.Rounding.{ceiling}
use Rattle.volume_terms.specs.laws.Rounding.{ceiling_is}
use Rattle.posix_profile.specs.State.{Object}
use Rattle.plain_volume.specs.declared.state.object.PlainObject.{PlainObject}
use Rattle.plain_volume.specs.PlainState.{object_of, objects_in}
use Rattle.name_map.specs.laws.Seen.{get_seen, entries_seen, insert_seen}
use denote.Bor.{Bor}

-- a view of what a reference points to
pub mapped_copied : {X Y : Type 0} (f : X → Y) (r : Option (Bor X)) (o : Option X) → option_copied r ≡ o → option_map (λ (x : Bor X). f x.now) r ≡ option_map f o
mapped_copied f None o is = ap (option_map f) is
mapped_copied f (Some x) o is = ap (option_map f) is

pub get_object : (m : BTreeMap ℕ PlainObject) (o : ℕ) → map.get (objects_in m) o ≡ option_map object_of (tree.get nat_cmp m o)
get_object m o = get_seen nat_cmp (λ (k : ℕ). k) object_of nat_cmp_total m.entries o

pub insert_object : (m n : BTreeMap ℕ PlainObject) (k : ℕ) (v : PlainObject) → tree.IsOrdered nat_cmp m → tree.IsOrdered nat_cmp n → n.entries ≡ insert_entry nat_cmp m.entries k v → objects_in n ≡ map.insert (objects_in m) k (object_of v)
insert_object m n k v old new is = insert_seen nat_cmp (λ (k : ℕ). k) object_of nat_cmp_total m.entries n.entries k v old new is

pub entries_objects : (m : BTreeMap ℕ PlainObject) → tree.IsOrdered nat_cmp m → map.entries (objects_in m) ≡ list_map (λ e. (e.0, object_of e.1)) m.entries
entries_objects m sorted = entries_seen nat_cmp (λ (k : ℕ). k) object_of nat_cmp_total m.entries sorted

value_list : {K L X Y : Type 0} (f : K → L) (g : X → Y) (es : List (K × X)) → list_map (λ e. e.1) (list_map {B = L × Y} (λ (e : K × X). (f e.0, g e.1)) es) ≡ list_map g (list_map (λ e. e.1) es)
value_list f g [] = refl
value_list f g (e ∷ es) = ap (λ xs. g e.1 ∷ xs) (value_list f g es)

pub values_objects : (m : BTreeMap ℕ PlainObject) → tree.IsOrdered nat_cmp m → map.values (objects_in m) ≡ list_map object_of (tree.values m)
values_objects m sorted = ap (list_map (λ (e : ℕ × Object). e.1)) (entries_objects m sorted) ∙ value_list (λ (k : ℕ). k) object_of m.entries

pub len_objects : (m : BTreeMap ℕ PlainObject) → tree.IsOrdered nat_cmp m → map.len (objects_in m) ≡ tree.btree_map_len m
len_objects m sorted = map.len-entries (objects_in m) ∙ ap length (entries_objects m sorted) ∙ length-map m.entries _

pub charge_values : (z : Sizes) (m : BTreeMap ℕ PlainObject) → tree.IsOrdered nat_cmp m → charge z (objects_in m) ≡ sum_by (λ x. cost z (object_of x)) (tree.values m)
charge_values z m sorted = ap (sum_by (cost z)) (values_objects m sorted) ∙ sums 0 (tree.values m)
  where
    sums : (n : ℕ) (xs : List PlainObject) → fold {A = Object} (λ a x. a + cost z x) n (list_map object_of xs) ≡ fold {A = PlainObject} (λ a x. a + cost z (object_of x)) n xs
    sums n [] = refl
    sums n (x ∷ xs) = sums (n + cost z (object_of x)) xs

-- of a list that is gone through nothing is left
pub all_gone : {A X : Type 0} (shows : A → X) (s t : List X) (r : Option A) → r ≡ None → TakesFirst shows s r t → s ≡ []
all_gone shows s t r is step = rest_all shows s t r is step

pub ceiling_at : (r n m d e : ℕ) → r ≡ div_ceil n d → n ≡ m → d ≡ e → 0 < e → r ≡ ceiling m e
ceiling_at r n m d e is many each some = is ∙ ap (λ k. div_ceil k d) many ∙ ap (div_ceil m) each ∙ ceiling_is m e some

is_some_map : {X Y : Type 0} (f : X → Y) (o : Option X) → is_some (option_map f o) ≡ is_some o
is_some_map f None = refl
is_some_map f (Some x) = refl

pub has_object_is : (m : BTreeMap ℕ PlainObject) (o : ℕ) → map.contains_key (objects_in m) o ≡ is_some (tree.get nat_cmp m o)
has_object_is m o = ap is_some (get_object m o) ∙ is_some_map object_of (tree.get nat_cmp m o)

pub empty_objects : (m : BTreeMap ℕ PlainObject) → tree.IsEmpty m → objects_in m ≡ map.empty
empty_objects m is = ap (λ es. map.from_entries {R = nat_cmp} (list_map (λ (e : ℕ × PlainObject). (e.0, object_of e.1)) es)) is
