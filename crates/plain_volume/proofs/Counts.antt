-- What the loops over the maps count and find.
use Rattle.std.specs.Prelude.{◌≡◌, ℕ, ◌+◌, Bool, true, false, ◌||◌, List, [], ◌∷◌, map as list_map, filter, length, count_by, Some, nat_eq, cond}
use Rattle.std.proofs.Common.{refl, ◌∙◌, ap, arith}
use Rattle.std.specs.List.{list_any, find}
use Rattle.std.specs.Option.{option_map_or}
use Rattle.std.specs.Global.{Vec}
use Rattle.std.specs.Ordering.{nat_cmp}
use Rattle.std.specs.BTreeMap as tree
use Rattle.std.specs.BTreeMap.{BTreeMap}
use Rattle.std.specs.FinMap as map
use Rattle.volume_terms.specs.Sizes.{root_number}
use Rattle.std.proofs.lemmas.List.Recursion.{is_count_by}
use Rattle.posix_profile.specs.State.{Object, Dir}
use Rattle.posix_profile.specs.Names.{has_entry_to, names_to, parent, is_named}
use Rattle.plain_volume.specs.declared.state.object.PlainObject.{PlainObject}
use Rattle.name_map.specs.NameEntries.{entries_in, name_cmp}
use Rattle.name_map.specs.laws.NameEntries.{entries_entries, values_entries}
use Rattle.plain_volume.specs.PlainState.{object_of, objects_in}
use Rattle.plain_volume.specs.laws.PlainState.{entries_objects, values_objects}

any_map : {X Y : Type 0} (p : Y → Bool) (f : X → Y) (xs : List X) → list_any p (list_map f xs) ≡ list_any (λ x. p (f x)) xs
any_map p f [] = refl
any_map p f (x ∷ xs) = ap (λ b. p (f x) || b) (any_map p f xs)

pub named_values : (m : BTreeMap ℕ PlainObject) (o : ℕ) → tree.IsOrdered nat_cmp m → is_named (objects_in m) o ≡ list_any (λ x. has_entry_to o (object_of x)) (tree.values m)
named_values m o sorted = ap (list_any (has_entry_to o)) (values_objects m sorted) ∙ any_map (has_entry_to o) object_of (tree.values m)

pub entry_values : (m : BTreeMap (Vec ℕ) ℕ) (o : ℕ) → tree.IsOrdered name_cmp m → list_any (nat_eq o) (map.values (entries_in m)) ≡ list_any (nat_eq o) (tree.values m)
entry_values m o sorted = ap (list_any (nat_eq o)) (values_entries m sorted)

find_map : (o : ℕ) (es : List (ℕ × PlainObject)) → option_map_or (λ e. e.0) (find (λ e. has_entry_to o e.1) (list_map {B = ℕ × Object} (λ e. (e.0, object_of e.1)) es)) root_number
    ≡ option_map_or (λ e. e.0) (find (λ e. has_entry_to o (object_of e.1)) es) root_number
find_map o [] = refl
find_map o (e ∷ es) = elim (has_entry_to o (object_of e.1)) as (λ b. option_map_or (λ (e : ℕ × Object). e.0) (cond b (Some (e.0, object_of e.1)) (find (λ e. has_entry_to o e.1) (list_map {B = ℕ × Object} (λ e. (e.0, object_of e.1)) es))) root_number
    ≡ option_map_or (λ (e : ℕ × PlainObject). e.0) (cond b (Some e) (find (λ e. has_entry_to o (object_of e.1)) es)) root_number) [
      | true ↦ refl
      | false ↦ find_map o es
    ]

pub parent_entries : (m : BTreeMap ℕ PlainObject) (o : ℕ) → tree.IsOrdered nat_cmp m → parent (objects_in m) o ≡ option_map_or (λ e. e.0) (find (λ e. has_entry_to o (object_of e.1)) m.entries) root_number
parent_entries m o sorted = ap (λ es. option_map_or (λ (e : ℕ × Object). e.0) (find (λ e. has_entry_to o e.1) es) root_number) (entries_objects m sorted) ∙ find_map o m.entries

-- the values among the entries that pass
abbrev pub count_left : (p : ℕ → Bool) → List ℕ → ℕ
count_left p [] = 0
count_left p (x ∷ xs) = cond (p x) (1 + count_left p xs) (count_left p xs)

pub count_left_is : (p : ℕ → Bool) (xs : List ℕ) → count_left p xs ≡ count_by p xs
count_left_is p xs = is_count_by (count_left p) p refl (λ x xs. refl) xs

names_left : (o : ℕ) (es : List (Vec ℕ × ℕ)) → length (list_map (λ e. e.0) (filter (λ e. nat_eq o e.1) (list_map {B = List ℕ × ℕ} (λ e. (e.0.items, e.1)) es))) ≡ count_left (nat_eq o) (list_map (λ e. e.1) es)
names_left o [] = refl
names_left o (e ∷ es) = elim (nat_eq o e.1) as (λ b. length (list_map (λ (e : List ℕ × ℕ). e.0) (cond b ((e.0.items, e.1) ∷ filter (λ e. nat_eq o e.1) (list_map {B = List ℕ × ℕ} (λ e. (e.0.items, e.1)) es)) (filter (λ e. nat_eq o e.1) (list_map {B = List ℕ × ℕ} (λ e. (e.0.items, e.1)) es))))
    ≡ cond b (1 + count_left (nat_eq o) (list_map (λ e. e.1) es)) (count_left (nat_eq o) (list_map (λ e. e.1) es))) [
      | true ↦ omega (arith, names_left o es)
      | false ↦ names_left o es
    ]

pub names_count : (m : BTreeMap (Vec ℕ) ℕ) (o moment : ℕ) → tree.IsOrdered name_cmp m → length (names_to o (Dir moment (entries_in m))) ≡ count_left (nat_eq o) (tree.values m)
names_count m o moment sorted = ap (λ es. length (list_map (λ (e : List ℕ × ℕ). e.0) (filter (λ e. nat_eq o e.1) es))) (entries_entries m sorted) ∙ names_left o m.entries
