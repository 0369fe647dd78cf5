-- The names that lead to an object are few.
use Rattle.std.specs.Prelude.{◌≡◌, ◌<◌, ◌≤◌, ◌^◌, ℕ, ◌-◌, ◌*◌, ◌/◌, Bool, true, false, List, [], ◌∷◌, map as list_map, filter, length, sum_by, nat_eq, cond}
use Rattle.std.proofs.Common.{refl, ◌∙◌, ap, arith}
use Rattle.std.proofs.Math.Nat.{mul-le-mul_left}
use Rattle.std.proofs.lemmas.Bool.{leb-true}
use Rattle.std.proofs.lemmas.List.{length-map, length-append}
use Rattle.std.proofs.lemmas.List.Sums.{sum_by-cons, sum_by-le-sum_by}
use Rattle.std.specs.List.{flat_map}
use Rattle.std.specs.Ordering.{nat_cmp}
use Rattle.std.specs.BTreeMap as tree
use Rattle.std.specs.BTreeMap.{BTreeMap}
use Rattle.std.specs.FinMap as map
use Rattle.volume_terms.specs.Sizes.{Sizes, page_slots, capacity}
use Rattle.posix_profile.specs.State.{Name, Object, File, Dir}
use Rattle.posix_profile.specs.Names.{names_to, link_pairs}
use Rattle.posix_profile.specs.Charge.{cost, charge, fits}
use Rattle.volume_terms.specs.Rounding.{ceiling}
use Rattle.posix_profile.specs.laws.Write.{ceiling_at_most}
use Rattle.plain_volume.specs.declared.state.object.PlainObject.{PlainObject}
use Rattle.plain_volume.specs.PlainState.{object_of, objects_in}
use Rattle.plain_volume.specs.laws.PlainState.{entries_objects, charge_values}

-- how many names of the object lead to the number
abbrev pub names_in : ℕ → PlainObject → ℕ
names_in o x = length (names_to o (object_of x))

pairs_left : (o : ℕ) (es : List (ℕ × PlainObject)) → length (flat_map (λ e. list_map {B = ℕ × Name} (λ name. (e.0, name)) (names_to o e.1)) (list_map {B = ℕ × Object} (λ e. (e.0, object_of e.1)) es)) ≡ sum_by (names_in o) (list_map (λ e. e.1) es)
pairs_left o [] = refl
pairs_left o (e ∷ es) =
    omega (
      arith,
      length-append (list_map {B = ℕ × Name} (λ name. (e.0, name)) (names_to o (object_of e.1))) (flat_map (λ e. list_map {B = ℕ × Name} (λ name. (e.0, name)) (names_to o e.1)) (list_map {B = ℕ × Object} (λ e. (e.0, object_of e.1)) es)),
      length-map {B = ℕ × Name} (names_to o (object_of e.1)) (λ name. (e.0, name)),
      pairs_left o es,
      sum_by-cons (names_in o) e.1 (list_map (λ e. e.1) es),
    )

pub pairs_count : (m : BTreeMap ℕ PlainObject) (o : ℕ) → tree.IsOrdered nat_cmp m → length (link_pairs (objects_in m) o) ≡ sum_by (names_in o) (tree.values m)
pairs_count m o sorted = ap (λ es. length (flat_map (λ (e : ℕ × Object). list_map {B = ℕ × Name} (λ name. (e.0, name)) (names_to o e.1)) es)) (entries_objects m sorted) ∙ pairs_left o m.entries

filter_short : {A : Type 0} (p : A → Bool) (xs : List A) → length (filter p xs) ≤ length xs
filter_short p [] = omega arith
filter_short p (x ∷ xs) = elim (p x) as (λ b. length (cond b (x ∷ filter p xs) (filter p xs)) ≤ length (x ∷ xs)) [
  | true ↦ omega (arith, filter_short p xs)
  | false ↦ omega (arith, filter_short p xs)
]

names_few : (z : Sizes) (o : ℕ) (x : Object) → 0 < page_slots z → page_slots z ≤ 4096 → length (names_to o x) ≤ 4096 * cost z x
names_few z o (File moment bytes) some within_limit = omega arith
names_few z o (Dir moment entries) some within_limit =
    let short = filter_short (λ (e : Name × ℕ). nat_eq o e.1) (map.entries entries) in
    let same = length-map {B = Name} (filter (λ (e : Name × ℕ). nat_eq o e.1) (map.entries entries)) (λ e. e.0) in
    let paged : map.len entries ≤ ceiling (map.len entries) (page_slots z) * page_slots z = (ceiling_at_most (map.len entries) (page_slots z) (ceiling (map.len entries) (page_slots z)) some).0 (omega arith) in
    let most = mul-le-mul_left (ceiling (map.len entries) (page_slots z)) within_limit in
    omega (arith, short, same, map.len-entries entries, paged, most)

sum_times : (g : PlainObject → ℕ) (xs : List PlainObject) → sum_by (λ x. 4096 * g x) xs ≡ 4096 * sum_by g xs
sum_times g [] = refl
sum_times g (x ∷ xs) = omega (arith, sum_by-cons (λ x. 4096 * g x) x xs, sum_by-cons g x xs, sum_times g xs)

capacity_small : (z : Sizes) → z.blocks ≤ 4096 → z.block_pages ≤ 256 → capacity z ≤ 1048576
capacity_small z blocks pages =
    let le : z.block_pages - z.block_pages / 4 ≤ 256 = omega arith in
    let a = mul-le-mul_left (z.blocks - z.spare_blocks - 1) le in
    omega (arith, a)

pub pairs_few : (z : Sizes) (m : BTreeMap ℕ PlainObject) (o : ℕ) → tree.IsOrdered nat_cmp m → 512 ≤ z.page_bytes → z.page_bytes ≤ 4096 → z.blocks ≤ 4096 → z.block_pages ≤ 256 → fits z (objects_in m) ≡ true
    → sum_by (names_in o) (tree.values m) < 2 ^ 63
pairs_few z m o sorted least page blocks pages is =
    let fit = leb-true (charge z (objects_in m)) (capacity z) is in
    let some : 0 < page_slots z = omega arith in
    let within_limit : page_slots z ≤ 4096 = omega arith in
    let less = sum_by-le-sum_by (names_in o) (λ x. 4096 * cost z (object_of x)) (tree.values m) (λ x. names_few z o (object_of x) some within_limit) in
    omega (arith, fit, less, sum_times (λ x. cost z (object_of x)) (tree.values m), charge_values z m sorted, capacity_small z blocks pages)
