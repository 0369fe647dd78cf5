-- What came of the objects so far costs no more than all of them.
use Rattle.std.specs.Prelude.{◌≡◌, ◌≤◌, ℕ, Some, true}
use Rattle.std.proofs.Common.{sym, ◌∙◌, ap, arith}
use Rattle.std.proofs.lemmas.Bool.{leb-true}
use Rattle.std.specs.Cmp.{nat_cmp_total}
use Rattle.std.specs.Cmp.Lexicographic.{nat_list_cmp_total}
use Rattle.std.specs.FinMap as map
use Rattle.std.proofs.lemmas.List.{length-map}
use Rattle.volume_terms.specs.Sizes.{Sizes, IsSizes, capacity, page_slots}
use Rattle.volume_terms.specs.laws.List.{sum_ones}
use Rattle.volume_terms.specs.laws.Rounding.{ceiling_le}
use Rattle.posix_profile.specs.State.{Name, Entries, Object, File, Dir, Objects}
use Rattle.posix_profile.specs.Charge.{cost, charge, fits}
use Rattle.posix_profile.specs.laws.Name.{name_same}
use Rattle.posix_profile.specs.laws.Number.{capacity_few}
use Rattle.posix_profile.specs.laws.Total.{total, total_le}
use Rattle.object_store.specs.Totaled.{IsCountable}
use Rattle.tree_walk.specs.Building.{IsPartOf, ArePartOf}

-- ---- entries

len_is : (entries : Entries) → total (λ _. 1) entries ≡ map.len entries
len_is entries = sum_ones (map.values entries) ∙ length-map (map.entries entries) (λ (e : Name × ℕ). e.1) ∙ sym (map.len-entries entries)

-- entries that are among others are no more
fewer : (some all : Entries) → ((name : Name) (o : ℕ) → map.get some name ≡ Some o → map.get all name ≡ Some o) → map.len some ≤ map.len all
fewer some all among =
    let le : total (λ _. 1) some ≤ total (λ _. 1) all = total_le nat_list_cmp_total name_same (λ _. 1) some all (λ name o is. (o, among name o is, omega arith)) in
    omega (arith, le, len_is some, len_is all)

-- ---- objects

part_cost : (z : Sizes) (x y : Object) → IsPartOf x y → cost z y ≤ cost z x
part_cost z (File moment bytes) y is = omega (arith, ap (cost z) is)
part_cost z (Dir moment entries) y (some, is, among) = omega (arith, ap (cost z) is, ceiling_le (map.len some) (map.len entries) (page_slots z) (fewer some entries among))

pub part_countable : (z : Sizes) → IsSizes z → (objects part : Objects) → fits z objects ≡ true → ArePartOf objects part → IsCountable z part
part_countable z sizes objects part fit are = record {
  sizes = sizes;
  within_limit =
      let less : charge z part ≤ charge z objects = total_le nat_cmp_total map.nat_cmp-IsAntisymmetric (cost z) part objects (λ o y is. let x = are o y is in (x.0, x.1, part_cost z x.0 y x.2)) in
      omega (arith, less, leb-true (charge z objects) (capacity z) fit, capacity_few z sizes);
}
