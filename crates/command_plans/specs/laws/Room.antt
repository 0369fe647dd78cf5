-- What changes of names cost.
use Rattle.std.specs.Prelude.{◌≡◌, ◌≢◌, ◌<◌, ◌≤◌, ℕ, ◌+◌, ◌-◌, ◌*◌, ◌^◌, ◌/◌, ◌%◌, true, Option, Some, None, is_some, nat_le, min, List, length}
use Rattle.std.proofs.Common.{sym, ◌∙◌, ap, subst, inl, inr, arith}
use Rattle.std.proofs.lemmas.Bool.{cond-false, leb-true}
use Rattle.std.proofs.lemmas.Bool.Decides.{nat_tests}
use Rattle.std.proofs.lemmas.Grind.{common_steps}
use Rattle.std.specs.Cmp.{nat_cmp_total}
use Rattle.std.specs.Cmp.Lexicographic.{nat_list_cmp_total, slice_cmp}
use Rattle.std.specs.FinMap as map
use Rattle.volume_terms.specs.Sizes.{Sizes, IsSizes, capacity, page_slots, greatest_length}
use Rattle.posix_profile.specs.State.{Name, Entries, Object, File, Dir, Objects, IsDirectory, entries_of}
use Rattle.posix_profile.specs.Charge.{cost, charge, fits}
use Rattle.volume_terms.specs.Rounding.{ceiling}
use Rattle.posix_profile.specs.laws.Charge.{fits_less, without_less}
use Rattle.posix_profile.specs.Changes.{new_number, with_object, with_name, without_name, with_bytes}
use Rattle.posix_profile.specs.laws.Map.{get_there, remove_cases}
use Rattle.posix_profile.specs.laws.Number.{new_number_is, capacity_few}
use Rattle.posix_profile.specs.laws.Total.{total_insert, total_without, total_replace, total_le}
use Rattle.posix_profile.specs.laws.Write.{charge_with_bytes, ceiling_at_most}
use Rattle.std.specs.Ordering.{nat_cmp}
use Rattle.std.proofs.lemmas.Nat.{mul-le}
use Rattle.posix_profile.specs.declared.reply.Kind.{Kind}
use Rattle.posix_profile.specs.declared.reply.Kind.TheVariants as kinds
use Rattle.object_store.specs.Changes.{empty_object, without}
use Rattle.command_plans.specs.Rooms.{entry_units}

ceiling_by_rest : (n d : ℕ) → 0 < d → ceiling n d ≡ n / d + min 1 (n % d)
ceiling_by_rest n d some = grind (arith, common_steps)

ceiling_more : (n d : ℕ) → 0 < d → ceiling (n + 1) d ≡ n / d + 1
ceiling_more n d some = grind (arith, common_steps)

pub one_more : (n d : ℕ) → 0 < d → ceiling (n + 1) d ≡ ceiling n d + entry_units n d
one_more n d some = grind (arith, common_steps, ceiling_by_rest n d some, ceiling_more n d some)

room_test : (charge units capacity new : ℕ) → new ≡ charge + units → charge ≤ capacity → nat_le units (capacity - charge) ≡ nat_le new capacity
room_test charge units capacity new is fit = grind (arith, nat_tests)

-- a directory with other entries costs the difference
module _ (z : Sizes) (objects : Objects) (moment d : ℕ) (dir : IsDirectory objects d) (entries : Entries) where
  pub entries_charge : charge z (map.insert objects d (Dir moment entries)) + ceiling (map.len dir.1) (page_slots z) ≡ charge z objects + ceiling (map.len entries) (page_slots z)
  entries_charge =
      let before = total_without nat_cmp_total map.nat_cmp-IsAntisymmetric (cost z) objects d (Dir dir.0 dir.1) dir.2 in
      let after = total_replace nat_cmp_total map.nat_cmp-IsAntisymmetric (cost z) objects d (Dir moment entries) in
      omega (arith, before, after)

-- an absent name costs an entry
pub name_charge : (z : Sizes) (objects : Objects) (moment d o : ℕ) (name : Name) → 0 < page_slots z → (dir : IsDirectory objects d) → map.get (entries_of (map.get objects d)) name ≡ None
    → charge z (with_name objects moment d name o) ≡ charge z objects + entry_units (map.len (entries_of (map.get objects d))) (page_slots z)
name_charge z objects moment d o name some dir absent =
    let was : entries_of (map.get objects d) ≡ dir.1 = ap entries_of dir.2 in
    let e = entries_of (map.get objects d) in
    let long : map.len (map.insert e name o) ≡ map.len e + 1 = map.len-insert nat_list_cmp_total e name o ∙ cond-false _ _ _ (ap is_some absent) in
    let same : map.len dir.1 ≡ map.len e = ap (λ (es : Entries). map.len es) (sym was) in
    let moved = entries_charge z objects moment d dir (map.insert e name o) in
    let more = one_more (map.len e) (page_slots z) some in
    let longer : ceiling (map.len (map.insert e name o)) (page_slots z) ≡ ceiling (map.len e + 1) (page_slots z) = ap (λ n. ceiling n (page_slots z)) long in
    let shorter : ceiling (map.len dir.1) (page_slots z) ≡ ceiling (map.len e) (page_slots z) = ap (λ n. ceiling n (page_slots z)) same in
    omega (arith, moved, more, longer, shorter)

-- a new object costs its unit besides
pub object_charge : (z : Sizes) (objects : Objects) (moment d : ℕ) (name : Name) (object : Object) → 0 < page_slots z → cost z object ≡ 1 → (dir : IsDirectory objects d) → map.get (entries_of (map.get objects d)) name ≡ None
    → charge z (with_object objects moment d name object) ≡ charge z objects + (1 + entry_units (map.len (entries_of (map.get objects d))) (page_slots z))
object_charge z objects moment d name object some one dir absent =
    let n = new_number objects in
    let free = (new_number_is objects).free in
    let apart : d ≢ n = λ e. let two : None ≡ Some (Dir dir.0 dir.1) = sym (ap (map.get objects) e ∙ free) ∙ dir.2 in absurd cc in
    let mid : Objects = map.insert objects n object in
    let same = get_there nat_cmp_total map.nat_cmp-IsAntisymmetric objects n object d apart in
    let added = total_insert nat_cmp_total map.nat_cmp-IsAntisymmetric (cost z) objects n object free in
    let named = name_charge z mid moment d n name some (dir.0, dir.1, same ∙ dir.2) (ap (λ (x : Option Object). map.get (entries_of x) name) same ∙ absent) in
    let units : entry_units (map.len (entries_of (map.get mid d))) (page_slots z) ≡ entry_units (map.len (entries_of (map.get objects d))) (page_slots z) =
    ap (λ (x : Option Object). entry_units (map.len (entries_of x)) (page_slots z)) same in
    omega (arith, added, named, units, one)

-- the tests of a store
pub object_fits : (z : Sizes) (objects : Objects) (moment d : ℕ) (name : Name) (object : Object) → 0 < page_slots z → cost z object ≡ 1 → (dir : IsDirectory objects d) → map.get (entries_of (map.get objects d)) name ≡ None → fits z objects ≡ true
    → nat_le (1 + entry_units (map.len (entries_of (map.get objects d))) (page_slots z)) (capacity z - charge z objects) ≡ fits z (with_object objects moment d name object)
object_fits z objects moment d name object some one dir absent fit =
    room_test (charge z objects) (1 + entry_units (map.len (entries_of (map.get objects d))) (page_slots z)) (capacity z) _ (object_charge z objects moment d name object some one dir absent) (leb-true (charge z objects) (capacity z) fit)

pub name_fits : (z : Sizes) (objects : Objects) (moment d o : ℕ) (name : Name) → 0 < page_slots z → (dir : IsDirectory objects d) → map.get (entries_of (map.get objects d)) name ≡ None → fits z objects ≡ true
    → nat_le (entry_units (map.len (entries_of (map.get objects d))) (page_slots z)) (capacity z - charge z objects) ≡ fits z (with_name objects moment d name o)
name_fits z objects moment d o name some dir absent fit =
    room_test (charge z objects) (entry_units (map.len (entries_of (map.get objects d))) (page_slots z)) (capacity z) _ (name_charge z objects moment d o name some dir absent) (leb-true (charge z objects) (capacity z) fit)

ceiling_none : (d : ℕ) → 0 < d → ceiling 0 d ≡ 0
ceiling_none d some = grind (arith, common_steps)

-- a new object costs a unit
pub empty_cost : (z : Sizes) (kind : Kind) (moment : ℕ) → 0 < z.page_bytes → 0 < page_slots z → cost z (empty_object kind moment) ≡ 1
empty_cost z kinds.File moment bytes some = ap (λ k. 1 + k) (ceiling_none z.page_bytes bytes)
empty_cost z kinds.Directory moment bytes some = ap (λ k. 1 + ceiling k (page_slots z)) (map.len-empty (slice_cmp nat_cmp) ℕ) ∙ ap (λ k. 1 + k) (ceiling_none (page_slots z) some)

-- what goes makes no more room taken
pub forget_fits : (z : Sizes) (objects : Objects) (o : ℕ) → fits z objects ≡ true → fits z (map.remove objects o) ≡ true
forget_fits z objects o fit = fits_less z objects (map.remove objects o)
    (total_le nat_cmp_total map.nat_cmp-IsAntisymmetric (cost z) (map.remove objects o) objects (λ k x is.
    (x, (remove_cases nat_cmp_total map.nat_cmp-IsAntisymmetric objects o k x is).1, omega arith))) fit

pub without_fits : (z : Sizes) (dropped : Option ℕ) (objects : Objects) → fits z objects ≡ true → fits z (without dropped objects) ≡ true
without_fits z None objects fit = fit
without_fits z (Some o) objects fit = forget_fits z objects o fit

pub removed_fits : (z : Sizes) (objects : Objects) (moment d : ℕ) (name : Name) → IsDirectory objects d → fits z objects ≡ true → fits z (without_name objects moment d name) ≡ true
removed_fits z objects moment d name dir fit = fits_less z objects (without_name objects moment d name) (without_less z objects moment d name dir) fit

-- other bytes of a file
pub bytes_fit : (z : Sizes) (objects : Objects) (moment o m : ℕ) (bytes new : List ℕ) → map.get objects o ≡ Some (File m bytes) → fits z objects ≡ true
    → nat_le (ceiling (length new) z.page_bytes) (capacity z - charge z objects + ceiling (length bytes) z.page_bytes) ≡ fits z (with_bytes objects moment o new)
bytes_fit z objects moment o m bytes new is fit =
    let moved = charge_with_bytes z objects moment o m bytes new is in
    let low = leb-true (charge z objects) (capacity z) fit in
    decide _ _ _ _ _ moved low
  where
    decide : (a b c d e : ℕ) → a + b ≡ c + d → c ≤ e → nat_le d (e - c + b) ≡ nat_le a e
    decide a b c d e is le = grind (arith, nat_tests)

pub page_some : (z : Sizes) → IsSizes z → 0 < z.page_bytes
page_some z sizes = elim sizes.page_bytes [
  | inl a ↦ omega arith
  | inr b ↦ elim b [
    | inl a ↦ omega arith
    | inr c ↦ elim c [
      | inl a ↦ omega arith
      | inr a ↦ omega arith
    ]
  ]
]

length_few : (z : Sizes) → IsSizes z → greatest_length z ≤ 134217728
length_few z sizes = elim sizes.page_bytes [
  | inl a ↦ subst (λ d. 8 * (d - 32) * d ≤ 134217728) (sym a) (omega arith)
  | inr b ↦ elim b [
    | inl a ↦ subst (λ d. 8 * (d - 32) * d ≤ 134217728) (sym a) (omega arith)
    | inr c ↦ elim c [
      | inl a ↦ subst (λ d. 8 * (d - 32) * d ≤ 134217728) (sym a) (omega arith)
      | inr a ↦ subst (λ d. 8 * (d - 32) * d ≤ 134217728) (sym a) (omega arith)
    ]
  ]
]

-- the units of a file and those that are free are few
pub units_few : (z : Sizes) (objects : Objects) (o : ℕ) (bytes : List ℕ) → IsSizes z → length bytes ≤ greatest_length z → capacity z - charge z objects + ceiling (length bytes) z.page_bytes ≤ 2 ^ 28
units_few z objects o bytes sizes long =
    let some = page_some z sizes in
    let within_limit : ceiling (length bytes) z.page_bytes ≤ length bytes =
    (ceiling_at_most (length bytes) z.page_bytes (length bytes) some).1 (omega (arith, mul-le (length bytes) 1 (length bytes) z.page_bytes (omega arith) some)) in
    omega (arith, within_limit, capacity_few z sizes, length_few z sizes, long)

pub page_few : (z : Sizes) → IsSizes z → z.page_bytes ≤ 4096
page_few z sizes = elim sizes.page_bytes [
  | inl a ↦ omega arith
  | inr b ↦ elim b [
    | inl a ↦ omega arith
    | inr c ↦ elim c [
      | inl a ↦ omega arith
      | inr a ↦ omega arith
    ]
  ]
]
