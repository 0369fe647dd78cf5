-- How many bytes a write writes, by a formula.
use Rattle.std.specs.Prelude.{◌≡◌, ◌↔◌, ◌<◌, ◌≤◌, ℕ, ◌+◌, ◌-◌, ◌*◌, min, max, Bool, true, List, ◌++◌, length, take, drop, replicate, Some}
use Rattle.std.proofs.Common.{sym, ◌∙◌, ap, inl, inr, arith}
use Rattle.std.proofs.lemmas.Bool.{cases_lt, leb-true, le-leb, true≢false}
use Rattle.std.proofs.lemmas.List.{length-take, length-drop, length-replicate, length-append}
use Rattle.std.proofs.Math.Nat.{div-lt_iff_lt-mul}
use Rattle.std.specs.Cmp.{nat_cmp_total}
use Rattle.std.specs.FinMap as map
use Rattle.volume_terms.specs.Sizes.{Sizes, capacity, most_written, greatest_length}
use Rattle.posix_profile.specs.State.{File, Objects, Handle, State}
use Rattle.posix_profile.specs.Charge.{cost, charge, fits}
use Rattle.volume_terms.specs.Rounding.{ceiling}
use Rattle.posix_profile.specs.Changes.{greatest, with_bytes, written}
use Rattle.posix_profile.specs.HandleSteps.{write_offset, objects_written, write_count}
use Rattle.posix_profile.specs.laws.Number.{greatest_cases}
use Rattle.posix_profile.specs.laws.Total.{total_without, total_replace}

-- a test that passes up to m finds the least of m and the bound
pub greatest_up_to : (p : ℕ → Bool) (n m : ℕ) → ((k : ℕ) → 1 ≤ k → k ≤ n → p k ≡ true → k ≤ m) → ((k : ℕ) → 1 ≤ k → k ≤ n → k ≤ m → p k ≡ true) → greatest p n ≡ min n m
greatest_up_to p n m passes within =
    let g = greatest_cases p n in
    let below' : greatest p n ≤ m = elim (cases_lt 0 (greatest p n)) [
      | inl some ↦ elim g.1 [ inl none ↦ omega arith | inr yes' ↦ passes (greatest p n) some g.0 yes' ]
      | inr none ↦ omega arith
    ] in
    elim (cases_lt (greatest p n) (min n m)) [
      | inl less ↦
          let k = greatest p n + 1 in
          absurd (true≢false (sym (within (greatest p n + 1) (omega arith) (omega arith) (omega arith)) ∙ g.2 (greatest p n + 1) (omega arith) (omega arith)))
      | inr more ↦ omega (arith, g.0)
    ]

-- n / d rounded up is at most u where n is at most u times d
pub ceiling_at_most : (n d u : ℕ) → 0 < d → (ceiling n d ≤ u) ↔ (n ≤ u * d)
ceiling_at_most n d u some =
    let both = div-lt_iff_lt-mul {k = d} {x = n + d - 1} {y = u + 1} some in
    let product : (u + 1) * d ≡ u * d + d = grind arith in
    (λ le. omega (arith, both.0 (omega arith)), λ le. omega (arith, both.1 (omega arith)))

pub length-written : (bytes : List ℕ) (offset : ℕ) (new : List ℕ) → length (written bytes offset new) ≡ max (length bytes) (offset + length new)
length-written bytes offset new =
    omega (
      arith,
      length-append (take offset (bytes ++ replicate (offset - length bytes) 0)) (new ++ drop (offset + length new) bytes),
      length-take offset (bytes ++ replicate (offset - length bytes) 0),
      length-append bytes (replicate (offset - length bytes) 0),
      length-replicate {A = ℕ} (offset - length bytes) 0,
      length-append new (drop (offset + length new) bytes),
      length-drop (offset + length new) bytes,
    )

-- what a file costs more or less with other bytes
pub charge_with_bytes : (z : Sizes) (objects : Objects) (moment o m : ℕ) (bytes new : List ℕ) → map.get objects o ≡ Some (File m bytes)
    → charge z (with_bytes objects moment o new) + ceiling (length bytes) z.page_bytes ≡ charge z objects + ceiling (length new) z.page_bytes
charge_with_bytes z objects moment o m bytes new is =
    let before = total_without nat_cmp_total map.nat_cmp-IsAntisymmetric (cost z) objects o (File m bytes) is in
    let after = total_replace nat_cmp_total map.nat_cmp-IsAntisymmetric (cost z) objects o (File moment new) in
    omega (arith, before, after)

-- the units that a file's bytes may take: those that are free and those that they take now
abbrev pub units_for : Sizes → Objects → List ℕ → ℕ
units_for z objects bytes = capacity z - charge z objects + ceiling (length bytes) z.page_bytes

-- the handle represents a file of these bytes, in a state that fits, of a volume whose pages hold bytes
pub record IsWritable (z : Sizes) (s : State) (handle : Handle) (bytes : List ℕ) : Type 0 where
  pub page : 0 < z.page_bytes
  pub fit : fits z s.objects ≡ true
  pub moment : ℕ
  pub file : map.get s.objects handle.object ≡ Some (File moment bytes)

-- how many of the new bytes there is room for, in a file of these bytes: up to the most of one write, a file's greatest length, and the end of the units that there are for the file
abbrev pub writable : Sizes → State → Handle → List ℕ → List ℕ → ℕ
writable z s handle bytes new =
    min (min (length new) (min (most_written z) (greatest_length z - write_offset handle bytes)))
    (units_for z s.objects bytes * z.page_bytes - write_offset handle bytes)

-- a write of some bytes writes all of them, up to the most of one write, a file's greatest length, and the end of the units that there are for the file
pub write_count_is : (z : Sizes) (moment : ℕ) (s : State) (handle : Handle) (m : ℕ) (bytes new : List ℕ) → 0 < z.page_bytes → fits z s.objects ≡ true
    → map.get s.objects handle.object ≡ Some (File m bytes)
    → write_count z moment s handle bytes new ≡ writable z s handle bytes new
write_count_is z moment s handle m bytes new some fit is =
    greatest_up_to (λ k. fits z (objects_written moment s handle bytes new k))
    (min (length new) (min (most_written z) (greatest_length z - write_offset handle bytes)))
    (units_for z s.objects bytes * z.page_bytes - write_offset handle bytes)
    (λ k low high yes'.
    let c = cost_of k in
    let l = long k high in
    let le : charge z (objects_written moment s handle bytes new k) ≤ capacity z = leb-true (charge z (objects_written moment s handle bytes new k)) (capacity z) yes' in
    let at : max (length bytes) (write_offset handle bytes + k) ≤ units_for z s.objects bytes * z.page_bytes =
    (ceiling_at_most (max (length bytes) (write_offset handle bytes + k)) z.page_bytes (units_for z s.objects bytes) some).0 (omega (arith, c, l, le, was)) in
    omega arith)
    (λ k low high le.
    let c = cost_of k in
    let l = long k high in
    let now : length bytes ≤ units_for z s.objects bytes * z.page_bytes = (ceiling_at_most (length bytes) z.page_bytes (units_for z s.objects bytes) some).0 (omega arith) in
    let at : ceiling (max (length bytes) (write_offset handle bytes + k)) z.page_bytes ≤ units_for z s.objects bytes =
    (ceiling_at_most (max (length bytes) (write_offset handle bytes + k)) z.page_bytes (units_for z s.objects bytes) some).1 (omega arith) in
    le-leb (charge z (objects_written moment s handle bytes new k)) (capacity z) (omega (arith, c, l, was, at)))
  where
    was : charge z s.objects ≤ capacity z
    was = leb-true (charge z s.objects) (capacity z) fit

    cost_of : (k : ℕ) → charge z (objects_written moment s handle bytes new k) + ceiling (length bytes) z.page_bytes
        ≡ charge z s.objects + ceiling (length (written bytes (write_offset handle bytes) (take k new))) z.page_bytes
    cost_of k = charge_with_bytes z s.objects moment handle.object m bytes (written bytes (write_offset handle bytes) (take k new)) is

    long : (k : ℕ) → k ≤ min (length new) (min (most_written z) (greatest_length z - write_offset handle bytes))
        → ceiling (length (written bytes (write_offset handle bytes) (take k new))) z.page_bytes ≡ ceiling (max (length bytes) (write_offset handle bytes + k)) z.page_bytes
    long k high =
        let same : length (written bytes (write_offset handle bytes) (take k new)) ≡ max (length bytes) (write_offset handle bytes + k) =
        (omega (arith, length-written bytes (write_offset handle bytes) (take k new), length-take k new)) in
        ap (λ n. ceiling n z.page_bytes) same
