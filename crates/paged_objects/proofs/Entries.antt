-- How many entries a directory has, and which objects they lead to.
use Rattle.std.specs.Prelude.{◌≡◌, ◌≢◌, ◌≤◌, ◌<◌, ◌*◌, ◌/◌, ◌-◌, ℕ, Bool, true, false, cond}
use Rattle.std.proofs.Common.{sym, subst, inl, inr, arith}
use Rattle.std.proofs.lemmas.Bool.{leb-true}
use Rattle.std.specs.Cmp.{nat_cmp_total}
use Rattle.std.specs.Cmp.Lexicographic.{nat_list_cmp_total}
use Rattle.std.specs.FinMap as map
use Rattle.volume_terms.specs.Rounding.{ceiling}
use Rattle.volume_terms.specs.Sizes.{Sizes, IsSizes, capacity, page_slots, root_number}
use Rattle.posix_profile.specs.State.{Name, Dir, Objects, IsDirectory}
use Rattle.posix_profile.specs.Names.{Names}
use Rattle.posix_profile.specs.Charge.{cost, charge, fits}
use Rattle.posix_profile.specs.laws.Fresh.{slots_some}
use Rattle.posix_profile.specs.laws.Number.{capacity_few}
use Rattle.posix_profile.specs.laws.Total.{total_without}
use Rattle.posix_profile.specs.laws.Write.{ceiling_at_most}
use Rattle.flash_tree.specs.Slots.{IsSlotNumber}
use Rattle.object_store.specs.Stores.{CanHave}

few_slots : (z : Sizes) → IsSizes z → page_slots z ≤ 15
few_slots z sizes = elim sizes.page_bytes [
  | inl a ↦ subst (λ d. d / 272 ≤ 15) (sym a) (omega arith)
  | inr b ↦ elim b [
    | inl a ↦ subst (λ d. d / 272 ≤ 15) (sym a) (omega arith)
    | inr c ↦ elim c [
      | inl a ↦ subst (λ d. d / 272 ≤ 15) (sym a) (omega arith)
      | inr a ↦ subst (λ d. d / 272 ≤ 15) (sym a) (omega arith)
    ]
  ]
]

-- objects that fit cost too little for a directory that is as large as its header can say
pub few_fitting : (z : Sizes) (objects : Objects) → IsSizes z → fits z objects ≡ true → (o : ℕ) (dir : IsDirectory objects o) → map.len dir.1 < 4294967295
few_fitting z objects numbers fit o dir =
    let n : ℕ = map.len dir.1 in
    let s : ℕ = page_slots z in
    let all = total_without nat_cmp_total map.nat_cmp-IsAntisymmetric (cost z) objects o (Dir dir.0 dir.1) dir.2 in
    let units : ceiling n s ≤ 4096 * 256 = omega (arith, all, leb-true (charge z objects) (capacity z) fit, capacity_few z numbers) in
    let most : n ≤ 4096 * 256 * s = (ceiling_at_most n s (4096 * 256) (slots_some z numbers)).0 units in
    omega (arith, most, few_slots z numbers)

pub few_entries : (z : Sizes) (objects : Objects) → CanHave z objects → (o : ℕ) (dir : IsDirectory objects o) → map.len dir.1 < 4294967295
few_entries z objects can o dir = few_fitting z objects can.numbers can.fit o dir

-- and one with a name less too little as well
pub few_left : (z : Sizes) (objects : Objects) → CanHave z objects → (o : ℕ) (dir : IsDirectory objects o) (name : Name) → map.len (map.remove dir.1 name) < 4294967295
few_left z objects can o dir name = go (map.contains_key dir.1 name) (map.len-remove nat_list_cmp_total dir.1 name)
  where
    within_limit : map.len dir.1 < 4294967295
    within_limit = few_entries z objects can o dir

    go : (b : Bool) → map.len (map.remove dir.1 name) ≡ cond b (map.len dir.1 - 1) (map.len dir.1) → map.len (map.remove dir.1 name) < 4294967295
    go true e = omega (arith, within_limit, e)
    go false e = omega (arith, within_limit, e)

-- a slot may lead to what an entry leads to
pub named_number : (z : Sizes) (objects : Objects) → CanHave z objects → (d o : ℕ) (name : Name) → Names objects d name o → IsSlotNumber o
named_number z objects can d o name names =
    let there = can.forest.leads d o name names in
    let some : 1 ≤ o = (can.forest.each o there.0 there.1).numbered in
    let other : o ≢ root_number = λ is. can.forest.root_unnamed d name (subst (Names objects d name) is names) in
    (grind (arith, some, other), (can.forest.each o there.0 there.1).number)
