-- What a change does to the charge of a state.
use Rattle.std.specs.Prelude.{◌≡◌, ◌≤◌, ℕ, ◌-◌, Bool, true, false, Some, cond}
use Rattle.std.proofs.Common.{sym, ◌∙◌, ap, subst, inl, inr, arith}
use Rattle.std.proofs.lemmas.Bool.{leb-true, le-leb}
use Rattle.std.specs.Cmp.{nat_cmp_total}
use Rattle.std.specs.Cmp.Lexicographic.{nat_list_cmp_total}
use Rattle.std.specs.FinMap as map
use Rattle.volume_terms.specs.Sizes.{Sizes, capacity, page_slots}
use Rattle.posix_profile.specs.State.{Name, Entries, Object, File, Dir, Objects, State, IsDirectory, entries_of}
use Rattle.posix_profile.specs.Names.{prune, settle}
use Rattle.posix_profile.specs.Charge.{cost, charge, fits}
use Rattle.volume_terms.specs.laws.Rounding.{ceiling_le}
use Rattle.posix_profile.specs.Changes.{without_name}
use Rattle.posix_profile.specs.laws.Map.{insert_cases, retain_cases}
use Rattle.posix_profile.specs.laws.Total.{total_le, len_le}

-- what fits stays fitting where the charge does not grow
pub fits_less : (z : Sizes) (old new : Objects) → charge z new ≤ charge z old → fits z old ≡ true → fits z new ≡ true
fits_less z old new le is = le-leb _ _ (omega (arith, leb-true (charge z old) (capacity z) is, le))

-- a prune makes no state cost more
pub prune_less : (z : Sizes) (s : State) → charge z (prune s).objects ≤ charge z s.objects
prune_less z s = total_le nat_cmp_total map.nat_cmp-IsAntisymmetric (cost z) (prune s).objects s.objects
    (λ o x is. let c = retain_cases nat_cmp_total map.nat_cmp-IsAntisymmetric s.objects _ o x is in (x, c.1, omega arith))

-- so what fits does so as a mount shows it
pub settle_fits : (z : Sizes) (s : State) → fits z s.objects ≡ true → fits z (settle s).objects ≡ true
settle_fits z s fit = fits_less z s.objects (settle s).objects (prune_less z (record s { handles = map.empty })) fit

-- every object costs a unit
pub cost_some : (z : Sizes) (x : Object) → 1 ≤ cost z x
cost_some z (File moment bytes) = omega arith
cost_some z (Dir moment entries) = omega arith

-- so there are no more objects than a state costs
pub objects_le : (z : Sizes) (objects : Objects) → map.len objects ≤ charge z objects
objects_le z objects = len_le (cost z) objects (cost_some z)

-- a map with a key less is no longer
less_entries : (entries : Entries) (name : Name) → map.len (map.remove entries name) ≤ map.len entries
less_entries entries name = go (map.contains_key entries name) (map.len-remove nat_list_cmp_total entries name)
  where
    go : (b : Bool) → map.len (map.remove entries name) ≡ cond b (map.len entries - 1) (map.len entries) → map.len (map.remove entries name) ≤ map.len entries
    go true e = omega arith
    go false e = omega arith

-- an object in the place of another that costs as much costs no more
pub insert_less : (z : Sizes) (objects : Objects) (o : ℕ) (x y : Object) → map.get objects o ≡ Some x → cost z y ≤ cost z x → charge z (map.insert objects o y) ≤ charge z objects
insert_less z objects o x y is le = total_le nat_cmp_total map.nat_cmp-IsAntisymmetric (cost z) (map.insert objects o y) objects (λ q v get.
    elim (insert_cases nat_cmp_total map.nat_cmp-IsAntisymmetric objects o y q v get) [
      | inl here ↦ (x, ap (map.get objects) here.0 ∙ is, omega (arith, ap (cost z) here.1, le))
      | inr there ↦ (v, there.1, omega arith)
    ])

-- a directory with a name less costs no more
pub without_less : (z : Sizes) (objects : Objects) (moment d : ℕ) (name : Name) → IsDirectory objects d → charge z (without_name objects moment d name) ≤ charge z objects
without_less z objects moment d name dir =
    let same : entries_of (map.get objects d) ≡ dir.1 = ap entries_of dir.2 in
    let len : map.len (map.remove (entries_of (map.get objects d)) name) ≤ map.len dir.1 =
    subst (λ (e : Entries). map.len (map.remove e name) ≤ map.len dir.1) (sym same) (less_entries dir.1 name) in
    insert_less z objects d (Dir dir.0 dir.1) _ dir.2 (omega (arith, ceiling_le _ _ (page_slots z) len))
