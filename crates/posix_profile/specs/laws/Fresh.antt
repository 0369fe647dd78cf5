-- A volume that was just formatted.
use Rattle.std.specs.Prelude.{◌≡◌, ◌<◌, ◌≤◌, ℕ, ◌+◌, ◌-◌, ◌/◌, true, map as list_map, sum_by, Some, None}
use Rattle.std.proofs.Common.{sym, ◌∙◌, ap, subst, inl, inr, arith}
use Rattle.std.proofs.lemmas.Bool.{le-leb}
use Rattle.std.specs.Ordering.{nat_cmp}
use Rattle.std.specs.Cmp.{nat_cmp_total}
use Rattle.std.specs.Cmp.Lexicographic.{slice_cmp}
use Rattle.std.specs.FinMap as map
use Rattle.std.proofs.lemmas.List.{nil_from_length}
use Rattle.std.proofs.lemmas.Nat.{mul-le}
use Rattle.volume_terms.specs.Sizes.{Sizes, IsSizes, buffer_pages, page_slots, capacity, root_number}
use Rattle.posix_profile.specs.State.{Name, Entries, Object, Dir, State}
use Rattle.posix_profile.specs.Names.{Names}
use Rattle.posix_profile.specs.Charge.{cost, charge, fits}
use Rattle.volume_terms.specs.Rounding.{ceiling}
use Rattle.posix_profile.specs.WellFormed.{IsObject, IsForest, IsWellFormed, IsTree}
use Rattle.posix_profile.specs.laws.Map.{get_here, insert_cases}
use Rattle.posix_profile.specs.laws.Prune.{no_handles, well_formed_tree}
use Rattle.posix_profile.specs.laws.Sound.{IsSound}
use Rattle.posix_profile.specs.laws.Total.{total_insert}
use Rattle.posix_profile.specs.laws.Write.{ceiling_at_most}

-- the root alone, without entries
abbrev pub fresh : State
fresh = record { objects = map.insert map.empty root_number (Dir 0 map.empty); handles = map.empty }

-- it names nothing
unnamed : (d o : ℕ) (name : Name) → Names fresh.objects d name o → ⊥
unnamed d o name n = elim (insert_cases nat_cmp_total map.nat_cmp-IsAntisymmetric map.empty root_number (Dir 0 map.empty) d _ n.directory_is) [
  | inl here ↦
      let entries : n.entries ≡ map.empty = (let two : Dir n.moment n.entries ≡ Dir 0 map.empty = here.1 in cc) in
      let two : None ≡ Some o = sym (map.get-empty (slice_cmp nat_cmp) name) ∙ ap (λ (e : Entries). map.get e name) (sym entries) ∙ n.object_is in
      cc
  | inr there ↦ let two : None ≡ Some (Dir n.moment n.entries) = sym (map.get-empty nat_cmp d) ∙ there.1 in cc
]

only_root : (o : ℕ) (object : Object) → map.get fresh.objects o ≡ Some object → (o ≡ root_number) × (object ≡ Dir 0 map.empty)
only_root o object is = elim (insert_cases nat_cmp_total map.nat_cmp-IsAntisymmetric map.empty root_number (Dir 0 map.empty) o object is) [
  | inl here ↦ here
  | inr there ↦ let two : None ≡ Some object = sym (map.get-empty nat_cmp o) ∙ there.1 in absurd cc
]

fresh_forest : (z : Sizes) → IsForest z fresh.objects
fresh_forest z = record {
  each = λ o object is.
      let only = only_root o object is in
      subst (IsObject z o) (sym only.1) (record {
        numbered = omega (arith, only.0);
        number = omega (arith, only.0);
        moment = omega arith;
        content = λ name c got. (let two : None ≡ Some c = sym (map.get-empty (slice_cmp nat_cmp) name) ∙ got in absurd cc);
      });
  root = (0, map.empty, get_here nat_cmp_total map.nat_cmp-IsAntisymmetric map.empty root_number (Dir 0 map.empty));
  root_unnamed = λ d name n. unnamed d root_number name n;
  leads = λ d o name n. absurd (unnamed d o name n);
  reached = λ d o name n. absurd (unnamed d o name n);
  one_name = λ o a b m n dir first second. absurd (unnamed a o m first);
}

pub fresh_well_formed : (z : Sizes) → IsWellFormed z fresh
fresh_well_formed z = record { forest = fresh_forest z; handles = no_handles fresh.objects; committed = λ o object is. inl (only_root o object is).0 }

nothing : (z : Sizes) → charge z map.empty ≡ 0
nothing z = ap (λ es. sum_by (cost z) (list_map (λ (e : ℕ × Object). e.1) es))
    (nil_from_length (map.entries (map.empty {X = Object} {R = nat_cmp})) (sym (map.len-entries (map.empty {X = Object} {R = nat_cmp})) ∙ map.len-empty nat_cmp Object))

pub slots_some : (z : Sizes) → IsSizes z → 0 < page_slots z
slots_some z sizes = elim sizes.page_bytes [
  | inl a ↦ subst (λ d. 0 < d / 272) (sym a) (omega arith)
  | inr b ↦ elim b [
    | inl a ↦ subst (λ d. 0 < d / 272) (sym a) (omega arith)
    | inr c ↦ elim c [
      | inl a ↦ subst (λ d. 0 < d / 272) (sym a) (omega arith)
      | inr a ↦ subst (λ d. 0 < d / 272) (sym a) (omega arith)
    ]
  ]
]

capacity_some : (z : Sizes) → IsSizes z → 1 ≤ capacity z
capacity_some z sizes =
    let pages : 1 ≤ z.block_pages - buffer_pages z = elim sizes.block_pages [
      | inl a ↦ omega arith
      | inr b ↦ elim b [ inl a ↦ omega arith | inr c ↦ elim c [ inl a ↦ omega arith | inr a ↦ omega arith ] ]
    ] in
    let blocks : 1 ≤ z.blocks - z.spare_blocks - 1 = omega (arith, sizes.spare_blocks) in
    mul-le 1 1 (z.blocks - z.spare_blocks - 1) (z.block_pages - buffer_pages z) blocks pages

-- it costs one unit
pub fresh_charge : (z : Sizes) → IsSizes z → charge z fresh.objects ≡ 1
fresh_charge z sizes =
    let sum' = total_insert nat_cmp_total map.nat_cmp-IsAntisymmetric (cost z) map.empty root_number (Dir 0 map.empty) (map.get-empty nat_cmp root_number) in
    let len : map.len (map.empty {X = ℕ} {R = slice_cmp nat_cmp}) ≡ 0 = map.len-empty (slice_cmp nat_cmp) ℕ in
    let none : ceiling 0 (page_slots z) ≤ 0 = (ceiling_at_most 0 (page_slots z) 0 (slots_some z sizes)).1 (omega arith) in
    let one : cost z (Dir 0 map.empty) ≡ 1 = ap (λ n. 1 + ceiling n (page_slots z)) len ∙ (omega arith) in
    omega (arith, sum', one, nothing z)

-- a volume that was just formatted is one that a volume can have, and fits
pub fresh_sound : (z : Sizes) → IsSizes z → IsSound z fresh
fresh_sound z sizes = record { well_formed = fresh_well_formed z; fit = le-leb (charge z fresh.objects) (capacity z) (omega (arith, fresh_charge z sizes, capacity_some z sizes)) }

pub fresh_fits : (z : Sizes) → IsSizes z → fits z fresh.objects ≡ true
fresh_fits z sizes = (fresh_sound z sizes).fit

-- and a tree
pub fresh_tree : (z : Sizes) → IsTree z fresh.objects
fresh_tree z = well_formed_tree z fresh.objects (fresh_well_formed z)
