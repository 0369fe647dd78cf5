-- What names keep.
use Rattle.std.specs.Prelude.{◌≡◌, ℕ, Bool, true, false, ◌||◌, List, map as list_map, nat_eq}
use Rattle.std.proofs.Common.{refl, sym, ◌∙◌, ap}
use Rattle.std.specs.List.{list_any}
use Rattle.std.specs.Ordering.{nat_cmp}
use Rattle.std.specs.FinMap as map
use Rattle.std.proofs.lemmas.List.{nil_from_length}
use Rattle.volume_terms.specs.Sizes.{root_number}
use Rattle.posix_profile.specs.State.{Objects, Handle}
use Rattle.posix_profile.specs.Names.{is_named, settle}

-- no descriptor stands for an object where there is none
none_open : (o : ℕ) → list_any (λ (h : Handle). nat_eq o h.object) (map.values (map.empty {X = Handle} {R = nat_cmp})) ≡ false
none_open o = ap (λ (es : List (ℕ × Handle)). list_any (λ (h : Handle). nat_eq o h.object) (list_map (λ (e : ℕ × Handle). e.1) es))
    (nil_from_length (map.entries (map.empty {X = Handle} {R = nat_cmp})) (sym (map.len-entries (map.empty {X = Handle} {R = nat_cmp})) ∙ map.len-empty nat_cmp Handle))

or_none : (a b : Bool) → b ≡ false → a ≡ (a || b)
or_none true b is = refl
or_none false b is = sym is

-- the root and what is named is what settling keeps
pub committed_settles : (objects : Objects) → map.retain_keys objects (λ o. nat_eq o root_number || is_named objects o) ≡ (settle (record { objects = objects; handles = map.empty })).objects
committed_settles objects = λ i. map.retain_keys objects (λ o. or_none (nat_eq o root_number || is_named objects o) (list_any (λ (h : Handle). nat_eq o h.object) (map.values map.empty)) (none_open o) i)
