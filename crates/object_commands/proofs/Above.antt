-- The way up from a directory.
use Rattle.std.specs.Prelude.{◌≡◌, ◌≢◌, ◌<◌, ◌≤◌, ℕ, suc, ◌+◌, true, false, Some, None}
use Rattle.std.proofs.Common.{refl, sym, subst, arith}
use Rattle.std.proofs.lemmas.Bool.{false_from_ne_true}
use Rattle.std.specs.FinMap as map
use Rattle.posix_profile.specs.laws.Below.{Deep, top, down, depth_few, is_below_decides}
use Rattle.posix_profile.specs.Charge.{charge}
use Rattle.posix_profile.specs.laws.Charge.{objects_le}
use Rattle.posix_profile.specs.laws.Name.{namer_directory}
use Rattle.posix_profile.specs.NameSteps.{is_below}
use Rattle.posix_profile.specs.Names.{Names, Reached, root, below, Below, self, next}
use Rattle.volume_terms.specs.Sizes.{Sizes}
use Rattle.posix_profile.specs.State.{Name, Objects, IsDirectory}
use Rattle.posix_profile.specs.WellFormed.{IsForest, IsNamed}
use Rattle.object_store.specs.Facts.{NamedBy}

depth_of : (objects : Objects) (o : ℕ) → Reached objects o → (n : ℕ) × Deep objects o n
depth_of objects o root = (0, top)
depth_of objects o (below {directory} {object} name up names) = let d = depth_of objects directory up in (suc d.0, down name d.1 names)

-- After so many steps up from the directory we are here; what lies below the object lies so from there and from here.
pub record Up (objects : Objects) (x directory here steps : ℕ) : Type 0 where
  pub dir : IsDirectory objects here
  pub back : Below objects x here → Below objects x directory
  pub on : Below objects x directory → Below objects x here
  pub depth : ℕ
  pub deep : Deep objects here depth
  pub within_limit : depth + steps < map.len objects

pub up_start : (z : Sizes) (objects : Objects) (x directory : ℕ) → IsForest z objects → IsDirectory objects directory → Reached objects directory → Up objects x directory directory 0
up_start z objects x directory forest dir up =
    let d = depth_of objects directory up in
    record { dir = dir; back = λ b. b; on = λ b. b; depth = d.0; deep = d.1; within_limit = omega (arith, depth_few z objects forest directory d.0 dir d.1) }

-- what is below an object, and is not it, lies so by the directory that names it
below_above : (z : Sizes) (objects : Objects) (x here above : ℕ) (name : Name) → IsForest z objects → IsDirectory objects here → Names objects above name here → here ≢ x → Below objects x here → Below objects x above
below_above z objects x here above name forest dir names ne self = absurd (ne refl)
below_above z objects x here above name forest dir names ne (next {directory} {object} other up named) =
    subst (Below objects x) (forest.one_name here directory above other name dir named names).0 up

depth_above : (z : Sizes) (objects : Objects) (here above n : ℕ) (name : Name) → IsForest z objects → IsDirectory objects here → Names objects above name here → Deep objects here n → (k : ℕ) × Deep objects above k × (k + 1 ≡ n)
depth_above z objects here above n name forest dir names top = absurd (forest.root_unnamed above name names)
depth_above z objects here above n name forest dir names (down {directory} {object} {n = k} other deep named) =
    (k, subst (λ d. Deep objects d k) (forest.one_name here directory above other name dir named names).0 deep, omega arith)

pub up_more : (z : Sizes) (objects : Objects) (x directory here above steps : ℕ) → IsForest z objects → here ≢ x → NamedBy objects here (Some above) → Up objects x directory here steps → Up objects x directory above (steps + 1)
up_more z objects x directory here above steps forest ne named up =
    let d = depth_above z objects here above up.depth named.0 forest up.dir named.1 up.deep in
    record {
      dir = namer_directory objects above here named.0 named.1;
      back = λ b. up.back (next named.0 b named.1);
      on = λ b. below_above z objects x here above named.0 forest up.dir named.1 ne (up.on b);
      depth = d.0;
      deep = d.1;
      within_limit = omega (arith, d.2, up.within_limit);
    }

module _ (z : Sizes) (objects : Objects) (x directory : ℕ) (forest : IsForest z objects) (dir : IsDirectory objects directory) (reached : Reached objects directory) where
  pub up_found : (here steps : ℕ) → here ≡ x → Up objects x directory here steps → true ≡ is_below objects x directory
  up_found here steps is up = sym ((is_below_decides z objects forest x directory dir reached).1 (up.back (subst (Below objects x) (sym is) self)))

  not_up : (Below objects x directory → ⊥) → false ≡ is_below objects x directory
  not_up no' = sym (false_from_ne_true _ (λ yes'. no' ((is_below_decides z objects forest x directory dir reached).0 yes')))

  -- at the top
  pub up_top : (here steps : ℕ) → here ≢ x → NamedBy objects here None → Up objects x directory here steps → false ≡ is_below objects x directory
  up_top here steps ne none up = not_up (λ b. last here ne none (up.on b))
    where
      last : (here : ℕ) → here ≢ x → (IsNamed objects here → ⊥) → Below objects x here → ⊥
      last here ne none self = ne refl
      last here ne none (next {directory} {object} name up names) = none (directory, name, names)

  -- the way is no longer than there are objects, which cost a unit each
  pub up_end : (here steps : ℕ) → charge z objects ≤ steps → Up objects x directory here steps → false ≡ is_below objects x directory
  up_end here steps far up = absurd (omega (arith, far, up.within_limit, objects_le z objects))
