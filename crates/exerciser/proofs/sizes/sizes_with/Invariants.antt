use Rattle.std.proofs.Common.{◌≡◌, ◌<◌, ℕ}
use Rattle.flash_tree.specs.Mount.{sizes_of}
use Rattle.volume_terms.specs.Sizes.{capacity}
use Rattle.exerciser.proofs.sizes.sizes_with.Given as goal

-- no volume with fewer spare blocks may cost so many units
abbrev pub invariant-loop-spare : goal.invariant-loop-spare
invariant-loop-spare l = (k : ℕ) → k < l.spare → capacity (sizes_of l.geometry k) ≡ l.total → ⊥
