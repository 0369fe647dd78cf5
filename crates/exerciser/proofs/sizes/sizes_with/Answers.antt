use Rattle.std.proofs.Common.{sym, subst, arith}
use Rattle.formatting.specs.laws.SizesOf.{sizes_are}
use Rattle.volume_terms.specs.Sizes.{IsSizes}
use Rattle.exerciser.proofs.sizes.sizes_with.Goals as goal

pub returns-then-capacity-total-clause-sizes : goal.returns-then-capacity-total-clause-sizes
returns-then-capacity-total-clause-sizes c =
    (c.loop-spare.spare, c.sizes_of-sizes.ensures, subst IsSizes (sym c.sizes_of-sizes.ensures) (sizes_are c.args.geometry c.loop-spare.spare (omega arith)))
