use Rattle.std.proofs.Common.{◌∙◌, ap, arith}
use Rattle.volume_terms.specs.Sizes.{capacity}
use Rattle.command_plans.proofs.room.free_units.Goals as goal

pub returns : goal.returns
returns g c z objects has =
    let most = c.capacity.ensures ∙ ap capacity (c.sizes.ensures ∙ has.sizes) in
    let costs = c.charge.ensures z objects has in
    omega (arith, c.saturating_sub.ensures, most, costs)
