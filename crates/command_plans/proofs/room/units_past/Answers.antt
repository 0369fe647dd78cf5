use Rattle.std.proofs.Common.{◌∙◌, ap}
use Rattle.volume_terms.specs.Sizes.{page_slots}
use Rattle.command_plans.specs.Rooms.{entry_units}
use Rattle.command_plans.proofs.room.units_past.Goals as goal

pub returns-clause-units : goal.returns-clause-units
returns-clause-units g c z objects has =
    c.entry_units.ensures.units ∙ ap (entry_units c.args.count) (c.slots_of.ensures.slots ∙ ap page_slots (c.sizes.ensures ∙ has.sizes))
