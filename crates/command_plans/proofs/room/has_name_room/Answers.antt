use Rattle.std.proofs.Common.{◌∙◌, ap, ap₂, nat_le}
use Rattle.posix_profile.specs.laws.Fresh.{slots_some}
use Rattle.volume_terms.specs.Sizes.{page_slots}
use Rattle.command_plans.specs.Rooms.{entry_units}
use Rattle.command_plans.specs.laws.Room.{name_fits}
use Rattle.command_plans.proofs.room.has_name_room.Goals as goal

pub returns : goal.returns
returns g c z objects has dir name absent number moment =
    let units = c.units_past.ensures.units z objects has ∙ ap (λ n. entry_units n (page_slots z)) (c.entry_count.ensures z objects has dir) in
    ap₂ nat_le units (c.free_units.ensures z objects has) ∙ name_fits z objects moment c.args.directory number name (slots_some z has.numbers) dir absent has.fit
