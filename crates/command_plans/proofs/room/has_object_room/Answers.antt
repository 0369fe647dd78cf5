use Rattle.std.proofs.Common.{◌∙◌, ◌+◌, ap, ap₂, nat_le}
use Rattle.posix_profile.specs.laws.Fresh.{slots_some}
use Rattle.volume_terms.specs.Sizes.{page_slots}
use Rattle.object_store.specs.Changes.{empty_object}
use Rattle.command_plans.specs.Rooms.{entry_units}
use Rattle.command_plans.specs.laws.Room.{object_fits, empty_cost, page_some}
use Rattle.command_plans.proofs.room.has_object_room.Goals as goal

pub returns : goal.returns
returns g c z objects has dir name absent kind moment =
    let count = c.entry_count.ensures z objects has dir in
    let units = c.units_past-units.ensures.units z objects has ∙ ap (λ n. entry_units n (page_slots z)) count in
    let some = slots_some z has.numbers in
    ap₂ (λ u f. nat_le (1 + u) f) units (c.free_units.ensures z objects has)
    ∙ object_fits z objects moment c.args.directory name (empty_object kind moment) some (empty_cost z kind moment (page_some z has.numbers) some) dir absent has.fit
