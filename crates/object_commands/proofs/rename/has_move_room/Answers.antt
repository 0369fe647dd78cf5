use Rattle.std.proofs.Common.{◌≡◌, ◌∙◌, ◌+◌, ◌-◌, ap, ap₂, arith, nat_le}
use Rattle.std.specs.FinMap as map
use Rattle.posix_profile.specs.Charge.{charge}
use Rattle.posix_profile.specs.laws.Fresh.{slots_some}
use Rattle.posix_profile.specs.laws.Name.{namer_directory}
use Rattle.posix_profile.specs.laws.Number.{capacity_few}
use Rattle.volume_terms.specs.Sizes.{capacity, page_slots}
use Rattle.posix_profile.specs.State.{entries_of}
use Rattle.command_plans.specs.Rooms.{entry_units}
use Rattle.object_commands.proofs.Moves.{same_room, other_room}
use Rattle.object_commands.proofs.rename.has_move_room.Goals as goal

pub returns-then-from-to : goal.returns-then-from-to
returns-then-from-to g c z objects has to moment number a b from absent =
    same_room z objects moment c.args.from.directory number a (slots_some z has.numbers) from c.args.to.directory b to absent has.fit c.if-from-to.true

pub returns : goal.returns
returns g c z objects has to moment number a b from absent =
    let dir = namer_directory objects c.args.from.directory number a from in
    let count = c.entry_count.ensures z objects has dir in
    let left : c.saturating_sub-left.result ≡ map.len (entries_of (map.get objects c.args.from.directory)) - 1 = omega (arith, c.saturating_sub-left.ensures, count) in
    let freed = c.units_past-freed.ensures.units z objects has ∙ ap (λ n. entry_units n (page_slots z)) left in
    let taken = c.units_past.ensures.units z objects has ∙ ap (λ n. entry_units n (page_slots z)) (c.entry_count-2.ensures z objects has to) in
    let free = c.free_units.ensures z objects has in
    let sum : c.saturating_add.result ≡ capacity z - charge z objects + entry_units (map.len (entries_of (map.get objects c.args.from.directory)) - 1) (page_slots z) =
    omega (arith, c.saturating_add.ensures, free, freed, c.units_past-freed.ensures.within_limit, capacity_few z has.numbers) in
    ap₂ nat_le taken sum
    ∙ other_room z objects moment c.args.from.directory number a (slots_some z has.numbers) from c.args.to.directory b to absent has.fit c.if-from-to.false
