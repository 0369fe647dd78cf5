use Rattle.std.proofs.Common.{refl}
use Rattle.std.specs.FinMap as map
use Rattle.command_plans.specs.laws.Fact.{directory_info, none_info, directory_pairs, absent_pairs}
use Rattle.command_plans.proofs.facts.has_other_name.Goals as goal

pub returns-in-Directory : goal.returns-in-Directory
returns-in-Directory g c z objects has =
    directory_pairs z objects c.args.number has.forest (directory_info objects c.args.number c.in-Some.info (map.get objects c.args.number) refl (c.in-Some.ensures z objects has) c.in-Directory.is)

pub returns-in-None : goal.returns-in-None
returns-in-None g c z objects has = absent_pairs z objects c.args.number has.forest (none_info objects c.args.number (map.get objects c.args.number) (c.in-None.ensures z objects has))
