use Rattle.std.proofs.Common.{◌∙◌, ap}
use Rattle.posix_profile.specs.State.{entries_of}
use Rattle.name_map.specs.laws.NameEntries.{empty_entries}
use Rattle.plain_volume.proofs.state.change.entries_at.Goals as goal

pub returns-in-None : goal.returns-in-None
returns-in-None c = empty_entries c.new.result c.new.ensures.empty ∙ ap entries_of c.in-None.ensures
