use Rattle.std.proofs.Common.{◌∙◌, sym, ap}
use Rattle.std.specs.FinMap as map
use Rattle.std.specs.Ordering.{nat_cmp}
use Rattle.std.specs.Cmp.Lexicographic.{slice_cmp}
use Rattle.posix_profile.specs.State.{entries_of}
use Rattle.plain_volume.proofs.state.links.entry_at.Goals as goal

pub returns-in-None : goal.returns-in-None
returns-in-None c = sym (map.get-empty (slice_cmp nat_cmp) c.args.name.now) ∙ ap (λ x. map.get (entries_of x) c.args.name.now) c.in-None.ensures
