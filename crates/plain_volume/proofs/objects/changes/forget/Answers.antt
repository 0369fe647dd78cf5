use Rattle.std.specs.Ordering.{nat_cmp}
use Rattle.std.specs.Cmp.{nat_cmp_total}
use Rattle.std.specs.FinMap as map
use Rattle.std.proofs.Common.{ℕ}
use Rattle.plain_volume.specs.PlainState.{object_of}
use Rattle.name_map.specs.laws.Seen.{remove_seen}
use Rattle.plain_volume.proofs.objects.changes.forget.Goals as goal

pub returns : goal.returns
returns c = remove_seen nat_cmp (λ (k : ℕ). k) object_of nat_cmp_total map.nat_cmp-IsAntisymmetric c.args.objects.now.entries c.remove.new.self.entries c.args.number c.len-count.ensures.ordered c.remove.ensures.entries
