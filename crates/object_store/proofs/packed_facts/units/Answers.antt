use Rattle.std.proofs.Common.{arith}
use Rattle.volume_terms.specs.laws.Rounding.{ceiling_is}
use Rattle.object_store.proofs.packed_facts.units.Goals as goal

pub returns : goal.returns
returns c = omega (arith, c.saturating_add.ensures, c.div_ceil.ensures, ceiling_is c.args.size c.args.unit c.requires)
