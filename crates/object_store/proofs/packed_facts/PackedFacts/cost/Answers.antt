use Rattle.std.proofs.Common.{arith}
use Rattle.object_store.proofs.packed_facts.PackedFacts.cost.Goals as goal

pub units-requires : goal.units-requires
units-requires c = omega (arith, c.page_bytes.ensures, c.args.sizes.least_page)
