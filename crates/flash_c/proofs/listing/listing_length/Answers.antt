use Rattle.std.proofs.Common.{ap, length, arith}
use Rattle.salvage.specs.declared.reported.SalvagedName.{SalvagedName}
use Rattle.flash_c.proofs.EntryBytes.{at_least, next_length}
use Rattle.flash_c.proofs.listing.listing_length.Goals as goal

pub returns-then-bytes-room : goal.returns-then-bytes-room
returns-then-bytes-room c = omega (
  arith,
  c.len-bytes.ensures,
  ap (λ (n : SalvagedName). length n.name.items) c.entry-item.is,
  at_least c.args.names.now c.loop-entry.entry-index c.entry-item.result c.loop-entry-test.true,
  c.loop-entry.invariant.totaled,
  c.loop-entry.invariant.within,
  c.if-bytes-room.true,
)

pub loop-entry-preserved : goal.loop-entry-preserved
loop-entry-preserved c = record {
  totaled = omega (
    arith,
    c.len-bytes.ensures,
    ap (λ (n : SalvagedName). length n.name.items) c.entry-item.is,
    next_length c.args.names.now c.loop-entry.entry-index c.entry-item.result c.loop-entry-test.true,
    c.loop-entry.invariant.totaled,
  );
  within = omega (arith, c.loop-entry.invariant.within, c.if-bytes-room.false);
}
