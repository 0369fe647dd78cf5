use Rattle.std.proofs.Common.{arith, refl}
use Rattle.page_store.proofs.Totaled.{new_few}
use Rattle.page_store.proofs.buffer.Buffer.has_room.Goals as goal

pub returns-then-len-most : goal.returns-then-len-most
returns-then-len-most c = (
  λ yes. omega (arith, new_few c.args.index.now c.args.pages.now, c.if-pages-most.true, c.if-len-most.true, c.len.ensures, c.most-most.ensures),
  λ within_limit. refl,
)
