use Rattle.std.proofs.Common.{subst, sym, ◌+◌}
use Rattle.chunk_index.specs.Entries.{chunk}
use Rattle.chunk_index.specs.Following.{IsStartFor}
use Rattle.chunk_index.proofs.Following.{start_at}
use Rattle.chunk_index.proofs.object.ObjectEntries.start_after.Goals as goal

pub returns-in-Ok : goal.returns-in-Ok
returns-in-Ok c = subst (λ b. IsStartFor chunk c.args.self.now.entries.items b (c.in-Ok.at + 1)) (sym c.in-Some.is) (start_at _ c.args.self.now.rises c.in-Some.number _ c.in-Ok.ensures.found)
