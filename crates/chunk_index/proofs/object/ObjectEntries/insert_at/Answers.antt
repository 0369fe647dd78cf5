use Rattle.std.proofs.Common.{subst, sym, ap}
use Rattle.chunk_index.specs.Lists.{Rises}
use Rattle.chunk_index.specs.Entries.{chunk}
use Rattle.chunk_index.proofs.Finding.{rises_insert}
use Rattle.chunk_index.proofs.Altering.{alters_insert, either}
use Rattle.chunk_index.proofs.object.ObjectEntries.insert_at.Goals as goal

pub invariant_of-self : goal.invariant_of-self
invariant_of-self c = record { rises = subst (Rises chunk) (sym c.reserve_one.ensures) c.args.self.now.rises }

pub invariant_of-self-2 : goal.invariant_of-self-2
invariant_of-self-2 c = record { rises = rw (c.insert.ensures.items, c.reserve_one.ensures) (either (Rises chunk) _ _ _ (rises_insert chunk _ _ _ c.requires.gap c.pack.result (ap chunk c.pack.ensures) c.args.self.now.rises) c.args.self.now.rises) }

pub returns-clause-ok : goal.returns-clause-ok
returns-clause-ok c = rw (c.in_ok-insert.ensures.items, c.pack.ensures, c.reserve_one.ensures) (alters_insert _ c.args.entry _ c.requires.gap)
