use Rattle.std.proofs.Common.{subst}
use Rattle.block_state.specs.TableOf.{table}
use Rattle.chunk_index.specs.Entries.{one_at}
use Rattle.chunk_index.specs.Counts.{HasCounted}
use Rattle.chunk_index.proofs.Counting.{counted_block}
use Rattle.chunk_index.proofs.change.release.Goals as goal

pub release-requires-clause-block : goal.release-requires-clause-block
release-requires-clause-block c = counted_block _ c.in-Some.page (subst (λ p. HasCounted (table c.args.blocks.now) (one_at p)) c.in-Some.is c.requires.totaled)
