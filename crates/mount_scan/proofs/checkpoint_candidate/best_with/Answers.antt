use Rattle.std.proofs.Common.{subst}
use Rattle.mount_scan.specs.CheckpointCandidates.{FirstIs}
use Rattle.mount_scan.proofs.CheckpointCandidates.{stays_none}
use Rattle.mount_scan.proofs.checkpoint_candidate.best_with.Goals as goal

pub returns-in-None-clause-greatest : goal.returns-in-None-clause-greatest
returns-in-None-clause-greatest c flash is were = stays_none flash c.args.block c.args.best (subst (FirstIs flash c.args.block) c.in-None.is is) were
