use Rattle.lives.specs.laws.Sessions.{synced_whole}
use Rattle.lives.proofs.law.a_done_sync_of_all_leaves_all.Goals as goal

pub returns : goal.returns
returns c = synced_whole
