use Rattle.std.proofs.Common.{rules}
use Rattle.block_state.specs.TableOf.{table}
use Rattle.log_tests.proofs.volumes.Volume.commit.Goals as goal

pub write_group-requires-clause-source : goal.write_group-requires-clause-source
write_group-requires-clause-source g c = c.may_commit.ensures.can _ _ (search rules) (search rules) c.args.self.now.can_write.numbers.0

pub write_group-requires-clause-ordinary : goal.write_group-requires-clause-ordinary
write_group-requires-clause-ordinary g c = λ _. c.may_commit.ensures.ordinary (table c.args.self.now.blocks).next_group (search rules)
