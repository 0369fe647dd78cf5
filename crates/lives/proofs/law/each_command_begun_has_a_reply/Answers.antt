use Rattle.lives.specs.laws.Sessions.{replies_begun, begun_within}
use Rattle.lives.proofs.law.each_command_begun_has_a_reply.Goals as goal

pub returns-clause-each : goal.returns-clause-each
returns-clause-each c = replies_begun

pub returns-clause-most : goal.returns-clause-most
returns-clause-most c = begun_within
