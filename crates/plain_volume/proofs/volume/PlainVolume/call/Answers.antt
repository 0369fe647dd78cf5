use Rattle.plain_volume.proofs.Plain.{call_ends}
use Rattle.plain_volume.proofs.volume.PlainVolume.call.Goals as goal

pub invariant_of-self : goal.invariant_of-self
invariant_of-self c = (call_ends c.args.self.now c.args.stamped.now c.call.result c.self.inside.volume c.call.new.self c.self.invariant c.self.view_is c.call.ensures.ends).plain

pub returns-clause-reply : goal.returns-clause-reply
returns-clause-reply c = (call_ends c.args.self.now c.args.stamped.now c.call.result c.self.inside.volume c.call.new.self c.self.invariant c.self.view_is c.call.ensures.ends).reply

pub returns-clause-state : goal.returns-clause-state
returns-clause-state c = (call_ends c.args.self.now c.args.stamped.now c.call.result c.self.inside.volume c.call.new.self c.self.invariant c.self.view_is c.call.ensures.ends).state

pub returns-clause-memory : goal.returns-clause-memory
returns-clause-memory c = (call_ends c.args.self.now c.args.stamped.now c.call.result c.self.inside.volume c.call.new.self c.self.invariant c.self.view_is c.call.ensures.ends).memory

pub returns-clause-goes_on : goal.returns-clause-goes_on
returns-clause-goes_on c = (call_ends c.args.self.now c.args.stamped.now c.call.result c.self.inside.volume c.call.new.self c.self.invariant c.self.view_is c.call.ensures.ends).goes_on

pub returns-clause-sound : goal.returns-clause-sound
returns-clause-sound c = (call_ends c.args.self.now c.args.stamped.now c.call.result c.self.inside.volume c.call.new.self c.self.invariant c.self.view_is c.call.ensures.ends).plain.sound
