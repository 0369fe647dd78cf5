use Rattle.test_devices.proofs.Followed.{followed_marked}
use Rattle.test_devices.proofs.flash.TestFlash.mark_bad.Goals as goal

pub invariant_of-self : goal.invariant_of-self
invariant_of-self c = record { followed = followed_marked c.args.block _ _ _ _ _ c.args.self.now.followed c.mark_bad.ensures.marks }
