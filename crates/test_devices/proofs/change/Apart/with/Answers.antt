use Rattle.test_devices.proofs.change.Apart.with.Goals as goal

pub invariant_of-result : goal.invariant_of-result
invariant_of-result c = record { apart = c.in_ok-change.ensures.apart c.args.self.apart c.in_ok-next.ensures }
