use Rattle.std.proofs.Common.{rules}
use Rattle.test_devices.proofs.Followed.{followed_new}
use Rattle.test_devices.proofs.flash.TestFlash.new.Goals as goal

pub invariant_of-result : goal.invariant_of-result
invariant_of-result c = record { followed = followed_new c.blocks-2.result _ _ _ (c.in_ok-nexts.ensures.items_if_clones_equal (λ y is. search rules)) (search rules) (search rules) }
