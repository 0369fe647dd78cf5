use Rattle.powercut.proofs.Doing.{used_unmounted, used_abandoned}
use Rattle.powercut.proofs.Ended.{unmount_ended}
use Rattle.powercut.proofs.serving.use_volume.Goals as goal

pub returns-then-unmount-clause-used : goal.returns-then-unmount-clause-used
returns-then-unmount-clause-used g c =
    let ends = c.unmount-device.ensures.ends in
    used_unmounted _ c.args.commands.now c.in_ok-replies.replies.items c.args.volume c.do_commands.new.volume c.in_ok-replies.ensures _ _ ends.pages ends.device_is ends.ends_on ends.stopped ends.read_only
    (λ goes. record { replies_are = ends.replies_are goes; done = ends.done goes; tree = ends.tree goes; cause = unmount_ended ends goes; only_done = ends.read_only_done goes; checked = ends.checked goes })

pub returns-else-unmount-clause-used : goal.returns-else-unmount-clause-used
returns-else-unmount-clause-used g c =
    used_abandoned _ c.args.commands.now c.in_ok-replies.replies.items c.args.volume c.do_commands.new.volume c.in_ok-replies.ensures _ c.abandon.ensures
