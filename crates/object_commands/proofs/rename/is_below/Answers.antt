use Rattle.std.proofs.Common.{◌≤◌, arith}
use Rattle.posix_profile.specs.Charge.{charge}
use Rattle.object_commands.proofs.Above.{up_start, up_more, up_found, up_top, up_end}
use Rattle.object_commands.proofs.rename.is_below.Goals as goal

pub loop-step-init : goal.loop-step-init
loop-step-init g c z objects has dir reached = up_start z objects c.args.number c.args.directory has.forest dir reached

pub returns-then-here-number : goal.returns-then-here-number
returns-then-here-number g c z objects has dir reached =
    up_found z objects c.args.number c.args.directory has.forest dir reached c.loop-step.here c.loop-step.step c.if-here-number.true (c.loop-step.invariant z objects has dir reached)

pub loop-step-preserved : goal.loop-step-preserved
loop-step-preserved g c z objects has dir reached =
    let up = c.loop-step.invariant z objects has dir reached in
    up_more z objects c.args.number c.args.directory c.loop-step.here c.in-Some.above c.loop-step.step has.forest c.if-here-number.false (c.in-Some.ensures z objects has up.dir) up

pub returns-in-None : goal.returns-in-None
returns-in-None g c z objects has dir reached =
    let up = c.loop-step.invariant z objects has dir reached in
    up_top z objects c.args.number c.args.directory has.forest dir reached c.loop-step.here c.loop-step.step c.if-here-number.false (c.in-None.ensures z objects has up.dir) up

pub returns : goal.returns
returns g c z objects has dir reached =
    let far : charge z objects ≤ c.loop-step.step = omega (arith, c.charge-step-end.ensures z objects has, c.loop-step-test.false) in
    up_end z objects c.args.number c.args.directory has.forest dir reached c.loop-step.here c.loop-step.step far (c.loop-step.invariant z objects has dir reached)
