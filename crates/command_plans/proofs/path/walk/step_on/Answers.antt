use Rattle.command_plans.proofs.path.walk.step_on.Goals as goal

pub returns-in-Some-clause-passes : goal.returns-in-Some-clause-passes
returns-in-Some-clause-passes g c z objects has dir = rw c.in-Some.is (c.pass.ensures.passes z objects has dir)
