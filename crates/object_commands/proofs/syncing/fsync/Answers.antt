use Rattle.std.proofs.Common.{◌∙◌, ap}
use Rattle.std.specs.FinMap as map
use Rattle.posix_profile.specs.State.{Handles}
use Rattle.command_plans.specs.Tables.{handle_of}
use Rattle.command_plans.specs.laws.Plan.{plan_same, no_handle, this_handle}
use Rattle.object_commands.proofs.syncing.fsync.Goals as goal

pub returns-in-Some-clause-plans : goal.returns-in-Some-clause-plans
returns-in-Some-clause-plans c z s same =
    plan_same z _ s _ _ (this_handle s _ _ (handle_of c.in-Some.field-0) (c.in-Some.ensures ∙ ap (λ (h : Handles). map.get h c.args.fd) same)) c.sync.result (c.sync.ensures.plans z s)

pub returns-in-None-clause-plans : goal.returns-in-None-clause-plans
returns-in-None-clause-plans c z s same = no_handle s _ _ (c.in-None.ensures ∙ ap (λ (h : Handles). map.get h c.args.fd) same)
