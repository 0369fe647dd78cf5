use Rattle.std.proofs.Common.{◌≡◌, ◌∙◌, pos, sym, ap}
use Rattle.std.specs.Int.{w128}
use Rattle.std.proofs.lemmas.Int.{to_z-of_z}
use Rattle.posix_profile.specs.HandleSteps.{seek_to}
use Rattle.command_plans.specs.Classes.{Reporting}
use Rattle.command_plans.specs.Tables.{handle_of}
use Rattle.command_plans.specs.laws.Fact.{not_negative}
use Rattle.command_plans.specs.laws.Plan.{tries_same}
use Rattle.object_commands.proofs.reporting.seek_signed.Goals as goal

pub returns-clause-plans : goal.returns-clause-plans
returns-clause-plans c z s small =
    let same = to_z-of_z w128 c.args.target c.ranges.target in
    let is : c.args.target ≡ pos c.unsigned_abs.result = sym same ∙ not_negative _ c.if-target-lt0.false ∙ ap pos (sym c.unsigned_abs.ensures.value) in
    tries_same z Reporting s _ _ (ap (seek_to s c.args.fd (handle_of c.args.description)) (sym is)) c.seek_to.result (c.seek_to.ensures.plans z s small)
