use Rattle.std.proofs.Common.{◌≡◌, ◌∙◌, pos, sym, ap, w64}
use Rattle.std.proofs.lemmas.Int.{to_z-of_z}
use Rattle.posix_profile.specs.HandleSteps.{truncate_to}
use Rattle.command_plans.specs.Classes.{Changing}
use Rattle.command_plans.specs.laws.Fact.{not_negative}
use Rattle.command_plans.specs.laws.Plan.{tries_same}
use Rattle.object_commands.proofs.writing.truncate_signed.Goals as goal

pub returns : goal.returns
returns g c z s holds file handle same =
    let whole = to_z-of_z w64 c.args.length c.ranges.length in
    let is : c.args.length ≡ pos c.unsigned_abs.result = sym whole ∙ not_negative _ c.if-length-lt0.false ∙ ap pos (sym c.unsigned_abs.ensures.value) in
    tries_same z Changing s _ _ (ap (truncate_to z c.args.moment s handle) (sym is)) c.truncate_to.result (c.truncate_to.ensures z s holds file handle same)
