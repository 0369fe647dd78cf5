use Rattle.std.proofs.Common.{◌∙◌, sym, ap, w64}
use Rattle.std.proofs.lemmas.Int.{to_z-of_z}
use Rattle.std.specs.FinMap as map
use Rattle.posix_profile.specs.State.{Handles}
use Rattle.command_plans.specs.Classes.{Reporting}
use Rattle.command_plans.specs.Tables.{handle_of}
use Rattle.command_plans.specs.laws.Plan.{tries_same, no_handle, this_handle}
use Rattle.object_commands.proofs.reporting.seek.Goals as goal

pub returns-in-Some-clause-plans : goal.returns-in-Some-clause-plans
returns-in-Some-clause-plans g c z s holds same =
    let stood = c.in-Some.ensures ∙ ap (λ (h : Handles). map.get h c.args.fd) same in
    tries_same z Reporting s _ _ (this_handle s _ _ (handle_of c.in-Some.description) stood) c.seek_open.result
    (rw (to_z-of_z w64 c.args.offset c.ranges.offset) at (c.seek_open.ensures.plans z s holds (sym stood)))

pub returns-in-None-clause-plans : goal.returns-in-None-clause-plans
returns-in-None-clause-plans g c z s holds same = no_handle s _ _ (c.in-None.ensures ∙ ap (λ (h : Handles). map.get h c.args.fd) same)
