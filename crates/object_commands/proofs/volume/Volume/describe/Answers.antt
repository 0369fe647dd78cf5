use Rattle.std.proofs.Common.{◌≡◌, ◌∙◌, ap, sym, Some, None}
use Rattle.std.specs.FinMap as map
use Rattle.posix_profile.specs.State.{Handles}
use Rattle.command_plans.specs.Tables.{handle_of}
use Rattle.command_plans.specs.laws.Fact.{none_info}
use Rattle.command_plans.specs.laws.Plan.{stat_reported}
use Rattle.object_commands.specs.Describing.{open_on, not_open}
use Rattle.object_commands.proofs.volume.Volume.describe.Goals as goal

pub returns-in_default-clause-describes : goal.returns-in_default-clause-describes
returns-in_default-clause-describes g c goes z s at =
    not_open (sym (c.in_default.ensures ∙ ap (λ (h : Handles). map.get h c.args.fd) at.handles))

pub returns-in-Some-info-clause-describes : goal.returns-in-Some-info-clause-describes
returns-in-Some-info-clause-describes g c goes z s at =
    let stood = c.in-Some.ensures ∙ ap (λ (h : Handles). map.get h c.args.fd) at.handles in
    open_on (sym stood) (stat_reported s c.in-Some.description.object c.in-Some-info.info _ (c.in-Some-info.ensures z s.objects at.has))

-- an open descriptor stands for an object
pub returns-in-None-clause-describes : goal.returns-in-None-clause-describes
returns-in-None-clause-describes g c goes z s at =
    let stood = c.in-Some.ensures ∙ ap (λ (h : Handles). map.get h c.args.fd) at.handles in
    let there = (at.sound.well_formed.handles c.args.fd (handle_of c.in-Some.description) (sym stood)).there in
    let none = none_info s.objects c.in-Some.description.object _ (c.in-None.ensures z s.objects at.has) in
    let two : None ≡ Some there.0 = sym none ∙ there.1 in absurd cc
