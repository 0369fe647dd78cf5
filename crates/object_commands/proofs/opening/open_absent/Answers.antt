use Rattle.std.proofs.Common.{◌∙◌, sym, ap}
use Rattle.posix_profile.specs.Changes.{free_descriptor}
use Rattle.posix_profile.specs.laws.Number.{free_descriptor_is}
use Rattle.command_plans.specs.Paths.{place_of}
use Rattle.command_plans.specs.Classes.{Changing}
use Rattle.object_commands.specs.Opens.{open_new}
use Rattle.command_plans.specs.laws.Plan.{tries_same, refused, passed, passed_all, no_descriptor, this_descriptor}
use Rattle.object_commands.proofs.opening.open_absent.Goals as goal

pub returns-then-not-flags : goal.returns-then-not-flags
returns-then-not-flags g c z s holds same is none = refused s _ _ _ _ c.if-not-flags.true

pub returns-then-place : goal.returns-then-place
returns-then-place g c z s holds same is none = refused s _ _ _ _ c.if-place.true ∙ passed s _ _ _ _ c.if-not-flags.false

pub returns-in-Some : goal.returns-in-Some
returns-in-Some g c z s holds same is none =
    let free = c.in-Some.ensures ∙ ap free_descriptor same in
    tries_same z Changing s _ _ (this_descriptor s _ (open_new z c.args.read_only c.args.moment s c.args.flags (place_of c.args.place)) c.in-Some.fd free ∙ passed_all s _ ∙ passed s _ _ _ _ c.if-place.false ∙ passed s _ _ _ _ c.if-not-flags.false)
    c.open_absent_on.result (c.open_absent_on.ensures z s holds (free_descriptor_is s.handles c.in-Some.fd (sym free)).low is none)

pub returns-in-None : goal.returns-in-None
returns-in-None g c z s holds same is none =
    no_descriptor s _ _ (c.in-None.ensures ∙ ap free_descriptor same) ∙ passed_all s _ ∙ passed s _ _ _ _ c.if-place.false ∙ passed s _ _ _ _ c.if-not-flags.false
