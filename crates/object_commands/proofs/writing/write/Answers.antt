use Rattle.std.proofs.Common.{◌∙◌, sym, ap, not}
use Rattle.std.specs.FinMap as map
use Rattle.posix_profile.specs.State.{Handles}
use Rattle.command_plans.specs.Tables.{handle_of}
use Rattle.command_plans.specs.laws.Plan.{tries_same, refused, passed, passed_all, no_handle, this_handle}
use Rattle.object_commands.proofs.writing.write.Goals as goal

pub returns-then-not-may_write : goal.returns-then-not-may_write
returns-then-not-may_write g c z s holds same =
    refused s _ _ _ _ (ap not (sym c.may_write.ensures ∙ c.if-not-may_write.true)) ∙ this_handle s _ _ (handle_of c.in-Some.description) (c.in-Some.ensures ∙ ap (λ (h : Handles). map.get h c.args.fd) same)

pub returns-else-not-may_write : goal.returns-else-not-may_write
returns-else-not-may_write g c z s holds same =
    let stood = c.in-Some.ensures ∙ ap (λ (h : Handles). map.get h c.args.fd) same in
    let may = sym c.may_write.ensures ∙ c.if-not-may_write.false in
    let is = holds.sound.well_formed.handles c.args.fd (handle_of c.in-Some.description) (sym stood) in
    tries_same z _ s _ _ (passed_all s _ ∙ passed s _ _ _ _ (ap not may) ∙ this_handle s _ _ (handle_of c.in-Some.description) stood) c.write_some.result
    (c.write_some.ensures z s holds (is.writes may) is.descriptor)

pub returns-in-None : goal.returns-in-None
returns-in-None g c z s holds same = no_handle s _ _ (c.in-None.ensures ∙ ap (λ (h : Handles). map.get h c.args.fd) same)
