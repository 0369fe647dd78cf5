use Rattle.std.proofs.Common.{◌∙◌, sym, ap}
use Rattle.posix_profile.specs.Changes.{free_descriptor}
use Rattle.posix_profile.specs.HandleSteps.{may_write}
use Rattle.posix_profile.specs.laws.Number.{free_descriptor_is}
use Rattle.object_commands.specs.Opens.{open_found_on}
use Rattle.object_commands.proofs.Making.{cut_file}
use Rattle.command_plans.specs.laws.Plan.{tries_same, refused, passed, passed_all, no_descriptor, this_descriptor}
use Rattle.object_commands.proofs.opening.open_found.Goals as goal

pub returns-then-is_exclusive : goal.returns-then-is_exclusive
returns-then-is_exclusive g c z s holds same x there = refused s _ _ _ _ (sym c.is_exclusive.ensures ∙ c.if-is_exclusive.true)

pub returns-then-is_wrong_kind : goal.returns-then-is_wrong_kind
returns-then-is_wrong_kind g c z s holds same x there =
    refused s _ _ _ _ (sym (c.is_wrong_kind.ensures z s holds) ∙ c.if-is_wrong_kind.true) ∙ passed s _ _ _ _ (sym c.is_exclusive.ensures ∙ c.if-is_exclusive.false)

pub returns-in-Some : goal.returns-in-Some
returns-in-Some g c z s holds same x there =
    let right = sym (c.is_wrong_kind.ensures z s holds) ∙ c.if-is_wrong_kind.false in
    let free = c.in-Some.ensures ∙ ap free_descriptor same in
    tries_same z _ s _ _ (this_descriptor s _ (open_found_on z c.args.read_only c.args.moment s c.args.flags c.args.number) c.in-Some.fd free ∙ passed_all s _ ∙ passed s _ _ _ _ right ∙ passed s _ _ _ _ (sym c.is_exclusive.ensures ∙ c.if-is_exclusive.false))
    c.open_found_on.result (c.open_found_on.ensures z s holds.sound (free_descriptor_is s.handles c.in-Some.fd (sym free)).low
    (cut_file s.objects c.args.number x c.args.flags.create (may_write c.args.flags.access) c.args.flags.trunc there right))

pub returns-in-None : goal.returns-in-None
returns-in-None g c z s holds same x there =
    no_descriptor s _ _ (c.in-None.ensures ∙ ap free_descriptor same) ∙ passed_all s _ ∙ passed s _ _ _ _ (sym (c.is_wrong_kind.ensures z s holds) ∙ c.if-is_wrong_kind.false) ∙ passed s _ _ _ _ (sym c.is_exclusive.ensures ∙ c.if-is_exclusive.false)
