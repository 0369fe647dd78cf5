use Rattle.std.proofs.Common.{◌∙◌, sym}
use Rattle.command_plans.specs.Classes.{Changing}
use Rattle.command_plans.specs.laws.Plan.{tries_same, refused, passed, passed_all}
use Rattle.object_commands.proofs.naming.rmdir_at.Goals as goal

pub returns-then-ends_in_dot : goal.returns-then-ends_in_dot
returns-then-ends_in_dot g c z s holds same is = refused s _ _ _ _ (sym c.ends_in_dot.ensures ∙ c.if-ends_in_dot.true)

pub returns-then-ends_in_dot_dot : goal.returns-then-ends_in_dot_dot
returns-then-ends_in_dot_dot g c z s holds same is =
    refused s _ _ _ _ (sym c.ends_in_dot_dot.ensures ∙ c.if-ends_in_dot_dot.true) ∙ passed s _ _ _ _ (sym c.ends_in_dot.ensures ∙ c.if-ends_in_dot.false)

pub returns-then-is_only_slashes : goal.returns-then-is_only_slashes
returns-then-is_only_slashes g c z s holds same is =
    refused s _ _ _ _ (sym c.is_only_slashes.ensures ∙ c.if-is_only_slashes.true)
    ∙ passed s _ _ _ _ (sym c.ends_in_dot_dot.ensures ∙ c.if-ends_in_dot_dot.false) ∙ passed s _ _ _ _ (sym c.ends_in_dot.ensures ∙ c.if-ends_in_dot.false)

pub returns : goal.returns
returns g c z s holds same is =
    let dot = sym c.ends_in_dot.ensures ∙ c.if-ends_in_dot.false in
    let dots = sym c.ends_in_dot_dot.ensures ∙ c.if-ends_in_dot_dot.false in
    let slashes = sym c.is_only_slashes.ensures ∙ c.if-is_only_slashes.false in
    tries_same z Changing s _ _ (passed_all s _ ∙ passed s _ _ _ _ slashes ∙ passed s _ _ _ _ dots ∙ passed s _ _ _ _ dot)
    c.rmdir_named.result (c.rmdir_named.ensures z s holds same (record { place = is; no_dot = dot; no_dot_dot = dots; some = slashes }))
