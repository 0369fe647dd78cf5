use Rattle.std.proofs.Common.{◌≡◌, ◌∙◌, ◌-◌, ap, arith}
use Rattle.posix_profile.specs.Charge.{charge}
use Rattle.posix_profile.specs.Outcomes.{answer}
use Rattle.volume_terms.specs.Sizes.{capacity}
use Rattle.posix_profile.specs.declared.reply.Reply.TheVariants as replies
use Rattle.command_plans.specs.Classes.{Reporting}
use Rattle.command_plans.specs.Plans.{frees, leaves_device}
use Rattle.command_plans.specs.laws.Plan.{plan_reported}
use Rattle.object_commands.proofs.reporting.space.Goals as goal

pub returns-clause-plans : goal.returns-clause-plans
returns-clause-plans g c z s holds =
    let is = c.sizes-sizes.ensures ∙ holds.has.sizes in
    let unit = c.page_bytes.ensures ∙ ap (λ z. z.page_bytes) is in
    let total = c.capacity.ensures ∙ ap capacity is in
    let again = c.capacity-2.ensures ∙ ap capacity is in
    let costs = c.charge.ensures z s.objects holds.has in
    let free : c.saturating_sub.result ≡ capacity z - charge z s.objects = omega (arith, c.saturating_sub.ensures, again, costs) in
    plan_reported z Reporting s _ _ _ c.tell.ensures tt
    (ap (λ n. answer s (replies.SpaceInfo (record { unit = n; total = c.capacity.result; free = c.saturating_sub.result }))) unit
    ∙ ap (λ n. answer s (replies.SpaceInfo (record { unit = z.page_bytes; total = n; free = c.saturating_sub.result }))) total
    ∙ ap (λ n. answer s (replies.SpaceInfo (record { unit = z.page_bytes; total = capacity z; free = n }))) free)

pub returns-clause-memory : goal.returns-clause-memory
returns-clause-memory g c = ap (λ p. frees p.work) c.tell.ensures

pub returns-clause-device : goal.returns-clause-device
returns-clause-device g c = ap (λ p. leaves_device p.work) c.tell.ensures
