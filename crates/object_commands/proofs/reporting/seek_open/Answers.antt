use Rattle.std.proofs.Common.{◌≡◌, ◌∙◌, ◌+ℤ◌, pos, length, List, ℕ, ap, w64, rules}
use Rattle.std.specs.Int.{w128}
use mir.Val.{SFits}
use Rattle.std.proofs.lemmas.Int.{to_z-of_z}
use Rattle.std.specs.FinMap as map
use Rattle.posix_profile.specs.HandleSteps.{seek_origin, seek_to}
use Rattle.posix_profile.specs.Outcomes.{Outcome}
use Rattle.posix_profile.specs.declared.reply.Errno.TheVariants as errors
use Rattle.object_store.specs.Facts.{bytes_of}
use Rattle.command_plans.specs.Classes.{Reporting}
use Rattle.command_plans.specs.Tables.{handle_of}
use Rattle.command_plans.specs.laws.Plan.{tries_same, no_file, this_file, file_of}
use Rattle.object_commands.proofs.reporting.seek_open.Goals as goal

pub returns-in_default-clause-plans : goal.returns-in_default-clause-plans
returns-in_default-clause-plans g c z s holds stood =
    let there = (holds.sound.well_formed.handles c.args.fd (handle_of c.args.description) stood).there in
    no_file s errors.EINVAL _ _ there.0 there.1 (c.in_default.ensures z s.objects holds.has)

pub returns-clause-plans : goal.returns-clause-plans
returns-clause-plans g c z s holds stood =
    let is = holds.sound.well_formed.handles c.args.fd (handle_of c.args.description) stood in
    let size = c.in-Some.ensures z s.objects holds.has in
    let file = file_of s.objects c.args.description.object is.there.0 is.there.1 size.0 in
    let act : List ℕ → Outcome = λ bytes. seek_to s c.args.fd (handle_of c.args.description) (pos (seek_origin c.args.whence c.args.description.offset (length bytes)) +ℤ c.args.offset) in
    let target : c.seek_target.result ≡ pos (seek_origin c.args.whence c.args.description.offset (length (bytes_of (map.get s.objects c.args.description.object)))) +ℤ c.args.offset =
    (rw (to_z-of_z w64 c.args.offset c.ranges.offset) at c.seek_target.ensures) ∙ ap (λ n. pos n +ℤ c.args.offset) (c.seek_origin-origin.ensures ∙ ap (seek_origin c.args.whence c.args.description.offset) size.1) in
    let fits : SFits w128 c.seek_target.result = search rules in
    tries_same z Reporting s _ _ (ap (seek_to s c.args.fd (handle_of c.args.description)) (to_z-of_z w128 c.seek_target.result fits ∙ target) ∙ this_file s errors.EINVAL act c.args.description.object file _ file.2)
    c.seek_signed.result (c.seek_signed.ensures.plans z s is.descriptor)
