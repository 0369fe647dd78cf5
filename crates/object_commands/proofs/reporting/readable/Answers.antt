use Rattle.std.proofs.Common.{◌∙◌, sym, ap, not}
use Rattle.std.specs.FinMap as map
use Rattle.posix_profile.specs.State.{Handles}
use Rattle.posix_profile.specs.declared.reply.Errno.TheVariants as errors
use Rattle.object_commands.specs.Reads.{read_of}
use Rattle.command_plans.specs.Tables.{handle_of}
use Rattle.command_plans.specs.laws.Plan.{refused, passed, passed_all, no_handle, this_handle, no_file, this_file, file_of}
use Rattle.object_commands.proofs.reporting.readable.Goals as goal

pub returns-then-not-may_read : goal.returns-then-not-may_read
returns-then-not-may_read g c z s holds same count =
    refused s _ _ _ _ (ap not (sym c.may_read.ensures ∙ c.if-not-may_read.true)) ∙ this_handle s _ _ (handle_of c.in-Some.description) (c.in-Some.ensures ∙ ap (λ (h : Handles). map.get h c.args.fd) same)

pub returns-then-not-is_file : goal.returns-then-not-is_file
returns-then-not-is_file g c z s holds same count =
    let h = handle_of c.in-Some.description in
    let stood = c.in-Some.ensures ∙ ap (λ (h : Handles). map.get h c.args.fd) same in
    let there = (holds.sound.well_formed.handles c.args.fd h (sym stood)).there in
    no_file s errors.EISDIR _ _ there.0 there.1 (sym (c.is_file.ensures z s.objects holds.has) ∙ c.if-not-is_file.true)
    ∙ passed_all s _ ∙ passed s _ _ _ _ (ap not (sym c.may_read.ensures ∙ c.if-not-may_read.false)) ∙ this_handle s _ _ h stood

pub returns-else-not-is_file : goal.returns-else-not-is_file
returns-else-not-is_file g c z s holds same =
    let h = handle_of c.in-Some.description in
    let stood = c.in-Some.ensures ∙ ap (λ (h : Handles). map.get h c.args.fd) same in
    let there = (holds.sound.well_formed.handles c.args.fd h (sym stood)).there in
    let file = file_of s.objects c.in-Some.description.object there.0 there.1 (sym (c.is_file.ensures z s.objects holds.has) ∙ c.if-not-is_file.false) in
    record {
      represents = sym stood;
      file = file;
      means = λ count. this_file s errors.EISDIR (read_of s c.args.fd h count) c.in-Some.description.object file _ file.2
          ∙ passed_all s _ ∙ passed s _ _ _ _ (ap not (sym c.may_read.ensures ∙ c.if-not-may_read.false)) ∙ this_handle s _ _ h stood;
    }

pub returns-in-None : goal.returns-in-None
returns-in-None g c z s holds same count = no_handle s _ _ (c.in-None.ensures ∙ ap (λ (h : Handles). map.get h c.args.fd) same)
