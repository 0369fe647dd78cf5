use Rattle.std.proofs.Common.{◌∙◌, sym, ap, refl}
use Rattle.std.specs.FinMap as map
use Rattle.posix_profile.specs.State.{Objects, Handles}
use Rattle.posix_profile.specs.Outcomes.{answer}
use Rattle.posix_profile.specs.declared.reply.Reply.TheVariants as replies
use Rattle.command_plans.specs.Tables.{handle_of}
use Rattle.command_plans.specs.laws.Plan.{no_handle, this_handle}
use Rattle.object_commands.proofs.opening.close.Goals as goal

pub returns-in-Some-clause-plans : goal.returns-in-Some-clause-plans
returns-in-Some-clause-plans g c z s holds same =
    let stood = c.in-Some.ensures ∙ ap (λ (h : Handles). map.get h c.args.fd) same in
    let h = handle_of c.in-Some.description in
    record {
      means =
          ap (λ (o : Objects). answer (record { objects = o; handles = map.remove s.handles c.args.fd }) replies.Done) (c.forgotten.ensures.leaves z s holds same h (sym stood) refl)
          ∙ this_handle s _ _ h stood;
      can = c.forgotten.ensures.can z s holds same h (sym stood) refl;
      range = tt;
      suits = c.forgotten.ensures.suits;
    }

pub returns-in-None-clause-plans : goal.returns-in-None-clause-plans
returns-in-None-clause-plans g c z s holds same = no_handle s _ _ (c.in-None.ensures ∙ ap (λ (h : Handles). map.get h c.args.fd) same)
