use Rattle.std.proofs.Common.{◌≡◌, true, refl, sym, inl, inr, ◌∙◌, ap, subst}
use Rattle.std.proofs.lemmas.Bool.{false_from_ne_true, true≢false}
use Rattle.posix_profile.specs.Outcomes.{Outcome, refuse}
use Rattle.posix_profile.specs.Requests.{command_of, stamped_of}
use Rattle.posix_profile.specs.Runs.{is_stop}
use Rattle.posix_profile.specs.declared.reply.Reply.TheVariants as replies
use Rattle.posix_profile.specs.laws.Error.{error_keeps}
use Rattle.posix_profile.specs.laws.Own.{command_own}
use Rattle.posix_profile.specs.laws.Step.{step_sound}
use Rattle.posix_profile.specs.Steps.{step}
use Rattle.object_store.specs.declared.refusal.Refusal.TheVariants as refusals
use Rattle.command_plans.specs.Classes.{Reporting, class_of}
use Rattle.command_plans.specs.Plans.{does_nothing}
use Rattle.object_commands.proofs.Ending.{at_on, error_ends, ends_on, nothing_reports, plan_nothing, refused_ends, refused_unread, stop_unread}
use Rattle.object_commands.proofs.ReadOnly.{forgets_none, read_only_answers, read_only_stays}
use Rattle.object_commands.proofs.volume.Volume.answer.Goals as goal

pub returns-in-Ok-clause-ends : goal.returns-in-Ok-clause-ends
returns-in-Ok-clause-ends g c z s at =
    let m = g.S.ObjectStore.meaning in
    let law = g.met.S.ObjectStore.lawful in
    let class = class_of c.args.self.now.read_only s (command_of c.args.issued.now.request) in
    let meant = step z c.args.self.now.read_only s (stamped_of c.args.issued.now) in
    let is = c.in-Ok.ensures.plans z s (record { has = at.has; sound = at.sound }) at.handles in
    let reads = c.plan.ensures.reads in
    let sound = step_sound z c.args.self.now.read_only s (stamped_of c.args.issued.now) at.has.numbers c.is_stamped.ensures at.sound in
    let own = (command_own s z c.args.self.now.read_only c.args.issued.now.moment (command_of c.args.issued.now.request)).goes in
    let mid = at_on m law z s c.args.self.now _ reads refl refl at in
    ends_on m law z class _ _ s meant c.args.self.now _ _ c.carry_out.result reads c.in-Ok.ensures.memory
    (c.carry_out.ensures.ends z s mid class meant is sound own (error_keeps z c.args.self.now.read_only c.args.issued.now.moment s (command_of c.args.issued.now.request)) (λ only. read_only_stays z s (stamped_of c.args.issued.now) c.args.self.now.read_only only (at.only_read only).handles (at.only_read only).named))

pub returns-in-Err-Error-clause-ends : goal.returns-in-Err-Error-clause-ends
returns-in-Err-Error-clause-ends g c z s at =
    let m = g.S.ObjectStore.meaning in
    let law = g.met.S.ObjectStore.lawful in
    let e = c.in-Err-Error.error in
    let class = class_of c.args.self.now.read_only s (command_of c.args.issued.now.request) in
    let meant = step z c.args.self.now.read_only s (stamped_of c.args.issued.now) in
    let is : refuse s e ≡ meant = rw c.in-Err-Error.field-0-is at (c.in-Err-Error.ensures.plans z s (record { has = at.has; sound = at.sound }) at.handles) in
    let own = (command_own s z c.args.self.now.read_only c.args.issued.now.moment (command_of c.args.issued.now.request)).goes in
    inl (error_ends m law z class s meant e c.args.self.now _ at is c.plan.ensures.reads refl refl (ap (λ (o : Outcome). is_stop o.reply) is ∙ own))

pub returns-in-Err-Fault-NoMemory-clause-ends : goal.returns-in-Err-Fault-NoMemory-clause-ends
returns-in-Err-Fault-NoMemory-clause-ends g c z s at =
    let m = g.S.ObjectStore.meaning in
    let law = g.met.S.ObjectStore.lawful in
    let a = c.args.self.now in
    let class = class_of a.read_only s (command_of c.args.issued.now.request) in
    let meant = step z a.read_only s (stamped_of c.args.issued.now) in
    let reported = c.pass_over.ensures in
    let b = record c.pass_over.new.self { stopped = is_stop (replies.Error c.pass_over.result) } in
    refused_ends m law z class _ s meant a b (replies.Error c.pass_over.result) at (false_from_ne_true _ (λ yes'. c.in-Err-Fault-NoMemory.ensures.memory yes' (c.in-Err-Fault-NoMemory.field-0-is ∙ ap refusals.Fault c.in-Err-Fault-NoMemory.field-0-0-is)))
    (law.reads_on a.store c.plan.new.store b.store c.plan.ensures.reads reported.reads) (ap (λ v. v.table) reported.same) (ap (λ v. v.read_only) reported.same) reported.reports refl

pub returns-in-Ok-clause-only : goal.returns-in-Ok-clause-only
returns-in-Ok-clause-only g c only z s at =
    let m = g.S.ObjectStore.meaning in
    let law = g.met.S.ObjectStore.lawful in
    let a = c.args.self.now in
    let class = class_of a.read_only s (command_of c.args.issued.now.request) in
    let meant = step z a.read_only s (stamped_of c.args.issued.now) in
    let is = c.in-Ok.ensures.plans z s (record { has = at.has; sound = at.sound }) at.handles in
    let was = at.only_read only in
    elim (read_only_answers z s (stamped_of c.args.issued.now) a.read_only only was.handles was.named) [
      | inl none ↦
          let left = c.in-Ok.ensures.leaves none in
          inr (subst (λ x. m.leaves x c.carry_out.new.self.store) left.0 (c.carry_out.ensures.leaves left.1))
      | inr why ↦ inl (law.reads_on a.store c.plan.new.store c.carry_out.new.self.store c.plan.ensures.reads (c.carry_out.ensures.reads (plan_nothing z class s meant c.in-Ok.plan is why)))
    ]

pub returns-in-Ok-clause-unread : goal.returns-in-Ok-clause-unread
returns-in-Ok-clause-unread g c only z s at stop =
    let m = g.S.ObjectStore.meaning in
    let law = g.met.S.ObjectStore.lawful in
    let a = c.args.self.now in
    let class = class_of a.read_only s (command_of c.args.issued.now.request) in
    let meant = step z a.read_only s (stamped_of c.args.issued.now) in
    let is = c.in-Ok.ensures.plans z s (record { has = at.has; sound = at.sound }) at.handles in
    let was = at.only_read only in
    let none : does_nothing c.in-Ok.plan.work ≡ true = elim (read_only_answers z s (stamped_of c.args.issued.now) a.read_only only was.handles was.named) [
      | inl none ↦ forgets_none z s.objects was.named c.in-Ok.plan.work is.can (c.in-Ok.ensures.leaves none).1
      | inr why ↦ plan_nothing z class s meant c.in-Ok.plan is why
    ] in
    let sound = step_sound z a.read_only s (stamped_of c.args.issued.now) at.has.numbers c.is_stamped.ensures at.sound in
    let own = (command_own s z a.read_only c.args.issued.now.moment (command_of c.args.issued.now.request)).goes in
    let mid = at_on m law z s a _ c.plan.ensures.reads refl refl at in
    law.unread_on a.store c.plan.new.store c.carry_out.new.self.store c.plan.ensures.reads
    (stop_unread m z _ s meant _ _ c.carry_out.result own stop
    (c.carry_out.ensures.ends z s mid Reporting meant (nothing_reports z class s meant c.in-Ok.plan is none) sound own (error_keeps z a.read_only c.args.issued.now.moment s (command_of c.args.issued.now.request)) (λ only. read_only_stays z s (stamped_of c.args.issued.now) a.read_only only was.handles was.named)))

pub returns-in-Err-Error-clause-unread : goal.returns-in-Err-Error-clause-unread
returns-in-Err-Error-clause-unread g c only z s at stop =
    let a = c.args.self.now in
    let is : refuse s c.in-Err-Error.error ≡ step z a.read_only s (stamped_of c.args.issued.now) = rw c.in-Err-Error.field-0-is at (c.in-Err-Error.ensures.plans z s (record { has = at.has; sound = at.sound }) at.handles) in
    let own = (command_own s z a.read_only c.args.issued.now.moment (command_of c.args.issued.now.request)).goes in
    absurd (true≢false (sym stop ∙ ap (λ (o : Outcome). is_stop o.reply) is ∙ own))

pub returns-in-Err-Fault-NoMemory-clause-unread : goal.returns-in-Err-Fault-NoMemory-clause-unread
returns-in-Err-Fault-NoMemory-clause-unread g c only z s at stop =
    let law = g.met.S.ObjectStore.lawful in
    let reported = c.pass_over.ensures in
    refused_unread g.S.ObjectStore.meaning law _ c.pass_over.new.self.store (replies.Error c.pass_over.result) (law.reads_on _ c.plan.new.store _ c.plan.ensures.reads reported.reads) reported.reports stop
