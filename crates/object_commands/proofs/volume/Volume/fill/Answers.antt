use Rattle.std.proofs.Common.{◌≡◌, ◌∙◌, refl, sym, ap, subst, take, inl}
use Rattle.std.proofs.lemmas.Bool.{true≢false}
use Rattle.posix_profile.specs.Outcomes.{Outcome, refuse}
use Rattle.posix_profile.specs.Runs.{is_stop}
use Rattle.posix_profile.specs.Steps.{step}
use Rattle.posix_profile.specs.declared.reply.Reply.TheVariants as replies
use Rattle.posix_profile.specs.laws.Own.{command_own}
use Rattle.posix_profile.specs.laws.Step.{step_sound}
use Rattle.command_plans.specs.Classes.{Reporting}
use Rattle.command_plans.specs.Plans.{IsPlan}
use Rattle.command_plans.specs.declared.plan.HandleChange.TheVariants as handle_changes
use Rattle.command_plans.specs.declared.plan.Plan.{Plan}
use Rattle.command_plans.specs.declared.plan.StoreWork.TheVariants as work
use Rattle.object_commands.specs.Reads.{asked_of, reading}
use Rattle.object_commands.proofs.Ending.{error_ends, is_done, refused_ends, refused_unread}
use Rattle.object_commands.proofs.Reading.{read_is, stamped_read}
use Rattle.object_commands.proofs.ReadOnly.{read_only_stays}
use Rattle.object_commands.proofs.volume.Volume.fill.Goals as goal

pub returns-in-Ok-clause-ends : goal.returns-in-Ok-clause-ends
returns-in-Ok-clause-ends g c z s at =
    let m = g.S.ObjectStore.meaning in
    let law = g.met.S.ObjectStore.lawful in
    let a = c.args.self.now in
    let command = reading c.args.fd (asked_of c.args.buffer.now) in
    let meant = step z a.read_only s command in
    let is = c.in-Ok.ensures.plans z s (record { has = at.has; sound = at.sound }) at.handles in
    let reads = c.read_into.ensures.reads in
    let sound = step_sound z a.read_only s command at.has.numbers (stamped_read c.args.fd (asked_of c.args.buffer.now)) at.sound in
    let plan : Plan = record { reply = replies.Data (take c.in-Ok.filled.count c.read_into.new.buffer); handles = handle_changes.Put c.args.fd c.in-Ok.filled.description; work = work.Nothing } in
    inl (is_done m law z Reporting s meant plan a _ at (subst (λ (o : Outcome). IsPlan z Reporting s o plan) (read_is z a.read_only s c.args.fd (asked_of c.args.buffer.now)) is) sound refl
    (λ only. read_only_stays z s command a.read_only only (at.only_read only).handles (at.only_read only).named)
    (law.reads_lasts a.store c.read_into.new.store reads) (law.reads_represent a.store c.read_into.new.store s.objects reads at.has.represents) reads (c.handle.ensures is.range) refl)

pub returns-in-Err-Error-clause-ends : goal.returns-in-Err-Error-clause-ends
returns-in-Err-Error-clause-ends g c z s at =
    let m = g.S.ObjectStore.meaning in
    let law = g.met.S.ObjectStore.lawful in
    let a = c.args.self.now in
    let e = c.in-Err-Error.error in
    let command = reading c.args.fd (asked_of c.args.buffer.now) in
    let meant = step z a.read_only s command in
    let plans = rw c.in-Err-Error.field-0-is at (c.in-Err-Error.ensures.plans z s (record { has = at.has; sound = at.sound }) at.handles) in
    let is : refuse s e ≡ meant = plans ∙ read_is z a.read_only s c.args.fd (asked_of c.args.buffer.now) in
    inl (error_ends m law z Reporting s meant e a _ at is c.read_into.ensures.reads refl refl (ap (λ (o : Outcome). is_stop o.reply) is ∙ (command_own s z a.read_only 0 command.command).goes))

pub returns-in-Err-Fault-NoMemory-clause-ends : goal.returns-in-Err-Fault-NoMemory-clause-ends
returns-in-Err-Fault-NoMemory-clause-ends g c z s at =
    let m = g.S.ObjectStore.meaning in
    let law = g.met.S.ObjectStore.lawful in
    let a = c.args.self.now in
    let meant = step z a.read_only s (reading c.args.fd (asked_of c.args.buffer.now)) in
    let reported = c.pass_over.ensures in
    let b = record c.pass_over.new.self { stopped = is_stop (replies.Error c.pass_over.result) } in
    refused_ends m law z Reporting _ s meant a b (replies.Error c.pass_over.result) at refl
    (law.reads_on a.store c.read_into.new.store b.store c.read_into.ensures.reads reported.reads) (ap (λ v. v.table) reported.same) (ap (λ v. v.read_only) reported.same) reported.reports refl

pub returns-in-Err-Error-clause-unread : goal.returns-in-Err-Error-clause-unread
returns-in-Err-Error-clause-unread g c z s at stop =
    let a = c.args.self.now in
    let command = reading c.args.fd (asked_of c.args.buffer.now) in
    let plans = rw c.in-Err-Error.field-0-is at (c.in-Err-Error.ensures.plans z s (record { has = at.has; sound = at.sound }) at.handles) in
    let is : refuse s c.in-Err-Error.error ≡ step z a.read_only s command = plans ∙ read_is z a.read_only s c.args.fd (asked_of c.args.buffer.now) in
    absurd (true≢false (sym stop ∙ ap (λ (o : Outcome). is_stop o.reply) is ∙ (command_own s z a.read_only 0 command.command).goes))

pub returns-in-Err-Fault-NoMemory-clause-unread : goal.returns-in-Err-Fault-NoMemory-clause-unread
returns-in-Err-Fault-NoMemory-clause-unread g c z s at stop =
    let law = g.met.S.ObjectStore.lawful in
    let reported = c.pass_over.ensures in
    refused_unread g.S.ObjectStore.meaning law _ c.pass_over.new.self.store (replies.Error c.pass_over.result) (law.reads_on _ c.read_into.new.store _ c.read_into.ensures.reads reported.reads) reported.reports stop
