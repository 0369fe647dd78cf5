use Rattle.std.proofs.Common.{refl, ◌∙◌, ap, inl}
use Rattle.std.proofs.lemmas.Bool.{false_from_ne_true}
use Rattle.posix_profile.specs.Outcomes.{Outcome}
use Rattle.posix_profile.specs.Runs.{is_stop}
use Rattle.posix_profile.specs.declared.reply.Reply.TheVariants as replies
use Rattle.command_plans.specs.Plans.{frees}
use Rattle.object_commands.proofs.Ending.{is_done, refused_ends}
use Rattle.object_commands.proofs.volume.Volume.carry_out.Goals as goal

pub returns-in-Ok-clause-ends : goal.returns-in-Ok-clause-ends
returns-in-Ok-clause-ends g c z s at class meant is sound own keeps stays =
    let done = c.in-Ok.ensures.works z s.objects at.has is.can in
    inl (is_done g.S.ObjectStore.meaning g.met.S.ObjectStore.lawful z class s meant c.args.plan c.args.self.now _ at is sound refl stays c.work.ensures.lasts done.0 done.1 (c.handle.ensures is.range)
    (ap (λ (o : Outcome). is_stop o.reply) is.means ∙ own))

pub returns-in-Err-NoMemory-clause-ends : goal.returns-in-Err-NoMemory-clause-ends
returns-in-Err-NoMemory-clause-ends g c z s at class meant is sound own keeps stays =
    let m = g.S.ObjectStore.meaning in
    let law = g.met.S.ObjectStore.lawful in
    let a = c.args.self.now in
    let none = rw c.in-Err-NoMemory.field-0-is at c.in-Err-NoMemory.ensures.memory in
    let left : m.reads a.store c.work.new.store = rw c.in-Err-NoMemory.field-0-is at (c.in-Err-NoMemory.ensures.works z s.objects at.has is.can) in
    let reported = c.pass_over.ensures in
    let b = record c.pass_over.new.self { stopped = is_stop (replies.Error c.pass_over.result) } in
    refused_ends m law z class (frees c.args.plan.work) s meant a b (replies.Error c.pass_over.result) at (false_from_ne_true _ (λ yes'. none yes' refl))
    (law.reads_on a.store c.work.new.store b.store left reported.reads) (ap (λ v. v.table) reported.same) (ap (λ v. v.read_only) reported.same) reported.reports refl
