use Rattle.std.proofs.Common.{true, inr, refl, sym, subst, ◌∙◌}
use Rattle.nand_model.specs.Changes.{OnlyReads}
use Rattle.nand_model.specs.MemoryState.{device}
use Rattle.posix_calls.specs.laws.Trusting.{same_seen}
use Rattle.flash_program.proofs.Stating.{reported_alike}
use Rattle.flash_program.proofs.space.check_device.Goals as goal

pub returns : goal.returns
returns g c =
    let mounted = c.in-Ok.ensures.mounted in
    let lies = c.abandon.ensures in
    let same = sym lies.1 ∙ c.ask_space-reply.ensures.leaves refl ∙ mounted.since.seen_is in
    inr (record {
      first = c.in-Ok.volume;
      last = c.ask_space-reply.new.volume;
      reply = c.ask_space-reply.result;
      mounted = mounted;
      issued = c.ask_space-reply.ensures;
      reported = reported_alike _ c.ask_space-reply.result _ _ c.report_space-reported.result c.read_only.ensures c.report_space-reported.ensures;
      reads = subst (λ d. OnlyReads (device c.args.device) d) (sym (same_seen true lies.0 mounted.now (device c.abandon.result) same (sym mounted.since.reads.lasts.honest))) mounted.since.reads;
    })
