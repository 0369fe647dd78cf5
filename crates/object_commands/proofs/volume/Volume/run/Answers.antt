use Rattle.std.proofs.Common.{◌<◌, ◌∙◌, ◌++◌, ◌∷◌, [], List, refl, length, ap, arith}
use Rattle.posix_profile.specs.declared.reply.Reply.{Reply}
use Rattle.object_commands.proofs.RunSteps.{runs_none, runs_more, at_index}
use Rattle.object_commands.proofs.volume.Volume.run.Goals as goal

pub loop-i-init : goal.loop-i-init
loop-i-init g c = record {
  lasts = g.met.S.ObjectStore.lawful.reads_lasts _ _ (g.met.S.ObjectStore.lawful.reads_nothing c.args.self.now.store);
  keeps = refl;
  runs = runs_none g.S.ObjectStore.meaning g.met.S.ObjectStore.lawful c.args.commands.now c.args.replies.now.items c.args.self.now;
}

pub loop-i-preserved : goal.loop-i-preserved
loop-i-preserved g c =
    let m = g.S.ObjectStore.meaning in
    let law = g.met.S.ObjectStore.lawful in
    let lt : c.loop-i.i < length c.args.commands.now = omega (arith, c.loop-i-test.true) in
    record {
      lasts = law.lasts_on _ _ _ c.loop-i.invariant.lasts c.call-reply.ensures.lasts;
      keeps = c.call-reply.ensures.keeps ∙ c.loop-i.invariant.keeps;
      runs = runs_more m law c.args.commands.now c.loop-i.i c.args.replies.now.items c.loop-i.replies.items c.push.new.self.items c.index-commands-i.result c.call-reply.result c.args.self.now c.loop-i.self c.call-reply.new.self
          c.loop-i.invariant.runs (at_index c.args.commands.now c.loop-i.i c.index-commands-i.result lt c.index-commands-i.is)
          (c.in_ok-push.ensures.items ∙ ap (λ (rs : List Reply). rs ++ c.call-reply.result ∷ []) c.reserve.ensures.items)
          c.loop-i.invariant.keeps c.loop-i.invariant.lasts c.call-reply.ensures.stopped c.call-reply.ensures.stops c.call-reply.ensures.ends c.call-reply.ensures.only c.call-reply.ensures.unread c.call-reply.ensures.leaves c.call-reply.ensures.power;
    }
