use Rattle.std.proofs.Common.{◌≡◌, ◌++◌, length, rules, arith, subst, sym, ◌∙◌, ap}
use Rattle.plain_volume.proofs.StampedRequest.{IsDrainedBy, drains_none, drains_more, drains_all}
use Rattle.plain_volume.proofs.reading.bytes_left.Goals as goal

pub loop-round-init : goal.loop-round-init
loop-round-init g c = record {
  drained = subst (λ bytes. IsDrainedBy g.V.Answers.shows c.args.volume.now c.args.volume.now c.args.fd bytes) (sym c.new-bytes.ensures.items) (drains_none g.V.Answers.shows c.args.volume.now c.args.fd);
}

pub loop-round-preserved : goal.loop-round-preserved
loop-round-preserved g c = record {
  drained = drains_more g.V.Answers.shows c.args.volume.now c.loop-round.volume c.ask.new.volume c.args.fd 4096 c.loop-round.bytes.items c.in_ok-part.part.items c.in_ok-reply.reply
      c.loop-round.invariant.drained c.in_ok-reply.ensures c.in_ok-part.ensures c.extend_from_slice.new.self.items (c.in_ok-extend_from_slice.ensures.items ∙ ap (λ part. c.loop-round.bytes.items ++ part) c.deref.ensures.value);
}

pub returns-then-is_empty : goal.returns-then-is_empty
returns-then-is_empty g c =
    let none : length c.in_ok-part.part.items ≡ 0 = search rules in
    drains_all g.V.Answers.shows c.args.volume.now c.loop-round.volume c.ask.new.volume c.args.fd 4096 c.loop-round.bytes.items c.in_ok-part.part.items c.in_ok-reply.reply
    c.loop-round.invariant.drained c.in_ok-reply.ensures c.in_ok-part.ensures (omega arith) none
