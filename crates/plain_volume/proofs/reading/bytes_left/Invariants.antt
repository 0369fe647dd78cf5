use Rattle.plain_volume.proofs.StampedRequest.{IsDrainedBy}
use Rattle.plain_volume.proofs.reading.bytes_left.Given as goal

-- what is read so far are the first bytes
abbrev pub invariant-loop-round : goal.invariant-loop-round
invariant-loop-round g l = record { drained : IsDrainedBy g.V.Answers.shows l.initial.volume l.volume l.fd l.bytes.items }
