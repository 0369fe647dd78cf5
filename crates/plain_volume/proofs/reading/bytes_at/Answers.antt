use Rattle.plain_volume.proofs.StampedRequest.{reads_bytes}
use Rattle.plain_volume.proofs.reading.bytes_at.Goals as goal

pub returns : goal.returns
returns g c = reads_bytes g.V.Answers.shows g.met.V.Answers.sound c.args.volume.now c.open_to_read.new.volume c.bytes_left-left.new.volume c.close-closed.new.volume c.args.path.now c.in_ok-fd.fd c.in_ok-bytes.bytes.items
    c.in_ok-fd.ensures c.in_ok-bytes.ensures c.in_ok-closed.ensures
