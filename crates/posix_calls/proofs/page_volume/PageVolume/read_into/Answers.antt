use Rattle.object_commands.specs.Reads.{asked_of, read_reply, reading}
use Rattle.posix_calls.proofs.Called.{called}
use Rattle.posix_calls.proofs.page_volume.PageVolume.read_into.Goals as goal

pub returns-clause-called : goal.returns-clause-called
returns-clause-called g c = called g.P.Pages.state g.met.P.PageStore.within_limit c.args.self.now (record { volume = c.read_into.new.self })
    (reading c.args.fd (asked_of c.args.buffer.now)) (read_reply c.read_into.new.buffer c.read_into.result) c.read_into.ensures.served
