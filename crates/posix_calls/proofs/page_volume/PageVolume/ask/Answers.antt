use Rattle.posix_profile.specs.Requests.{stamped_of}
use Rattle.posix_calls.proofs.Called.{called}
use Rattle.posix_calls.proofs.page_volume.PageVolume.ask.Goals as goal

pub returns : goal.returns
returns g c = called g.P.Pages.state g.met.P.PageStore.within_limit c.args.self.now (record { volume = c.ask.new.self }) (stamped_of c.args.issued.now) c.ask.result c.ask.ensures
