use Rattle.posix_calls.proofs.Calls.{is_at}
use Rattle.posix_calls.proofs.page_volume.PageVolume.describe.Goals as goal

pub returns-clause-describes : goal.returns-clause-describes
returns-clause-describes g c goes z s is = c.describe.ensures.describes goes z s (is_at g.P.Pages.state z s c.args.self.now is)
