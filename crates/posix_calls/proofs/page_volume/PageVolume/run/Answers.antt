use Rattle.posix_calls.proofs.Calls.{runs_pages}
use Rattle.posix_calls.proofs.page_volume.PageVolume.run.Goals as goal

pub returns-clause-goes_on : goal.returns-clause-goes_on
returns-clause-goes_on g c = c.run.ensures.lasts.0

pub returns-clause-runs : goal.returns-clause-runs
returns-clause-runs g c =
    let r = c.run.ensures.runs in (
      r.0,
      r.1,
      r.2,
      runs_pages g.P.Pages.state c.args.commands.now r.0 c.args.replies.now.items c.run.new.replies.items c.args.self.now (record { volume = c.run.new.self }) c.run.ensures.lasts.1
          g.met.P.PageStore.within_limit c.run.ensures.lasts.0.worn c.run.ensures.keeps r.3,
    )
