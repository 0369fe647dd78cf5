use Rattle.volume_tests.proofs.Refusing.{refreshes}
use Rattle.volume_tests.proofs.store.RefusingPagesPageStore.refresh.Goals as goal

pub returns : goal.returns
returns g c =
    let was = c.args.self.now in
    refreshes was.refused.total c.args.block (g.P.Pages.state was.inner) (g.P.Pages.state c.refresh.new.self) c.refresh.result c.refresh.ensures
