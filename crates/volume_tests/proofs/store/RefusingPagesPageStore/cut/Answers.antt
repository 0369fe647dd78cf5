use Rattle.std.proofs.Common.{arith}
use Rattle.volume_tests.proofs.Refusing.{goes_on}
use Rattle.volume_tests.proofs.store.RefusingPagesPageStore.cut.Goals as goal

pub returns-clause-goes_on : goal.returns-clause-goes_on
returns-clause-goes_on g c =
    let answers = c.args.self.now.refused.total in
    goes_on answers answers (g.P.Pages.state c.args.self.now.inner) (g.P.Pages.state c.cut.new.self) (omega arith) c.cut.ensures.goes_on
