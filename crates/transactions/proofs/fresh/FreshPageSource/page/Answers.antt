use Rattle.std.proofs.Common.{arith}
use Rattle.std.proofs.lemmas.Grind.{common_steps}
use Rattle.std.proofs.lemmas.Option.{gets}
use Rattle.transactions.proofs.fresh.FreshPageSource.page.Goals as goal

pub returns-clause-name : goal.returns-clause-name
returns-clause-name g c =
    let place = c.requires.place in
    let numbered = c.requires.can_write.numbered in
    grind (arith, common_steps, gets)

pub returns-clause-bytes : goal.returns-clause-bytes
returns-clause-bytes g c = λ h.
    let place = c.requires.place in
    grind (arith, common_steps, gets)
