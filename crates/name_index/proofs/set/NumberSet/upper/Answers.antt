use Rattle.std.proofs.Common.{sym}
use Rattle.name_index.proofs.Running.{upper_here}
use Rattle.name_index.proofs.set.NumberSet.upper.Goals as goal

pub returns-in-Some : goal.returns-in-Some
returns-in-Some c = upper_here c.args.self.now.runs c.args.at c.in-Some.run'.now (sym c.in-Some.ensures.value) c.upper.result c.upper.ensures
