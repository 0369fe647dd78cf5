use Rattle.std.proofs.Common.{◌≡◌, ap, subst, sym}
use Rattle.std.specs.FinMap as map
use Rattle.std.specs.Prelude.{IfOk}
use Rattle.posix_profile.specs.State.{entries_of}
use Rattle.paged_objects.specs.laws.Holding.{directory_in}
use Rattle.paged_objects.proofs.NamedHere.{named_in}
use Rattle.paged_objects.proofs.reading.find.Goals as goal

pub returns-clause-found : goal.returns-clause-found
returns-clause-found g c = λ z objects n dir is.
    subst (λ m. IfOk c.find.result (λ found. found ≡ map.get m c.args.name.now)) (sym (ap entries_of dir.2))
    (c.find.ensures.found z dir.0 dir.1 (named_in c.args.names.now (g.P.Pages.state c.args.pages.now) z objects n c.args.directory dir) is)

pub returns-clause-fault : goal.returns-clause-fault
returns-clause-fault g c = λ z objects h dir is.
    c.find.ensures.fault z dir.0 dir.1 (directory_in (g.P.Pages.state c.args.pages.now) z objects h c.args.directory dir) is
