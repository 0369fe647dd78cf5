use Rattle.std.proofs.Common.{IfOk, length, subst, arith}
use Rattle.std.proofs.lemmas.Result.{IfOk-weaker}
use Rattle.pages.specs.Maps.{PageMap, has}
use Rattle.pages.specs.State.{PagesState}
use Rattle.salvage.specs.Orphans.{ListsUnnamed}
use Rattle.salvage.specs.Reached.{ListsOrphans}
use Rattle.salvage.specs.SeenBy.{seen_by}
use Rattle.salvage.proofs.Seeing.{still_seen}
use Rattle.salvage.proofs.Unnamed.{orphans_are}
use Rattle.salvage.proofs.orphans.find_orphans.Goals as goal

pub returns-clause-orphans : goal.returns-clause-orphans
returns-clause-orphans g c = λ z is listed rises.
    let old : PagesState = seen_by c.args.pages.now in
    let mid : PagesState = seen_by c.find_named.new.pages in
    let headers = c.args.headers.now in
    let lookups = c.find_named.ensures.lookups in
    let named = c.in_ok-named.ensures.named z is in
    let list = subst (λ (m : PageMap). IfOk c.find_unnamed.result (λ list. ListsUnnamed z (has m) c.in_ok-named.named headers (length headers) list.items)) lookups.present
    (c.find_unnamed.ensures.unnamed z (still_seen z old mid lookups is)) in
    IfOk-weaker c.find_unnamed.result (λ list. ListsUnnamed z (has old.present) c.in_ok-named.named headers (length headers) list.items)
    (λ list. ListsOrphans z (has old.present) list.items)
    (λ list l. orphans_are z old.present c.in_ok-named.named headers (length headers) list.items listed rises named l (omega arith)) list
