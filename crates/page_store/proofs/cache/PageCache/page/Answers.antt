use Rattle.std.proofs.Common.{sym}
use Rattle.page_store.proofs.CachedPages.{page_sized}
use Rattle.page_store.proofs.cache.PageCache.page.Goals as goal

pub returns-in-Some-clause-size : goal.returns-in-Some-clause-size
returns-in-Some-clause-size c =
    page_sized _ c.args.self.now.slots c.args.self.now.slots c.args.self.now.sized (c.args.key.object, c.args.key.chunk) c.in-Some.slot.now c.page.result (sym c.in-Some.ensures) c.page.ensures
