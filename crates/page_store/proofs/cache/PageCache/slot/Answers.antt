use Rattle.std.proofs.Common.{rules, ◌≡◌, sym, ap, ◌∙◌, option_map}
use Rattle.std.specs.Map.Iter.{deref_pair}
use Rattle.page_store.specs.Slots.{is_key}
use Rattle.page_store.proofs.CachedPages.{first_found, same_key}
use Rattle.page_store.proofs.cache.PageCache.slot.Goals as goal

pub returns-then-last-key-2 : goal.returns-then-last-key-2
returns-then-last-key-2 c =
    let key = c.args.key in
    let last = c.in-Some.last.now in
    let object : key.object ≡ last.0 = search rules in
    let chunk : key.chunk ≡ last.1 = search rules in
    sym (first_found (is_key key.object key.chunk) c.args.self.now.slots.entries (last, c.in-Some.slot.now)
    (sym c.peek_mru.ensures ∙ ap (option_map deref_pair) c.in-Some.is) (same_key key.object key.chunk last object chunk))
