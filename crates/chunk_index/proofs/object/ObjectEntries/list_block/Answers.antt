use Rattle.std.proofs.Common.{ap, sym, ◌∙◌, ◌++◌}
use Rattle.chunk_index.specs.Listing.{key_in, keys_of}
use Rattle.std.proofs.Common.{drop, get_or, ◌+◌, ◌≡◌}
use Rattle.chunk_index.proofs.Parts.{list_room, rest_more}
use Rattle.chunk_index.proofs.object.ObjectEntries.list_block.Goals as goal

pub list_block-requires : goal.list_block-requires
list_block-requires c =
    let b = c.args.block in
    let o = c.args.object in
    let es = c.deref-entry-items.result.now in
    let now = c.loop-entry.keys.items in
    let rest = keys_of b o (drop (c.loop-entry.entry-index + 1) es) in
    let item : c.entry-item.result ≡ get_or es c.loop-entry.entry-index c.entry-item.result = c.entry-item.is in
    let more = rest_more b o es c.loop-entry.entry-index c.entry-item.result c.loop-entry-test.true in
    let here = ap (λ e. key_in b o e ++ rest) (c.unpack.ensures.entry ∙ item) ∙ sym more in
    list_room now c.args.keys.now.items (key_in b o c.unpack.result) rest (keys_of b o es) (ap (λ r. now ++ r) here ∙ c.loop-entry.invariant.items) _ _ (rw c.deref-entry-items.ensures.value c.requires) c.loop-entry.invariant.room
