use Rattle.std.proofs.Common.{ap, sym, ◌∙◌, ◌++◌}
use Rattle.std.specs.Map.Iter.{deref_pair}
use Rattle.std.proofs.lemmas.Map.Iter.{rest_more}
use Rattle.chunk_index.specs.Listing.{keys_in, keys_of}
use Rattle.chunk_index.proofs.Parts.{list_room}
use Rattle.chunk_index.proofs.shelf.Shelf.list_block.Goals as goal

pub list_block-requires : goal.list_block-requires
list_block-requires c =
    let now = c.loop-object.keys.items in
    let more = rest_more deref_pair c.loop-object.object-iterator c.next.new.self c.next.result (c.in-Some.object, c.in-Some.entries) c.in-Some.is c.next.ensures.steps in
    list_room now c.args.keys.now.items (keys_of c.args.block c.in-Some.object.now c.in-Some.entries.now.entries.items) (keys_in c.args.block c.next.new.self) (keys_in c.args.block c.args.self.now.objects.entries)
    (ap (λ r. now ++ keys_in c.args.block r) (sym more) ∙ c.loop-object.invariant.items) _ _ c.requires c.loop-object.invariant.room
