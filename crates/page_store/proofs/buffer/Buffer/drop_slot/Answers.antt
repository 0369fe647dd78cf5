use Rattle.std.proofs.Common.{rules, ◌≡◌, ◌<◌, ◌+◌, ◌++◌, List, [], ◌∷◌, length, Some, slice_get, refl, ◌∙◌, ap, arith}
use Rattle.std.proofs.lemmas.List.{length-append, length-set}
use Rattle.std.proofs.lemmas.Option.{slice_get_read}
use Rattle.volume_terms.specs.laws.List.{push_last}
use Rattle.flash_tree.specs.declared.place.FreshPage.{FreshPage}
use Rattle.page_store.specs.BufferOf.{contents}
use Rattle.page_store.proofs.Keys.{holding, buffers, here, buffered_ready, ready_prepared}
use Rattle.page_store.proofs.Preparing.{committed_on}
use Rattle.page_store.proofs.SlotDropped.{dropped_last, dropped_moved, left_sized, moved_sized}
use Rattle.page_store.proofs.buffer.Buffer.drop_slot.Goals as goal

pub place-requires : goal.place-requires
place-requires c =
    let pages : List FreshPage = contents c.args.self.now in
    let p : FreshPage = c.index.result.now in
    let at : slice_get pages c.args.slot ≡ Some p = slice_get_read pages (length pages) c.args.slot p refl c.requires.slot c.index.ensures in
    record { prepared = ready_prepared c.args.index.now _ _ (buffered_ready c.args.index.now _ _ c.args.slot ((holding _ _ c.requires.buffers).reported _ _ c.args.slot (here pages c.args.slot p at))); number = tt }

pub place-requires-then-slot-len : goal.place-requires-then-slot-len
place-requires-then-slot-len c =
    let init : List FreshPage = c.pop.new.self.items in
    let last : FreshPage = c.in-Some.last in
    let split : contents c.args.self.now ≡ init ++ last ∷ [] = rw c.in-Some.is at c.pop.ensures.items in
    let at : slice_get (contents c.args.self.now) (length init) ≡ Some last = ap (λ (xs : List FreshPage). slice_get xs (length init)) split ∙ push_last init last in
    record { prepared = c.place.ensures.prepared _ _ (ready_prepared c.args.index.now _ _ (buffered_ready c.args.index.now _ _ (length init) ((holding _ _ c.requires.buffers).reported _ _ (length init) (here (contents c.args.self.now) (length init) last at)))); number = omega (arith, c.requires.slot, c.args.self.now.within_limit, c.args.self.now.small) }

pub invariant_of-self-then-slot-len : goal.invariant_of-self-then-slot-len
invariant_of-self-then-slot-len c =
    let self = c.args.self.now in
    let init : List FreshPage = c.pop.new.self.items in
    let last : FreshPage = c.in-Some.last in
    let split : contents self ≡ init ++ last ∷ [] = rw c.in-Some.is at c.pop.ensures.items in
    let len : length (contents self) ≡ length init + 1 = ap length split ∙ length-append init (last ∷ []) in
    record {
      small = self.small;
      within_limit = omega (arith, len, length-set init c.args.slot last, self.within_limit);
      room = search rules;
      next_room = self.next_room;
      sized = moved_sized (contents self) init last c.args.slot self.page_bytes split self.sized;
      written_sized = self.written_sized;
    }

pub invariant_of-self-else-slot-len : goal.invariant_of-self-else-slot-len
invariant_of-self-else-slot-len c =
    let self = c.args.self.now in
    let init : List FreshPage = c.pop.new.self.items in
    let last : FreshPage = c.in-Some.last in
    let split : contents self ≡ init ++ last ∷ [] = rw c.in-Some.is at c.pop.ensures.items in
    let len : length (contents self) ≡ length init + 1 = ap length split ∙ length-append init (last ∷ []) in
    record {
      small = self.small;
      within_limit = omega (arith, len, self.within_limit);
      room = search rules;
      next_room = self.next_room;
      sized = left_sized (contents self) init last self.page_bytes split self.sized;
      written_sized = self.written_sized;
    }

pub returns-then-slot-len-clause-buffers : goal.returns-then-slot-len-clause-buffers
returns-then-slot-len-clause-buffers c =
    let pages : List FreshPage = contents c.args.self.now in
    let p : FreshPage = c.index.result.now in
    let at : slice_get pages c.args.slot ≡ Some p = slice_get_read pages (length pages) c.args.slot p refl c.requires.slot c.index.ensures in
    let split : pages ≡ c.pop.new.self.items ++ c.in-Some.last ∷ [] = rw c.in-Some.is at c.pop.ensures.items in
    let lt : c.args.slot < length c.pop.new.self.items = omega (arith, c.if-slot-len.true, c.len.ensures) in
    buffers _ _ (dropped_moved c.args.index.now c.place.new.self c.place-then-slot-len.new.self pages c.pop.new.self.items p c.in-Some.last c.args.slot split at lt (holding _ _ c.requires.buffers) c.place.ensures.places c.place-then-slot-len.ensures.places).0

pub returns-then-slot-len-clause-committed : goal.returns-then-slot-len-clause-committed
returns-then-slot-len-clause-committed c = committed_on _ _ _ c.place.ensures.committed c.place-then-slot-len.ensures.committed

pub returns-then-slot-len-clause-drops : goal.returns-then-slot-len-clause-drops
returns-then-slot-len-clause-drops c =
    let pages : List FreshPage = contents c.args.self.now in
    let p : FreshPage = c.index.result.now in
    let at : slice_get pages c.args.slot ≡ Some p = slice_get_read pages (length pages) c.args.slot p refl c.requires.slot c.index.ensures in
    let split : pages ≡ c.pop.new.self.items ++ c.in-Some.last ∷ [] = rw c.in-Some.is at c.pop.ensures.items in
    let lt : c.args.slot < length c.pop.new.self.items = omega (arith, c.if-slot-len.true, c.len.ensures) in
    (dropped_moved c.args.index.now c.place.new.self c.place-then-slot-len.new.self pages c.pop.new.self.items p c.in-Some.last c.args.slot split at lt (holding _ _ c.requires.buffers) c.place.ensures.places c.place-then-slot-len.ensures.places).1

pub returns-else-slot-len-clause-buffers : goal.returns-else-slot-len-clause-buffers
returns-else-slot-len-clause-buffers c =
    let pages : List FreshPage = contents c.args.self.now in
    let p : FreshPage = c.index.result.now in
    let init : List FreshPage = c.pop.new.self.items in
    let at : slice_get pages c.args.slot ≡ Some p = slice_get_read pages (length pages) c.args.slot p refl c.requires.slot c.index.ensures in
    let split : pages ≡ init ++ c.in-Some.last ∷ [] = rw c.in-Some.is at c.pop.ensures.items in
    let len : length pages ≡ length init + 1 = ap length split ∙ length-append init (c.in-Some.last ∷ []) in
    let end : c.args.slot ≡ length init = omega (arith, len, c.requires.slot, c.if-slot-len.false, c.len.ensures) in
    buffers _ _ (dropped_last c.args.index.now c.place.new.self pages init p c.in-Some.last c.args.slot split at end (holding _ _ c.requires.buffers) c.place.ensures.places).0

pub returns-else-slot-len-clause-drops : goal.returns-else-slot-len-clause-drops
returns-else-slot-len-clause-drops c =
    let pages : List FreshPage = contents c.args.self.now in
    let p : FreshPage = c.index.result.now in
    let init : List FreshPage = c.pop.new.self.items in
    let at : slice_get pages c.args.slot ≡ Some p = slice_get_read pages (length pages) c.args.slot p refl c.requires.slot c.index.ensures in
    let split : pages ≡ init ++ c.in-Some.last ∷ [] = rw c.in-Some.is at c.pop.ensures.items in
    let len : length pages ≡ length init + 1 = ap length split ∙ length-append init (c.in-Some.last ∷ []) in
    let end : c.args.slot ≡ length init = omega (arith, len, c.requires.slot, c.if-slot-len.false, c.len.ensures) in
    (dropped_last c.args.index.now c.place.new.self pages init p c.in-Some.last c.args.slot split at end (holding _ _ c.requires.buffers) c.place.ensures.places).1
