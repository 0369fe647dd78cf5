use Rattle.std.proofs.Common.{◌≡◌, ◌≤◌, [], ◌∷◌, length, ap, arith}
use Rattle.std.proofs.lemmas.List.{length-append, length-set}
use Rattle.page_store.specs.BufferOf.{contents}
use Rattle.page_store.proofs.Putting.{before_buffers, before_puts, past_lacks, past_buffers, past_puts, filled_sized, pushed_sized}
use Rattle.page_store.proofs.buffer.Buffer.put.Goals as goal

pub overflow_cast-count : goal.overflow_cast-count
overflow_cast-count c = omega (arith, c.len-count.ensures, c.args.self.now.small, c.args.self.now.within_limit)

pub place_in_buffer-slot-requires-clause-number : goal.place_in_buffer-slot-requires-clause-number
place_in_buffer-slot-requires-clause-number c = omega (arith, c.len-count.ensures, c.args.self.now.small, c.args.self.now.within_limit)

pub push_reserved-requires : goal.push_reserved-requires
push_reserved-requires c =
    let len : c.len-count.result ≡ length (contents c.args.self.now) = omega (arith, c.len-count.ensures) in
    let past : length (contents c.args.self.now) ≤ c.place_in_buffer-slot.result = omega (arith, len, c.if-slot-count.false) in
    let one = past_lacks c.args.index.now c.place_in_buffer-slot.new.self (contents c.args.self.now) c.args.page c.len-count.result c.place_in_buffer-slot.result c.requires.buffers len c.place_in_buffer-slot.ensures.number c.place_in_buffer-slot.ensures.places past in
    omega (arith, len, one, c.requires.room, c.args.self.now.room)

pub invariant_of-self : goal.invariant_of-self
invariant_of-self c =
    let self = c.args.self.now in
    record {
      small = self.small;
      within_limit = omega (arith, length-set (contents self) c.place_in_buffer-slot.result c.args.page, self.within_limit);
      room = self.room;
      next_room = self.next_room;
      sized = filled_sized (contents self) c.args.page c.place_in_buffer-slot.result self.page_bytes self.sized c.requires.size;
      written_sized = self.written_sized;
    }

pub invariant_of-self-else-slot-count : goal.invariant_of-self-else-slot-count
invariant_of-self-else-slot-count c =
    let self = c.args.self.now in
    let len : c.len-count.result ≡ length (contents self) = omega (arith, c.len-count.ensures) in
    let past : length (contents self) ≤ c.place_in_buffer-slot.result = omega (arith, len, c.if-slot-count.false) in
    let one = past_lacks c.args.index.now c.place_in_buffer-slot.new.self (contents self) c.args.page c.len-count.result c.place_in_buffer-slot.result c.requires.buffers len c.place_in_buffer-slot.ensures.number c.place_in_buffer-slot.ensures.places past in
    record {
      small = self.small;
      within_limit = omega (arith, length-append (contents self) (c.args.page ∷ []), one, c.requires.room, ap length c.push_reserved.ensures.items);
      room = omega (arith, self.room, c.push_reserved.ensures.capacity);
      next_room = self.next_room;
      sized = rw c.push_reserved.ensures.items (pushed_sized (contents self) c.args.page self.page_bytes self.sized c.requires.size);
      written_sized = self.written_sized;
    }

pub returns-then-slot-count-clause-buffers : goal.returns-then-slot-count-clause-buffers
returns-then-slot-count-clause-buffers c =
    let len : c.len-count.result ≡ length (contents c.args.self.now) = omega (arith, c.len-count.ensures) in
    before_buffers _ _ (contents c.args.self.now) c.args.page c.len-count.result c.place_in_buffer-slot.result c.requires.buffers len c.place_in_buffer-slot.ensures.number c.place_in_buffer-slot.ensures.places (omega (arith, len, c.if-slot-count.true))

pub returns-then-slot-count-clause-puts : goal.returns-then-slot-count-clause-puts
returns-then-slot-count-clause-puts c =
    let len : c.len-count.result ≡ length (contents c.args.self.now) = omega (arith, c.len-count.ensures) in
    before_puts _ _ (contents c.args.self.now) c.args.page c.len-count.result c.place_in_buffer-slot.result c.requires.buffers len c.place_in_buffer-slot.ensures.number c.place_in_buffer-slot.ensures.places (omega (arith, len, c.if-slot-count.true))

pub returns-else-slot-count-clause-buffers : goal.returns-else-slot-count-clause-buffers
returns-else-slot-count-clause-buffers c =
    let len : c.len-count.result ≡ length (contents c.args.self.now) = omega (arith, c.len-count.ensures) in
    rw c.push_reserved.ensures.items (past_buffers _ _ (contents c.args.self.now) c.args.page c.len-count.result c.place_in_buffer-slot.result c.requires.buffers len c.place_in_buffer-slot.ensures.number c.place_in_buffer-slot.ensures.places (omega (arith, len, c.if-slot-count.false)))

pub returns-else-slot-count-clause-puts : goal.returns-else-slot-count-clause-puts
returns-else-slot-count-clause-puts c =
    let len : c.len-count.result ≡ length (contents c.args.self.now) = omega (arith, c.len-count.ensures) in
    rw c.push_reserved.ensures.items (past_puts _ _ (contents c.args.self.now) c.args.page c.len-count.result c.place_in_buffer-slot.result c.requires.buffers len c.place_in_buffer-slot.ensures.number c.place_in_buffer-slot.ensures.places (omega (arith, len, c.if-slot-count.false)))
