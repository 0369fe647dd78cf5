use Rattle.std.proofs.Common.{arith, ◌∙◌}
use Rattle.page_store.proofs.Putting.{data_blank}
use Rattle.page_store.specs.Shown.{present_data}
use Rattle.page_store.specs.BufferOf.{contents}
use Rattle.chunk_index.specs.Maps.{present}
use Rattle.pages.specs.laws.Maps.{page_here}
use Rattle.pages.specs.Memory.{blank_flash}
use Rattle.page_store.proofs.Preparing.{committed_on}
use Rattle.page_store.proofs.buffer.Buffer.apply.Goals as goal

pub put_all-requires-clause-prepared : goal.put_all-requires-clause-prepared
put_all-requires-clause-prepared c = λ o k i of. c.cut_all.ensures.prepared o k (c.requires.pages.prepared o k i of)

pub returns-clause-committed : goal.returns-clause-committed
returns-clause-committed c = committed_on _ _ _ c.cut_all.ensures.committed c.put_all.ensures.committed

pub returns-clause-within_limit : goal.returns-clause-within_limit
returns-clause-within_limit c = let room = c.cut_all.ensures.room c.args.change.pages.items c.requires.pages.apart in omega (arith, room, c.put_all.ensures.within_limit)

pub returns-clause-in_buffer : goal.returns-clause-in_buffer
returns-clause-in_buffer c = λ i p is.
    let y = c.put_all.new.index in
    data_blank (contents c.put_all.new.self) (present y p.key.object p.key.chunk) p.bytes.items
    (c.put_all.ensures.puts blank_flash p.key.object p.key.chunk
    ∙ page_here c.args.change.pages.items (present_data c.cut_all.new.index (contents c.cut_all.new.self) blank_flash) c.requires.pages.apart i p is)
