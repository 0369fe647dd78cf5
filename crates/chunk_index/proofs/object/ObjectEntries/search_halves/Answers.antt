use Rattle.std.proofs.Common.{rules}
use Rattle.std.proofs.lemmas.List.Sorted.{answers_always}
use Rattle.chunk_index.specs.Entries.{chunk}
use Rattle.chunk_index.proofs.Finding.{searched}
use Rattle.chunk_index.proofs.object.ObjectEntries.search_halves.Goals as goal

-- the closure gives an entry's chunk
pub returns : goal.returns
returns c =
    let facts = c.binary_search_by_key.ensures in
    let by_key = facts.position chunk (answers_always _ _ _ (λ f a r g called. search rules)) in
    rw (← c.deref.ensures.value) (searched chunk _ (rw c.deref.ensures.value c.args.self.now.rises) c.args.number _ facts.bound by_key)
