use Rattle.std.proofs.Common.{ap, sym, ◌∙◌, arith, ◌-◌, drop}
use Rattle.std.specs.Map.Iter.{deref_pair}
use Rattle.std.proofs.lemmas.Map.Iter.{rest_more}
use Rattle.chunk_index.specs.Following.{all_keys, object_keys}
use Rattle.chunk_index.proofs.KeysLeft.{passes_list}
use Rattle.chunk_index.proofs.shelf.Shelf.committed_from.Goals as goal

pub loop-object-preserved : goal.loop-object-preserved
loop-object-preserved c =
    let left = c.loop-object.left in
    let rest = all_keys c.next.new.self in
    let more = rest_more deref_pair c.loop-object.objects c.next.new.self c.next.result (c.in-Some.object, c.in-Some.entries) c.in-Some.is c.next.ensures.steps in
    let here = object_keys c.in-Some.object.now c.in-Some.entries.now.entries.items in
    let count = c.count_committed-here.ensures c.in-Some.object.now in
    let passed = passes_list left here rest (omega (arith, count, c.if-left-here.false)) in
    ap (λ n. drop (left - n) rest) (sym count) ∙ sym passed ∙ sym (ap (λ xs. drop left (all_keys xs)) more) ∙ c.loop-object.invariant
