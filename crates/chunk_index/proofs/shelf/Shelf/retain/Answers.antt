use Rattle.std.proofs.Common.{refl}
use Rattle.chunk_index.proofs.Counting.{recounts_on, recounts_here}
use Rattle.chunk_index.proofs.Staying.{retaining_none, retaining_more, retaining_all}
use Rattle.chunk_index.proofs.shelf.Shelf.retain.Goals as goal

pub loop-object-init : goal.loop-object-init
loop-object-init g c = record {
  retaining = retaining_none (g.F.KeyFilter.keeps c.args.filter.now) c.args.self.now.objects;
  tallies = c.requires.tallies;
  counts = recounts_here (λ b. refl);
}

pub loop-object-preserved : goal.loop-object-preserved
loop-object-preserved g c = record {
  retaining = retaining_more (g.F.KeyFilter.keeps c.args.filter.now) _ c.in-Some.object _ _ _ c.loop-object.invariant.retaining c.in-Some.ensures c.retain_object.ensures.retains;
  tallies = c.retain_object.ensures.tallies;
  counts = recounts_on c.loop-object.invariant.counts c.retain_object.ensures.counts;
}

pub returns-clause-looks : goal.returns-clause-looks
returns-clause-looks g c = retaining_all (g.F.KeyFilter.keeps c.args.filter.now) c.loop-object.done c.args.self.now.objects c.loop-object.self.objects c.loop-object.invariant.retaining c.in_default.ensures
