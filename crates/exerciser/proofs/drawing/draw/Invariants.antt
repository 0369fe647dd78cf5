use Rattle.std.proofs.Common.{◌≡◌, ◌≤◌, map}
use Rattle.std.specs.Prelude.{vec_len, vec_capacity}
use Rattle.rand_core.specs.Stream.{next_u64}
use Rattle.exerciser.specs.Words.{answers, fate_of, next_words}
use Rattle.exerciser.proofs.drawing.draw.Given as goal

abbrev pub invariant-loop-page : goal.invariant-loop-page
invariant-loop-page l = record {
  fates : l.fates.items ≡ map fate_of (next_words l._page (next_u64 (answers l.fn.generator)).1).0;
  left : answers l.generator ≡ (next_words l._page (next_u64 (answers l.fn.generator)).1).1;
  len : vec_len l.fates ≡ l._page;
  room : l.pages ≤ vec_capacity l.fates;
}
