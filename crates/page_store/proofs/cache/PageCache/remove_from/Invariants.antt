use Rattle.std.proofs.Common.{◌≡◌, ◌≤◌, ℕ}
use Rattle.page_store.specs.Cached.{held, held_count}
use Rattle.page_store.specs.Changes.{KeepsSizes}
use Rattle.page_store.proofs.cache.PageCache.remove_from.Given as goal

abbrev pub invariant-loop-key : goal.invariant-loop-key
invariant-loop-key l = record {
  sizes : KeepsSizes l.fn.self l.self;
  others : (p q : ℕ) → (p ≡ l.object → l.chunk ≤ q → ⊥) → held l.self p q ≡ held l.fn.self p q;
}

abbrev pub decreases-loop-key : goal.decreases-loop-key
decreases-loop-key l = held_count l.self
