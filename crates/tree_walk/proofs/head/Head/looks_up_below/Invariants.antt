use Rattle.std.proofs.Common.{◌≡◌, ◌<◌, ℕ, true}
use Rattle.tree_walk.specs.Heads.{head_looks_up}
use Rattle.tree_walk.proofs.head.Head.looks_up_below.Given as goal

abbrev pub invariant-loop-chunk : goal.invariant-loop-chunk
invariant-loop-chunk l = (c : ℕ) → c < l.chunk → head_looks_up l.page_bytes l.self c ≡ true
