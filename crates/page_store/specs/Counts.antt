-- What contracts count of a store.
use Rattle.std.specs.Prelude.{◌≡◌, ◌<◌, ◌≤◌, ℕ}
use Rattle.page_store.specs.declared.counts.StoreCounts.{StoreCounts}

-- a growth was refused to the store
abbrev pub IsRefused : StoreCounts → StoreCounts → Type 0
IsRefused old new = old.refused.total < new.refused.total

-- a commit of buffered pages was begun
abbrev pub HasBegun : StoreCounts → StoreCounts → Type 0
HasBegun old new = old.commits.total < new.commits.total

-- no count falls
pub record NoneFalls (old new : StoreCounts) : Type 0 where
  pub refused : old.refused.total ≤ new.refused.total
  pub commits : old.commits.total ≤ new.commits.total

-- a commit of so many pages: it is begun where there are some
pub record CountsCommit (pages : ℕ) (old new : StoreCounts) : Type 0 where
  pub refused : new.refused.total ≡ old.refused.total
  pub commits : old.commits.total ≤ new.commits.total
  pub some : 1 ≤ pages → HasBegun old new
  pub none : pages ≡ 0 → new.commits.total ≡ old.commits.total

-- at most one commit of so many pages, which is begun only where there are some
pub record CountsUpTo (pages : ℕ) (old new : StoreCounts) : Type 0 where
  pub refused : new.refused.total ≡ old.refused.total
  pub commits : old.commits.total ≤ new.commits.total
  pub none : pages ≡ 0 → new.commits.total ≡ old.commits.total
