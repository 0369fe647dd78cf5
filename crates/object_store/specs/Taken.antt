-- Which numbers are taken.
use Rattle.std.specs.Prelude.{◌≡◌, ◌≢◌, ◌<◌, ◌≤◌, ℕ, Bool, true, false, Option, is_some, option_and_then}
use Rattle.std.specs.Ordering.{nat_cmp}
use Rattle.std.specs.declared.cmp.Ordering.{Ordering}
use Rattle.std.specs.declared.cmp.Reverse.{Reverse}
use Rattle.std.specs.BTreeMap.{BTreeMap, get}
use Rattle.object_store.specs.declared.table_facts.ObjectFacts.{ObjectFacts}

-- the facts at a number, if there are any: room for an object that is to come has none
abbrev pub facts_in : BTreeMap ℕ (Option ObjectFacts) → ℕ → Option ObjectFacts
facts_in facts n = option_and_then (λ f. f) (get nat_cmp facts n)

-- whether there are facts at a number
abbrev pub taken_in : BTreeMap ℕ (Option ObjectFacts) → ℕ → Bool
taken_in facts n = is_some (facts_in facts n)

-- each number from 2 up below this one is taken
abbrev pub AllTaken : (ℕ → Bool) → ℕ → Type 0
AllTaken taken n = (k : ℕ) → 2 ≤ k → k < n → taken k ≡ true

-- From 2 up this is the least number that is not taken.
pub record IsLeastFree (taken : ℕ → Bool) (n : ℕ) : Type 0 where
  pub low : 2 ≤ n
  pub free : taken n ≡ false
  pub below : AllTaken taken n

-- this number is taken, and no other is or is given back
pub record Takes (before after : ℕ → Bool) (n : ℕ) : Type 0 where
  pub here : after n ≡ true
  pub others : (k : ℕ) → k ≢ n → after k ≡ before k

-- this number is given back, and no other is or is taken
pub record GivesBack (before after : ℕ → Bool) (n : ℕ) : Type 0 where
  pub was : before n ≡ true
  pub here : after n ≡ false
  pub others : (k : ℕ) → k ≢ n → after k ≡ before k

-- the order in which the least number comes first
abbrev pub by_number : Reverse ℕ → Reverse ℕ → Ordering
by_number a b = nat_cmp b.0 a.0
