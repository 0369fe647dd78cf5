-- What holds of the counts of blocks and of committed pages.
use Rattle.std.specs.Prelude.{◌≡◌, ◌≢◌, ◌⊎◌, ◌<◌, ◌≤◌, ℕ, zero, suc, ◌+◌, ◌-◌, ◌*◌, Bool, true, false, cond, not, ◌&&◌, nat_eq, None, Some}
use Rattle.std.proofs.Common.{refl, sym, ap, arith, ◌∙◌, inl, inr}
use Rattle.std.proofs.lemmas.Bool.{cases_lt, cases_eq, eq-eqb, ne_eqb}
use Rattle.std.proofs.Math.Nat.{mul-le-mul_right, mul-le-mul_left}
use Rattle.nand_model.specs.declared.geometry.Geometry.{Geometry}
use Rattle.block_state.specs.declared.blocks.BlockEntry.{BlockEntry}
use Rattle.block_state.specs.Counting.{how_many, sum_below}
use Rattle.block_state.specs.laws.Counting.{one_if, sum_below-suc, sum_below-same, sum_below-zero, counts_same, counts_less, counts_nothing}
use Rattle.block_state.specs.Committed.{is_uncommitted, bad_count, free_count, uncommitted_count, committed_count, HasSpare, IsScarce, SameCounts}
use Rattle.block_state.specs.Table.{Table, Sets, is_bad, is_open, is_free, IsFewest, NoneCommitted, NoneFree}

-- ---- one block

-- a good block without a committed page
pub uncommitted_if : (t : Table) (b : ℕ) → (t.entry b).bad ≡ false → (t.entry b).committed ≡ 0 → is_uncommitted t b ≡ true
uncommitted_if t b good none = ap (λ x. not x && nat_eq (t.entry b).committed 0) good ∙ ap (λ x. nat_eq x 0) none

-- a block with a committed page
pub committed_if : (t : Table) (b : ℕ) → 1 ≤ (t.entry b).committed → is_uncommitted t b ≡ false
committed_if t b some = ap (λ x. not (t.entry b).bad && x) (ne_eqb (t.entry b).committed 0 (λ e. omega (arith, some, e))) ∙ and_false (not (t.entry b).bad) where
  and_false : (x : Bool) → (x && false) ≡ false
  and_false true = refl
  and_false false = refl

-- a bad block
pub bad_if : (t : Table) (b : ℕ) → (t.entry b).bad ≡ true → is_uncommitted t b ≡ false
bad_if t b bad = ap (λ x. not x && nat_eq (t.entry b).committed 0) bad

-- the same, where mark and count are the same
pub uncommitted_same : (t u : Table) (b : ℕ) → (u.entry b).bad ≡ (t.entry b).bad → (u.entry b).committed ≡ (t.entry b).committed → is_uncommitted u b ≡ is_uncommitted t b
uncommitted_same t u b bad committed = ap (λ x. not x && nat_eq (u.entry b).committed 0) bad ∙ ap (λ x. not (t.entry b).bad && nat_eq x 0) committed

-- a block is bad, or without a committed page, or good with one
bad_uncommitted_or_committed : (t : Table) (b : ℕ) → (is_bad t b ≡ true) ⊎ ((is_uncommitted t b ≡ true) ⊎ (((t.entry b).bad ≡ false) × (1 ≤ (t.entry b).committed)))
bad_uncommitted_or_committed t b = go (t.entry b).bad (t.entry b).committed refl refl where
  go : (bad : Bool) (committed : ℕ) → (t.entry b).bad ≡ bad → (t.entry b).committed ≡ committed
      → (is_bad t b ≡ true) ⊎ ((is_uncommitted t b ≡ true) ⊎ (((t.entry b).bad ≡ false) × (1 ≤ (t.entry b).committed)))
  go true committed is has = inl is
  go false zero is has = inr (inl (uncommitted_if t b is has))
  go false (suc committed) is has = inr (inr (is, omega (arith, has)))

-- ---- scarce blocks

-- where each good block that holds committed pages has at least k of something
module _ (t : Table) (f : ℕ → ℕ) (k : ℕ) where
  least_sum : (n : ℕ) → ((j : ℕ) → j < n → (t.entry j).bad ≡ false → 1 ≤ (t.entry j).committed → k ≤ f j)
      → n * k ≤ sum_below f n + (how_many (is_uncommitted t) n + how_many (is_bad t) n) * k
  least_sum zero each = omega arith
  least_sum (suc n) each =
      let before : n * k ≤ sum_below f n + (how_many (is_uncommitted t) n + how_many (is_bad t) n) * k = least_sum n (λ j lt. each j (omega arith)) in
      let sum : sum_below f (suc n) ≡ sum_below f n + f n = sum_below-suc f n in
      let uncommitted : how_many (is_uncommitted t) (suc n) ≡ how_many (is_uncommitted t) n + one_if (is_uncommitted t) n = sum_below-suc (one_if (is_uncommitted t)) n in
      let bad : how_many (is_bad t) (suc n) ≡ how_many (is_bad t) n + one_if (is_bad t) n = sum_below-suc (one_if (is_bad t)) n in
      elim (bad_uncommitted_or_committed t n) [
        | inl is ↦
            let one : one_if (is_bad t) n ≡ 1 = ap (λ b. cond b 1 0) is in
            let less : how_many (is_uncommitted t) n + how_many (is_bad t) n + 1 ≤ how_many (is_uncommitted t) (suc n) + how_many (is_bad t) (suc n) = omega (arith, one, uncommitted, bad) in
            let times : (how_many (is_uncommitted t) n + how_many (is_bad t) n + 1) * k ≤ (how_many (is_uncommitted t) (suc n) + how_many (is_bad t) (suc n)) * k = mul-le-mul_right k less in
            omega (arith, before, times, sum)
        | inr (inl is) ↦
            let one : one_if (is_uncommitted t) n ≡ 1 = ap (λ b. cond b 1 0) is in
            let less : how_many (is_uncommitted t) n + how_many (is_bad t) n + 1 ≤ how_many (is_uncommitted t) (suc n) + how_many (is_bad t) (suc n) = omega (arith, one, uncommitted, bad) in
            let times : (how_many (is_uncommitted t) n + how_many (is_bad t) n + 1) * k ≤ (how_many (is_uncommitted t) (suc n) + how_many (is_bad t) (suc n)) * k = mul-le-mul_right k less in
            omega (arith, before, times, sum)
        | inr (inr (good, some)) ↦
            let here : k ≤ f n = each n (omega arith) good some in
            let less : how_many (is_uncommitted t) n + how_many (is_bad t) n ≤ how_many (is_uncommitted t) (suc n) + how_many (is_bad t) (suc n) = omega (arith, uncommitted, bad) in
            let times : (how_many (is_uncommitted t) n + how_many (is_bad t) n) * k ≤ (how_many (is_uncommitted t) (suc n) + how_many (is_bad t) (suc n)) * k = mul-le-mul_right k less in
            omega (arith, before, times, here, sum)
      ]

-- where blocks are scarce, one good block holds committed pages
pub some_committed : (t : Table) (spare most : ℕ) → HasSpare t spare most → IsScarce t spare → NoneCommitted t t.geometry.blocks → ⊥
some_committed t spare most has scarce none =
    let n : ℕ = t.geometry.blocks in
    let all : n * 1 ≤ sum_below (λ b. 0) n + (uncommitted_count t + bad_count t) * 1 =
    least_sum t (λ b. 0) 1 n (λ j lt good some. let zero_committed : (t.entry j).committed ≡ 0 = none j lt good in absurd (omega (arith, zero_committed, some))) in
    let nothing : sum_below (λ b. 0) n ≡ 0 = sum_below-zero (λ b. 0) n (λ k lt. refl) in
    let blocks : spare + 2 ≤ n = has.blocks in
    let bad : bad_count t ≤ spare = has.bad in
    omega (arith, all, nothing, blocks, bad, scarce)

-- and the one with the fewest has few
pub fewest_fits : (t : Table) (spare most b : ℕ) → HasSpare t spare most → IsScarce t spare → IsFewest t t.geometry.blocks b → (t.entry b).committed ≤ most
fewest_fits t spare most b has scarce fewest = elim (cases_lt most (t.entry b).committed) [
  | inr le ↦ le
  | inl lt ↦
      let n : ℕ = t.geometry.blocks in
      let k : ℕ = (t.entry b).committed in
      let r : ℕ = n - spare - 1 in
      let all : n * k ≤ committed_count t + (uncommitted_count t + bad_count t) * k = least_sum t (λ j. (t.entry j).committed) k n fewest.least in
      let blocks : spare + 2 ≤ n = has.blocks in
      let bad : bad_count t ≤ spare = has.bad in
      let within_limit : uncommitted_count t + bad_count t ≤ 1 + spare = omega (arith, bad, scarce) in
      let times : (uncommitted_count t + bad_count t) * k ≤ (1 + spare) * k = mul-le-mul_right k within_limit in
      let sizes : n ≡ r + (1 + spare) = omega (arith, blocks) in
      let split : n * k ≡ r * k + (1 + spare) * k = ap (λ m. m * k) sizes ∙ (omega arith) in
      let committed : committed_count t ≤ r * most = has.committed in
      let more : (most + 1) ≤ k = omega (arith, lt) in
      let full : r * (most + 1) ≤ r * k = mul-le-mul_left r more in
      let rest : r * (most + 1) ≡ r * most + r = omega arith in
      absurd (omega (arith, all, times, split, committed, full, rest, blocks))
]

-- ---- free blocks

-- with no block open a block is free where it is good and without a committed page
free_closed : (t : Table) (b : ℕ) → t.open_block ≡ None → is_free t b ≡ is_uncommitted t b
free_closed t b is = ap (λ o. not (t.entry b).bad && (nat_eq (t.entry b).committed 0 && not (is_open o b))) is ∙ and_true (not (t.entry b).bad) (nat_eq (t.entry b).committed 0) where
  and_true : (x y : Bool) → (x && (y && true)) ≡ (x && y)
  and_true true true = refl
  and_true true false = refl
  and_true false y = refl

pub free_where_closed : (t : Table) → t.open_block ≡ None → free_count t ≡ uncommitted_count t
free_where_closed t is = counts_same (is_free t) (is_uncommitted t) t.geometry.blocks (λ b lt. free_closed t b is)

module _ (t : Table) (o : ℕ) (is : t.open_block ≡ Some o) where
  -- a block that is not the open one
  free_elsewhere : (b : ℕ) → b ≢ o → is_free t b ≡ is_uncommitted t b
  free_elsewhere b ne = ap (λ x. not (t.entry b).bad && (nat_eq (t.entry b).committed 0 && not (is_open x b))) is
      ∙ ap (λ x. not (t.entry b).bad && (nat_eq (t.entry b).committed 0 && not x)) (ne_eqb o b (λ e. ne (sym e))) ∙ and_true (not (t.entry b).bad) (nat_eq (t.entry b).committed 0) where
        and_true : (x y : Bool) → (x && (y && true)) ≡ (x && y)
        and_true true true = refl
        and_true true false = refl
        and_true false y = refl

  -- the open block is not free
  free_here : is_free t o ≡ false
  free_here = ap (λ x. not (t.entry o).bad && (nat_eq (t.entry o).committed 0 && not (is_open x o))) is
      ∙ ap (λ x. not (t.entry o).bad && (nat_eq (t.entry o).committed 0 && not x)) (eq-eqb o o refl) ∙ and_false (not (t.entry o).bad) (nat_eq (t.entry o).committed 0) where
        and_false : (x y : Bool) → (x && (y && false)) ≡ false
        and_false true true = refl
        and_false true false = refl
        and_false false y = refl

  pub free_where_held : 1 ≤ (t.entry o).committed → free_count t ≡ uncommitted_count t
  free_where_held some = counts_same (is_free t) (is_uncommitted t) t.geometry.blocks (λ b lt. elim (cases_eq b o) [
    | inl e ↦ ap (is_free t) e ∙ free_here ∙ sym (ap (is_uncommitted t) e ∙ committed_if t o some)
    | inr ne ↦ free_elsewhere b ne
  ])

  pub free_where_uncommitted : o < t.geometry.blocks → (t.entry o).bad ≡ false → (t.entry o).committed ≡ 0 → uncommitted_count t ≡ free_count t + 1
  free_where_uncommitted lt good none = counts_less (is_uncommitted t) (is_free t) o t.geometry.blocks lt (uncommitted_if t o good none) free_here free_elsewhere

-- the count is 0 where none is free
pub none_free : (t : Table) → NoneFree t t.geometry.blocks → free_count t ≡ 0
none_free t none = counts_nothing (is_free t) t.geometry.blocks none

-- ---- changes

same_size : (f : ℕ → Bool) (old new : Table) → new.geometry ≡ old.geometry → how_many f new.geometry.blocks ≡ how_many f old.geometry.blocks
same_size f old new same = ap (λ (g : Geometry). how_many f g.blocks) same

module _ (old new : Table) (b : ℕ) (sets : Sets b (record (old.entry b) { bad = true }) old new) where
  -- a mark leaves the counts of committed pages
  pub mark_committed : committed_count new ≡ committed_count old
  mark_committed = ap (λ (g : Geometry). sum_below (λ k. (new.entry k).committed) g.blocks) sets.geometry
      ∙ sum_below-same (λ k. (new.entry k).committed) (λ k. (old.entry k).committed) old.geometry.blocks (λ k lt. elim (cases_eq k b) [
        | inl e ↦ ap (λ j. (new.entry j).committed) e ∙ ap (λ (x : BlockEntry). x.committed) sets.here ∙ sym (ap (λ j. (old.entry j).committed) e)
        | inr ne ↦ ap (λ (x : BlockEntry). x.committed) (sets.others k ne)
      ])

  -- makes one bad block more
  pub mark_bad : b < old.geometry.blocks → (old.entry b).bad ≡ false → bad_count new ≡ bad_count old + 1
  mark_bad lt good = same_size (is_bad new) old new sets.geometry
      ∙ counts_less (is_bad new) (is_bad old) b old.geometry.blocks lt (ap (λ (x : BlockEntry). x.bad) sets.here) good (λ k ne. sym (ap (λ (x : BlockEntry). x.bad) (sets.others k ne)))

  -- and one without a committed page less
  pub mark_uncommitted : b < old.geometry.blocks → (old.entry b).bad ≡ false → (old.entry b).committed ≡ 0 → uncommitted_count old ≡ uncommitted_count new + 1
  mark_uncommitted lt good none = counts_less (is_uncommitted old) (is_uncommitted new) b old.geometry.blocks lt (uncommitted_if old b good none) (bad_if new b (ap (λ (x : BlockEntry). x.bad) sets.here)) (λ k ne.
      uncommitted_same old new k (ap (λ (x : BlockEntry). x.bad) (sets.others k ne)) (ap (λ (x : BlockEntry). x.committed) (sets.others k ne)))
      ∙ ap (λ n. n + 1) (sym (same_size (is_uncommitted new) old new sets.geometry))

module _ (old new : Table) (same : SameCounts old new) where
  pub same_bad_count : bad_count new ≡ bad_count old
  same_bad_count = same_size (is_bad new) old new same.geometry ∙ counts_same (is_bad new) (is_bad old) old.geometry.blocks (λ b lt. same.bad b)

  pub same_uncommitted_count : uncommitted_count new ≡ uncommitted_count old
  same_uncommitted_count = same_size (is_uncommitted new) old new same.geometry
      ∙ counts_same (is_uncommitted new) (is_uncommitted old) old.geometry.blocks (λ b lt. uncommitted_same old new b (same.bad b) (same.committed b))

  pub same_committed_count : committed_count new ≡ committed_count old
  same_committed_count = ap (λ (g : Geometry). sum_below (λ k. (new.entry k).committed) g.blocks) same.geometry
      ∙ sum_below-same (λ k. (new.entry k).committed) (λ k. (old.entry k).committed) old.geometry.blocks (λ b lt. same.committed b)
