-- Blocks that are free stay so, where their counts do not rise.
use Rattle.std.proofs.Common.{◌≡◌, ◌⊎◌, ◌≤◌, ℕ, zero, suc, ◌+◌, Bool, true, false, cond, not, ◌&&◌, nat_eq, None, refl, ap, ◌∙◌, arith, inl, inr}
use Rattle.std.proofs.lemmas.Bool.{eq-eqb, eqb-true}
use Rattle.nand_model.specs.declared.geometry.Geometry.{Geometry}
use Rattle.block_state.specs.Counting.{how_many}
use Rattle.block_state.specs.laws.Counting.{one_if, sum_below-suc, counts_same}
use Rattle.block_state.specs.Committed.{bad_count, free_count, uncommitted_count, is_uncommitted}
use Rattle.block_state.specs.laws.Committed.{uncommitted_if}
use Rattle.block_state.specs.Table.{Table, is_bad, is_free, is_open}
use Rattle.flash_log.specs.Consistency.{HasFreeBlocks}

-- as many have a property where each keeps it
counts_more : (f g : ℕ → Bool) (n : ℕ) → ((k : ℕ) → f k ≡ true → g k ≡ true) → how_many f n ≤ how_many g n
counts_more f g zero each = omega arith
counts_more f g (suc n) each =
    let before : how_many f n ≤ how_many g n = counts_more f g n each in
    let one : how_many f (suc n) ≡ how_many f n + one_if f n = sum_below-suc (one_if f) n in
    let two : how_many g (suc n) ≡ how_many g n + one_if g n = sum_below-suc (one_if g) n in
    let here : one_if f n ≤ one_if g n = go (f n) (g n) (each n) in
    omega (arith, before, one, two, here) where
      go : (x y : Bool) → (x ≡ true → y ≡ true) → cond {A = ℕ} x 1 0 ≤ cond {A = ℕ} y 1 0
      go false y is = omega arith
      go true true is = omega arith
      go true false is = let two : false ≡ true = is refl in absurd cc

parts : (x y z : Bool) → (not x && (y && not z)) ≡ true → (x ≡ false) × (y ≡ true) × (z ≡ false)
parts false true false is = (refl, refl, refl)
parts false true true is = absurd cc
parts false false z is = absurd cc
parts true y z is = absurd cc

joined : (x y z : Bool) → x ≡ false → y ≡ true → z ≡ false → (not x && (y && not z)) ≡ true
joined x y z good uncommitted closed = ap (λ v. not v && (y && not z)) good ∙ ap (λ v. v && not z) uncommitted ∙ ap not closed

-- what a free block is
pub free_is : (t : Table) (b : ℕ) → is_free t b ≡ true → ((t.entry b).bad ≡ false) × ((t.entry b).committed ≡ 0) × (is_open t.open_block b ≡ false)
free_is t b is = let p = parts (t.entry b).bad (nat_eq (t.entry b).committed 0) (is_open t.open_block b) is in (p.0, eqb-true (t.entry b).committed 0 p.1, p.2)

-- there are no more free blocks than such without a committed page
pub free_uncommitted : (t : Table) → free_count t ≤ uncommitted_count t
free_uncommitted t = counts_more (is_free t) (is_uncommitted t) t.geometry.blocks (λ b is. let p = free_is t b is in uncommitted_if t b p.0 p.1)

module _ (t u : Table) (geometry : u.geometry ≡ t.geometry) (bad : (b : ℕ) → (u.entry b).bad ≡ (t.entry b).bad) (less : (b : ℕ) → is_free t b ≡ true → (u.entry b).committed ≤ (t.entry b).committed)
    (opened : (u.open_block ≡ t.open_block) ⊎ (u.open_block ≡ None)) where
  free_still : (b : ℕ) → is_free t b ≡ true → is_free u b ≡ true
  free_still b is =
      let p = free_is t b is in
      let fewer = less b is in
      joined (u.entry b).bad (nat_eq (u.entry b).committed 0) (is_open u.open_block b) (bad b ∙ p.0) (eq-eqb (u.entry b).committed 0 (omega (arith, fewer, p.1))) (shut p.2 opened) where
        shut : is_open t.open_block b ≡ false → (u.open_block ≡ t.open_block) ⊎ (u.open_block ≡ None) → is_open u.open_block b ≡ false
        shut was (inl same) = ap (λ o. is_open o b) same ∙ was
        shut was (inr none) = ap (λ o. is_open o b) none

  pub bad_still : bad_count u ≡ bad_count t
  bad_still = ap (λ (g : Geometry). how_many (is_bad u) g.blocks) geometry ∙ counts_same (is_bad u) (is_bad t) t.geometry.blocks (λ b lt. bad b)

  pub has_free : (spare : ℕ) → HasFreeBlocks t spare → HasFreeBlocks u spare
  has_free spare free =
      let more : free_count t ≤ how_many (is_free u) t.geometry.blocks = counts_more (is_free t) (is_free u) t.geometry.blocks free_still in
      let size : free_count u ≡ how_many (is_free u) t.geometry.blocks = ap (λ (g : Geometry). how_many (is_free u) g.blocks) geometry in
      let same = bad_still in
      omega (arith, more, size, same, free)

  pub has_uncommitted : (spare : ℕ) → HasFreeBlocks t spare → 1 + spare ≤ uncommitted_count u + bad_count u
  has_uncommitted spare free = let still = has_free spare free in let within_limit = free_uncommitted u in omega (arith, still, within_limit)
