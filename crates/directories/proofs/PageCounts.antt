-- How many pages so many slots take, and what lies behind these.
use Rattle.std.specs.Prelude.{◌≡◌, ◌≢◌, ◌<◌, ◌≤◌, ℕ, ◌+◌, ◌*◌, ◌/◌, ◌%◌}
use Rattle.std.specs.Int.{div_ceil}
use Rattle.std.proofs.Common.{◌∙◌, ap, inl, inr, arith}
use Rattle.std.proofs.Math.Nat.{div-add-mod'}
use Rattle.std.proofs.lemmas.Bool.{cases_lt}
use Rattle.page_tags.specs.Slots.{Entry}
use Rattle.volume_terms.specs.Sizes.{Sizes, page_slots}
use Rattle.volume_terms.specs.laws.Rounding.{part_begins, parts_reach, part_within}
use Rattle.pages.specs.Maps.{PageMap}
use Rattle.directories.specs.Directories.{HasOnly}
use Rattle.directories.specs.Writes.{IsWritten, KeepsPages, KeepsBehind}
use Rattle.directories.specs.declared.writing.Writing.{Writing}

-- more slots take no fewer pages
pub ceil_up : (a b n : ℕ) → 1 ≤ n → a ≤ b → div_ceil a n ≤ div_ceil b n
ceil_up a b n some le = elim (cases_lt (div_ceil b n) (div_ceil a n)) [
  | inl more ↦
      let low = part_begins a n (div_ceil b n) some more in
      let high = parts_reach b n (div_ceil b n) some (omega arith) in
      absurd (omega (arith, low, high, le))
  | inr up ↦ up
]

-- where the last page has room one slot more takes no page more
pub one_more_page : (len n c : ℕ) → 1 ≤ n → len % n ≢ 0 → div_ceil len n < c → div_ceil (len + 1) n < c
one_more_page len n c some partly behind = elim (cases_lt (div_ceil len n) (div_ceil (len + 1) n)) [
  | inl more ↦
      let low = part_begins (len + 1) n (div_ceil len n) some more in
      let one : div_ceil len n ≡ len / n + 1 = grind (arith, partly) in
      let times : div_ceil len n * n ≡ len / n * n + n = ap (λ k. k * n) one ∙ omega arith in
      absurd (omega (arith, low, times, div-add-mod' len n, some))
  | inr up ↦ omega (arith, up, behind)
]

module _ (z : Sizes) (old new : PageMap) (d : ℕ) (writing : Writing) (count : ℕ) (some : 1 ≤ page_slots z) (less : (k : ℕ) (e : Entry) → IsWritten writing k e → k < count) (keeps : KeepsPages z old new d writing) where
  -- the slots that are written are some of these
  pub committed_behind : KeepsBehind z old new d count
  committed_behind c behind = keeps c (omega (arith, behind)) (λ k e w same.
      let up : k / page_slots z < div_ceil count (page_slots z) = part_within k count (page_slots z) some (less k e w) in
      omega (arith, same, behind, up))

  pub only_written : (before : ℕ) → before ≤ count → HasOnly z old d before → HasOnly z new d count
  only_written before le only c behind =
      let within_limit : div_ceil before (page_slots z) ≤ div_ceil count (page_slots z) = ceil_up before count (page_slots z) some le in
      committed_behind c behind ∙ only c (omega (arith, behind, within_limit))
