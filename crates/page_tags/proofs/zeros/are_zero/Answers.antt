use Rattle.std.proofs.Common.{◌≡◌, ◌≤◌, ◌*◌, ◌/◌, ◌+◌, ◌-◌, ◌∙◌, ℕ, List, ap, length, take, drop, length-drop, arith}
use Rattle.std.proofs.lemmas.List.{take_rest}
use Rattle.page_tags.proofs.Strides.{each_from_parts, rest_from_each}
use Rattle.page_tags.proofs.zeros.are_zero.Goals as goal

pub returns-then-are_halves_zero : goal.returns-then-are_halves_zero
returns-then-are_halves_zero c =
    let bytes : List ℕ = c.args.bytes.now in
    let n : ℕ = length bytes - 64 in
    let rest : List ℕ = take (length bytes - n) (drop n bytes) in
    let many : 64 ≤ length bytes = omega arith in
    let strides : n ≤ length bytes / 64 * 32 + length bytes / 64 * 32 = omega arith in
    let last : length rest ≡ 64 = ap length (take_rest bytes n) ∙ length-drop n bytes ∙ omega (arith, many) in (
      λ said. each_from_parts bytes rest n (take_rest bytes n) (λ i low. c.are_halves_zero.ensures.0 c.if-are_halves_zero.true i (omega (arith, low, strides)))
          (λ i low. c.are_halves_zero-then-are_halves_zero.ensures.0 said i (omega (arith, low, last))),
      λ zeros. c.are_halves_zero-then-are_halves_zero.ensures.1 (λ i low. rest_from_each bytes rest n (take_rest bytes n) zeros i (omega (arith, low, last))),
    )
