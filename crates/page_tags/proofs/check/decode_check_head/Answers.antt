use Rattle.std.specs.Prelude.{◌&&◌, true, nat_eq, [], ◌∷◌}
use Rattle.std.specs.Cmp.Lexicographic.{pointwise}
use Rattle.std.proofs.Common.{◌≡◌, List, ℕ, drop, refl, sym, ap, ◌∙◌}
use Rattle.std.proofs.lemmas.Bool.{false≢true, eq-eqb}
use Rattle.byteorder.specs.Endian.{little_number}
use Rattle.page_tags.specs.Checks.{check_head_bytes}
use Rattle.page_tags.specs.laws.Check.{number_read}
use Rattle.page_tags.proofs.check.decode_check_head.Goals as goal

-- a list is like itself
itself : (xs : List ℕ) → pointwise nat_eq xs xs ≡ true
itself [] = refl
itself (x ∷ xs) = ap (λ b. b && pointwise nat_eq xs xs) (eq-eqb x x refl) ∙ itself xs

pub returns-else-eq-clause-none : goal.returns-else-eq-clause-none
returns-else-eq-clause-none c n within_limit same =
    let read : c.u64_at-n.result ≡ n = c.u64_at-n.ensures ∙ ap (λ (bytes : List ℕ). little_number 8 (drop 8 bytes)) same ∙ number_read n within_limit in
    let alike : c.args.bytes.now ≡ c.head_of-said.result = same ∙ ap check_head_bytes (sym read) ∙ sym c.head_of-said.ensures in
    false≢true (sym c.if-eq.false ∙ c.eq.ensures ∙ ap (λ (bytes : List ℕ). pointwise nat_eq c.args.bytes.now bytes) (sym alike) ∙ itself c.args.bytes.now)
