use Rattle.std.specs.Prelude.{◌&&◌, true, nat_eq, [], ◌∷◌}
use Rattle.std.specs.Cmp.Lexicographic.{pointwise}
use Rattle.std.proofs.Common.{◌≡◌, List, ℕ, refl, sym, ap, ◌∙◌}
use Rattle.std.proofs.lemmas.Bool.{false≢true, eq-eqb}
use Rattle.page_tags.specs.Summaries.{head_bytes, head_in}
use Rattle.page_tags.specs.declared.summary_head.SummaryHead.{SummaryHead}
use Rattle.page_tags.specs.laws.Summary.{head_read}
use Rattle.page_tags.proofs.summary_head.decode_summary_head.Goals as goal

-- a list is like itself
itself : (xs : List ℕ) → pointwise nat_eq xs xs ≡ true
itself [] = refl
itself (x ∷ xs) = ap (λ b. b && pointwise nat_eq xs xs) (eq-eqb x x refl) ∙ itself xs

pub returns-else-eq-clause-none : goal.returns-else-eq-clause-none
returns-else-eq-clause-none c head valid same =
    let found : SummaryHead = record { block = c.u32_at.result; entries = c.u32_at-2.result; seq = c.u64_at.result } in
    let said : found ≡ head_in c.args.bytes.now = λ i. record { block = c.u32_at.ensures i; entries = c.u32_at-2.ensures i; seq = c.u64_at.ensures i } in
    let read : found ≡ head = said ∙ ap head_in same ∙ head_read head valid in
    let alike : c.args.bytes.now ≡ c.bytes_of.result = same ∙ ap head_bytes (sym read) ∙ sym c.bytes_of.ensures in
    false≢true (sym c.if-eq.false ∙ c.eq.ensures ∙ ap (λ (bytes : List ℕ). pointwise nat_eq c.args.bytes.now bytes) (sym alike) ∙ itself c.args.bytes.now)
