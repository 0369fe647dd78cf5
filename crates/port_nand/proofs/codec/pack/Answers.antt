use Rattle.std.proofs.Common.{◌≡◌, ℕ, List, [], ◌∷◌, true, nat_eq, ◌&&◌, refl, sym, ap, ◌∙◌}
use Rattle.std.proofs.lemmas.Bool.{eq-eqb, false≢true}
use Rattle.std.specs.Cmp.Lexicographic.{pointwise}
use Rattle.port_nand.specs.Packed.{unpacked}
use Rattle.port_nand.specs.laws.Packed.{none_packed}
use Rattle.port_nand.proofs.codec.pack.Goals as goal

itself : (xs : List ℕ) → pointwise nat_eq xs xs ≡ true
itself [] = refl
itself (x ∷ xs) = ap (λ b. b && pointwise nat_eq xs xs) (eq-eqb x x refl) ∙ itself xs

pub returns-else-eq-clause-none : goal.returns-else-eq-clause-none
returns-else-eq-clause-none c packed says = none_packed c.args.tag.now (λ is.
    false≢true (sym c.if-eq.false ∙ c.eq.ensures ∙ ap (λ (bytes : List ℕ). pointwise nat_eq bytes c.args.tag.now) (c.unpack.ensures.tag ∙ ap unpacked c.low_bytes-packed.ensures ∙ is) ∙ itself c.args.tag.now)) packed says.0 says.1
