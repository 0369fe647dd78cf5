-- A page is so many parts of 32 bytes.
use mathlib.Core.Logic.{∥∥₁_elim}
use Rattle.std.proofs.Common.{◌≡◌, ◌*◌, ◌/◌, arith, inl, inr}
use Rattle.std.proofs.lemmas.Bool.{cases_eq}
use Rattle.nand_model.specs.Size.{IsSize}
use Rattle.nand_model.specs.declared.geometry.Geometry.{Geometry}

pub page_parts : (g : Geometry) → 32 * (g.bytes / 32) ≡ g.bytes
page_parts g = elim (cases_eq (32 * (g.bytes / 32)) g.bytes) [
  | inl same ↦ same
  | inr ne ↦ absurd (∥∥₁_elim g.sizes (λ x y. absurd x) (λ (size : IsSize g.bytes g.pages g.blocks). elim size.bytes_of_page [
    | inl is ↦ ne (omega (arith, is))
    | inr (inl is) ↦ ne (omega (arith, is))
    | inr (inr (inl is)) ↦ ne (omega (arith, is))
    | inr (inr (inr is)) ↦ ne (omega (arith, is))
  ]))
]
