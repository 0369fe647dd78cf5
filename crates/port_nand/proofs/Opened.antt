-- What an open asks.
use Rattle.std.proofs.Common.{◌≡◌, List, ◌∷◌, ℕ, sym, ap, subst, ◌∙◌}
use Rattle.nand_model.specs.declared.geometry.Geometry.{Geometry}
use Rattle.port_nand.specs.declared.sizes.Sizes.{Sizes}
use Rattle.port_nand.specs.Calls.{Call, call}
use Rattle.port_nand.specs.Opening.{AreSizes, IssuesAll, IssuesMarks}
use Rattle.port_nand.specs.declared.request.Answer.{Answer}
use Rattle.port_nand.specs.declared.request.Answer.TheVariants as answers
use Rattle.port_nand.specs.declared.request.Request.TheVariants as requests

pub opened : (s : Sizes) (h : Geometry) (old mid new : List Call) (bytes : List ℕ) (answer : Answer) → mid ≡ call requests.Sizes bytes answer ∷ old → answer ≡ answers.Zero
    → AreSizes s bytes → h ≡ s.geometry → IssuesMarks mid s.geometry.blocks new → IssuesAll (record s { geometry = h }) old new
opened s h old mid new bytes answer issued zero sizes same marks = subst (λ g. IssuesAll (record s { geometry = g }) old new) (sym same)
    (bytes, sizes, subst (λ calls. IssuesMarks calls s.geometry.blocks new) (issued ∙ ap (λ a. call requests.Sizes bytes a ∷ old) zero) marks)
