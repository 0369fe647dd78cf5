use Rattle.std.proofs.Common.{◌≡◌, List, [], ◌∷◌, refl, sym, subst, ◌+◌, arith}
use Rattle.pages.specs.declared.change.Cut.{Cut}
use Rattle.file_io.specs.Cuts.{CutsFrom}
use Rattle.file_io.proofs.Resized.{one_cut}
use Rattle.file_io.proofs.resizing.cut_chunks.Goals as goal

pub returns-clause-cuts : goal.returns-clause-cuts
returns-clause-cuts c =
    let x : Cut = record { object = c.args.object; from = 1 + c.args.committed } in
    let items : c.in_ok-cuts.cuts.items ≡ x ∷ [] = c.in_ok-cuts.ensures.items in
    subst (λ (xs : List Cut). CutsFrom c.args.object c.args.committed c.args.chunks xs) (sym items) (one_cut c.args.object c.args.committed c.args.chunks (omega arith) x refl refl)
