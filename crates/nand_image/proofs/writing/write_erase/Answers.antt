use Rattle.std.proofs.Common.{subst, [], ◌∷◌, arith}
use Rattle.std.proofs.lemmas.Result.{err_from_is_err_and}
use Rattle.nand_image.specs.Writes.{StopsIn}
use Rattle.nand_image.proofs.InTurn.{erase_stops}
use Rattle.nand_image.proofs.writing.write_erase.Goals as goal

pub returns-in_err-write_at : goal.returns-in_err-write_at
returns-in_err-write_at g c =
    let p = err_from_is_err_and c.from_residual.result c.from_residual.ensures.1 in
    let old = g.F.WriteAt.writes c.args.file.now in
    let mid = g.F.WriteAt.writes c.loop-page.file in
    let new = g.F.WriteAt.writes c.write_at.new.self in
    let stops = subst (λ n. StopsIn (record { place = n; bytes = 0 ∷ [] } ∷ []) mid new) c.page_place.ensures c.in_err-write_at.ensures in
    rw p.1 (erase_stops c.args.geometry c.args.block c.loop-page.page c.args.geometry.pages old mid new (omega arith) c.loop-page.invariant stops)
