use Rattle.std.proofs.Common.{◌+◌, ◌∷◌, [], subst}
use Rattle.std.proofs.lemmas.Result.{err_from_is_err_and}
use Rattle.nand_image.specs.Writes.{Write, StopsIn, WritesAll, page_writes}
use Rattle.nand_image.proofs.InTurn.{adds_on, stops_after, writes_on}
use Rattle.nand_image.proofs.writing.write_program.Goals as goal

pub returns-in_err-write_at-2 : goal.returns-in_err-write_at-2
returns-in_err-write_at-2 g c =
    let p = err_from_is_err_and c.from_residual-in_err-write_at-2.result c.from_residual-in_err-write_at-2.ensures.1 in
    let place = c.page_place-place.result in
    let first : Write = record { place = place + 49; bytes = c.args.bytes.now } in
    let second : Write = record { place = place + 1; bytes = c.args.tag.now } in
    let last : Write = record { place = place; bytes = 1 ∷ [] } in
    let a = g.F.WriteAt.writes c.args.file.now in
    let b = g.F.WriteAt.writes c.write_at-2.new.self in
    rw p.1 (subst (λ n. StopsIn (page_writes n c.args.bytes.now c.args.tag.now) a b) c.page_place-place.ensures
    (stops_after a (g.F.WriteAt.writes c.write_at.new.self) b (first ∷ []) (second ∷ []) (last ∷ []) c.in_ok-write_at.ensures c.in_err-write_at-2.ensures))

pub returns : goal.returns
returns g c =
    let place = c.page_place-place.result in
    let first : Write = record { place = place + 49; bytes = c.args.bytes.now } in
    let second : Write = record { place = place + 1; bytes = c.args.tag.now } in
    let last : Write = record { place = place; bytes = 1 ∷ [] } in
    let a = g.F.WriteAt.writes c.args.file.now in
    let b = g.F.WriteAt.writes c.write_at-2.new.self in
    let d = g.F.WriteAt.writes c.write_at-3.new.self in
    subst (λ n. WritesAll (page_writes n c.args.bytes.now c.args.tag.now) a d c.write_at-3.result) c.page_place-place.ensures
    (writes_on a b d (first ∷ second ∷ []) (last ∷ []) c.write_at-3.result
    (adds_on a (g.F.WriteAt.writes c.write_at.new.self) b (first ∷ []) (second ∷ []) c.in_ok-write_at.ensures c.in_ok-write_at-2.ensures) c.write_at-3.ensures)
