use Rattle.std.proofs.lemmas.Result.{err_from_is_err_and}
use Rattle.nand_model.specs.MemoryState.{device}
use Rattle.nand_image.proofs.Opened.{explains_bad, explains_body, opens_image}
use Rattle.nand_image.proofs.reading.open_image.Goals as goal

pub returns-in_err-geometry-clause-fault : goal.returns-in_err-geometry-clause-fault
returns-in_err-geometry-clause-fault g c =
    let p = err_from_is_err_and c.from_residual-in_err-geometry.result c.from_residual-in_err-geometry.ensures.1 in
    let old = g.F.Read.remaining c.args.file in
    let now = g.F.Read.remaining c.read_head.new.file in
    rw (p.1, p.2) (explains_bad c.in_err-geometry.field-0.0 old now c.in_ok-head.head c.in_ok-head.ensures.head c.in_err-geometry.ensures.fault)

pub returns-in_err-memory-clause-fault : goal.returns-in_err-memory-clause-fault
returns-in_err-memory-clause-fault g c =
    let p = err_from_is_err_and c.from_residual-in_err-memory.result c.from_residual-in_err-memory.ensures.1 in
    let old = g.F.Read.remaining c.args.file in
    let now = g.F.Read.remaining c.read_head.new.file in
    rw (p.1, p.2) (explains_body c.in_err-memory.field-0.0 c.in_ok-geometry.geometry old now c.in_ok-head.head c.in_ok-head.ensures.head c.in_ok-geometry.ensures.sizes c.in_err-memory.ensures.fault)

pub returns-clause-opens : goal.returns-clause-opens
returns-clause-opens g c =
    let old = g.F.Read.remaining c.args.file in
    let now = g.F.Read.remaining c.read_head.new.file in
    let reported = c.in_ok-memory.ensures in
    opens_image (device c.in_ok-memory.memory) c.in_ok-geometry.geometry old now c.in_ok-head.head c.in_ok-head.ensures.head c.in_ok-geometry.ensures.sizes.0
    reported.geometry reported.nexts reported.body
