use Rattle.std.proofs.Common.{◌≡◌, ◌∙◌, ap, get_or, length, arith}
use Rattle.flash_c.proofs.NameBytes.{at_least}
use Rattle.flash_c.proofs.names.names_length.Goals as goal

pub returns-then-bytes-room : goal.returns-then-bytes-room
returns-then-bytes-room c =
    let name : c.as_slice-bytes.result.now ≡ get_or c.args.names.now c.loop-name.name-index c.name-item.result = c.as_slice-bytes.ensures ∙ c.name-item.is in
    omega (
      arith,
      ap length name,
      at_least c.args.names.now c.loop-name.name-index c.name-item.result c.loop-name-test.true,
      c.loop-name.invariant.totaled,
      c.loop-name.invariant.within,
      c.if-bytes-room.true,
    )
