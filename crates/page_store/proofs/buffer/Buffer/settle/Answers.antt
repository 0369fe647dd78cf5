use Rattle.std.proofs.Common.{◌<◌, length, arith}
use Rattle.std.proofs.lemmas.Option.{slice_get_within}
use Rattle.page_store.specs.BufferOf.{contents}
use Rattle.page_store.proofs.Keys.{holding}
use Rattle.page_store.proofs.buffer.Buffer.settle.Goals as goal

pub settle_group-requires-clause-fits : goal.settle_group-requires-clause-fits
settle_group-requires-clause-fits c = λ o k i is.
    let of = (holding _ _ c.requires.buffers).there o k i is in
    let within : i < length (contents c.args.self.now) = slice_get_within (contents c.args.self.now) i of.page of.there in
    omega (arith, within, c.requires.fits)
