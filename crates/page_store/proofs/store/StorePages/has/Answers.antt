use Rattle.std.proofs.Common.{◌≡◌, ◌∙◌, None, sym}
use Rattle.chunk_index.specs.declared.form.Present.TheVariants as presents
use Rattle.chunk_index.specs.Maps.{present}
use Rattle.page_store.specs.laws.Buffering.{place_within}
use Rattle.page_store.specs.BufferOf.{contents}
use Rattle.page_store.proofs.ReadOnly.{absent_has_none, buffered_lent, not_absent, there_has_one}
use Rattle.page_store.proofs.store.StorePages.has.Goals as goal

pub returns-in-Absent : goal.returns-in-Absent
returns-in-Absent g c = λ sound.
    let self = c.args.self.now in
    absent_has_none (g.N.Nand.state self.log.device) self.log.index (contents self.buffer) c.args.key.object c.args.key.chunk (sym c.present.ensures ∙ c.in-Absent.is)

pub returns-in-InBuffer : goal.returns-in-InBuffer
returns-in-InBuffer g c = λ sound.
    let self = c.args.self.now in
    let is : present self.log.index c.args.key.object c.args.key.chunk ≡ presents.InBuffer c.in-InBuffer.field-0 = sym c.present.ensures ∙ c.in-InBuffer.is in
    let here = buffered_lent (g.N.Nand.state self.log.device) self.log.index (contents self.buffer) self.scratch.items c.args.key.object c.args.key.chunk c.in-InBuffer.field-0 self.broken is
    (place_within (contents self.buffer) c.in-InBuffer.field-0 _ (self.buffers.there _ _ c.in-InBuffer.field-0 is)) sound in
    there_has_one _ (λ none. let two = sym here ∙ none in absurd cc)

pub returns-in-OnFlash : goal.returns-in-OnFlash
returns-in-OnFlash g c = λ sound.
    let self = c.args.self.now in
    there_has_one _ (not_absent (g.N.Nand.state self.log.device) self.log.index (contents self.buffer) c.args.key.object c.args.key.chunk c.in-OnFlash.field-0 self.broken (sym c.present.ensures ∙ c.in-OnFlash.is) self.newest sound)
