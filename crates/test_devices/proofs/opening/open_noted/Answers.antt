use Rattle.std.proofs.Common.{◌∙◌, sym, ap, length}
use Rattle.nand_model.specs.declared.geometry.Geometry.{Geometry}
use Rattle.block_state.specs.TableOf.{table}
use Rattle.flash_tree.specs.Places.{numbers_of}
use Rattle.page_store.specs.laws.KnownFirsts.{opened_noted}
use Rattle.test_devices.proofs.opening.open_noted.Goals as goal

pub note_firsts-requires : goal.note_firsts-requires
note_firsts-requires g c =
    let blocks = λ (h : Geometry). h.blocks in
    record {
      size = ap length c.deref.ensures.value ∙ c.in_ok-search.ensures.firsts.noted.len ∙ ap blocks (sym c.find_checkpoint.ensures.reads.only.lasts.geometry)
          ∙ ap blocks (sym c.open.ensures.reads.lasts.geometry) ∙ ap blocks (sym c.in_ok-opened.ensures.opened.tables.geometry);
    }

pub returns : goal.returns
returns g c = record {
  opened = opened_noted (g.N.Nand.state c.open.new.device) (table c.in_ok-opened.opened.blocks) (table c.note_firsts.new.blocks) c.in_ok-opened.opened.index (numbers_of c.in_ok-opened.opened.numbers)
      c.note_firsts.ensures.only c.in_ok-opened.ensures.opened;
}
