use Rattle.std.proofs.Common.{◌∙◌, sym, ap, subst, length}
use Rattle.block_state.specs.TableOf.{table}
use Rattle.flash_tree.specs.Places.{numbers_of}
use Rattle.mount_scan.specs.FirstPages.{AreNoted}
use Rattle.page_store.specs.laws.KnownFirsts.{opened_noted}
use Rattle.mounting.proofs.Firsts.{scan_knows}
use Rattle.mounting.proofs.scanning.with_firsts.Goals as goal

pub note_firsts-requires : goal.note_firsts-requires
note_firsts-requires c = record { size = ap length c.deref.ensures.value ∙ c.requires }

pub returns-clause-opened : goal.returns-clause-opened
returns-clause-opened c d opened =
    opened_noted d (table c.args.opened.blocks) (table c.note_firsts.new.blocks) c.args.opened.index (numbers_of c.args.opened.numbers) c.note_firsts.ensures.only opened

pub returns-clause-knows : goal.returns-clause-knows
returns-clause-knows c d firsts unwritten opened =
    let read : AreNoted d d.geometry.blocks c.deref.result.now = subst (AreNoted d d.geometry.blocks) (sym c.deref.ensures.value) firsts.noted in
    scan_knows d (table c.args.opened.blocks) (table c.note_firsts.new.blocks) c.args.opened.index (numbers_of c.args.opened.numbers) (c.note_firsts.ensures.knows d read) unwritten opened
