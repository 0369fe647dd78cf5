use Rattle.std.proofs.Common.{◌∙◌, sym, ap}
use Rattle.nand_model.specs.declared.geometry.Geometry.{Geometry}
use Rattle.mount_scan.specs.laws.CheckpointReads.{firsts_read}
use Rattle.mounting.proofs.scanning.scan.Goals as goal

pub with_firsts-requires : goal.with_firsts-requires
with_firsts-requires g c =
    c.requires.noted.len ∙ ap (λ (h : Geometry). h.blocks) (sym c.open.ensures.reads.lasts.geometry) ∙ ap (λ (h : Geometry). h.blocks) (sym c.in-Ok.ensures.opened.tables.geometry)

pub returns-in-Ok-clause-opened : goal.returns-in-Ok-clause-opened
returns-in-Ok-clause-opened g c = c.with_firsts.ensures.opened _ c.in-Ok.ensures.opened

pub returns-in-Ok-clause-firsts : goal.returns-in-Ok-clause-firsts
returns-in-Ok-clause-firsts g c =
    c.with_firsts.ensures.knows _ (firsts_read (g.N.Nand.state c.args.device) (g.N.Nand.state c.open.new.device) c.args.firsts.now c.open.ensures.reads c.requires) c.in-Ok.ensures.unwritten c.in-Ok.ensures.opened
