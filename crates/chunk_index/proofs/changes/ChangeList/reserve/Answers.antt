use Rattle.std.proofs.Common.{refl}
use Rattle.chunk_index.proofs.Noting.{notes_same}
use Rattle.chunk_index.proofs.changes.ChangeList.reserve.Goals as goal

pub returns-in_err-reserve-clause-notes : goal.returns-in_err-reserve-clause-notes
returns-in_err-reserve-clause-notes c = let x = c.args.self.now in notes_same x.keys.items x.cuts.items c.reserve.new.self.items x.cuts.items x.has_all c.reserve.ensures.items refl

pub returns-clause-notes : goal.returns-clause-notes
returns-clause-notes c = let x = c.args.self.now in notes_same x.keys.items x.cuts.items c.reserve.new.self.items c.reserve-2.new.self.items x.has_all c.reserve.ensures.items c.reserve-2.ensures.items
