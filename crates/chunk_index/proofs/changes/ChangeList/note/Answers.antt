use Rattle.std.proofs.Common.{arith}
use Rattle.chunk_index.proofs.Noting.{pushed, key_keeps, key_noted}
use Rattle.chunk_index.proofs.changes.ChangeList.note.Goals as goal

pub returns-clause-notes : goal.returns-clause-notes
returns-clause-notes c =
    let x = c.args.self.now in
    let items = pushed c.push.result x.keys.items c.push.new.self.items c.args.key (c.push.ensures.succeeds (omega (arith, c.if-len-capacity.false, c.len.ensures, c.capacity.ensures))) c.push.ensures.items in
    key_keeps x.keys.items x.cuts.items x.has_all c.args.key c.push.new.self.items items

pub returns-clause-noted : goal.returns-clause-noted
returns-clause-noted c =
    let x = c.args.self.now in
    let items = pushed c.push.result x.keys.items c.push.new.self.items c.args.key (c.push.ensures.succeeds (omega (arith, c.if-len-capacity.false, c.len.ensures, c.capacity.ensures))) c.push.ensures.items in
    key_noted x.keys.items x.cuts.items x.has_all c.args.key c.push.new.self.items items
