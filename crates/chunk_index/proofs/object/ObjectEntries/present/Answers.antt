use Rattle.std.proofs.Common.{sym, ap, refl, ◌∙◌}
use Rattle.chunk_index.specs.Entries.{chunk, present_of}
use Rattle.chunk_index.proofs.Finding.{find_in_gap}
use Rattle.chunk_index.proofs.InPlace.{element_found}
use Rattle.chunk_index.proofs.object.ObjectEntries.present.Goals as goal

pub returns-in-Ok : goal.returns-in-Ok
returns-in-Ok c =
    let e = c.index.result.now in
    c.present.ensures ∙ sym (ap present_of (element_found _ c.args.self.now.rises _ _ c.in-Ok.ensures.found e e refl c.index.ensures))

pub returns-in-Err : goal.returns-in-Err
returns-in-Err c = sym (ap present_of (find_in_gap chunk _ _ _ c.in-Err.ensures.absent))
