use Rattle.std.proofs.Common.{IfSome, ap, subst, ◌∙◌}
use Rattle.block_state.specs.TableOf.{table}
use Rattle.chunk_index.specs.Entries.{chunk}
use Rattle.chunk_index.specs.Moved.{moved, MayMove}
use Rattle.chunk_index.proofs.Finding.{find_in_gap}
use Rattle.chunk_index.proofs.InPlace.{element_found, rises_at, alters_by, alters_absent}
use Rattle.chunk_index.proofs.Moving.{counts_moved, counts_unmoved}
use Rattle.chunk_index.proofs.object.ObjectEntries.copied.Goals as goal

pub copied-entry-requires-clause-may : goal.copied-entry-requires-clause-may
copied-entry-requires-clause-may c =
    let is = element_found _ c.args.self.now.rises _ _ c.in-Ok.ensures.found _ c.unpack.result c.unpack.ensures.entry c.index.ensures in
    subst (λ v. IfSome v (λ e. MayMove c.args.place e (table c.args.blocks.now))) is c.requires

pub invariant_of-self : goal.invariant_of-self
invariant_of-self c =
    let is = element_found _ c.args.self.now.rises _ _ c.in-Ok.ensures.found _ c.unpack.result c.unpack.ensures.entry c.index.ensures in
    record { rises = rises_at _ c.args.self.now.rises _ _ c.in-Ok.ensures.found c.unpack.result is c.pack.result (ap chunk (c.pack.ensures ∙ c.copied-entry.ensures.entry)) }

pub returns-in-Ok-clause-alters : goal.returns-in-Ok-clause-alters
returns-in-Ok-clause-alters c =
    let is = element_found _ c.args.self.now.rises _ _ c.in-Ok.ensures.found _ c.unpack.result c.unpack.ensures.entry c.index.ensures in
    let to = c.pack.ensures ∙ c.copied-entry.ensures.entry in
    alters_by _ c.args.self.now.rises _ _ c.in-Ok.ensures.found c.unpack.result is c.pack.result (ap chunk to) (moved c.args.place) to

pub returns-in-Ok-clause-counts : goal.returns-in-Ok-clause-counts
returns-in-Ok-clause-counts c =
    let is = element_found _ c.args.self.now.rises _ _ c.in-Ok.ensures.found _ c.unpack.result c.unpack.ensures.entry c.index.ensures in
    counts_moved c.args.place _ c.unpack.result c.copied-entry.result _ _ is c.copied-entry.ensures.entry c.copied-entry.ensures.counts

pub returns-in-Err-clause-alters : goal.returns-in-Err-clause-alters
returns-in-Err-clause-alters c = alters_absent _ _ (find_in_gap chunk _ _ _ c.in-Err.ensures.absent) (moved c.args.place)

pub returns-in-Err-clause-counts : goal.returns-in-Err-clause-counts
returns-in-Err-clause-counts c = counts_unmoved c.args.place _ _ (find_in_gap chunk _ _ _ c.in-Err.ensures.absent)
