use Rattle.std.proofs.Common.{sym, ◌∙◌}
use Rattle.chunk_index.specs.Entries.{same_of, present_of}
use Rattle.chunk_index.specs.Shelves.{look}
use Rattle.chunk_index.proofs.Mapping.{reported_either}
use Rattle.chunk_index.proofs.Preparing.{prepared_present, prepared_same}
use Rattle.chunk_index.proofs.index.Index.prepare.Goals as goal

pub invariant_of-self : goal.invariant_of-self
invariant_of-self c =
    let self = c.args.self.now in
    let o = c.args.key.object in
    let l = c.args.key.chunk in
    let m = self.shelf.objects in
    let reported = reported_either c.prepare.result m c.prepare.new.self.objects o l _ c.prepare.ensures.ok c.prepare.ensures.err same_of (prepared_same l (look m o l)) in
    record { noted = λ j k not. c.reserve.ensures.notes j k (self.noted j k (sym (reported j k) ∙ not)) }

pub returns-clause-present : goal.returns-clause-present
returns-clause-present c =
    let o = c.args.key.object in
    let l = c.args.key.chunk in
    let m = c.args.self.now.shelf.objects in
    reported_either c.prepare.result m c.prepare.new.self.objects o l _ c.prepare.ensures.ok c.prepare.ensures.err present_of (prepared_present l (look m o l))
