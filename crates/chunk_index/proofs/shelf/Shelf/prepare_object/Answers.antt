use Rattle.std.proofs.Common.{sym, ◌∙◌}
use Rattle.chunk_index.proofs.Shelving.{object_put}
use Rattle.chunk_index.proofs.shelf.Shelf.prepare_object.Goals as goal

pub invariant_of-self : goal.invariant_of-self
invariant_of-self c =
    let same = object_put c.args.object c.args.self.now.objects c.insert.new.self c.new-entries.result c.new-entries.ensures (sym c.contains_key.ensures ∙ c.if-contains_key.false) c.insert.result c.insert.ensures.was_ordered c.insert.ensures.entries c.insert.ensures.updates c.insert.ensures.err in
    record { ordered = c.insert.ensures.ordered; totaled = same.weighs (λ e. 1) ∙ c.args.self.now.totaled; bounded = c.args.self.now.bounded }

pub returns-clause-same : goal.returns-clause-same
returns-clause-same c = object_put c.args.object c.args.self.now.objects c.insert.new.self c.new-entries.result c.new-entries.ensures (sym c.contains_key.ensures ∙ c.if-contains_key.false) c.insert.result c.insert.ensures.was_ordered c.insert.ensures.entries c.insert.ensures.updates c.insert.ensures.err
