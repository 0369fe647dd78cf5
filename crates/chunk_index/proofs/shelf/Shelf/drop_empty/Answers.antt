use Rattle.std.proofs.Common.{◌∙◌}
use Rattle.chunk_index.proofs.Shelving.{bare_less}
use Rattle.chunk_index.proofs.shelf.Shelf.drop_empty.Goals as goal

pub invariant_of-self : goal.invariant_of-self
invariant_of-self c =
    let same = bare_less c.args.object c.args.self.now.objects c.remove.new.self (c.is_bare.ensures c.if-is_bare.true) c.remove.ensures.entries c.remove.ensures.updates in
    record { ordered = c.remove.ensures.ordered; totaled = same.weighs (λ e. 1) ∙ c.args.self.now.totaled; bounded = c.args.self.now.bounded }

pub returns-then-is_bare-clause-same : goal.returns-then-is_bare-clause-same
returns-then-is_bare-clause-same c = bare_less c.args.object c.args.self.now.objects c.remove.new.self (c.is_bare.ensures c.if-is_bare.true) c.remove.ensures.entries c.remove.ensures.updates
