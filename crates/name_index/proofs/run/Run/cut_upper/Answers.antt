use Rattle.std.proofs.Common.{sym, subst, length, ◌<◌, arith, ◌∙◌}
use Rattle.name_index.specs.Lists.{Rises}
use Rattle.name_index.proofs.Dividing.{rises_take, filled_take}
use Rattle.name_index.proofs.run.Run.cut_upper.Goals as goal

pub invariant_of-self : goal.invariant_of-self
invariant_of-self c =
    let run = c.args.self.now in
    let xs = run.numbers.items in
    let is = c.shrink_to_fit.ensures.items ∙ c.truncate.ensures.items in
    record {
      rises = subst Rises (sym is) (rises_take xs run.rises 32 c.requires);
      filled = subst (λ ys. 0 < length ys) (sym is) (filled_take xs run.rises 32 c.requires (omega arith));
    }
