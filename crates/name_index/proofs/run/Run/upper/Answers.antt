use Rattle.std.proofs.Common.{sym, subst, length, ◌<◌, arith, ◌∙◌, ap, drop}
use Rattle.name_index.specs.Lists.{Rises}
use Rattle.name_index.proofs.Dividing.{rises_drop, filled_drop}
use Rattle.name_index.proofs.run.Run.upper.Goals as goal

pub invariant_of-result : goal.invariant_of-result
invariant_of-result c =
    let run = c.args.self.now in
    let xs = run.numbers.items in
    let more : 32 < length xs = omega (arith, c.len.ensures, c.if-len-lt-MOST_NUMBERS.false) in
    let is = c.in_ok-numbers.ensures.items ∙ c.split_at.ensures.back ∙ ap (drop 32) c.deref.ensures.value in
    record {
      rises = subst Rises (sym is) (rises_drop xs run.rises 32 more);
      filled = subst (λ ys. 0 < length ys) (sym is) (filled_drop xs run.rises 32 more);
    }

pub returns : goal.returns
returns c =
    let more : 32 < length c.args.self.now.numbers.items = omega (arith, c.len.ensures, c.if-len-lt-MOST_NUMBERS.false) in
    (more, c.in_ok-numbers.ensures.items ∙ c.split_at.ensures.back ∙ ap (drop 32) c.deref.ensures.value)
