use Rattle.std.proofs.Common.{◌≡◌, ◌≤◌, length, subst, sym, ap, ◌∙◌, arith}
use Rattle.std.proofs.lemmas.Bool.Decides.{nat_tests}
use Rattle.std.proofs.lemmas.List.{length-map}
use Rattle.chunk_index.specs.Dropped.{dropped_from}
use Rattle.chunk_index.specs.Lists.{Rises}
use Rattle.chunk_index.specs.Entries.{chunk}
use Rattle.chunk_index.proofs.Dropping.{rises_dropped, none_from, all_before}
use Rattle.chunk_index.proofs.object.ObjectEntries.drop_from.Goals as goal

pub invariant_of-self : goal.invariant_of-self
invariant_of-self c = record { rises = subst (Rises chunk) (sym (c.drop_behind.ensures c.args.from c.count_below-first.ensures)) (rises_dropped c.args.from c.args.self.now.entries.items c.args.self.now.rises) }

pub returns-clause-items : goal.returns-clause-items
returns-clause-items c = c.drop_behind.ensures c.args.from c.count_below-first.ensures

pub returns-clause-none : goal.returns-clause-none
returns-clause-none c =
    let es = c.args.self.now.entries.items in
    let n = c.args.from in
    let first = c.count_below-first.result in
    let end = c.count_below-first.ensures in
    let same : length c.drop_behind.new.entries.items ≡ length es = ap length (c.drop_behind.ensures n end) ∙ length-map es (dropped_from n) in (
      λ not. none_from es n first end (grind (arith, nat_tests, same, c.len.ensures, not)),
      λ none. let few : length es ≤ first = all_before es c.args.self.now.rises n first end none in grind (arith, nat_tests, same, c.len.ensures, few),
    )
