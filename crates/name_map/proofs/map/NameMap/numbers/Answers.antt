use Rattle.std.proofs.Common.{◌≡◌, IfOk, rules, ◌∙◌, sym, ap}
use Rattle.std.specs.FinMap as map
use Rattle.std.specs.BTreeMap as tree
use Rattle.std.proofs.lemmas.Result.{IfOk-weaker}
use Rattle.name_map.specs.laws.NameEntries.{values_entries}
use Rattle.name_map.proofs.map.NameMap.numbers.Goals as goal

pub returns : goal.returns
returns c =
    let each : IfOk c.collect.result (λ numbers. numbers.items ≡ tree.values c.self.inside.map) = search rules in
    IfOk-weaker c.collect.result _ (λ numbers. numbers.items ≡ map.values c.args.self.now)
    (λ numbers is. is ∙ sym (values_entries c.self.inside.map c.values.ensures.ordered) ∙ ap map.values c.self.view_is) each
