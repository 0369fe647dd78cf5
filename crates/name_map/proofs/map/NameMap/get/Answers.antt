use Rattle.std.proofs.Common.{◌∙◌, sym, ap}
use Rattle.std.specs.FinMap as map
use Rattle.name_map.specs.laws.NameEntries.{get_entry, option_map_same}
use Rattle.name_map.proofs.map.NameMap.get.Goals as goal

pub returns : goal.returns
returns c = c.copied.ensures ∙ c.get.ensures.value ∙ sym (option_map_same _) ∙ sym (get_entry c.self.inside.map c.args.name.now) ∙ ap (λ m. map.get m c.args.name.now) c.self.view_is
