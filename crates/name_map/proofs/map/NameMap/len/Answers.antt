use Rattle.std.proofs.Common.{◌∙◌, sym, ap}
use Rattle.std.specs.FinMap as map
use Rattle.name_map.specs.laws.NameEntries.{len_entries}
use Rattle.name_map.proofs.map.NameMap.len.Goals as goal

pub returns : goal.returns
returns c = c.len.ensures.len ∙ sym (len_entries c.self.inside.map c.len.ensures.ordered) ∙ ap map.len c.self.view_is
