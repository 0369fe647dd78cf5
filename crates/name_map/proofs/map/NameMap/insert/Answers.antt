use Rattle.std.proofs.Common.{sym, ◌∙◌, ap}
use Rattle.std.specs.FinMap as map
use Rattle.name_map.specs.laws.NameEntries.{get_entry, insert_name, option_map_same}
use Rattle.name_map.proofs.map.NameMap.insert.Goals as goal

pub returns-clause-inserted : goal.returns-clause-inserted
returns-clause-inserted c =
    insert_name c.self.inside.map c.insert.new.self c.args.name c.args.number c.insert.ensures.was_ordered c.insert.ensures.ordered c.in_ok-led.ensures.entries
    ∙ ap (λ m. map.insert m c.args.name.items c.args.number) c.self.view_is

pub returns-clause-led : goal.returns-clause-led
returns-clause-led c =
    c.in_ok-led.ensures.old ∙ sym (option_map_same _) ∙ sym (get_entry c.self.inside.map c.args.name.items) ∙ ap (λ m. map.get m c.args.name.items) c.self.view_is
