use Rattle.std.proofs.Common.{◌∙◌, ◌++◌, List, ℕ, sym, ap, map as list_map}
use Rattle.std.specs.Global.{Vec}
use Rattle.name_map.specs.laws.NameEntries.{keys_entries}
use Rattle.plain_volume.proofs.objects.names.names_of.Goals as goal

pub loop-name-init : goal.loop-name-init
loop-name-init c =
    ap (λ (xs : List (List ℕ)). xs ++ list_map (λ (k : Vec ℕ). k.items) c.into_iter-name-iterator.result) c.new-names.ensures.items
    ∙ ap (list_map (λ (k : Vec ℕ). k.items)) (c.into_iter-name-iterator.ensures.into_iter_gives ∙ c.keys-name-items.ensures.rest)
    ∙ sym (keys_entries c.args.entries.now c.keys-name-items.ensures.ordered)
