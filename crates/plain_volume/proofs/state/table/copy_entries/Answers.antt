use Rattle.std.proofs.Common.{◌≡◌, ℕ, ap}
use Rattle.std.specs.Global.{Vec}
use Rattle.std.specs.FinMap as map
use Rattle.std.specs.Ordering.{nat_cmp}
use Rattle.std.specs.Cmp.Lexicographic.{slice_cmp}
use Rattle.name_map.specs.NameEntries.{entries_in}
use Rattle.name_map.specs.laws.Seen.{ok_of, same_zip, clone_seen}
use Rattle.plain_volume.proofs.state.table.copy_entries.Goals as goal

pub returns : goal.returns
returns c = ok_of c.clone.result _ (λ copy. entries_in copy ≡ entries_in c.args.entries.now) _ c.clone.ensures.cases
    (λ copy is. ap (map.from_entries {R = slice_cmp nat_cmp})
    (clone_seen (λ (k : Vec ℕ). k.items) (λ (n : ℕ). n) _ _ (λ a b is. same_zip a.items b.items is.0) (λ a b is. is) c.args.entries.now.entries copy.entries is))
