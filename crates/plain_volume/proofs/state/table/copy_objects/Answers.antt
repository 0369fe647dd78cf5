use Rattle.std.proofs.Common.{◌≡◌, ℕ, ap}
use Rattle.std.specs.FinMap as map
use Rattle.std.specs.Ordering.{nat_cmp}
use Rattle.plain_volume.specs.PlainState.{object_of, objects_in}
use Rattle.name_map.specs.laws.Seen.{ok_of, clone_seen}
use Rattle.plain_volume.proofs.state.table.copy_objects.Goals as goal

pub returns : goal.returns
returns c = ok_of c.clone.result _ (λ copy. objects_in copy ≡ objects_in c.args.objects.now) _ c.clone.ensures.cases
    (λ copy is. ap (map.from_entries {R = nat_cmp}) (clone_seen (λ (k : ℕ). k) object_of _ _ (λ a b is. is) (λ a b is. is) c.args.objects.now.entries copy.entries is))
