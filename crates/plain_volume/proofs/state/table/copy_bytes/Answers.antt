use Rattle.std.proofs.Common.{◌≡◌}
use Rattle.name_map.specs.laws.Seen.{ok_of, same_zip}
use Rattle.plain_volume.proofs.state.table.copy_bytes.Goals as goal

pub returns : goal.returns
returns c = ok_of c.clone.result _ (λ copy. copy.items ≡ c.args.bytes.now.items) _ c.clone.ensures.cases
    (λ copy is. same_zip c.args.bytes.now.items copy.items is.0)
