use Rattle.std.proofs.Common.{◌∙◌, sum_by, ap, arith}
use Rattle.volume_terms.specs.VolumeSizes.{sizes_of}
use Rattle.plain_volume.proofs.Few.{names_in, pairs_count, pairs_few}
use Rattle.plain_volume.proofs.state.links.file_links.Goals as goal

pub loop-object-init : goal.loop-object-init
loop-object-init c =
    let start = ap (sum_by (names_in c.args.number)) (c.into_iter-object-iterator.ensures.into_iter_gives ∙ c.values-object-items.ensures.rest) in
    let all = pairs_count c.args.objects.now c.args.number c.values-object-items.ensures.ordered in
    let within_limit = pairs_few (sizes_of c.args.sizes) c.args.objects.now c.args.number c.values-object-items.ensures.ordered c.args.sizes.least_page c.args.sizes.greatest_page c.args.sizes.few_blocks c.args.sizes.greatest_block c.requires in
    record { small = omega (arith, start, within_limit); reported = omega (arith, start, all) }
