use Rattle.std.proofs.Common.{◌≡◌, ◌<◌, ◌+◌, ◌^◌, length, sum_by}
use Rattle.posix_profile.specs.Names.{link_pairs}
use Rattle.plain_volume.specs.PlainState.{objects_in}
use Rattle.plain_volume.proofs.Few.{names_in}
use Rattle.plain_volume.proofs.state.links.file_links.Given as goal

abbrev pub invariant-loop-object : goal.invariant-loop-object
invariant-loop-object l = record {
  small : l.count + sum_by (names_in l.number) l.object-iterator < 2 ^ 63;
  reported : l.count + sum_by (names_in l.number) l.object-iterator ≡ length (link_pairs (objects_in l.fn.objects) l.fn.number);
}
