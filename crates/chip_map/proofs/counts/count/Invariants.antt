use Rattle.std.proofs.Common.{◌≡◌, take}
use Rattle.chip_map.specs.Counting.{AreCounts, total_of}
use Rattle.chip_map.specs.Surveys.{pages_of}
use Rattle.chip_map.proofs.counts.count.Given as goal

abbrev pub invariant-loop-page : goal.invariant-loop-page
invariant-loop-page l = record {
  counts : AreCounts (take l.page-index (pages_of l.survey)) l.counts;
  total : total_of l.counts ≡ l.page-index;
}
