use Rattle.mount_scan.specs.Runs.{Reaches, AddsCounted}
use Rattle.mount_scan.proofs.group.add_counted.Given as goal

abbrev pub invariant-loop-page : goal.invariant-loop-page
invariant-loop-page l = record {
  reach : Reaches l.tags l.page l.page l.end;
  added : AddsCounted l.block l.tags l.page l.fn.valid_pages.items l.valid_pages.items;
}
