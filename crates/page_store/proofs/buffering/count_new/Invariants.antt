use Rattle.std.proofs.Common.{◌≡◌, ◌≤◌, take}
use Rattle.page_store.specs.Buffering.{new_keys}
use Rattle.page_store.proofs.buffering.count_new.Given as goal

abbrev pub invariant-loop-page : goal.invariant-loop-page
invariant-loop-page l = record {
  count : l.count ≡ new_keys l.index (take l.page-index l.pages);
  within_limit : l.count ≤ l.page-index;
}
