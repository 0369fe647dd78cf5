use Rattle.std.proofs.Common.{◌≡◌, ◌<◌, ℕ, Some, slice_get}
use Rattle.mount_scan.specs.declared.page_copy.PageCopy.{PageCopy}
use Rattle.transactions.specs.Sources.{IsPageName}
use Rattle.mount_scan.specs.Listed.{listed}
use Rattle.mount_scan.specs.laws.Listed.{before}
use Rattle.page_store.specs.Opened.{name_in}
use Rattle.page_store.proofs.page_names.have_names.Given as goal

abbrev pub invariant-loop-at : goal.invariant-loop-at
invariant-loop-at l = (i : ℕ) (f : PageCopy) → i < before l.newest l.at → slice_get (listed l.newest) i ≡ Some f → IsPageName l.number (name_in f)
