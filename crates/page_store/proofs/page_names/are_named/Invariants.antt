use Rattle.std.proofs.Common.{◌≡◌, ◌<◌, ℕ, Some, slice_get}
use Rattle.mount_scan.specs.declared.page_copy.PageCopy.{PageCopy}
use Rattle.transactions.specs.Sources.{IsPageName}
use Rattle.page_store.specs.Opened.{name_in}
use Rattle.page_store.proofs.page_names.are_named.Given as goal

abbrev pub invariant-loop-found : goal.invariant-loop-found
invariant-loop-found l = (i : ℕ) (f : PageCopy) → i < l.found-index → slice_get l.list i ≡ Some f → IsPageName l.number (name_in f)
