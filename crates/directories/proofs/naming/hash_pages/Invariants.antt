use Rattle.std.proofs.Common.{◌≡◌, ◌<◌, ◌≤◌, ◌/◌, ℕ, Some, slice_get}
use Rattle.flash_tree.specs.declared.place.FreshPage.{FreshPage}
use Rattle.directories.specs.Hashing.{HoldsMore, HoldsPage, SaysNoDirectory, kept_count}
use Rattle.directories.proofs.naming.hash_pages.Given as goal

abbrev pub invariant-loop-page : goal.invariant-loop-page
invariant-loop-page l = record {
  committed : HoldsMore l.fn.names l.names;
  done : (i : ℕ) (page : FreshPage) → i < l.page-index → slice_get l.pages i ≡ Some page → 1 ≤ page.key.chunk → (SaysNoDirectory l.pages page.key.object → ⊥) → HoldsPage l.names (l.page_bytes / 272) (kept_count l.kept page.key.object) page;
}
