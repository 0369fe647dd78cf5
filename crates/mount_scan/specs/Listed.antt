-- All pages that were found.
use Rattle.std.specs.Prelude.{◌≡◌, ◌≢◌, ◌<◌, ◌≤◌, ◌+◌, ℕ, List, [], length, get_or, slice_get}
use Rattle.std.specs.Option.{option_map_or}
use Rattle.mount_scan.specs.declared.page_copy.PageCopy.{PageCopy}
use Rattle.mount_scan.specs.declared.found_pages.FoundPages.{FoundPages}
use Rattle.mount_scan.specs.Buckets.{pages_of, pages_in}

-- all pages
abbrev pub listed : FoundPages → List PageCopy
listed x = pages_in x.buckets.items

-- the pages of the bucket at a place
abbrev pub bucket_at : FoundPages → ℕ → List PageCopy
bucket_at x k = option_map_or pages_of (slice_get x.buckets.items k) []

-- the buckets but one are as they were
abbrev pub AreOthersSame : ℕ → FoundPages → FoundPages → Type 0
AreOthersSame at old new = (k : ℕ) → k ≢ at → bucket_at new k ≡ bucket_at old k

-- from page n on the list has these pages
pub record IsPartAt (fs : List PageCopy) (n : ℕ) (part : List PageCopy) : Type 0 where
  pub within : n + length part ≤ length fs
  pub each : (i : ℕ) (d : PageCopy) → i < length part → get_or fs (n + i) d ≡ get_or part i d
