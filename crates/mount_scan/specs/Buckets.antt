-- The pages that were found, in buckets.
use Rattle.std.specs.Prelude.{◌≡◌, ℕ, ◌+◌, ◌*◌, ◌/◌, ◌%◌, List, if◌then◌else◌, Some, flat_map, nat_lt, slice_get, Contains}
use Rattle.mount_scan.specs.declared.page_copy.PageCopy.{PageCopy}
use Rattle.mount_scan.specs.declared.bucket.Bucket.{Bucket}

-- the number whose bits are the lowest five of n in reverse
abbrev pub reversed : ℕ → ℕ
reversed n = n % 2 * 16 + n / 2 % 2 * 8 + n / 4 % 2 * 4 + n / 8 % 2 * 2 + n / 16 % 2

-- the bucket of the key of chunk c of object o
abbrev pub bucket_of : ℕ → ℕ → ℕ
bucket_of o c = if nat_lt c 1024 then reversed o else 32 + c / 1024 % 32

-- the pages of a bucket
abbrev pub pages_of : Bucket → List PageCopy
pages_of b = b.pages.items

-- the pages of some buckets, one bucket after another
abbrev pub pages_in : List Bucket → List PageCopy
pages_in bs = flat_map pages_of bs

-- each page is in the bucket of its key
abbrev pub AreApart : List Bucket → Type 0
AreApart bs = (k : ℕ) (b : Bucket) (f : PageCopy) → slice_get bs k ≡ Some b → Contains (pages_of b) f → bucket_of f.object f.chunk ≡ k
