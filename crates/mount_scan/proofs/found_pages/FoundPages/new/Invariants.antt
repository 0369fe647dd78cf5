use Rattle.std.proofs.Common.{◌≡◌, ℕ, [], length, slice_get, Some}
use Rattle.mount_scan.specs.declared.bucket.Bucket.{Bucket}
use Rattle.mount_scan.specs.Buckets.{pages_of}
use Rattle.mount_scan.proofs.found_pages.FoundPages.new.Given as goal

abbrev pub invariant-loop-bucket : goal.invariant-loop-bucket
invariant-loop-bucket l = record {
  len : length l.buckets.items ≡ l._bucket;
  none : (k : ℕ) (b : Bucket) → slice_get l.buckets.items k ≡ Some b → pages_of b ≡ [];
}
