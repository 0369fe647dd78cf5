-- The items of a slice of bytes are bytes.
use Rattle.std.proofs.Common.{ℕ, List, get_or, Fits, w8, arith}
use Rattle.page_tags.specs.Headers.{IsBytes}

pub IsBytes-from_fits : (bytes : List ℕ) → ((i : ℕ) → Fits w8 (get_or bytes i 0)) → IsBytes bytes
IsBytes-from_fits bytes fits i = let byte = fits i in omega arith
