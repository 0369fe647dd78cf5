-- What the order of numbers says of a range.
use Rattle.std.proofs.Common.{◌≡◌, ℕ, ◌<◌, ◌≤◌, false, arith}
use Rattle.std.specs.Ordering.{nat_cmp, is_lt}
use Rattle.std.specs.BTreeMap.Range.{IsLeBy, IsLtBy}
use Rattle.std.proofs.lemmas.Bool.Decides.{nat_tests}

pub in_order : (a b : ℕ) → IsLeBy nat_cmp a b → a ≤ b
in_order a b is = grind (arith, nat_tests, is)

pub in_order_of : (a b : ℕ) → a ≤ b → IsLeBy nat_cmp a b
in_order_of a b le = grind (arith, nat_tests, le)

pub before : (a b : ℕ) → IsLtBy nat_cmp a b → a < b
before a b is = grind (arith, nat_tests, is)

pub before_of : (a b : ℕ) → a < b → IsLtBy nat_cmp a b
before_of a b lt = grind (arith, nat_tests, lt)

pub not_less : (a b : ℕ) → is_lt (nat_cmp a b) ≡ false → b ≤ a
not_less a b is = grind (arith, nat_tests, is)
