-- Room for a move after a call that wrote by way of its page.
use Rattle.std.proofs.Common.{◌≡◌, ◌≤◌, ◌++◌, ℕ, List, length, take, length-append, arith}
use Rattle.std.proofs.lemmas.List.{length-take-le}

-- a page is as long where all of it was written
pub same_page : (n : ℕ) (xs ys : List ℕ) → n ≤ length xs → length (take n (xs ++ ys)) ≡ n
same_page n xs ys le = length-take-le n (xs ++ ys) (let long = length-append xs ys in omega (arith, long, le))
