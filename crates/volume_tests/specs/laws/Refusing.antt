-- What is promised of sound pages alone.
use Rattle.std.specs.Prelude.{◌≡◌, ◌≤◌, ℕ, Bool, true, false}

-- such pages have not failed
pub nothing_lost : (gone : Bool) → false ≡ true → gone ≡ true
nothing_lost gone is = absurd cc

-- nor are they worn
pub nothing_worn : (n m : ℕ) → false ≡ true → n ≤ m
nothing_worn n m is = absurd cc
