-- What follows of a device that is trusted.
use Rattle.std.specs.Prelude.{◌≡◌, Bool, true, false, ◌&&◌}
use Rattle.std.proofs.Common.{refl}

-- what is honest and trusted is honest
pub honest_of : (honest trusted : Bool) → (honest && trusted) ≡ true → honest ≡ true
honest_of true trusted is = refl
honest_of false trusted is = absurd cc

-- and trusted
pub trusted_of : (honest trusted : Bool) → (honest && trusted) ≡ true → trusted ≡ true
trusted_of true trusted is = is
trusted_of false trusted is = absurd cc

-- what is trusted is as honest as it is
pub honest_where : (honest trusted : Bool) → trusted ≡ true → (honest && trusted) ≡ honest
honest_where true trusted is = is
honest_where false trusted is = refl
