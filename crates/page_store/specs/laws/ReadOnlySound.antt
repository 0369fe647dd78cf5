-- Why pages that are only read have failed, while they are sound.
use Rattle.std.specs.Prelude.{◌≡◌, ◌≤◌, ℕ, Bool, true, false, not, ◌&&◌, ◌||◌}
use Rattle.std.proofs.Common.{refl}

-- their device is gone: it is honest, and no change was refused
pub lost_reading : (gone honest refused : Bool) → (honest && not refused) ≡ true → (gone || not honest) ≡ true → gone ≡ true
lost_reading true honest refused sound failed = refl
lost_reading false true refused sound failed = let two : false ≡ true = failed in absurd cc
lost_reading false false refused sound failed = let two : false ≡ true = sound in absurd cc

-- they are never to be written
pub only_worn : (n m : ℕ) → true ≡ false → n ≤ m
only_worn n m is = absurd cc
