-- What a name may be.
use Rattle.std.specs.Prelude.{◌≢◌, ◌≤◌, ◌<◌, ℕ, List, [], ◌∷◌, length, All, Contains}
use Rattle.volume_terms.specs.Sizes.{name_limit}

-- numbers that are bytes
abbrev pub AreBytes : List ℕ → Type 0
AreBytes bytes = All (λ byte. byte < 256) bytes

-- 1 to 255 bytes without a zero byte or a slash, and neither `.` nor `..`
pub record IsName (name : List ℕ) : Type 0 where
  pub bytes : AreBytes name
  pub some : 1 ≤ length name
  pub within_limit : length name ≤ name_limit
  pub no_zero : ¬ Contains name 0
  pub no_slash : ¬ Contains name 47
  pub not_dot : name ≢ 46 ∷ []
  pub not_dot_dot : name ≢ 46 ∷ 46 ∷ []
