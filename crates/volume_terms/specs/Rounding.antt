-- Parts that count as whole ones.
use Rattle.std.specs.Prelude.{ℕ, ◌+◌, ◌-◌, ◌/◌}

-- n / d, rounded up
abbrev pub ceiling : ℕ → ℕ → ℕ
ceiling n d = (n + d - 1) / d
