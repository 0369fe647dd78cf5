-- Programs that were refused since their tags do not fit.
use Rattle.std.specs.Prelude.{ℕ, ◌+◌, Bool, true, false, List, [], ◌∷◌, nat_eq, if◌then◌else◌}
use Rattle.port_nand.specs.declared.refusals.Refusals.{Refusals}

-- block b is among the closed ones
abbrev pub is_closed : List ℕ → ℕ → Bool
is_closed [] b = false
is_closed (k ∷ closed) b = if nat_eq b k then true else is_closed closed b

-- the closed blocks but block b
abbrev pub without : ℕ → List ℕ → List ℕ
without b [] = []
without b (k ∷ closed) = if nat_eq b k then without b closed else k ∷ without b closed

-- nothing was refused
abbrev pub none_refused : Refusals
none_refused = record { closed = []; count = 0 }

-- one more, in block b, which is closed by it
abbrev pub refused_in : ℕ → Refusals → Refusals
refused_in b refusals = record { closed = b ∷ refusals.closed; count = refusals.count + 1 }

-- block b is open again
abbrev pub opened : ℕ → Refusals → Refusals
opened b refusals = record { closed = without b refusals.closed; count = refusals.count }
