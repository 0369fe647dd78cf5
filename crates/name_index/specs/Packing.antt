-- A hash and a slot in one number.
use Rattle.std.specs.Prelude.{◌≡◌, ◌≢◌, ◌+◌, ◌*◌, ◌/◌, ◌%◌, ℕ, Option, Some, None}

-- the number
abbrev pub packed : ℕ → ℕ → ℕ
packed hash slot = hash * 4294967296 + slot

-- the hash in a number
abbrev pub hash_of : ℕ → ℕ
hash_of x = x / 4294967296

-- the slot in a number
abbrev pub slot_of : ℕ → ℕ
slot_of x = x % 4294967296

-- the slot of a number that has this hash; none, where it has another
abbrev pub IsSlotUnder : ℕ → ℕ → Option ℕ → Type 0
IsSlotUnder hash x None = hash_of x ≢ hash
IsSlotUnder hash x (Some slot) = (hash_of x ≡ hash) × (slot_of x ≡ slot)
