-- A slot of a directory: a name and the object that it leads to.
use Rattle.std.specs.Prelude.{◌<◌, ◌≤◌, ℕ, ◌-◌, ◌^◌, List, ◌++◌, length, replicate}
use Rattle.byteorder.specs.Endian.{little_bytes}
use Rattle.volume_terms.specs.Names.{IsName}

-- what a slot says
pub record Entry : Type 0 where
  pub object : ℕ
  pub name : List ℕ

-- the 272 bytes: the object in 0..8, the length of the name in 8..10, the name from 10 on, and zeros
unfoldable pub slot_bytes : Entry → List ℕ
slot_bytes s = little_bytes 8 s.object ++ little_bytes 2 (length s.name) ++ s.name ++ replicate (262 - length s.name) 0

-- what a slot may say
pub record IsSlot (s : Entry) : Type 0 where
  pub object : (2 ≤ s.object) × (s.object < 2 ^ 64)
  pub name : IsName s.name
