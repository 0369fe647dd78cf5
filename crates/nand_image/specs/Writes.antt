-- Bytes that were written at places.
use Rattle.std.specs.Prelude.{◌≡◌, Bool, true, false, ◌<◌, ℕ, zero, suc, ◌+◌, List, [], ◌∷◌, ◌++◌, length, take, Option, Some, None, Result, Ok, Err}
use Rattle.nand_model.specs.declared.geometry.Geometry.{Geometry}
use Rattle.nand_image.specs.Layout.{page_place, mark_place}

-- bytes from a place of a file on
pub record Write : Type 0 where
  pub place : ℕ
  pub bytes : List ℕ

-- known writes grow by these, in this order
abbrev pub Adds : Option (List Write) → Option (List Write) → List Write → Type 0
Adds None new more = Unit {0}
Adds (Some xs) None more = ⊥
Adds (Some xs) (Some ys) more = ys ≡ xs ++ more

-- some of these were done, from the first on, but not all
pub record StopsIn (planned : List Write) (old new : Option (List Write)) : Type 0 where
  pub count : ℕ
  pub some_missing : count < length planned
  pub adds : Adds old new (take count planned)

-- all of these were done in their order, or it stopped before one of them
abbrev pub WritesAll : {X E : Type 0} → List Write → Option (List Write) → Option (List Write) → Result X E → Type 0
WritesAll planned old new (Ok done) = Adds old new planned
WritesAll planned old new (Err fault) = StopsIn planned old new

-- What a program of the page that begins at this place writes: data and tag, and only then that the page is written.
abbrev pub page_writes : ℕ → List ℕ → List ℕ → List Write
page_writes place bytes tag =
    record { place = place + 49; bytes = bytes } ∷ record { place = place + 1; bytes = tag } ∷ record { place = place; bytes = 1 ∷ [] } ∷ []

-- and at its place in the image
abbrev pub program_writes : Geometry → ℕ → ℕ → List ℕ → List ℕ → List Write
program_writes g b p bytes tag = page_writes (page_place g b p) bytes tag

-- what an erase writes of a page: that it is erased
abbrev pub erase_write : Geometry → ℕ → ℕ → Write
erase_write g b p = record { place = page_place g b p; bytes = 0 ∷ [] }

-- what an erase writes of the first pages of a block, in turn
abbrev pub erase_writes : Geometry → ℕ → ℕ → List Write
erase_writes g b zero = []
erase_writes g b (suc count) = erase_writes g b count ++ erase_write g b count ∷ []

-- What a mark writes.
abbrev pub mark_writes : ℕ → List Write
mark_writes b = record { place = mark_place b; bytes = 1 ∷ [] } ∷ []

-- A device with power writes all of it, or stops in it. One that is gone writes nothing.
abbrev pub WritesThrough : {X E : Type 0} → Bool → List Write → Option (List Write) → Option (List Write) → Result X E → Type 0
WritesThrough true planned old new result = Adds old new []
WritesThrough false planned old new result = WritesAll planned old new result
