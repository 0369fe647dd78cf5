-- What an erase or a mark of a block leaves, however it ends.
-- From: this project.
use Rattle.std.specs.Prelude.{◌≡◌, ◌≢◌, ℕ, true, false, List, Result}
use Rattle.nand_model.specs.Flash.{Flash, Written}
use Rattle.nand_model.specs.Calls.{Device, Marks}
use Rattle.nand_model.specs.declared.nand.Gone.{Gone}

-- block b of an honest device is marked bad, however that ends
abbrev pub MarksHonest : ℕ → Device → Device → Type 0
MarksHonest b old new = (result : Result (Unit {0}) Gone) × (old.honest ≡ true) × Marks b old new result

-- Pages of block b are as they were or not written any more, it is not good again, and nothing else is other: so it is after an
-- erase or a mark of it, however that ends.
pub record Fades (b : ℕ) (old new : Flash) : Type 0 where
  pub good : new.bad b ≡ false → old.bad b ≡ false
  pub pages : (l : ℕ) (bytes tag : List ℕ) → new.page b l ≡ Written bytes tag → old.page b l ≡ Written bytes tag
  pub other_marks : (k : ℕ) → k ≢ b → new.bad k ≡ old.bad k
  pub other_pages : (k l : ℕ) → k ≢ b → new.page k l ≡ old.page k l
