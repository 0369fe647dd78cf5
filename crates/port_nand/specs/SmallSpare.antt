-- A device whose pages have 24 bytes of tag.
use Rattle.std.specs.Prelude.{◌≡◌, ℕ, List}
use Rattle.nand_model.specs.Flash.{Flash, Written, AreBytes}

-- A page that is written has so many bytes of data, and 24 of a tag.
abbrev pub IsSmallSized : ℕ → Flash → Type 0
IsSmallSized size flash = (b p : ℕ) (bytes tag : List ℕ) → flash.page b p ≡ Written bytes tag → AreBytes size bytes × AreBytes 24 tag
