-- The pages that a change of objects may write.
use Rattle.std.specs.Prelude.{ℕ, ◌+◌, length}
use Rattle.volume_terms.specs.Rounding.{ceiling}
use Rattle.object_store.specs.declared.change.ObjectChange.{ObjectChange}
use Rattle.object_store.specs.declared.change.ObjectChange.TheVariants as changes

-- most pages of d bytes that a change writes
abbrev pub most_pages : ℕ → ObjectChange → ℕ
most_pages d (changes.Create entry kind moment) = 3
most_pages d (changes.Name entry number moment) = 2
most_pages d (changes.Remove entry removed dropped moment) = 2
most_pages d (changes.Move from to number replaced dropped moment) = 4
most_pages d (changes.Write number offset bytes moment) = ceiling (length bytes.now) d + 3
most_pages d (changes.Resize number length moment) = 2
most_pages d (changes.Forget number) = 0
