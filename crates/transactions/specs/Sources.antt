-- What pages may be called.
use Rattle.std.specs.Prelude.{◌<◌, ◌≤◌, ℕ, ◌^◌}
use Rattle.page_tags.specs.declared.tag.Tag.{Tag}
use Rattle.transactions.specs.declared.source.PageName.{PageName}

-- what a page with this tag is called
abbrev pub name_of : Tag → PageName
name_of t = record { key = record { object = t.object; chunk = t.chunk }; version = t.version }

-- the name may be in a tag of the group of this number
pub record IsPageName (number : ℕ) (name : PageName) : Type 0 where
  pub object : (1 ≤ name.key.object) × (name.key.object < 2 ^ 64)
  pub chunk : name.key.chunk < 2 ^ 64
  pub version : (1 ≤ name.version) × (name.version ≤ number)
