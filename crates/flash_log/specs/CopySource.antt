-- Committed pages of a flash as a source of a group: their copies, each in its version.
use Rattle.std.specs.Prelude.{◌≡◌, ◌<◌, ◌≤◌, ℕ, ◌^◌, List, [], length, Some, slice_get}
use Rattle.std.specs.Option.{option_map_or}
use Rattle.nand_model.specs.Flash.{Flash, Page, Erased, Written}
use Rattle.nand_model.specs.Calls.{bytes_of}
use Rattle.nand_model.specs.declared.geometry.Geometry.{Geometry}
use Rattle.page_tags.specs.Tags.{IsTag, tag_bytes}
use Rattle.page_tags.specs.declared.tag.Tag.{Tag}
use Rattle.transactions.specs.declared.source.PageName.{PageName}
use Rattle.chunk_index.specs.declared.form.CommittedKey.{CommittedKey}
use Rattle.transactions.specs.Sources.{IsPageName, name_of}

-- what lies behind the last copy is called
abbrev pub no_name : PageName
no_name = record { key = record { object = 0; chunk = 0 }; version = 0 }

-- a committed page is copied under its key, in its version
abbrev pub copied_name : CommittedKey → PageName
copied_name c = record { key = c.key; version = c.at.version }

-- the name of copy i
abbrev pub copy_name : List CommittedKey → ℕ → PageName
copy_name places i = option_map_or (λ c. copied_name c) (slice_get places i) no_name

-- the page that copy i is of
abbrev pub page_at : List CommittedKey → Flash → ℕ → Page
page_at places flash i = option_map_or (λ c. flash.page c.at.block c.at.page) (slice_get places i) Erased

-- and its data
abbrev pub copy_bytes : List CommittedKey → Flash → ℕ → List ℕ
copy_bytes places flash i = bytes_of (page_at places flash i) []

-- the data of the page that a copy is of
abbrev pub data_of : Flash → CommittedKey → List ℕ
data_of flash c = bytes_of (flash.page c.at.block c.at.page) []

-- these bytes are a tag of a page of this name
pub record IsTagOf (name : PageName) (bytes : List ℕ) : Type 0 where
  pub tag : Tag
  pub is : bytes ≡ tag_bytes tag
  pub valid : IsTag tag
  pub named : name_of tag ≡ name

-- the page that is copied is written under its name
pub record HasItsName (flash : Flash) (c : CommittedKey) : Type 0 where
  pub bytes : List ℕ
  pub tag : List ℕ
  pub page : flash.page c.at.block c.at.page ≡ Written bytes tag
  pub names : IsTagOf (copied_name c) tag

-- copy i is of a page that is written under its name
abbrev pub HasCopy : List CommittedKey → Flash → ℕ → Type 0
HasCopy places flash i = (c : CommittedKey) → slice_get places i ≡ Some c → HasItsName flash c

-- There is at least one, each is on the device, and their names may be in this group.
pub record CanCopy (places : List CommittedKey) (geometry : Geometry) (number : ℕ) : Type 0 where
  pub some : 1 ≤ length places
  pub within_limit : length places < 2 ^ 32
  pub within : (i : ℕ) (c : CommittedKey) → slice_get places i ≡ Some c → (c.at.block < geometry.blocks) × (c.at.page < geometry.pages)
  pub named : (i : ℕ) → i < length places → IsPageName number (copy_name places i)
