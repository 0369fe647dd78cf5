-- What the bytes of an image say.
use Rattle.std.specs.Prelude.{◌≡◌, ◌≢◌, ◌<◌, ◌≤◌, ℕ, ◌+◌, ◌*◌, nat_eq, if◌then◌else◌, false, true, None, List, [], ◌∷◌, length, take, drop, slice_index}
use Rattle.byteorder.specs.Endian.{little_number}
use Rattle.nand_model.specs.Size.{IsSize}
use Rattle.nand_model.specs.Flash.{Page}
use Rattle.nand_model.specs.Memory.{page_of}
use Rattle.nand_model.specs.Calls.{Device}
use Rattle.nand_model.specs.declared.geometry.Geometry.{Geometry}
use Rattle.nand_model.specs.declared.nand.PageKind.{PageKind}
use Rattle.nand_model.specs.declared.nand.PageKind.TheVariants as kinds
use Rattle.nand_image.specs.Layout.{mark_place, page_place, image_size}

-- NANDIMG1
abbrev pub magic : List ℕ
magic = 78 ∷ 65 ∷ 78 ∷ 68 ∷ 73 ∷ 77 ∷ 71 ∷ 49 ∷ []

-- It begins with a head of 32 bytes, the first eight of which are these.
pub record HasHead (image : List ℕ) : Type 0 where
  pub long : 32 ≤ length image
  pub magic : take 8 image ≡ magic

-- the sizes that the head names: of a page's data, of a block, of the device
abbrev pub reported_bytes : List ℕ → ℕ
reported_bytes image = little_number 4 (drop 8 image)

abbrev pub reported_pages : List ℕ → ℕ
reported_pages image = little_number 4 (drop 12 image)

abbrev pub reported_blocks : List ℕ → ℕ
reported_blocks image = little_number 4 (drop 16 image)

-- the head names these sizes
pub record HasSizes (g : Geometry) (image : List ℕ) : Type 0 where
  pub bytes : reported_bytes image ≡ g.bytes
  pub pages : reported_pages image ≡ g.pages
  pub blocks : reported_blocks image ≡ g.blocks

-- the sizes that the head names are those of a device
abbrev pub ReportsSize : List ℕ → Type 0
ReportsSize image = IsSize (reported_bytes image) (reported_pages image) (reported_blocks image)

-- the size that an image with these sizes has
abbrev pub reported_size : List ℕ → ℕ
reported_size image = 32 + reported_blocks image + reported_blocks image * reported_pages image * (49 + reported_bytes image)

-- 0 is an erased page, 1 a written one, anything else is lost
abbrev pub kind_of_byte : ℕ → PageKind
kind_of_byte byte = if nat_eq byte 0 then kinds.Erased else (if nat_eq byte 1 then kinds.Written else kinds.Uncorrectable)

-- the page of so many bytes of data that is at the front: its kind, its tag and its data
abbrev pub page_in : ℕ → List ℕ → Page
page_in size image = page_of (kind_of_byte (slice_index image 0)) (take size (drop 49 image)) (take 48 (drop 1 image))

-- The device has the sizes, the marks and the pages of the image, which has no byte more. No block has a next page.
pub record IsImage (image : List ℕ) (device : Device) : Type 0 where
  pub sizes : HasSizes device.geometry image
  pub size : length image ≡ image_size device.geometry
  pub good : (b : ℕ) → b < device.geometry.blocks → slice_index image (mark_place b) ≡ 0 → device.flash.bad b ≡ false
  pub bad : (b : ℕ) → b < device.geometry.blocks → slice_index image (mark_place b) ≢ 0 → device.flash.bad b ≡ true
  pub nexts : (b : ℕ) → device.flash.next b ≡ None
  pub pages : (b p : ℕ) → b < device.geometry.blocks → p < device.geometry.pages
      → device.flash.page b p ≡ page_in device.geometry.bytes (drop (page_place device.geometry b p) image)
