-- What a cache has of a key.
use Rattle.std.specs.Prelude.{◌≡◌, ℕ, ◌==◌, Bool, ◌&&◌, List, length, Option, Some, None, Contains, slice_get}
use Rattle.std.specs.declared.vec.Vec.{Vec}
use Rattle.std.specs.declared.alloc.Global.{Global}
use Rattle.page_store.specs.declared.slot.Slot.{Slot}
use Rattle.page_store.specs.declared.slot.Slot.TheVariants as slots

-- what a cache has of a key: a place without a page, or the bytes of its page
pub data Held : Type 0 where
  Reserved : Held
  Page : (bytes : List ℕ) → Held

-- what a slot says of its key
abbrev pub held_in : Slot → Held
held_in (slots.Page frame) = Page frame.items
held_in slots.Reserved = Reserved

-- the bytes of the page, if there is one
abbrev pub page_in : Held → Option (List ℕ)
page_in Reserved = None
page_in (Page bytes) = Some bytes

-- whether a key is of object o and chunk c
abbrev pub is_key : ℕ → ℕ → ℕ × ℕ → Bool
is_key o c key = (o == key.0) && (c == key.1)

-- the page of the slot, if it has one, is in a frame of so many bytes
abbrev pub HasSize : ℕ → Slot → Type 0
HasSize bytes slot = (frame : Vec ℕ Global) → slot ≡ slots.Page frame → length frame.items ≡ bytes

-- each frame of a key has so many bytes
abbrev pub AreSized : ℕ → List ((ℕ × ℕ) × Slot) → Type 0
AreSized bytes entries = (key : ℕ × ℕ) (slot : Slot) → Contains entries (key, slot) → HasSize bytes slot

-- each of these frames has so many bytes
abbrev pub AreFrames : ℕ → List (Vec ℕ Global) → Type 0
AreFrames bytes frames = (i : ℕ) (frame : Vec ℕ Global) → slice_get frames i ≡ Some frame → length frame.items ≡ bytes
