-- Committed pages that are read over an index, which is trusted or not.
-- From: this project.
use Rattle.std.specs.Prelude.{◌≡◌, ◌⊎◌, ◌<◌, ◌&&◌, ℕ, Bool, true, List, Some}
use Rattle.nand_model.specs.Calls.{Device}
use Rattle.page_tags.specs.declared.tag.Tag.{Tag}
use Rattle.page_tags.specs.Tags.{tag_bytes, IsTag}
use Rattle.flash_tree.specs.declared.place.Key.{Key}
use Rattle.chunk_index.specs.declared.form.CommittedPage.{CommittedPage}
use Rattle.chunk_index.specs.declared.index.Index.{Index}
use Rattle.chunk_index.specs.Maps.{committed_pages}
use Rattle.flash_log.specs.Consistency.{AreCommitted, IsCommittedAt}
use Rattle.pages.specs.State.{PagesState}
use Rattle.nand_model.specs.Trusting.{trusted_as}
use Rattle.volume_terms.specs.declared.fault.StoreFault.{StoreFault}
use Rattle.volume_terms.specs.declared.fault.StoreFault.TheVariants as faults
use Rattle.page_store.specs.Newest.{seen_pages}

-- each committed page lies on the device
abbrev pub LieWithin : Device → Index → Type 0
LieWithin device x = (o c : ℕ) (p : CommittedPage) → committed_pages x o c ≡ Some p → (p.block < device.geometry.blocks) × (p.page < device.geometry.pages)

-- of an honest device an index that is trusted keeps newest pages
abbrev pub TrustsCommitted : Device → Bool → Index → Type 0
TrustsCommitted device reported x = (device.honest && reported) ≡ true → AreCommitted device.flash (committed_pages x)

-- the bytes are a valid tag of the key, in the version that is committed
abbrev pub IsTagOf : List ℕ → Key → CommittedPage → Type 0
IsTagOf bytes key at = (t : Tag) × IsTag t × (bytes ≡ tag_bytes t) × (t.object ≡ key.object) × (t.chunk ≡ key.chunk) × (t.version ≡ at.version)

-- Committed pages as they are read: known where the device is honest and trusted. The device is as it is.
abbrev pub lent : Bool → Device → Index → List ℕ → PagesState
lent reported device x page = record (seen_pages (trusted_as reported device) x page) { device = device }

-- no page was read: the device is gone, or it is honest and has no such page there
abbrev pub IsNotReadAt : Device → Device → Key → CommittedPage → StoreFault → Type 0
IsNotReadAt old new key at fault = (fault ≡ faults.Device) × ((new.gone ≡ true) ⊎ (old.honest ≡ true → IsCommittedAt old.flash key.object key.chunk at → ⊥))
