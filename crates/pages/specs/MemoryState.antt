-- What a store in memory keeps.
use Rattle.std.specs.Prelude.{true, false, ℕ, List, Option, Some, None, slice_get}
use Rattle.pages.specs.Maps.{no_pages, with_pages}
use Rattle.pages.specs.State.{PagesState, no_numbers}
use Rattle.flash_tree.specs.declared.place.FreshPage.{FreshPage}
use Rattle.pages.specs.Memory.{no_device}
use Rattle.pages.specs.declared.memory.MemPages.{MemPages}
use Rattle.pages.specs.declared.memory.Refusal.{Refusal}

-- the bytes of a page, or what was lent where there is none
abbrev pub bytes_or : Option FreshPage → List ℕ → List ℕ
bytes_or None lent = lent
bytes_or (Some page) lent = page.bytes.items

abbrev pub committed : MemPages → PagesState
committed it = record {
  page_bytes = it.page_bytes;
  most = 0;
  present = with_pages it.pages.items no_pages;
  committed = no_pages;
  lent = bytes_or (slice_get it.pages.items it.found) it.blank.items;
  near = λ o c. true;
  in_buffer = 0;
  sound = true;
  failed = it.failed;
  refused = it.refused.total;
  commits = 0;
  issued = it.lookups;
  device = no_device;
  next = no_numbers;
  spare = 0;
  worn = false;
  checkpoint = None;
  first = None;
}

-- the look-up that it is set to refuse
abbrev pub refusing : MemPages → Option Refusal
refusing it = it.refusal
