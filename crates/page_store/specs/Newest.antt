-- The newest pages as a store of pages.
-- From: this project.
use Rattle.std.specs.Prelude.{None, true, false, not, ◌||◌, List, ℕ}
use Rattle.nand_model.specs.Calls.{Device}
use Rattle.chunk_index.specs.declared.index.Index.{Index}
use Rattle.pages.specs.Maps.{known_pages}
use Rattle.pages.specs.State.{PagesState, no_numbers}
use Rattle.page_store.specs.Shown.{committed_data}

-- Pages that are committed and only read: they are known of an honest device, and it has failed where it is gone or not honest. Nothing
-- is changed, and no number is handed out.
abbrev pub seen_pages : Device → Index → List ℕ → PagesState
seen_pages device x page = record {
  page_bytes = device.geometry.bytes;
  most = 0;
  present = known_pages device.honest (committed_data x device.flash);
  committed = known_pages device.honest (committed_data x device.flash);
  lent = page;
  near = λ o c. false;
  in_buffer = 0;
  sound = device.honest;
  failed = device.gone || not device.honest;
  refused = 0;
  commits = 0;
  issued = device.reads;
  device = device;
  next = no_numbers;
  spare = 0;
  worn = true;
  checkpoint = None;
  first = None;
}
