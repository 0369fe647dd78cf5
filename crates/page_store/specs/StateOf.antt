-- The state of a store, and the page that it lends.
-- From: this project.
use Rattle.std.specs.Prelude.{ℕ, List}
use Rattle.nand_model.specs.declared.nand.Nand.{Ghosts}
use Rattle.page_store.specs.BufferOf.{contents}
use Rattle.flash_log.specs.LogOf.{log_state}
use Rattle.page_store.specs.Found.{found_bytes}
use Rattle.page_store.specs.StoreState.{StoreState}
use Rattle.page_store.specs.declared.store.Store.{Store}

-- the state of a store
abbrev pub state_of : {N : Type 0} {nand : Ghosts N} → Store N nand → StoreState
state_of store = record {
  log = log_state store.log;
  index = store.log.index;
  buffer = store.buffer;
  cache = store.cache;
  spare = store.log.spare;
  first = store.log.origin.first;
  broken = store.broken;
  counts = store.counts;
}

-- the page that a store lends
abbrev pub lent_by : {N : Type 0} {nand : Ghosts N} → Store N nand → List ℕ
lent_by store = found_bytes (contents store.buffer) store.cache store.scratch.items store.found
