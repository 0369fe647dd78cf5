-- The pages of a device that is worn out, which are only read.
use Rattle.std.specs.Prelude.{◌≡◌, ◌<◌, ℕ, ◌+◌, Bool, true, not, ◌&&◌}
use Rattle.volume_terms.specs.Sizes.{number_end}
use Rattle.nand_model.specs.Calls.{Device}
use Rattle.flash_tree.specs.Newest.{Numbers, AreGreatest}
use Rattle.pages.specs.State.{PagesState, NextNumbers}
use Rattle.pages.specs.Stores.{bad_on, Carries}

-- one more than each of the greatest numbers
abbrev pub next_after : Numbers → NextNumbers
next_after n = record { group = n.group + 1; seq = n.seq + 1 }

-- Nothing can be written: a number of 2^62 is on the device, or more blocks are bad than there are to spare.
abbrev pub IsWorn : Device → Numbers → (spare : ℕ) → Type 0
IsWorn device n spare = n.group < number_end → n.seq < number_end → spare < bad_on device

-- of an honest device these are the greatest numbers
abbrev pub HasGreatest : Device → Numbers → Type 0
HasGreatest device n = device.honest ≡ true → AreGreatest device.flash n

-- an honest device has what the pages hold, each as the newest of its key
abbrev pub IsCarrying : PagesState → Type 0
IsCarrying p = p.device.honest ≡ true → Carries p.device.flash p.present

-- Pages that are read as they are: what is present is what is committed. Once a change was refused they are sound no longer.
abbrev pub only_read : PagesState → Numbers → (spare most : ℕ) → (refused_change : Bool) → PagesState
only_read p n spare most refused_change = record {
  page_bytes = p.page_bytes;
  most = most;
  present = p.present;
  committed = p.present;
  lent = p.lent;
  near = p.near;
  in_buffer = 0;
  sound = p.sound && not refused_change;
  failed = p.failed;
  refused = p.refused;
  commits = p.commits;
  issued = p.issued;
  device = p.device;
  next = next_after n;
  spare = spare;
  worn = true;
  checkpoint = p.checkpoint;
  first = p.first;
}
