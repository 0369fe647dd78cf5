-- How far a device can be used.
-- From: this project.
use Rattle.std.specs.Prelude.{◌≡◌, ◌<◌, ◌≤◌, ℕ, ◌+◌, true, List, length}
use Rattle.nand_model.specs.Calls.{Device}
use Rattle.flash_tree.specs.Mount.{bad_blocks}
use Rattle.flash_tree.specs.Newest.{Numbers, AreGreatest}
use Rattle.pages.specs.Stores.{bad_on}
use Rattle.powercut.specs.Planning.{are_counted}
use Rattle.volume_terms.specs.Sizes.{number_limit}
use Rattle.powercut.specs.Sessions.{failing_in}
use Rattle.powercut.specs.declared.session.Session.{Session}

-- The greatest version, group or seq of a valid tag on the first flash, and one more for each change that there was since, is
-- below the limit.
pub record NumbersLast (first last : Device) : Type 0 where
  pub versions : (n : Numbers) → AreGreatest first.flash n → n.version + last.changes < number_limit + first.changes
  pub groups : (n : Numbers) → AreGreatest first.flash n → n.group + last.changes < number_limit + first.changes
  pub seqs : (n : Numbers) → AreGreatest first.flash n → n.seq + last.changes < number_limit + first.changes

-- At the end no more blocks are bad than there are to spare, and the numbers last.
pub record StaysWithin (spare : ℕ) (first last : Device) : Type 0 where
  pub few_bad : bad_blocks last.geometry last.flash ≤ spare
  pub numbers : NumbersLast first last

-- No more failures there are than the sessions list, where each is listed at a call below 2^64 - 1.
abbrev pub FailsAsListed : List Session → (first last : Device) → Type 0
FailsAsListed sessions first last = are_counted (failing_in sessions) ≡ true → last.failures ≤ first.failures + length (failing_in sessions)

-- The sessions list no more failures than blocks are left to spare, each at a call below 2^64 - 1.
pub record HasReserve (spare : ℕ) (first : Device) (sessions : List Session) : Type 0 where
  pub within_limit : bad_on first + length (failing_in sessions) ≤ spare
  pub totaled : are_counted (failing_in sessions) ≡ true

-- The sessions have that reserve, and the numbers last.
pub record StaysInReserve (spare : ℕ) (sessions : List Session) (first last : Device) : Type 0 where
  pub reserve : HasReserve spare first sessions
  pub numbers : NumbersLast first last
