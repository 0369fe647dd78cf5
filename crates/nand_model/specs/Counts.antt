-- What calls of a device count.
use Rattle.std.specs.Prelude.{◌≤◌, ◌+◌, ◌*◌, ℕ, Result, Ok, Err}
use Rattle.nand_model.specs.Calls.{Device}

-- the device counts at most so many changes, and so many besides for each failure but those that are unanswered
abbrev pub Costs : (changes each unanswered : ℕ) → Device → Device → Type 0
Costs changes each unanswered old new = new.changes + each * (old.failures + unanswered) ≤ old.changes + each * new.failures + changes

-- it reads at most as many pages as it counts changes and failures, and so many besides
abbrev pub ReadsFew : (more : ℕ) → Device → Device → Type 0
ReadsFew more old new = new.reads + old.changes + old.failures ≤ old.reads + new.changes + new.failures + more

-- one page more where it did not end well
abbrev pub unfinished : {T E : Type 0} → Result T E → ℕ
unfinished (Ok done) = 0
unfinished (Err fault) = 1

-- so many of the changes come without a read: it reads at most as many pages as it counts others, and failures
abbrev pub ReadsBeside : (quiet : ℕ) → Device → Device → Type 0
ReadsBeside quiet old new = new.reads + old.changes + old.failures + quiet ≤ old.reads + new.changes + new.failures

-- what a call reads that writes so many pages from memory: where it is done, none for these
abbrev pub ReadsFor : {T E : Type 0} → (written : ℕ) → Device → Device → Result T E → Type 0
ReadsFor written old new (Ok done) = ReadsBeside written old new
ReadsFor written old new (Err fault) = ReadsFew 1 old new
