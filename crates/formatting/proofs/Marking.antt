-- Each failure of a formatting marks a block.
use Rattle.std.specs.Prelude.{◌≡◌, ◌<◌, ℕ, ◌+◌, Bool, false, count_by, OnOk, Result, Ok, Err}
use Rattle.std.specs.List.{range_with_len}
use Rattle.std.proofs.Common.{◌∙◌, ap, arith}
use Rattle.nand_model.specs.Calls.{Device, Marks}
use Rattle.nand_model.specs.declared.nand.Gone.{Gone}
use Rattle.flash_tree.specs.Mount.{bad_blocks}
use Rattle.formatting.specs.Formatting.{EachFailureMarks}
use Rattle.formatting.proofs.Counting.{count_new}

-- no mark and no failure
pub marks_none : (old new : Device) → new.flash.bad ≡ old.flash.bad → new.failures ≡ old.failures → EachFailureMarks old new
marks_none old new same failures =
    let bad : bad_blocks old.geometry new.flash ≡ bad_blocks old.geometry old.flash = ap (λ p. count_by p (range_with_len 0 old.geometry.blocks)) same in
    omega (arith, bad, failures)

-- a failure, and the mark of its block, where it is set
pub marks_one : (b : ℕ) (old mid new : Device) (result : Result (Unit {0}) Gone) → b < old.geometry.blocks → old.flash.bad b ≡ false → mid.flash.bad ≡ old.flash.bad → mid.failures ≡ old.failures + 1
    → Marks b mid new result → OnOk result (EachFailureMarks old new)
marks_one b old mid new (Ok done) inside good same failed does =
    let more : bad_blocks old.geometry new.flash ≡ bad_blocks old.geometry old.flash + 1 =
    count_new old.flash.bad new.flash.bad b 0 old.geometry.blocks (λ k ne. does.other_bads k ne ∙ ap (λ (f : ℕ → Bool). f k) same) good does.bad (omega arith) (omega (arith, inside)) in
    omega (arith, more, failed, does.ends.failures)
marks_one b old mid new (Err gone) inside good same failed does = tt
