-- What each step of a formatting keeps.
use Rattle.std.specs.Prelude.{◌≡◌, ◌≢◌, ◌<◌, ◌≤◌, ℕ, ◌+◌, ◌-◌, Bool, true, false, count_by, List, Result}
use Rattle.std.specs.List.{range_with_len}
use Rattle.std.proofs.Common.{refl, sym, ◌∙◌, ap, subst, arith}
use Rattle.nand_model.specs.Flash.{Flash, Page}
use Rattle.nand_model.specs.Calls.{Device, Erases, Programs, Marks}
use Rattle.nand_model.specs.laws.Calls.{lasts_on, lasts_here}
use Rattle.nand_model.specs.declared.geometry.Geometry.{Geometry}
use Rattle.nand_model.specs.declared.nand.Gone.{Gone}
use Rattle.nand_model.specs.declared.nand.ProgramFault.{ProgramFault}
use Rattle.nand_model.specs.declared.nand.EraseFault.{EraseFault}
use Rattle.flash_tree.specs.Mount.{bad_blocks}
use Rattle.formatting.specs.Formatting.{Keeps}
use Rattle.formatting.proofs.Counting.{count_one_more, count_all}

-- no step
pub keeps_here : (a : Device) → Keeps a a
keeps_here a = record { lasts = lasts_here a; bad_pages = λ honest b p bad. refl; new_bad = omega arith }

-- one step and then another
pub keeps_on : (a b c : Device) → Keeps a b → Keeps b c → Keeps a c
keeps_on a b c first then = record {
  lasts = lasts_on a b c first.lasts then.lasts;
  bad_pages = λ honest k l bad. then.bad_pages (first.lasts.honest ∙ honest) k l (first.lasts.marks k bad) ∙ first.bad_pages honest k l bad;
  new_bad =
      let on : bad_blocks a.geometry c.flash ≤ bad_blocks a.geometry b.flash + (c.failures - b.failures) =
      subst (λ g. bad_blocks g c.flash ≤ bad_blocks g b.flash + (c.failures - b.failures)) first.lasts.geometry then.new_bad in
      omega (arith, on, first.new_bad, first.lasts.failures, then.lasts.failures);
}

other_block : (f : Flash) (k b : ℕ) → f.bad k ≡ true → f.bad b ≡ false → k ≢ b
other_block f k b bad good same = let two : true ≡ false = sym bad ∙ ap f.bad same ∙ good in cc

-- where no mark changed, as many blocks are bad
same_bad : (old new : Device) → new.flash.bad ≡ old.flash.bad → bad_blocks old.geometry new.flash ≤ bad_blocks old.geometry old.flash + (new.failures - old.failures)
same_bad old new same = let e : bad_blocks old.geometry new.flash ≡ bad_blocks old.geometry old.flash = ap (λ p. count_by p (range_with_len 0 old.geometry.blocks)) same in omega (arith, e)

-- an erase of a good block
pub keeps_erase : (b : ℕ) (old new : Device) (result : Result (Unit {0}) EraseFault) → old.flash.bad b ≡ false → Erases b old new result → Keeps old new
keeps_erase b old new result good does = record {
  lasts = does.lasts;
  bad_pages = λ honest k l bad. does.other_blocks honest k l (other_block old.flash k b bad good);
  new_bad = same_bad old new does.bad;
}

-- a program in a good block
pub keeps_program : (b p : ℕ) (bytes tag : List ℕ) (old new : Device) (result : Result (Unit {0}) ProgramFault) → old.flash.bad b ≡ false → Programs b p bytes tag old new result → Keeps old new
keeps_program b p bytes tag old new result good does = record {
  lasts = does.lasts;
  bad_pages = λ honest k l bad. does.other_blocks honest k l (other_block old.flash k b bad good);
  new_bad = same_bad old new does.bad;
}

-- a mark after a step that failed
pub keeps_mark : (b : ℕ) (old mid new : Device) (result : Result (Unit {0}) Gone) → Keeps old mid → mid.flash.bad ≡ old.flash.bad → mid.failures ≡ old.failures + 1
    → Marks b mid new result → Keeps old new
keeps_mark b old mid new result first same failed does = record {
  lasts = lasts_on old mid new first.lasts does.lasts;
  bad_pages = λ honest k l bad. ap (λ (page : ℕ → ℕ → Page). page k l) (does.page (first.lasts.honest ∙ honest)) ∙ first.bad_pages honest k l bad;
  new_bad =
      let e = count_one_more old.flash.bad new.flash.bad b 0 old.geometry.blocks (λ k ne. does.other_bads k ne ∙ ap (λ (f : ℕ → Bool). f k) same) in
      omega (arith, e, failed, does.lasts.failures);
}

-- where all blocks are bad, more are bad than are spare
pub all_bad : (old mid new : Device) (spare : ℕ) → spare + 4 ≤ old.geometry.blocks → Keeps old mid → Keeps mid new
    → ((b : ℕ) → b < mid.geometry.blocks → new.flash.bad b ≡ true) → spare < bad_blocks new.geometry new.flash
all_bad old mid new spare room first then all =
    let e : bad_blocks mid.geometry new.flash ≡ mid.geometry.blocks = count_all new.flash.bad mid.geometry.blocks all in
    let some_room : spare + 4 ≤ mid.geometry.blocks = subst (λ (g : Geometry). spare + 4 ≤ g.blocks) (sym first.lasts.geometry) room in
    subst (λ (g : Geometry). spare < bad_blocks g new.flash) (sym then.lasts.geometry) (omega (arith, e, some_room))
