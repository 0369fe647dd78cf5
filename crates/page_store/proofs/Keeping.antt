-- A device that is only read keeps what it has.
use Rattle.std.specs.Prelude.{◌≡◌, ◌⊎◌, ◌<◌, ◌≤◌, ◌+◌, ◌*◌, ℕ, Bool, true, false, Option, None, count_by}
use Rattle.std.specs.List.{range_with_len}
use Rattle.std.proofs.Common.{refl, subst, arith, inl, inr}
use Rattle.std.proofs.lemmas.Bool.{cases_lt}
use Rattle.nand_model.specs.Calls.{Device}
use Rattle.nand_model.specs.Flash.{Flash}
use Rattle.nand_model.specs.laws.Calls.{lasts_here}
use Rattle.nand_model.specs.laws.Changes.{only_reads_here}
use Rattle.nand_model.specs.declared.geometry.Geometry.{Geometry}
use Rattle.volume_terms.specs.Sizes.{number_end, number_limit}
use Rattle.flash_tree.specs.Newest.{Numbers}
use Rattle.flash_tree.specs.Mount.{bad_blocks}
use Rattle.flash_tree.specs.FreeBlocks.{LeavesFree}
use Rattle.flash_tree.specs.MountableFlash.{BeganMountable}
use Rattle.flash_tree.specs.laws.Truth.{true_same}
use Rattle.transactions.specs.laws.Handing.{below_greater}
use Rattle.pages.specs.State.{PagesState}
use Rattle.pages.specs.Refreshing.{CostsAMove}
use Rattle.pages.specs.Stores.{GoesOn, HasPage, HasNumbersLeft, CommittedAs, bad_on}
use Rattle.pages.specs.laws.Mountable.{mountable_read}
use Rattle.page_store.specs.ReadOnly.{IsWorn, HasGreatest, IsCarrying, only_read}

-- where more blocks are bad than there are to spare, none has to be free
none_free : (g : Geometry) (flash : Flash) (spare : ℕ) (keys : ℕ → ℕ → Type 0) → spare < bad_blocks g flash → LeavesFree g flash spare keys
none_free g flash spare keys bad = record {
  free = λ b. false;
  sufficient = let none = count_by (λ (b : ℕ). false) (range_with_len 0 g.blocks) in omega (arith, bad);
  each = λ b within is. absurd cc;
}

-- where numbers are left on a worn device, too many blocks are bad
too_many_bad : (p : PagesState) (n : Numbers) (spare : ℕ) → IsWorn p.device n spare → HasGreatest p.device n → p.device.honest ≡ true
    → HasNumbersLeft p.device.flash → spare < bad_blocks p.device.geometry p.device.flash
too_many_bad p n spare worn greatest honest left =
    let least = (greatest honest).least (record { version = number_limit; group = number_limit; seq = number_limit }) left in
    worn (omega (arith, least.1)) (omega (arith, least.2))

-- what is there is committed, where no flash is remembered
pub keeps_all : (p : PagesState) (n : Numbers) (spare most : ℕ) (refused_change : Bool) → IsWorn p.device n spare → HasGreatest p.device n → IsCarrying p → p.first ≡ None
    → CommittedAs (only_read p n spare most refused_change) p.present
keeps_all p n spare most refused_change worn greatest carrying first = record {
  carried = λ honest. record {
    newest = carrying honest;
    free = λ left. none_free p.device.geometry p.device.flash spare (HasPage p.present) (too_many_bad p n spare worn greatest honest left);
  };
  committed = λ sound o c. refl;
  found = λ begun. absurd (subst (λ (f : Option Flash). BeganMountable p.device.geometry f) first begun.1);
}

-- nor does the device change, nor the numbers that come next
pub goes_on : (p : PagesState) (n : Numbers) (spare most : ℕ) (was is : Bool) → GoesOn (only_read p n spare most was) (only_read p n spare most is)
goes_on p n spare most was is = record {
  page_bytes = refl;
  most = refl;
  spare = refl;
  worn = refl;
  refused = omega arith;
  commits = omega arith;
  failed = λ yes. yes;
  device = lasts_here p.device;
  numbers = record {
    groups_rise = omega arith;
    seqs_rise = omega arith;
    seqs = omega arith;
    groups = λ honest power. omega arith;
    below = λ honest below. below;
    written = λ honest below more totaled. below_greater p.device.flash (n.group + 1) (n.seq + 1) _ _ (omega arith) (omega arith) below;
  };
  marks = omega arith;
  limits = λ honest left. left;
  truth = true_same p.device p.checkpoint p.checkpoint refl;
  mountable = mountable_read (only_read p n spare most was) (only_read p n spare most is) (only_reads_here p.device) refl refl;
}

-- on a worn device a number is missing, or too many blocks are bad
pub worn_reported : (d : Device) (n : Numbers) (spare : ℕ) → IsWorn d n spare → (number_end ≤ n.group + 1) ⊎ (number_end ≤ n.seq + 1) ⊎ (spare < bad_on d)
worn_reported d n spare worn = elim (cases_lt n.group number_end) [
  | inr group ↦ inl (omega (arith, group))
  | inl group ↦ elim (cases_lt n.seq number_end) [
    | inr seq ↦ inr (inl (omega (arith, seq)))
    | inl seq ↦ inr (inr (worn group seq))
  ]
]

-- nothing is moved
pub costs_nothing : (p : PagesState) → CostsAMove p p
costs_nothing p =
    let each : ℕ = p.device.geometry.pages + 2 in
    let one : each * (p.device.failures + 0) ≡ each * p.device.failures = omega arith in
    omega (arith, one)
