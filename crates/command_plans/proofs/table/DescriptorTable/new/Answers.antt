use Rattle.std.proofs.Common.{◌≤◌, length, refl, inl, inr, arith, None}
use Rattle.std.proofs.lemmas.Bool.{cases_lt}
use Rattle.std.proofs.Math.ListN.{get_or-eq_default}
use Rattle.command_plans.proofs.Descriptors.{table_empty}
use Rattle.command_plans.proofs.table.DescriptorTable.new.Goals as goal

pub returns : goal.returns
returns c = table_empty _ (λ k. elim (cases_lt k 64) [
  | inl low ↦ c.in_ok-resize.ensures.by_index.1 k None refl (omega (arith, c.new-slots.ensures.len)) low
  | inr high ↦ let past : length c.resize.new.self.items ≤ k = omega (arith, c.in_ok-resize.ensures.len) in get_or-eq_default c.resize.new.self.items None past
])
