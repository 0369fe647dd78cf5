-- What calls in turn cost.
use Rattle.std.proofs.Common.{◌≡◌, ◌≤◌, ℕ, ◌+◌, ◌-◌, ◌*◌, ap, subst, ◌∙◌, arith}
use Rattle.std.proofs.Math.Nat.{mul-le-mul_right}
use Rattle.nand_model.specs.Calls.{Device, Lasts}
use Rattle.nand_model.specs.declared.geometry.Geometry.{Geometry}
use Rattle.block_state.specs.Table.{Table}
use Rattle.nand_model.specs.Counts.{Costs}
use Rattle.flash_log.specs.Taking.{CostsATake}

-- what each failure costs more
pub each_more : (k a b : ℕ) → 2 ≤ k → a ≤ b → 2 * b + k * a ≤ k * b + 2 * a
each_more k a b two le =
    let more : b ≡ a + (b - a) = omega (arith, le) in
    let times : 2 * (b - a) ≤ k * (b - a) = mul-le-mul_right (b - a) two in
    let left : 2 * b ≡ 2 * a + 2 * (b - a) = ap (λ n. 2 * n) more ∙ (omega arith) in
    let right : k * b ≡ k * a + k * (b - a) = ap (λ n. k * n) more ∙ (omega arith) in
    omega (arith, times, left, right)

-- the taking of a block costs no more than a move
pub costs_taken : (pages count : ℕ) (d0 d1 : Device) → Lasts d0 d1 → CostsATake d0 d1 → Costs (count + 1) (pages + 2) 0 d0 d1
costs_taken pages count d0 d1 lasts take =
    let more = each_more (pages + 2) d0.failures d1.failures (omega arith) lasts.failures in
    omega (arith, take, more)

-- a block's committed pages are no more than a block has
pub costs_committed : (b o : ℕ) (d e : Device) (t : Table) → t.geometry ≡ d.geometry → (t.entry b).committed ≤ t.geometry.pages → Costs ((t.entry b).committed + 1) (d.geometry.pages + 2) o d e → Costs (d.geometry.pages + 1) (d.geometry.pages + 2) o d e
costs_committed b o d e t same fits costs =
    let within_limit : (t.entry b).committed ≤ d.geometry.pages = subst (λ (g : Geometry). (t.entry b).committed ≤ g.pages) same fits in
    omega (arith, within_limit, costs)
