use Rattle.std.proofs.Common.{◌≡◌, ◌+◌, ◌*◌, ◌/◌, ◌≤◌, ℕ, List, take, drop, sym, ap, ap₂, subst, ◌∙◌, arith, mul-le-mul_right}
use Rattle.nand_model.specs.Calls.{Device}
use Rattle.nand_model.specs.declared.geometry.Geometry.{Geometry}
use Rattle.page_tags.specs.Summaries.{summary_bytes}
use Rattle.flash_log.proofs.PageParts.{page_parts}
use Rattle.flash_log.proofs.SummaryRows.{page_begins}
use Rattle.flash_log.proofs.summary_source.SummarySourcePageSource.page.Goals as goal

pub write_parts-requires-clause-size : goal.write_parts-requires-clause-size
write_parts-requires-clause-size g c =
    let d : Device = g.N.Nand.state c.args.device.now in
    subst (λ (n : ℕ). 32 * (n / 32) ≡ n) (sym c.requires.size) (page_parts d.geometry)

pub returns-clause-bytes : goal.returns-clause-bytes
returns-clause-bytes g c honest =
    let s = c.args.self.now in
    let n : ℕ = s.geometry.bytes in
    let row : List ℕ = summary_bytes (s.pages * n) s.head s.entries.now in
    let long = c.requires.size ∙ ap (λ (x : Geometry). x.bytes) (sym c.requires.can_write.geometry) in
    let begins : 32 * (c.args.i * (c.bytes.result / 32)) ≡ c.args.i * n = ap (λ m. 32 * (c.args.i * (m / 32))) c.bytes.ensures ∙ page_begins n c.args.i (page_parts s.geometry) in
    let within : (c.args.i + 1) * n ≤ s.pages * n = mul-le-mul_right n (omega (arith, c.requires.place)) in
    c.write_parts.ensures.parts (s.pages * n) (omega (arith, begins, within, long)) ∙ ap₂ (λ (k j : ℕ). take k (drop j row)) long begins
