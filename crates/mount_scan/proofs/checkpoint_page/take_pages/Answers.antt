use Rattle.std.proofs.Common.{◌≡◌, ◌+◌, ◌*◌, sym, ap, ◌∙◌, arith}
use Rattle.std.proofs.lemmas.Bool.{eqb-true, eq-eqb}
use Rattle.volume_terms.specs.Rounding.{ceiling}
use Rattle.volume_terms.specs.laws.Rounding.{ceiling_is}
use Rattle.mount_scan.proofs.checkpoint_page.take_pages.Goals as goal

pub returns-then-n : goal.returns-then-n
returns-then-n c =
    let one : 32 * (c.args.n + 1) ≡ 32 * (1 + c.args.n) = omega arith in
    let up : c.div_ceil.result ≡ ceiling (32 * (1 + c.args.n)) c.args.bytes =
    c.div_ceil.ensures ∙ ceiling_is (32 * (c.args.n + 1)) c.args.bytes (omega (arith, c.requires.bytes.least)) ∙ ap (λ k. ceiling k c.args.bytes) one in
    (λ is. sym (eqb-true c.div_ceil.result c.args.count is) ∙ up, λ is. eq-eqb c.div_ceil.result c.args.count (up ∙ sym is))
