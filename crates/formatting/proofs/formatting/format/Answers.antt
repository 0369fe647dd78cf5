use Rattle.std.proofs.Common.{◌≡◌, ◌≤◌, ◌+◌, ◌∙◌, ℕ, length, replicate, sym, ap, subst, arith, rules}
use Rattle.std.proofs.lemmas.List.{length-replicate}
use Rattle.nand_model.specs.Calls.{Device}
use Rattle.nand_model.specs.declared.geometry.Geometry.{Geometry}
use Rattle.volume_terms.specs.Sizes.{root_number}
use Rattle.page_tags.specs.Headers.{IsHeader}
use Rattle.directories.specs.HeadPages.{IsHeadPage}
use Rattle.directories.specs.Heads.{fields_in}
use Rattle.formatting.specs.Formatting.{empty_root}
use Rattle.formatting.proofs.Rooted.{volume_of, root_alone}
use Rattle.formatting.proofs.Mountable.{root_mountable}
use Rattle.formatting.proofs.Truth.{root_true}
use Rattle.formatting.proofs.formatting.format.Goals as goal

pub returns-in-Ok-lay_out-clause-formatted : goal.returns-in-Ok-lay_out-clause-formatted
returns-in-Ok-lay_out-clause-formatted g c = λ honest.
    let old : Device = g.N.Nand.state c.args.device in
    let new : Device = g.N.Nand.state c.lay_out.new.device in
    let same : c.geometry-geometry.result ≡ old.geometry = c.geometry-geometry.ensures in
    let room : c.args.spare + 4 ≤ old.geometry.blocks = omega (arith, ap (λ (x : Geometry). x.blocks) same, c.blocks-2.ensures, c.geometry-geometry.result.least_blocks) in
    let zeros : c.in-Ok.frame.items ≡ replicate c.bytes.result 0 = search rules in
    let size : length c.in-Ok.frame.items ≡ old.geometry.bytes =
    ap length zeros ∙ length-replicate {A = ℕ} c.bytes.result 0 ∙ c.bytes.ensures ∙ ap (λ (x : Geometry). x.bytes) same in
    let head = subst (λ d. IsHeadPage c.head_page-page.result d root_number (empty_root c.args.spare)) size c.head_page-page.ensures in
    let only = root_alone old new c.args.spare c.head_page-page.result honest c.lay_out.ensures.keeps head c.in-Ok-lay_out.ensures.written in
    let there = subst (λ (x : Geometry). IsHeader x.bytes (fields_in x.bytes (empty_root c.args.spare))) (sym c.lay_out.ensures.keeps.lasts.geometry) head.head_is.valid in
    record {
      sound = volume_of old new c.args.spare c.head_page-page.result honest room c.lay_out.ensures.keeps c.in-Ok-lay_out.ensures.few_bad head c.in-Ok-lay_out.ensures.written;
      alone = only;
      starts = record { checkpoints = root_true c.args.spare new only; mountable = root_mountable c.args.spare new only there };
    }
