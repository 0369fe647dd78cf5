use Rattle.std.proofs.Common.{◌≡◌, ◌∙◌, sym, subst, inl, inr}
use Rattle.flash_tree.specs.Mount.{IsVolume, sizes_of}
use Rattle.pages.specs.Maps.{PageMap, has}
use Rattle.pages.specs.State.{PagesState}
use Rattle.tree_walk.specs.Trees.{IsTreeThrough, IsWrongBy}
use Rattle.volume_check.specs.Found.{HasVolume}
use Rattle.volume_check.proofs.Firsts.{below_reports, no_rule, page_size, single}
use Rattle.volume_check.proofs.search.find_broken.Goals as goal

pub returns-in-Ok-clause-verdict : goal.returns-in-Ok-clause-verdict
returns-in-Ok-clause-verdict g c = λ seen.
    let old : PagesState = g.P.Pages.state c.args.pages.now in
    let lookups = c.root_rule.ensures.lookups in
    let volume = no_rule c.in_ok-rule.field-0 (HasVolume c.args.geometry (has old.present)) c.in_default.not-Some (c.in_ok-rule.ensures.none seen) in
    let through = c.in-Ok.ensures.tree (sizes_of c.args.geometry volume.0) (record { sound = lookups.sound ∙ seen.sound; size = seen.size ∙ sym lookups.page_bytes }) in
    record {
      spare = volume.0;
      volume = volume.1;
      tree = c.in-Ok.field-0;
      through = subst (λ (m : PageMap). IsTreeThrough (sizes_of c.args.geometry volume.0) (has m) c.in-Ok.field-0) lookups.present through;
    }

pub returns-in-Err-Broken-clause-verdict : goal.returns-in-Err-Broken-clause-verdict
returns-in-Err-Broken-clause-verdict g c = λ seen.
    let old : PagesState = g.P.Pages.state c.args.pages.now in
    let lookups = c.root_rule.ensures.lookups in
    let volume = no_rule c.in_ok-rule.field-0 (HasVolume c.args.geometry (has old.present)) c.in_default.not-Some (c.in_ok-rule.ensures.none seen) in
    let wrong = rw c.in-Err-Broken.field-0-is at c.in-Err-Broken.ensures.fault (sizes_of c.args.geometry volume.0) (record { sound = lookups.sound ∙ seen.sound; size = seen.size ∙ sym lookups.page_bytes }) in
    let is = subst (λ (m : PageMap). IsWrongBy (sizes_of c.args.geometry volume.0) (has m) c.in-Err-Broken.broken) lookups.present wrong in
    let sized = g.met.P.Pages.sized c.args.pages.now in
    below_reports c.args.geometry (page_size c.args.geometry old sized.0 sized.1 seen) (has old.present) (single old.present) volume.0 volume.1 c.in-Err-Broken.broken is.0 is.1.0

pub returns-in-Err-Broken-clause-first : goal.returns-in-Err-Broken-clause-first
returns-in-Err-Broken-clause-first g c = λ seen.
    let old : PagesState = g.P.Pages.state c.args.pages.now in
    let lookups = c.root_rule.ensures.lookups in
    let volume = no_rule c.in_ok-rule.field-0 (HasVolume c.args.geometry (has old.present)) c.in_default.not-Some (c.in_ok-rule.ensures.none seen) in
    let wrong = rw c.in-Err-Broken.field-0-is at c.in-Err-Broken.ensures.fault (sizes_of c.args.geometry volume.0) (record { sound = lookups.sound ∙ seen.sound; size = seen.size ∙ sym lookups.page_bytes }) in
    let is = subst (λ (m : PageMap). IsWrongBy (sizes_of c.args.geometry volume.0) (has m) c.in-Err-Broken.broken) lookups.present wrong in
    inr (volume.0, volume.1, is.1)
