use Rattle.std.proofs.Common.{◌≡◌, ◌≤◌, ◌∙◌, sym, subst, arith}
use Rattle.pages.specs.Maps.{PageMap, after_change}
use Rattle.pages.specs.State.{PagesState}
use Rattle.directories.specs.Writes.{KeepsSlots}
use Rattle.directories.proofs.removal.shorten.Goals as goal

pub returns-in_ok-head_change-clause-shortens : goal.returns-in_ok-head_change-clause-shortens
returns-in_ok-head_change-clause-shortens g c = λ sound z size.
    let old : PagesState = g.P.Pages.state c.args.pages.now in
    let m : PageMap = old.present in
    let w = c.in_ok-head_change.ensures.writes z m (size ∙ sym c.in_ok-frame.ensures.size) in
    let over : c.args.shorter.length ≤ c.args.place = c.if-place-shorter.false in
    let last : c.args.shorter.length ≡ c.args.place = omega (arith, over, c.requires.within) in
    record {
      header = w.0;
      filled = λ less. absurd (omega (arith, less, over));
      others = subst (λ k. KeepsSlots z m (after_change c.in_ok-head_change.field-0 m) c.args.directory c.args.shorter.length k) last (w.1 c.args.shorter.length);
      zeros = w.2 c.args.shorter.length;
    }

pub returns-in_ok-head_change-clause-pages : goal.returns-in_ok-head_change-clause-pages
returns-in_ok-head_change-clause-pages g c = λ sound z size m k behind. c.in_ok-head_change.ensures.pages m k (omega (arith, behind))
