use Rattle.std.proofs.Common.{◌≡◌, ◌-◌, ◌*◌, ◌≤◌, ◌++◌, ◌∙◌, ℕ, List, [], true, Some, take, drop, replicate, length, refl, sym, ap, subst, arith, rules}
use Rattle.std.proofs.lemmas.List.{drop-replicate, with_items_is, places}
use Rattle.std.specs.Vec.{with_items}
use Rattle.pages.specs.State.{PagesState}
use Rattle.directories.proofs.Written.{blank}
use Rattle.directories.proofs.writing.page_with.Goals as goal

pub returns-then-count-eq0-clause-page : goal.returns-then-count-eq0-clause-page
returns-then-count-eq0-clause-page g c = λ sound.
    let none : c.args.count ≡ 0 = omega (arith, c.if-count-eq0.true) in
    ([], λ ne. absurd (ne none), omega (arith, none), c.in_ok-page.ensures.zeros ∙ blank _ _ c.args.count none refl)

pub returns-clause-page : goal.returns-clause-page
returns-clause-page g c = λ sound.
    let old : PagesState = g.P.Pages.state c.args.pages.now in
    let zeros : c.in_ok-page.page.items ≡ replicate old.page_bytes 0 = c.in_ok-page.ensures.zeros in
    let same = c.blank_page.ensures.same in
    let xs : List ℕ = c.page.result.now in
    let items : (with_items c.in_ok-page.page c.copy_slots.new.page).items ≡ c.copy_slots.new.page = with_items_is c.in_ok-page.page c.copy_slots.new.page (search (rules, places)) in
    let size : length xs ≡ old.page_bytes = c.page.ensures.size ∙ c.load.ensures.lookups.page_bytes ∙ ap (λ (p : PagesState). p.page_bytes) same in
    let room : 272 * c.args.count ≤ old.page_bytes = c.requires in
    let rest : drop (272 * c.args.count) c.deref_mut.result.now ≡ replicate (old.page_bytes - 272 * c.args.count) 0 =
    ap (drop (272 * c.args.count)) (c.deref_mut.ensures.value ∙ zeros) ∙ drop-replicate (272 * c.args.count) old.page_bytes 0 in (
      xs,
      λ ne. subst (λ (p : PagesState). p.present c.args.key.object c.args.key.chunk ≡ Some xs) same
          (c.in_ok-load.ensures.page (subst (λ (p : PagesState). p.sound ≡ true) (sym same) sound) ∙ ap Some (sym c.page.ensures.bytes)),
      omega (arith, size, room),
      items ∙ c.copy_slots.ensures ∙ ap (λ (ys : List ℕ). take (272 * c.args.count) xs ++ ys) rest,
    )
