use Rattle.std.specs.Prelude.{◌≡◌, ◌<◌, length, Some, slice_get}
use Rattle.std.proofs.Common.{◌∙◌, refl, sym, ap, arith, inl, inr}
use Rattle.std.proofs.lemmas.Bool.{cases_eq}
use Rattle.std.proofs.lemmas.Option.{slice_get_within, slice_get_read}
use Rattle.flash_tree.specs.declared.place.FreshPage.{FreshPage}
use Rattle.page_store.proofs.Shown.{sizes_on, sizes_vacated, fewer_vacated, gone_vacated, others_vacated, held_vacated, lacks_on, lacks_page}
use Rattle.page_store.proofs.caching.drop_pages.Goals as goal

pub loop-page-preserved : goal.loop-page-preserved
loop-page-preserved c =
    let p : FreshPage = c.page-item.result in
    let was = c.loop-page.invariant in
    let does = c.vacate.ensures in
    let old = c.loop-page.cache in
    let new = c.vacate.new.self in
    let at : slice_get c.args.pages.now c.loop-page.page-index ≡ Some p = slice_get_read c.args.pages.now (length c.args.pages.now) c.loop-page.page-index p refl c.loop-page-test.true c.page-item.is in
    record {
      sizes = sizes_on _ _ _ was.sizes (sizes_vacated p.key.object p.key.chunk old new does.vacated does.nothing);
      fewer = λ o k xs is. was.fewer o k xs (fewer_vacated p.key.object p.key.chunk old new does.vacated does.nothing o k xs is);
      lacks = λ o k i lt of. elim (cases_eq i c.loop-page.page-index) [
        | inr ne ↦ lacks_on old new o k (fewer_vacated p.key.object p.key.chunk old new does.vacated does.nothing) (was.lacks o k i (omega (arith, lt, ne)) of)
        | inl e ↦ lacks_page new c.args.pages.now o k i p of (ap (slice_get c.args.pages.now) e ∙ at) (gone_vacated p.key.object p.key.chunk old new does.vacated does.nothing)
      ];
      others = λ o k none.
          others_vacated p.key.object p.key.chunk old new does.vacated does.nothing o k (λ same there. none c.loop-page.page-index (omega arith) (record { page = p; there = at; object = sym same; chunk = sym there }))
          ∙ was.others o k (λ i lt. none i (omega (arith, lt)));
      places = λ o k there. held_vacated p.key.object p.key.chunk old new does.vacated does.nothing o k (was.places o k there);
    }

pub returns-clause-lacks : goal.returns-clause-lacks
returns-clause-lacks c = λ o k i of.
    let within : i < length c.args.pages.now = slice_get_within c.args.pages.now i of.page of.there in
    c.loop-page.invariant.lacks o k i (omega (arith, within, c.loop-page-test.false)) of

pub returns-clause-others : goal.returns-clause-others
returns-clause-others c = λ o k none. c.loop-page.invariant.others o k (λ i lt. none i)
