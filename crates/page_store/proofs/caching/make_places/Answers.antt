use Rattle.std.specs.Prelude.{◌≡◌, ◌<◌, length, IsSome, Some, slice_get}
use Rattle.std.proofs.Common.{◌∙◌, refl, sym, ap, subst, arith, inl, inr, is_some}
use Rattle.std.proofs.lemmas.Bool.{cases_eq}
use Rattle.std.proofs.lemmas.Option.{slice_get_within, slice_get_read}
use Rattle.flash_tree.specs.declared.place.FreshPage.{FreshPage}
use Rattle.std.specs.Option.{option_and_then}
use Rattle.page_store.specs.Slots.{page_in}
use Rattle.page_store.specs.Cached.{held, held_count, capacity_of}
use Rattle.page_store.proofs.Shown.{sizes_on, fewer_placed, held_put, lacks_on, lacks_page}
use Rattle.page_store.proofs.caching.make_places.Goals as goal

pub loop-page-preserved : goal.loop-page-preserved
loop-page-preserved c =
    let p : FreshPage = c.page-item.result in
    let was = c.loop-page.invariant in
    let old = c.loop-page.cache in
    let puts = c.in_ok-reserve.ensures.ok in
    let at : slice_get c.args.pages.now c.loop-page.page-index ≡ Some p = slice_get_read c.args.pages.now (length c.args.pages.now) c.loop-page.page-index p refl c.loop-page-test.true c.page-item.is in
    record {
      sizes = sizes_on _ _ _ was.sizes puts.sizes;
      fewer = λ o k xs is. was.fewer o k xs (fewer_placed p.key.object p.key.chunk old c.reserve.new.self puts o k xs is);
      no_fewer = omega (arith, was.no_fewer, puts.no_fewer);
      within_limit = omega (arith, was.within_limit, puts.one_more);
      places = λ fits i q lt is.
          let free : held_count old < capacity_of old = omega (arith, fits, was.within_limit, was.sizes.capacity, c.loop-page-test.true) in
          elim (cases_eq i c.loop-page.page-index) [
            | inr ne ↦ held_put p.key.object p.key.chunk old c.reserve.new.self puts (inr free) q.key.object q.key.chunk (was.places fits i q (omega (arith, lt, ne)) is)
            | inl e ↦
                let two : Some p ≡ Some q = sym at ∙ ap (slice_get c.args.pages.now) (sym e) ∙ is in
                let one : p ≡ q = cc in
                subst (λ (x : FreshPage). IsSome (held c.reserve.new.self x.key.object x.key.chunk)) one (ap is_some puts.here)
          ];
      lacks = λ o k i lt of. elim (cases_eq i c.loop-page.page-index) [
        | inr ne ↦ lacks_on old c.reserve.new.self o k (fewer_placed p.key.object p.key.chunk old c.reserve.new.self puts) (was.lacks o k i (omega (arith, lt, ne)) of)
        | inl e ↦ lacks_page c.reserve.new.self c.args.pages.now o k i p of (ap (slice_get c.args.pages.now) e ∙ at) (ap (option_and_then page_in) puts.here)
      ];
      others = λ fits o k none.
          let free : held_count old < capacity_of old = omega (arith, fits, was.within_limit, was.sizes.capacity, c.loop-page-test.true) in
          puts.room (inr free) o k (λ same there. none c.loop-page.page-index (omega arith) (record { page = p; there = at; object = sym same; chunk = sym there }))
          ∙ was.others fits o k (λ i lt. none i (omega (arith, lt)));
    }

pub returns-clause-places : goal.returns-clause-places
returns-clause-places c = λ fits. (
  λ i p is.
      let within : i < length c.args.pages.now = slice_get_within c.args.pages.now i p is in
      c.loop-page.invariant.places fits i p (omega (arith, within, c.loop-page-test.false)) is,
  λ o k none. c.loop-page.invariant.others fits o k (λ i lt. none i),
)

pub returns-clause-lacks : goal.returns-clause-lacks
returns-clause-lacks c = λ o k i of.
    let within : i < length c.args.pages.now = slice_get_within c.args.pages.now i of.page of.there in
    c.loop-page.invariant.lacks o k i (omega (arith, within, c.loop-page-test.false)) of
