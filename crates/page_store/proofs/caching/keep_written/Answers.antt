use Rattle.std.specs.Prelude.{◌≡◌, ◌+◌, List, [], ◌∷◌, ◌++◌, length, IsSome, Some, slice_get, option_and_then}
use Rattle.std.proofs.Common.{◌∙◌, refl, sym, ap, subst, arith, inl, inr}
use Rattle.std.proofs.lemmas.Bool.{cases_eq}
use Rattle.std.proofs.lemmas.Option.{slice_get_within}
use Rattle.flash_tree.specs.declared.place.FreshPage.{FreshPage}
use Rattle.page_store.specs.BufferOf.{last_written}
use Rattle.page_store.specs.Cached.{held, cached}
use Rattle.page_store.specs.Caching.{AreIn}
use Rattle.page_store.specs.Slots.{page_in}
use Rattle.page_store.proofs.CachedPages.{committed_same}
use Rattle.page_store.proofs.Shown.{sizes_on, sizes_exchanged, shows_exchanged, held_exchanged, cached_exchanged, cached_here, get_before, get_last, one_longer, all_first, all_last}
use Rattle.page_store.proofs.caching.keep_written.Goals as goal

pub loop-page-init : goal.loop-page-init
loop-page-init c = record {
  pages = refl;
  buffer_sizes = (refl, refl);
  sizes = record { page_bytes = refl; capacity = refl };
  shows = λ m shows are. (shows, are);
  places = λ o k there. there;
  rest = λ i lt. refl;
  takes = λ i p le is there. let within = slice_get_within (last_written c.args.buffer.now) i p is in absurd (omega (arith, le, within));
}

pub loop-page-preserved : goal.loop-page-preserved
loop-page-preserved c =
    let was = c.loop-page.invariant in
    let takes = c.take_written.ensures in
    let p : FreshPage = c.in-Some.page in
    let puts = c.fill.ensures in
    let list : last_written c.loop-page.buffer ≡ last_written c.take_written.new.self ++ p ∷ [] = c.in-Some.ensures.written in
    let left : List FreshPage = last_written c.take_written.new.self in
    let long : length (last_written c.loop-page.buffer) ≡ length left + 1 = ap length list ∙ one_longer left p in
    record {
      pages = takes.pages ∙ was.pages;
      buffer_sizes = (takes.sizes.0 ∙ was.buffer_sizes.0, takes.sizes.1 ∙ was.buffer_sizes.1);
      sizes = sizes_on _ _ _ was.sizes (sizes_exchanged p.key.object p.key.chunk p.bytes.items c.loop-page.cache c.fill.new.self puts.filled puts.nothing);
      shows = λ m shows are.
          let before = was.shows m shows are in
          let all : AreIn (last_written c.take_written.new.self ++ p ∷ []) m = subst (λ (xs : List FreshPage). AreIn xs m) list before.1 in (
            shows_exchanged p.key.object p.key.chunk p.bytes.items c.loop-page.cache c.fill.new.self m puts.filled puts.nothing
                (all_last (λ (x : FreshPage). m x.key.object x.key.chunk ≡ Some x.bytes.items) (last_written c.take_written.new.self) p all) before.0,
            all_first (λ (x : FreshPage). m x.key.object x.key.chunk ≡ Some x.bytes.items) (last_written c.take_written.new.self) p all,
          );
      places = λ o k there. held_exchanged p.key.object p.key.chunk p.bytes.items c.loop-page.cache c.fill.new.self puts.filled puts.nothing o k (was.places o k there);
      rest = λ i lt. sym (get_before left p i lt) ∙ ap (λ (xs : List FreshPage). slice_get xs i) (sym list) ∙ was.rest i (omega (arith, lt, long));
      takes = λ i q le is there. elim (cases_eq i (length left)) [
        | inr ne ↦ cached_exchanged p.key.object p.key.chunk p.bytes.items c.loop-page.cache c.fill.new.self puts.filled puts.nothing q.key.object q.key.chunk
            (was.takes i q (omega (arith, le, ne, long)) is there)
        | inl e ↦
            let last : slice_get (last_written c.loop-page.buffer) i ≡ Some p = ap (λ (xs : List FreshPage). slice_get xs i) list ∙ ap (slice_get (left ++ p ∷ [])) e ∙ get_last left p in
            let two : Some p ≡ Some q = sym last ∙ was.rest i (omega (arith, e, long)) ∙ is in
            let one : p ≡ q = cc in
            subst (λ (x : FreshPage). IsSome (cached c.fill.new.self x.key.object x.key.chunk)) one
            (cached_here p.key.object p.key.chunk p.bytes.items c.loop-page.cache c.fill.new.self puts.filled puts.nothing
            (was.places p.key.object p.key.chunk (subst (λ (x : FreshPage). IsSome (held c.args.cache.now x.key.object x.key.chunk)) (sym one) there)))
      ];
    }

pub returns-clause-sizes : goal.returns-clause-sizes
returns-clause-sizes c = sizes_on _ _ _ c.loop-page.invariant.sizes (committed_same _ _ c.keep_spares.ensures).sizes

pub returns-clause-shows : goal.returns-clause-shows
returns-clause-shows c = λ m shows are o k xs is.
    (c.loop-page.invariant.shows m shows are).0 o k xs (ap (option_and_then page_in) (sym ((committed_same _ _ c.keep_spares.ensures).each o k)) ∙ is)

pub returns-clause-places : goal.returns-clause-places
returns-clause-places c = λ o k there. subst IsSome (sym ((committed_same _ _ c.keep_spares.ensures).each o k)) (c.loop-page.invariant.places o k there)

pub returns-clause-takes : goal.returns-clause-takes
returns-clause-takes c = λ i p is there.
    let last = rw c.in_default.is at c.take_written.ensures in
    let empty : last_written c.loop-page.buffer ≡ [] = last.written ∙ ap (λ (xs : List FreshPage). xs ++ []) (last.all refl) in
    let short : length (last_written c.loop-page.buffer) ≡ 0 = ap length empty in
    let had : IsSome (cached c.loop-page.cache p.key.object p.key.chunk) = c.loop-page.invariant.takes i p (omega (arith, short)) is there in
    subst IsSome (ap (option_and_then page_in) (sym ((committed_same _ _ c.keep_spares.ensures).each p.key.object p.key.chunk))) had
