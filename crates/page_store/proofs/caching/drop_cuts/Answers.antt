use Rattle.std.specs.Prelude.{◌<◌, length, slice_get}
use Rattle.std.proofs.Common.{◌∙◌, sym, ap, get_or, arith, inl, inr}
use Rattle.std.proofs.lemmas.Bool.{cases_eq}
use Rattle.std.proofs.lemmas.Option.{slice_get_within, slice_get-get_or}
use Rattle.page_store.proofs.Shown.{sizes_on, lacks_on, lacks_cut, fewer_dropped}
use Rattle.pages.specs.declared.change.Cut.{Cut}
use Rattle.page_store.proofs.caching.drop_cuts.Goals as goal

abbrev none : Cut
none = record { object = 0; from = 0 }

pub loop-cut-preserved : goal.loop-cut-preserved
loop-cut-preserved c =
    let was = c.loop-cut.invariant in
    let does = c.remove_from.ensures in
    let fewer = fewer_dropped _ _ c.loop-cut.cache c.remove_from.new.self does in
    record {
      sizes = sizes_on _ _ _ was.sizes does.sizes;
      fewer = λ o k xs is. was.fewer o k xs (fewer o k xs is);
      lacks = λ o k i lt cut. elim (cases_eq i c.loop-cut.cut-index) [
        | inr ne ↦ lacks_on c.loop-cut.cache c.remove_from.new.self o k fewer (was.lacks o k i (omega (arith, lt, ne)) cut)
        | inl e ↦ lacks_cut c.loop-cut.cache c.remove_from.new.self c.args.cuts.now o k i (get_or c.args.cuts.now c.loop-cut.cut-index none) cut (ap (slice_get c.args.cuts.now) e ∙ slice_get-get_or c.args.cuts.now c.loop-cut.cut-index none c.loop-cut-test.true) does
      ];
      others = λ o k free.
          does.others o k (λ same le. free c.loop-cut.cut-index (omega arith) (record {
            cut = get_or c.args.cuts.now c.loop-cut.cut-index none;
            there = slice_get-get_or c.args.cuts.now c.loop-cut.cut-index none c.loop-cut-test.true;
            object = sym same;
            chunk = le;
          }))
          ∙ was.others o k (λ i lt. free i (omega (arith, lt)));
    }

pub returns-clause-lacks : goal.returns-clause-lacks
returns-clause-lacks c = λ o k i cut.
    let within : i < length c.args.cuts.now = slice_get_within c.args.cuts.now i cut.cut cut.there in
    c.loop-cut.invariant.lacks o k i (omega (arith, within, c.loop-cut-test.false)) cut

pub returns-clause-others : goal.returns-clause-others
returns-clause-others c = λ o k free. c.loop-cut.invariant.others o k (λ i lt. free i)
