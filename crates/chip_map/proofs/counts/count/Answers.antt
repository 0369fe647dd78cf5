use Rattle.std.proofs.Common.{◌+◌, ◌++◌, ◌∷◌, [], None, take, get_or, sym, subst, arith}
use Rattle.std.proofs.lemmas.List.{take_more}
use Rattle.chip_map.specs.declared.page_state.PageState.TheVariants as states
use Rattle.chip_map.specs.declared.page_state.SurveyedPage.{SurveyedPage}
use Rattle.chip_map.specs.Counting.{AreCounts}
use Rattle.chip_map.specs.Surveys.{pages_of}
use Rattle.chip_map.proofs.counts.count.Goals as goal

pub loop-page-preserved : goal.loop-page-preserved
loop-page-preserved c =
    let none : SurveyedPage = record { state = states.Bad; tag = None } in
    let i = c.loop-page.page-index in
    record {
      counts = subst (λ xs. AreCounts (take (i + 1) xs) c.add.new.self) c.pages-page-items.ensures.pages
          (subst (λ xs. AreCounts xs c.add.new.self) (sym (take_more c.pages-page-items.result.now i none c.loop-page-test.true))
          (subst (λ xs. AreCounts (take i xs ++ get_or c.pages-page-items.result.now i none ∷ []) c.add.new.self) (sym c.pages-page-items.ensures.pages)
          (c.add.ensures.counts (take i (pages_of c.args.survey.now)) c.loop-page.invariant.counts)));
      total = omega (arith, c.add.ensures.total, c.loop-page.invariant.total);
    }
