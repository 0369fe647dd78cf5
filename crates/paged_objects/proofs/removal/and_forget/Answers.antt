use Rattle.std.proofs.Common.{◌≡◌, ◌≤◌, ◌+◌, ℕ, List, [], length, ap, arith}
use Rattle.std.specs.FinMap as map
use Rattle.flash_tree.specs.declared.place.FreshPage.{FreshPage}
use Rattle.pages.specs.Changes.{AreApart, AreSized, IsChange}
use Rattle.pages.specs.Maps.{PageMap, no_pages, after_change}
use Rattle.pages.specs.declared.change.Change.{Change}
use Rattle.paged_objects.specs.Holding.{HoldsObjects}
use Rattle.paged_objects.specs.Naming.{WritesNames}
use Rattle.paged_objects.proofs.Growing.{names_cut}
use Rattle.paged_objects.specs.laws.Holding.{same_objects}
use Rattle.paged_objects.proofs.Results.{on_ok, on_three, on_each}
use Rattle.paged_objects.proofs.Wholes.{none_apart, none_sized}
use Rattle.paged_objects.proofs.removal.and_forget.Goals as goal

pub returns-clause-change : goal.returns-clause-change
returns-clause-change c = λ bytes most is.
    let none : c.in_ok-cut.cut.pages.items ≡ [] = c.in_ok-cut.ensures.pages in
    on_three (λ (both : Change). AreApart both.pages.items) (λ (both : Change). AreSized both.pages.items bytes) (λ (both : Change). length both.pages.items ≤ length c.args.change.pages.items + length c.in_ok-cut.cut.pages.items)
    (λ both. IsChange both bytes most) c.then.result
    (λ both apart size within_limit. record { apart = apart; size = size; within_limit = omega (arith, within_limit, is.within_limit, ap (λ (ps : List FreshPage). length ps) none) })
    (c.then.ensures.apart is.apart (none_apart c.in_ok-cut.cut.pages.items none)) (c.then.ensures.size bytes is.size (none_sized c.in_ok-cut.cut.pages.items bytes none)) c.then.ensures.within_limit

pub returns-clause-forgets : goal.returns-clause-forgets
returns-clause-forgets c = λ z m objects holds.
    let cut : Change = c.in_ok-cut.cut in
    let n : PageMap = after_change cut (after_change c.args.change m) in
    let left = c.in_ok-cut.ensures.forgets z (after_change c.args.change m) objects holds in
    rw c.in-Some.is (on_ok (λ (both : Change). (o k : ℕ) → after_change both m o k ≡ n o k) (λ (both : Change). HoldsObjects z (after_change both m) (map.remove objects c.in-Some.number)) c.then.result
    (λ both same. same_objects z n (after_change both m) (map.remove objects c.in-Some.number) left same)
    (on_each (λ o k (both : Change). after_change both m o k ≡ n o k) c.then.result (λ o k. c.then.ensures.pages m o k)))

pub returns-clause-slots : goal.returns-clause-slots
returns-clause-slots c = λ z old new writes.
    let cut : Change = c.in_ok-cut.cut in
    let n : PageMap = after_change cut (after_change c.args.change no_pages) in
    rw c.in-Some.is (on_ok (λ (both : Change). (o k : ℕ) → after_change both no_pages o k ≡ n o k) (λ (both : Change). WritesNames z both old (map.remove new c.in-Some.number)) c.then.result
    (λ both same. names_cut z c.args.change cut both c.in-Some.number c.in_ok-cut.ensures.only same old new writes)
    (on_each (λ o k (both : Change). after_change both no_pages o k ≡ n o k) c.then.result (λ o k. c.then.ensures.pages no_pages o k)))
