use Rattle.std.specs.Prelude.{◌≡◌, Some, None}
use Rattle.std.proofs.Common.{sym, ◌∙◌, subst}
use Rattle.flash_tree.specs.Newest.{IsAfter}
use Rattle.flash_tree.specs.Places.{spot_of}
use Rattle.flash_tree.specs.declared.place.Found.{Found}
use Rattle.mount_scan.specs.NewestMap.{page_of}
use Rattle.mount_scan.proofs.NewestMap.{latest_stays, latest_put, same_page}
use Rattle.mount_scan.proofs.newest.add_page.Goals as goal
use Rattle.mount_scan.proofs.newest.add_page.Goals.{in-Some+else-not-comes_after, in_default}

pub returns-then-not-comes_after : goal.returns-then-not-comes_after
returns-then-not-comes_after c = λ list.
    latest_stays list c.args.newest.now c.args.found c.in-Some.other.now (sym c.in-Some.ensures.value) (λ after. let two = sym c.if-not-comes_after.true ∙ c.comes_after.ensures.1 after in cc)

pub returns : goal.returns
returns c =
    let later : (y : Found) → page_of c.args.newest.now c.args.found.tag.object c.args.found.tag.chunk ≡ Some y → IsAfter (spot_of c.args.found) (spot_of y) = λ y is. elim c.match-get.branch [
      | in-Some+else-not-comes_after w ↦
          subst (λ (p : Found). IsAfter (spot_of c.args.found) (spot_of p)) (same_page c.args.newest.now c.args.found.tag.object c.args.found.tag.chunk w.in-Some.other.now y (sym w.in-Some.ensures.value) is) (w.comes_after.ensures.0 w.if-not-comes_after.false)
      | in_default w ↦ absurd (let two : None ≡ Some y = w.in_default.ensures.value ∙ is in cc)
    ] in
    latest_put c.places_are_in_order.ensures.on c.places_are_in_order.ensures.strict c.args.newest.now c.insert.new.self c.args.found c.in_ok-insert.ensures.updates later
