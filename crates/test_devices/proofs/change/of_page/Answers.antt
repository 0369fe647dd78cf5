use Rattle.std.proofs.Common.{◌≡◌, ◌∷◌, [], sym, subst, rules}
use Rattle.pages.specs.Changes.{AreApart}
use Rattle.test_devices.proofs.Single.{single_apart}
use Rattle.test_devices.proofs.change.of_page.Goals as goal

pub returns : goal.returns
returns c =
    let is : c.in_ok-vec.field-0.items ≡ c.args.page ∷ [] = search rules in
    subst AreApart (sym is) (single_apart c.args.page)
