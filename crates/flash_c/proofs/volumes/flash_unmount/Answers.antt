use Rattle.std.proofs.Common.{◌≡◌, ◌∙◌, ℤ, ap, sym, subst, to_z, of_z, w32, rules}
use Rattle.std.proofs.lemmas.Int.{to_z-of_z}
use Rattle.nand_model.specs.Calls.{Device}
use Rattle.posix_calls.specs.declared.page_volume.PageVolume.{PageVolume}
use Rattle.pages.specs.State.{PagesState}
use Rattle.posix_calls.specs.Volumes.{over_pages}
use Rattle.flash_c.specs.Volumes.{IsEnded}
use Rattle.flash_c.specs.declared.session.Session.{Session}
use Rattle.flash_c.specs.declared.slot.Slot.{Slot}
use Rattle.flash_c.proofs.volumes.flash_unmount.Goals as goal

-- the same volume ends with the same number
ended_as : {P : Type 0} (state : P → PagesState) (v w : PageVolume P) (device : Device) (n m : ℤ) → v ≡ w → n ≡ m → IsEnded state v device n → IsEnded state w device m
ended_as state v w device n m same number is = subst (λ x. IsEnded state x device m) same (subst (IsEnded state v device) number is)

pub returns-clause-ended : goal.returns-clause-ended
returns-clause-ended c full =
    let session : c.take.result ≡ c.args.slot.now.session = c.take.ensures.session ∙ ap (λ (s : Slot). s.session) c.is_full.ensures.same in
    let number : to_z w32 (of_z w32 c.end.result.1) ≡ c.end.result.1 = to_z-of_z w32 c.end.result.1 (search rules) in
    (c.end.result.0, ended_as _ _ _ _ _ _ (ap (λ (s : Session). over_pages s.volume) session) (sym number) c.end.ensures)
