-- What ends a store that holds objects of a volume: there is room for each of their changes.
use Rattle.std.specs.Prelude.{◌≡◌, ◌<◌, ◌≤◌, ◌-◌, ◌*◌, ◌/◌, length}
use Rattle.std.proofs.Common.{sym, ◌∙◌, ap, subst, inl, inr, arith}
use Rattle.std.proofs.lemmas.Bool.{leb-true}
use Rattle.volume_terms.specs.Sizes.{Sizes, IsSizes, capacity, buffer_pages}
use Rattle.posix_profile.specs.Charge.{charge}
use Rattle.posix_profile.specs.State.{Objects}
use Rattle.pages.specs.State.{PagesState}
use Rattle.pages.specs.Stores.{GoesOn, IsCrowded, IsWornOut}
use Rattle.paged_objects.specs.Counting.{HavePages}
use Rattle.paged_objects.specs.laws.Counting.{pages_charged}
use Rattle.paged_objects.specs.Representing.{volume_of, PagesRepresent, Shown}
use Rattle.paged_objects.specs.Ending.{HasPages, IsUsedUp}
use Rattle.paged_objects.specs.laws.Going.{volume_on}

-- no more pages are committed than the volume has units
pub not_crowded : (z : Sizes) (p : PagesState) (objects : Objects) → PagesRepresent z p objects → IsCrowded p → ⊥
not_crowded z p objects represents crowded =
    let shown : Shown z p represents.shown.0 = represents.shown.1 in
    let there : HavePages shown.pages crowded.keys = λ i k is. let page = crowded.each i k is in (page.0, sym (shown.committed represents.sound k.object k.chunk) ∙ page.1) in
    let within_limit : length crowded.keys ≤ charge z shown.objects = pages_charged z shown.pages shown.objects shown.can.numbers shown.holds crowded.keys crowded.once there in
    let fit : charge z shown.objects ≤ capacity z = leb-true (charge z shown.objects) (capacity z) shown.can.fit in
    let room : capacity (volume_of p) ≡ capacity z = ap capacity represents.sizes in
    let most : p.most ≡ buffer_pages (volume_of p) = represents.most ∙ sym (ap buffer_pages represents.sizes) in
    let many : (p.device.geometry.blocks - p.spare - 1) * (p.device.geometry.pages - p.device.geometry.pages / 4) < length crowded.keys =
    subst (λ n. (p.device.geometry.blocks - p.spare - 1) * (p.device.geometry.pages - n) < length crowded.keys) most crowded.many in
    omega (arith, within_limit, fit, room, many)

-- so a store that is worn has no numbers left, or more bad blocks than there are to spare
pub used_up : (z : Sizes) (p q : PagesState) (objects : Objects) → HasPages z p objects → GoesOn p q → IsWornOut p q → IsUsedUp p q
used_up z p q objects has goes (why, inl group) = inr (why, inl group)
used_up z p q objects has goes (why, inr (inl seq)) = inr (why, inr seq)
used_up z p q objects has goes (why, inr (inr (inl bad))) = inl bad
used_up z p q objects has goes (why, inr (inr (inr (inl within_limit)))) =
    let sizes : volume_of q ≡ z = volume_on p q goes ∙ has.represents.sizes in
    let numbers : IsSizes (volume_of q) = subst IsSizes (sym sizes) has.can.numbers in
    absurd (omega (arith, within_limit, numbers.spare_blocks))
used_up z p q objects has goes (why, inr (inr (inr (inr crowded)))) = absurd (not_crowded z p objects has.represents crowded)
