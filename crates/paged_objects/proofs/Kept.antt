-- Slots that a change of objects keeps.
use Rattle.std.specs.Prelude.{◌≡◌, ◌≢◌, ◌≤◌, ◌+◌, ◌/◌, ℕ, Option, Some, None}
use Rattle.std.proofs.Common.{sym, ◌∙◌, subst, inl, inr, arith}
use Rattle.std.proofs.lemmas.Bool.{cases_eq, cond-true, cond-false, eq-eqb, ne_eqb}
use Rattle.volume_terms.specs.Sizes.{Sizes, page_slots}
use Rattle.posix_profile.specs.State.{Objects}
use Rattle.object_store.specs.declared.change.ObjectChange.{ObjectChange}
use Rattle.object_store.specs.declared.change.ObjectChange.TheVariants as changes
use Rattle.pages.specs.Changes.{IsOnlyOf}
use Rattle.pages.specs.Maps.{PageMap, after_change}
use Rattle.pages.specs.State.{PagesState}
use Rattle.pages.specs.laws.Changes.{changed_same, others_keep}
use Rattle.pages.specs.declared.change.Change.{Change}
use Rattle.directories.specs.Hashing.{KeepsFirst, kept_count}
use Rattle.directories.specs.declared.naming.KeptSlots.{KeptSlots}
use Rattle.paged_objects.specs.Making.{IsKeptBy, KeepsBy}
use Rattle.paged_objects.specs.Naming.{KeepsNames}
use Rattle.paged_objects.specs.Placed.{placed}
use Rattle.paged_objects.proofs.Growing.{count}

-- slots that a change keeps are kept after one of another object
pub keeps_both : (z : Sizes) (m : PageMap) (first second both : Change) (o d n : ℕ) → d ≢ o → IsOnlyOf first o
    → ((k : PageMap) (q c : ℕ) → after_change both k q c ≡ after_change second (after_change first k) q c) → KeepsFirst z m second d n → KeepsFirst z m both d n
keeps_both z m first second both o d n apart only same keeps s e less at =
    let c : ℕ = 1 + s / page_slots z in
    let there : after_change both m d c ≡ after_change second m d c = same m d c ∙ changed_same second (after_change first m) m d c (others_keep first o only m d c apart) in
    keeps s e less (at.0, sym there ∙ at.1, at.2, at.3)

-- none is kept
keeps_none : (z : Sizes) (m : PageMap) (it : Change) (objects : Objects) → KeepsNames z m it objects None
keeps_none z m it objects d = (omega arith, λ s e less at. absurd (omega (arith, less)))

-- those of one directory are kept
keeps_some : (z : Sizes) (m : PageMap) (it : Change) (objects : Objects) (t : ℕ) (kept : KeptSlots) → kept.directory ≡ t → kept.count ≤ count objects t → KeepsFirst z m it t (count objects t)
    → KeepsNames z m it objects (Some kept)
keeps_some z m it objects t kept is few keeps d = elim (cases_eq kept.directory d) [
  | inl here ↦
      let reported : kept_count (Some kept) d ≡ kept.count = cond-true _ _ _ (eq-eqb kept.directory d here) in
      let same : t ≡ d = sym is ∙ here in
      let within_limit : kept.count ≤ count objects d = subst (λ k. kept.count ≤ count objects k) same few in
      (omega (arith, reported, within_limit), λ s e less at. subst (λ k. KeepsFirst z m it k (count objects k)) same keeps s e (omega (arith, less, reported, within_limit)) at)
  | inr other ↦
      let none : kept_count (Some kept) d ≡ 0 = cond-false _ _ _ (ne_eqb kept.directory d other) in
      (omega (arith, none), λ s e less at. absurd (omega (arith, less, none)))
]

-- those of the change are kept
pub keeps_names : (p : PagesState) (z : Sizes) (objects : Objects) (change : ObjectChange) (it : Change) (kept : Option KeptSlots) → IsKeptBy objects change kept → KeepsBy (placed p z objects) change it
    → KeepsNames z p.present it objects kept
keeps_names p z objects change it None is keeps = keeps_none z p.present it objects
keeps_names p z objects (changes.Create entry kind moment) it (Some kept) is keeps = keeps_some z p.present it objects entry.directory kept is.0 is.1 keeps
keeps_names p z objects (changes.Name entry number moment) it (Some kept) is keeps = keeps_some z p.present it objects entry.directory kept is.0 is.1 keeps
keeps_names p z objects (changes.Remove entry removed dropped moment) it (Some kept) is keeps = let two : Some kept ≡ None = is in absurd cc
keeps_names p z objects (changes.Move from to number replaced dropped moment) it (Some kept) is keeps = let two : Some kept ≡ None = is in absurd cc
keeps_names p z objects (changes.Write number offset bytes moment) it (Some kept) is keeps = let two : Some kept ≡ None = is in absurd cc
keeps_names p z objects (changes.Resize number length moment) it (Some kept) is keeps = let two : Some kept ≡ None = is in absurd cc
keeps_names p z objects (changes.Forget number) it (Some kept) is keeps = let two : Some kept ≡ None = is in absurd cc
