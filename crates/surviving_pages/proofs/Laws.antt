-- What follows of pages that survive.
use Rattle.std.specs.Prelude.{◌≡◌, ◌↔◌, ◌<◌, ◌^◌, ◌+◌, ◌-◌, ℕ, List, Option, Some, None, IsSome}
use Rattle.std.specs.Option.{option_and_then}
use Rattle.std.proofs.Common.{refl, sym, ◌∙◌, ap, subst, arith}
use Rattle.nand_model.specs.Flash.{Flash, Written}
use Rattle.page_tags.specs.Tags.{tag_bytes}
use Rattle.flash_tree.specs.Groups.{IsPart}
use Rattle.flash_tree.specs.Newest.{Spot, Holds, HasNewest}
use Rattle.flash_tree.specs.Places.{group_of}
use Rattle.flash_tree.specs.laws.Place.{counts_by_tag}
use Rattle.chunk_index.specs.declared.form.CommittedPage.{CommittedPage}
use Rattle.chunk_index.specs.declared.index.Index.{Index}
use Rattle.chunk_index.specs.Maps.{committed_pages}
use Rattle.page_store.specs.Shown.{data_of, data_at, committed_data}
use Rattle.surviving_pages.specs.Opened.{HasSurvivors}
use Rattle.surviving_pages.specs.Surviving.{Survives, IsSurvivor, HasSurvivor, HasLostNothing}

-- ---- keys

-- a page that survives is of the key that its tag names
pub of_tag : (flash : Flash) (o c : ℕ) (s : Spot) → Survives flash o c s → IsSurvivor flash s
of_tag flash o c s is = record { good = is.good; has = is.has; object = refl; chunk = refl; completed = is.completed }

pub of_key : (flash : Flash) (o c : ℕ) (s : Spot) → IsSurvivor flash s → s.tag.object ≡ o → s.tag.chunk ≡ c → Survives flash o c s
of_key flash o c s is object chunk = record { good = is.good; has = is.has; object = object; chunk = chunk; completed = is.completed }

-- ---- where nothing is lost

-- a valid page survives: the last page of its group has a tag
pub valid_survives : (flash : Flash) (o c : ℕ) (s : Spot) → Holds flash o c s → Survives flash o c s
valid_survives flash o c s held =
    let by_tag = (counts_by_tag flash o c s).0 held in
    let last : IsPart flash (group_of s) (s.tag.count - 1) = by_tag.whole.each (s.tag.count - 1) (omega (arith, by_tag.whole.some)) in
    record {
      good = by_tag.whole.good;
      has = by_tag.has;
      object = by_tag.object;
      chunk = by_tag.chunk;
      completed = record { page = s.page - s.tag.index + (s.tag.count - 1); from = omega (arith, by_tag.start, by_tag.has.valid.index); tag = last.tag; has = last.has };
    }

module _ (flash : Flash) (nothing : HasLostNothing flash) (o c : ℕ) where
  -- each page that survives is valid
  survives_valid : (s : Spot) → Survives flash o c s → Holds flash o c s
  survives_valid s is =
      let held : Holds flash s.tag.object s.tag.chunk s = nothing s (of_tag flash o c s is) in
      subst (λ l. Holds flash o l s) is.chunk (subst (λ k. Holds flash k s.tag.chunk s) is.object held)

  -- so the newest of them is the newest page
  pub same_newest : (bytes : List ℕ) → HasSurvivor flash o c bytes ↔ HasNewest flash o c bytes
  same_newest bytes = (
    λ has. record {
      spot = has.spot;
      newest = record { holds = survives_valid has.spot has.newest.survives; last = λ t holds after. has.newest.last t (valid_survives flash o c t holds) after };
      stored = has.stored;
    },
    λ has. record {
      spot = has.spot;
      newest = record { survives = valid_survives flash o c has.spot has.newest.holds; last = λ t is after. has.newest.last t (survives_valid t is) after };
      stored = has.stored;
    },
  )

-- ---- data

module _ (flash : Flash) (x : Index) (has : HasSurvivors flash x) (o c : ℕ) where
  pub has_data : (k : CommittedPage) → committed_pages x o c ≡ Some k → IsSome (data_at flash k)
  has_data k committed =
      let (low, found) = has.only o c k committed in
      let (s, newest, same) = found in
      let stored : data_at flash k ≡ Some newest.survives.has.bytes = ap (data_at flash) same ∙ ap data_of newest.survives.has.page in
      subst (λ (m : Option (List ℕ)). IsSome m) (sym stored) refl

  from_committed : (xs : List ℕ) (m : Option CommittedPage) → committed_pages x o c ≡ m → option_and_then (data_at flash) m ≡ Some xs → HasSurvivor flash o c xs × (c < 2 ^ 32)
  from_committed xs None committed is = absurd cc
  from_committed xs (Some k) committed is =
      let (low, found) = has.only o c k committed in
      let (s, newest, same) = found in
      let page = newest.survives.has.page in
      let two : Some newest.survives.has.bytes ≡ Some xs = sym (ap data_of page) ∙ sym (ap (data_at flash) same) ∙ is in
      let bytes : newest.survives.has.bytes ≡ xs = cc in
      (record { spot = s; newest = newest; stored = page ∙ ap (λ ys. Written ys (tag_bytes s.tag)) bytes }, low)

  pub same_data : (xs : List ℕ) → (committed_data x flash o c ≡ Some xs) ↔ (HasSurvivor flash o c xs × (c < 2 ^ 32))
  same_data xs = (
    λ is. from_committed xs (committed_pages x o c) refl is,
    λ (survivor, low). ap (option_and_then (data_at flash)) (has.each o c survivor.spot low survivor.newest) ∙ ap data_of survivor.stored,
  )
