-- The log of a mounted device: a mount can go by its summaries, if one could go by those of the flash that was mounted.
use Rattle.std.specs.Prelude.{◌≡◌, ℕ, true, List, Option, Some}
use Rattle.std.proofs.Common.{refl, sym, ◌∙◌, ap, subst, arith, inl, inr}
use Rattle.std.proofs.lemmas.Bool.{cases_eq}
use mathlib.Core.Logic.{∥∥₁_elim}
use Rattle.nand_model.specs.Calls.{Device}
use Rattle.nand_model.specs.Flash.{Flash, Erased, Written, IsWithin}
use Rattle.page_tags.specs.Tags.{tag_bytes}
use Rattle.posix_profile.specs.State.{Objects}
use Rattle.flash_tree.specs.ErasedBlocks.{BeginsErased, GoesFirst, OnlyFirstHasTags}
use Rattle.flash_tree.specs.MountableFlash.{BeganMountable, IsMountableFlash}
use Rattle.flash_tree.specs.Mount.{Answers, IsTreeOf, sizes_of}
use Rattle.flash_tree.specs.Newest.{Spot, Numbers}
use Rattle.flash_tree.specs.Summarizing.{IsFindable}
use Rattle.flash_tree.specs.laws.Place.{same_flash}
use Rattle.block_state.specs.Table.{Table}
use Rattle.chunk_index.specs.Committed.{HoldsNone}
use Rattle.chunk_index.specs.Maps.{committed_pages, count_committed_in}
use Rattle.chunk_index.specs.declared.index.Index.{Index}
use Rattle.transactions.specs.Checking.{log_of}
use Rattle.transactions.specs.Ready.{IsReady}
use Rattle.flash_log.specs.Erased.{TracksErased}
use Rattle.flash_log.specs.Mountable.{IsMountable, IsMountableSince}
use Rattle.flash_log.specs.Snapshots.{Snapshot, flash_of, remembered_flash}
use Rattle.flash_log.specs.laws.Snapshots.{snapshot, remembered}
use Rattle.flash_log.specs.Consistency.{AreFound, AreCommitted}
use Rattle.page_store.specs.KnownFirsts.{KnowsFirsts, MayKnowErased}
use Rattle.page_store.specs.Opened.{IsOpenedBy}
use Rattle.page_store.specs.Shown.{committed_data}
use Rattle.page_store.specs.StoreState.{StoreState, seen_of}
use Rattle.pages.specs.State.{PagesState}
use Rattle.pages.specs.Stores.{FindsSince, BeganMountably, IsOrdered}
use Rattle.mounting.specs.Made.{Remembers}
use Rattle.mounting.specs.Mounted.{KeepsPlaces}
use Rattle.mounting.specs.Named.{IsTrustedSince}
use Rattle.mounting.specs.Tables.{HoldsWhole}
use Rattle.mounting.proofs.PagesMade.{committed_of_data}

-- what a table knows by first pages
abbrev pub ErasedLaw : Type 0
ErasedLaw = (d : Device) (t : Table) → KnowsFirsts d.flash t → MayKnowErased d t → TracksErased d t

module _ (d : Device) (t : Table) (x : Index) (spare : ℕ) (objects : Objects) (honest : d.honest ≡ true) (began : IsMountableFlash d.geometry d.flash)
    (answers : Answers d.geometry d.flash (IsTreeOf spare objects)) (places : KeepsPlaces d.flash (sizes_of d.geometry spare) objects (committed_pages x))
    (committed : AreCommitted d.flash (committed_pages x)) where
  found : AreFound d.geometry d.flash (committed_pages x)
  found o c (p, is) = began.found spare objects answers.0 answers.1 o c (places.only o c p is)

  -- no committed page lies in a block that begins erased
  holds_none : (b : ℕ) → BeginsErased d.flash b → HoldsNone (committed_pages x) b
  holds_none b erased o c p is at =
      let k = committed o c p is in
      let spot : Spot = record { block = p.block; page = p.page; tag = k.tag } in
      let first : d.flash.page p.block 0 ≡ Erased = ap (λ j. d.flash.page j 0) at ∙ erased.1 in
      elim (cases_eq p.page 0) [
        | inl zero ↦
            let has = k.newest.holds.has in
            let page : d.flash.page p.block 0 ≡ Written has.bytes (tag_bytes k.tag) = ap (d.flash.page p.block) (sym zero) ∙ has.page in
            let two : Erased ≡ Written has.bytes (tag_bytes k.tag) = sym first ∙ page in
            cc
        | inr more ↦ (found o c (p, is)).in_order o c 0 spot (refl, refl) k.newest (omega (arith, more)) first
      ]

  module _ (noted : Option ℕ) (n : Numbers) (opened : IsOpenedBy noted d t x n) (can_write : IsReady d t) (within : IsWithin d.geometry.pages d.geometry.blocks d.flash)
      (firsts : KnowsFirsts d.flash t) (checkpoint : HoldsWhole d t.checkpoint) (none : (b : ℕ) → HoldsNone (committed_pages x) b → count_committed_in x b ≡ 0) (law : ErasedLaw) where
    may_know : MayKnowErased d t
    may_know = record {
      geometry = opened.geometry;
      within = within;
      marks = can_write.marks;
      closed = opened.closed;
      first = began.summarized.first;
      committed = λ b erased. opened.counts.counts b ∙ none b (holds_none b erased);
      noted = λ c is. let (k, whole, same) = checkpoint honest c is in subst (GoesFirst d.flash) same (began.checkpoints k whole);
    }

    pub is_mountable : IsMountable (log_of d t) x
    is_mountable = record {
      summaries = began.summarized.right;
      erased = law d t firsts may_know;
      found = found;
    }

-- the flash of a device is remembered: where a mount could go by its summaries, it can go by those of the log
pub mountable_since : (d : Device) (t : Table) (x : Index) → IsWithin d.geometry.pages d.geometry.blocks d.flash
    → (IsMountableFlash d.geometry d.flash → d.honest ≡ true → IsMountable (log_of d t) x)
    → IsMountableSince (Some (snapshot d.geometry.pages d.geometry.blocks d.flash)) (log_of d t) x
mountable_since d t x within is began honest =
    ∥∥₁_elim began (λ a b. squash₁ a b) (λ (first : IsMountableFlash d.geometry (flash_of (snapshot d.geometry.pages d.geometry.blocks d.flash))).
    ∣ is (subst (IsMountableFlash d.geometry) (remembered d.geometry.pages d.geometry.blocks d.flash within) first) honest ∣₁)

-- the pages of a store of that log
module _ (d : Device) (t : Table) (x : Index) (within : IsWithin d.geometry.pages d.geometry.blocks d.flash) (is : IsMountableFlash d.geometry d.flash → d.honest ≡ true → IsMountable (log_of d t) x)
    (a : StoreState) (lent : List ℕ) (device : a.log.device ≡ d) (same : a.log.table ≡ t) (first : a.first ≡ Some (snapshot d.geometry.pages d.geometry.blocks d.flash)) where
  store_began : BeganMountably (seen_of a lent) → ∥ IsMountable (log_of d t) x ∥₁
  store_began (honest, began) = mountable_since d t x within is
      (subst (λ (s : Option Snapshot). BeganMountable d.geometry (remembered_flash s)) first (subst (λ (k : Device). BeganMountable k.geometry (remembered_flash a.first)) device began))
      (ap (λ (k : Device). k.honest) (sym device) ∙ honest)

  pub store_finds : FindsSince (seen_of a lent) (committed_data x d.flash)
  store_finds begun = ∥∥₁_elim (store_began begun) (λ m n. squash₁ m n) (λ (m : IsMountable (log_of d t) x).
      ∣ (λ o c (xs, there). subst (λ (k : Device). IsFindable k.geometry k.flash o c) (sym device) (m.found o c (committed_of_data d.flash xs (committed_pages x o c) there))) ∣₁)

  ordered : IsMountable (log_of d t) x → IsOrdered (seen_of a lent)
  ordered m = record {
    first = subst (λ (k : Device). OnlyFirstHasTags k.flash) (sym device) m.erased.first;
    noted = λ c at. subst (λ (k : Device). GoesFirst k.flash c) (sym device) (m.erased.leads.noted c (ap (λ (u : Table). u.checkpoint) (sym same) ∙ at));
  }

  pub store_remembers : Remembers d (seen_of a lent)
  store_remembers = record {
    first = λ written. ap remembered_flash first ∙ ap (λ (f : Flash). Some f) (remembered d.geometry.pages d.geometry.blocks d.flash within);
    ordered = λ written begun. ∥∥₁_elim (store_began begun) (λ m n. squash₁ m n) (λ (m : IsMountable (log_of d t) x). ∣ ordered m ∣₁);
  }

-- a device that was only read has the flash that is remembered
pub remembers_since : (a now seen : Device) (p : PagesState) → IsTrustedSince a now seen → a.honest ≡ true → Remembers seen p → Remembers a p
remembers_since a now seen p since honest was = record {
  first = λ written. was.first written ∙ ap (λ (f : Flash). Some f) (ap (λ (k : Device). k.flash) since.read.seen_is ∙ same_flash a now since.read.reads honest);
  ordered = was.ordered;
}
