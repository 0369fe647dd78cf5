-- The committed pages of objects that all have names are those of the tree.
use Rattle.std.specs.Prelude.{◌≡◌, ◌<◌, ◌≤◌, ◌-◌, ◌*◌, ◌/◌, ℕ, true, List, Option, Some, None, ◌⊎◌, Result, Ok, Err}
use Rattle.std.specs.FinMap as map
use Rattle.std.specs.Int.{div_ceil}
use Rattle.std.proofs.Common.{refl, sym, ◌∙◌, ap, subst, inl, inr, arith}
use Rattle.std.proofs.Math.Nat.{mul-div_cancel}
use Rattle.std.proofs.lemmas.Bool.{cases_Bool, cases_lt}
use Rattle.nand_model.specs.Flash.{Flash}
use Rattle.page_tags.specs.Headers.{is_present}
use Rattle.volume_terms.specs.Sizes.{Sizes, IsSizes, page_slots}
use Rattle.volume_terms.specs.laws.Rounding.{part_begins}
use Rattle.posix_profile.specs.State.{Entries, Object, File, Dir, Objects}
use Rattle.object_store.specs.Stores.{settled}
use Rattle.flash_tree.specs.Newest.{HasNewest}
use Rattle.flash_tree.specs.Tree.{LooksUp, InFootprint}
use Rattle.flash_tree.specs.laws.SlotCounts.{entries_len}
use Rattle.pages.specs.Maps.{PageMap}
use Rattle.pages.specs.State.{PagesState}
use Rattle.pages.specs.Stores.{Carries, HasPage, bad_on}
use Rattle.paged_objects.specs.Holding.{HoldsFile, HoldsDirectory, HoldsObjects}
use Rattle.paged_objects.specs.laws.Holding.{held}
use Rattle.paged_objects.specs.Representing.{Shown}
use Rattle.paged_objects.specs.laws.OnFlash.{footprint_pages}
use Rattle.object_store.specs.Stores.{Has, Commits}
use Rattle.paged_objects.specs.declared.store.PagedObjects.{PagedObjects}
use Rattle.volume_terms.specs.declared.fault.StoreFault.{StoreFault}
use Rattle.volume_terms.specs.declared.fault.StoreFault.TheVariants as faults
use Rattle.posix_calls.specs.Closing.{KeepsOnly}
use Rattle.posix_calls.proofs.Calls.{meaning_of, commit_done, commit_tree}

-- a page has a slot
some_slots : (z : Sizes) → IsSizes z → 0 < page_slots z
some_slots z numbers = elim numbers.page_bytes [
  | inl a ↦ omega (arith, a)
  | inr rest ↦ elim rest [
    | inl b ↦ omega (arith, b)
    | inr more ↦ elim more [
      | inl c ↦ omega (arith, c)
      | inr d ↦ omega (arith, d)
    ]
  ]
]

-- where there is none, there is no page
no_page : {A : Type 0} (m : PageMap) (o c : ℕ) → m o c ≡ None → HasPage m o c → A
no_page m o c none (xs, is) = absurd (let two : None ≡ Some xs = sym none ∙ is in cc)

module _ (z : Sizes) (numbers : IsSizes z) (m : PageMap) where
  -- each page of an object is looked up
  file_looked : (o moment : ℕ) (bytes : List ℕ) (h : HoldsFile z m o moment bytes) (c : ℕ) → HasPage m o c → LooksUp z h.reads.fields c
  file_looked o moment bytes h c page = elim (cases_lt 0 c) [
    | inr none ↦ inl (omega (arith, none))
    | inl some ↦ elim (cases_Bool (is_present h.reads.fields.bits c)) [
      | inl present ↦ inr (inl (h.reads.kind, some, present))
      | inr absent ↦ no_page m o c (h.only c some absent) page
    ]
  ]

  directory_looked : (o moment : ℕ) (entries : Entries) (h : HoldsDirectory z m o moment entries) (c : ℕ) → HasPage m o c → LooksUp z h.reads.fields c
  directory_looked o moment entries h c page = elim (cases_lt 0 c) [
    | inr none ↦ inl (omega (arith, none))
    | inl some ↦ elim (cases_lt (div_ceil (map.len entries) (page_slots z)) c) [
      | inl behind ↦ no_page m o c (h.only c behind) page
      | inr within ↦
          let n : ℕ = page_slots z in
          let slots : 0 < n = some_slots z numbers in
          let begins : (c - 1) * n < map.len entries = part_begins (map.len entries) n (c - 1) slots (omega (arith, within, some)) in
          let long : h.reads.fields.length ≡ map.len entries = h.reads.size ∙ sym (ap map.len h.reads.entries_are ∙ entries_len h.reads.slots h.reads.once) in
          let place : (c - 1) * n / n ≡ c - 1 = mul-div_cancel (c - 1) slots in
          inr (inr (h.reads.kind, ((c - 1) * n, subst (λ k. (c - 1) * n < k) (sym long) begins, omega (arith, place, some))))
    ]
  ]

  module _ (objects : Objects) (holds : HoldsObjects z m objects) (flash : Flash) (carries : Carries flash m) (same : settled objects ≡ objects) where
    page_looked : (o c : ℕ) → HasPage m o c → InFootprint z (HasNewest flash) (settled objects) o c
    page_looked o c page = go (map.get objects o) refl
      where
        go : (x : Option Object) → map.get objects o ≡ x → InFootprint z (HasNewest flash) (settled objects) o c
        go None is = no_page m o c (let none : (k : ℕ) → m o k ≡ None = held z m objects holds o None is in none c) page
        go (Some (File moment bytes)) is =
            let h : HoldsFile z m o moment bytes = held z m objects holds o (Some (File moment bytes)) is in
            record {
              object = File moment bytes;
              there = ap (λ (x : Objects). map.get x o) same ∙ is;
              fields = h.reads.fields;
              has = (carries o 0 _ h.reads.has.0, h.reads.has.1);
              looks = file_looked o moment bytes h c page;
            }
        go (Some (Dir moment entries)) is =
            let h : HoldsDirectory z m o moment entries = held z m objects holds o (Some (Dir moment entries)) is in
            record {
              object = Dir moment entries;
              there = ap (λ (x : Objects). map.get x o) same ∙ is;
              fields = h.reads.fields;
              has = (carries o 0 _ h.reads.has.0, h.reads.has.1);
              looks = directory_looked o moment entries h c page;
            }

-- pages of objects that all have names are those of the tree that a mount shows
pub keeps_only : (z : Sizes) (p : PagesState) (objects : Objects) → IsSizes z → p.sound ≡ true → Shown z p (settled objects) → HoldsObjects z p.committed objects → settled objects ≡ objects
    → bad_on p.device ≤ p.spare → KeepsOnly z p (settled objects)
keeps_only z p objects numbers sound shown holds same within_limit = record {
  sound = sound;
  within_limit = within_limit;
  all = λ honest o c foot. footprint_pages z p.committed numbers p.device.flash (carries honest) objects holds o c foot;
  only = λ honest o c page. page_looked z numbers p.committed objects holds p.device.flash (carries honest) same o c page;
} where
  carries : p.device.honest ≡ true → Carries p.device.flash p.committed
  carries honest o c xs is = (shown.carried honest).newest o c xs (sym (shown.committed sound o c) ∙ is)

module _ {P : Type 0} (state : P → PagesState) (z : Sizes) where
  -- after a commit that is done
  pub commit_exact : (objects : Objects) (a b : PagedObjects P) → Has (meaning_of state) z objects a → settled objects ≡ objects → (r : Result (Unit {0}) StoreFault) (done : Unit {0}) → r ≡ Ok done
      → Commits (meaning_of state) objects a b r → ((state b.pages).sound ≡ true → bad_on (state b.pages).device ≤ (state b.pages).spare) → KeepsOnly z (state b.pages) (settled objects)
  commit_exact objects a b has same r done is commits within_limit =
      let ends : Commits (meaning_of state) objects a b (Ok done) = subst (Commits (meaning_of state) objects a b) is commits in
      let sound = ends.0.represents.sound in
      keeps_only z (state b.pages) objects has.numbers sound (commit_done state z objects a b has r done is commits)
      (subst (λ (y : Sizes). HoldsObjects y (state b.pages).committed objects) has.sizes (ends.1.0.holds sound)) same (within_limit sound)

  -- a commit of objects that settle to others leaves the tree or settles these
  pub committed_tree : (first objects : Objects) (a b : PagedObjects P) → Has (meaning_of state) z objects a → (r : Result (Unit {0}) StoreFault) → (r ≡ Err faults.NoMemory → ⊥)
      → Commits (meaning_of state) objects a b r → settled objects ≡ settled first → (tree : Objects) → Shown z (state a.pages) tree ⊎ Shown z (state a.pages) (settled first)
      → Shown z (state b.pages) tree ⊎ Shown z (state b.pages) (settled first)
  committed_tree first objects a b has r memory commits same tree shown = elim shown [
    | inl was ↦ after tree was
    | inr settles ↦ elim (after (settled first) settles) [
      | inl is ↦ inr is
      | inr is ↦ inr is
    ]
  ] where
    after : (t : Objects) → Shown z (state a.pages) t → Shown z (state b.pages) t ⊎ Shown z (state b.pages) (settled first)
    after t was = subst (λ (s : Objects). Shown z (state b.pages) t ⊎ Shown z (state b.pages) s) same (commit_tree state z objects a b has r memory commits t was)
