-- What an index holds once the hashes of a change's names were added.
use Rattle.std.specs.Prelude.{◌≡◌, ◌<◌, ◌≤◌, ℕ, ◌+◌, ◌-◌, ◌*◌, ◌/◌, ◌%◌, ◌^◌, List, length, take, drop, Option, Some, Result, Ok, Err, OnOk, OnErr, Bool, true, false, cond}
use Rattle.std.specs.Cmp.Lexicographic.{nat_list_cmp_total}
use Rattle.std.specs.FinMap as map
use Rattle.std.proofs.Common.{sym, ◌∙◌, ap, subst, inl, inr, arith}
use Rattle.std.proofs.Math.Nat.{div-add-mod'}
use Rattle.std.proofs.lemmas.Bool.{cases_lt}
use Rattle.page_tags.specs.Headers.{IsHeader, header_bytes}
use Rattle.page_tags.specs.Slots.{Entry}
use Rattle.flash_tree.specs.declared.place.FreshPage.{FreshPage}
use Rattle.name_index.specs.Covering.{HasHashes}
use Rattle.name_index.specs.Hashes.{fnv1a}
use Rattle.name_index.specs.Names.{Holds, HoldsSame, AddsName}
use Rattle.name_index.specs.declared.index.NameIndex.{NameIndex}
use Rattle.volume_terms.specs.Sizes.{Sizes, page_slots}
use Rattle.posix_profile.specs.State.{Name, Entries}
use Rattle.pages.specs.Changes.{AreSized}
use Rattle.pages.specs.Maps.{PageMap, without_cuts, after_change, IsFirstOf}
use Rattle.pages.specs.laws.Maps.{page_elsewhere, first_here}
use Rattle.pages.specs.declared.change.Change.{Change}
use Rattle.directories.specs.Directories.{SlotOf}
use Rattle.directories.specs.laws.Keys.{first_or_none, cuts_leave}
use Rattle.directories.specs.Hashing.{HoldsMore, HoldsPage, HashesPages, KeepsFirst, SaysNoDirectory, WritesNewSlots, kept_count}
use Rattle.directories.specs.declared.naming.KeptSlots.{KeptSlots}

module _ (z : Sizes) (some : 1 ≤ page_slots z) (old new : NameIndex) (more : HoldsMore old new) (m : PageMap) (change : Change) (sized : AreSized change.pages.items z.page_bytes)
    (kept : Option KeptSlots) (all : HashesPages new change.pages.items (page_slots z) kept) (d before later : ℕ) (w : WritesNewSlots z m change d before later) where
  -- a directory's header among the pages is one of a directory
  no_other : (o : ℕ) → o ≡ d → SaysNoDirectory change.pages.items o → ⊥
  no_other o same says =
      let of = says.1.0 in
      let first : after_change change m o 0 ≡ Some of.page.bytes.items = first_here change.pages.items (without_cuts change.cuts.items m) o 0 says.0 of.page of.there of.object of.chunk says.1.1 in
      let there : after_change change m o 0 ≡ Some (header_bytes w.fields) = subst (λ k. after_change change m k 0 ≡ Some (header_bytes w.fields)) (sym same) w.has_header.0 in
      let two : Some of.page.bytes.items ≡ Some (header_bytes w.fields) = sym first ∙ there in
      let one : of.page.bytes.items ≡ header_bytes w.fields = cc in
      let len : length of.page.bytes.items ≡ z.page_bytes = sized says.0 of.page of.there in
      says.2 w.fields (record { valid = subst (λ n. IsHeader n w.fields) (sym len) w.has_header.1; encodes = one }) w.kind

  written_here : (s : ℕ) (e : Entry) → s < later → kept_count kept d ≤ s → (at : SlotOf z (after_change change m) d s e) → (i : ℕ) → IsFirstOf change.pages.items d (1 + s / page_slots z) i → Holds new d (fnv1a e.name) s
  written_here s e less past at i first =
      let n : ℕ = page_slots z in
      let p : FreshPage = first.0.page in
      let here : after_change change m d (1 + s / n) ≡ Some p.bytes.items = first_here change.pages.items (without_cuts change.cuts.items m) d (1 + s / n) i p first.0.there first.0.object first.0.chunk first.1 in
      let two : Some p.bytes.items ≡ Some at.0 = sym here ∙ at.1 in
      let one : p.bytes.items ≡ at.0 = cc in
      let chunk : p.key.chunk ≡ 1 + s / n = first.0.chunk in
      let begins : p.key.chunk - 1 ≡ s / n = omega (arith, chunk) in
      let number : (p.key.chunk - 1) * n + s % n ≡ s = ap (λ k. k * n + s % n) begins ∙ div-add-mod' s n in
      let small : s < 2 ^ 32 = omega (arith, less, w.within_limit) in
      let behind : kept_count kept p.key.object ≤ (p.key.chunk - 1) * n + s % n =
      subst (λ o. kept_count kept o ≤ (p.key.chunk - 1) * n + s % n) (sym first.0.object) (subst (λ k. kept_count kept d ≤ k) (sym number) past) in
      let held = all i p first.0.there (omega (arith, chunk)) (no_other p.key.object first.0.object) (s % n) e (omega (arith, some))
      (at.2, ap (λ (xs : List ℕ). take 272 (drop (272 * (s % n)) xs)) one ∙ at.3) behind (subst (λ k. k < 2 ^ 32) (sym number) small) in
      subst (λ k. Holds new d (fnv1a e.name) k) number (subst (λ o. Holds new o (fnv1a e.name) ((p.key.chunk - 1) * n + s % n)) first.0.object held)

  pub hashes_on : HasHashes old z m d before → kept_count kept d ≤ before → KeepsFirst z m change d (kept_count kept d) → HasHashes new z (after_change change m) d later
  hashes_on had most stays s e less at = elim (cases_lt s (kept_count kept d)) [
    | inl first ↦ more d (fnv1a e.name) s (had s e (omega (arith, first, most)) (stays s e first at))
    | inr past ↦ elim (first_or_none change.pages.items d (1 + s / page_slots z)) [
      | inl x ↦ written_here s e less past at x.0 x.1
      | inr none ↦
          let c : ℕ = 1 + s / page_slots z in
          let left : m d c ≡ Some at.0 = cuts_leave change.cuts.items m d c at.0 (sym (page_elsewhere change.pages.items (without_cuts change.cuts.items m) d c none) ∙ at.1) in
          elim (cases_lt s before) [
            | inl was ↦ more d (fnv1a e.name) s (had s e was (at.0, left, at.2, at.3))
            | inr new' ↦ let key = w.written s new' less in absurd (none key.0 key.1)
          ]
    ]
  ]

-- ---- one hash more
pub more_on : (a b c : NameIndex) → HoldsMore a b → HoldsMore b c → HoldsMore a c
more_on a b c x y d h s holds = y d h s (x d h s holds)

pub more_added : {A E : Type 0} (directory hash slot : ℕ) (old new : NameIndex) (result : Result A E) → OnOk result (AddsName directory hash slot old new) → OnErr result (HoldsSame old new) → HoldsMore old new
more_added directory hash slot old new (Ok x) ok err = ok.stays
more_added directory hash slot old new (Err e) ok err = err.stays

pub held_as : (names : NameIndex) (d h s : ℕ) → Holds names d h s → (h' s' : ℕ) → h ≡ h' → s ≡ s' → Holds names d h' s'
held_as names d h s holds h' s' same_hash same_slot = subst (λ k. Holds names d k s') same_hash (subst (λ k. Holds names d h k) same_slot holds)

pub page_more : (old new : NameIndex) (n from : ℕ) (page : FreshPage) → HoldsMore old new → HoldsPage old n from page → HoldsPage new n from page
page_more old new n from page more held k e less at past small = more page.key.object (fnv1a e.name) ((page.key.chunk - 1) * n + k) (held k e less at past small)

-- a name less is no entry more
pub len_less : (entries : Entries) (name : Name) → map.len (map.remove entries name) ≤ map.len entries
len_less entries name = go (map.contains_key entries name) (map.len-remove nat_list_cmp_total entries name)
  where
    go : (b : Bool) → map.len (map.remove entries name) ≡ cond b (map.len entries - 1) (map.len entries) → map.len (map.remove entries name) ≤ map.len entries
    go true e = omega (arith, e)
    go false e = omega (arith, e)
