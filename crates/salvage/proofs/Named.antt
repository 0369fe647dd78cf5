-- What a directory's slots name is what it leads to.
use Rattle.std.specs.Prelude.{◌≡◌, ◌<◌, ◌≤◌, ◌+◌, ℕ, List, length, [], ◌∷◌, ◌++◌, Option, Some, None}
use Rattle.std.proofs.Common.{sym, ◌∙◌, ap, subst, inl, inr, arith}
use Rattle.std.proofs.lemmas.Bool.{cases_lt}
use Rattle.std.proofs.lemmas.List.{length-map, length_push}
use Rattle.std.proofs.lemmas.List.Elements.{Contains-push, Contains-push_cases, Contains-append_left}
use Rattle.std.specs.List.{Contains}
use Rattle.page_tags.specs.Headers.{Fields}
use Rattle.page_tags.specs.declared.header.ObjectKind.TheVariants as kinds
use Rattle.page_tags.specs.Slots.{Entry}
use Rattle.volume_terms.specs.Sizes.{Sizes}
use Rattle.volume_terms.specs.laws.List.{at_mapped, mapped_at}
use Rattle.posix_profile.specs.State.{Name}
use Rattle.flash_tree.specs.Tree.{NewestMap, IsSingle, SlotIs}
use Rattle.flash_tree.specs.laws.OneTree.{one_header, one_slot}
use Rattle.tree_walk.specs.Walks.{IsOn}
use Rattle.salvage.specs.Reached.{LeadsTo}
use Rattle.salvage.specs.Reaching.{objects_in}
use Rattle.salvage.specs.Reported.{AreRead, no_slots, reads, lacks, ListsDirectory, ListsSlots, SaysInfo, pairs_in, pairs_of}
use Rattle.salvage.specs.Whole.{HasSlots}
use Rattle.salvage.specs.declared.reported.Listing.{Listing}
use Rattle.salvage.specs.declared.reported.ObjectInfo.{ObjectInfo}
use Rattle.salvage.specs.declared.reported.SalvagedName.{SalvagedName}
use Rattle.salvage.proofs.Elements.{at_place, place_of}

-- a pair is the name and the object of a slot that reads
pub slot_of_pair : (z : Sizes) (m : NewestMap) (d c l : ℕ) (ps : List (Name × ℕ)) → AreRead z m d c ps l → (p : Name × ℕ) → Contains ps p
    → (i : ℕ) × (e : Entry) × (i < c) × SlotIs z m d i e × (p ≡ (e.name, e.object))
slot_of_pair z m d c l ps no_slots p at = let lt = at.1 in absurd (omega (arith, lt))
slot_of_pair z m d c l ps (reads {n} {lost} {pairs} e before slot) p at = elim (Contains-push_cases pairs (e.name, e.object) p at) [
  | inl first ↦ let s = slot_of_pair z m d n lost pairs before p first in (s.0, s.1, omega (arith, s.2), s.3, s.4)
  | inr last ↦ (n, e, omega arith, slot, sym last)
]
slot_of_pair z m d c l ps (lacks {n} {lost} {pairs} before not) p at =
    let s = slot_of_pair z m d n lost pairs before p at in
    (s.0, s.1, omega (arith, s.2), s.3, s.4)

-- each slot that reads has its pair
pub pair_of_slot : (z : Sizes) → z.page_bytes ≤ 4096 → (m : NewestMap) → IsSingle m → (d c l : ℕ) (ps : List (Name × ℕ)) → AreRead z m d c ps l → (i : ℕ) (e : Entry) → i < c → SlotIs z m d i e
    → Contains ps (e.name, e.object)
pair_of_slot z within_limit m single d c l ps no_slots i e lt slot = absurd (omega (arith, lt))
pair_of_slot z within_limit m single d c l ps (reads {n} {lost} {pairs} x before there) i e lt slot = elim (cases_lt i n) [
  | inl first ↦ Contains-append_left pairs ((x.name, x.object) ∷ []) (e.name, e.object) (pair_of_slot z within_limit m single d n lost pairs before i e first slot)
  | inr last ↦
      let same : i ≡ n = omega (arith, lt, last) in
      let one : x ≡ e = one_slot z within_limit m single d n x e there (subst (λ k. SlotIs z m d k e) same slot) in
      subst (λ (y : Entry). Contains (pairs ++ (x.name, x.object) ∷ []) (y.name, y.object)) one (Contains-push pairs (x.name, x.object))
]
pair_of_slot z within_limit m single d c l ps (lacks {n} {lost} {pairs} before not) i e lt slot = elim (cases_lt i n) [
  | inl first ↦ pair_of_slot z within_limit m single d n lost pairs before i e first slot
  | inr last ↦ let same : i ≡ n = omega (arith, lt, last) in absurd (not e (subst (λ k. SlotIs z m d k e) same slot))
]

-- with those that are lost there are as many pairs as slots
all_counted : (z : Sizes) (m : NewestMap) (d c l : ℕ) (ps : List (Name × ℕ)) → AreRead z m d c ps l → length ps + l ≡ c
all_counted z m d c l ps no_slots = omega arith
all_counted z m d c l ps (reads {n} {lost} {pairs} e before slot) = omega (arith, all_counted z m d n lost pairs before, length_push pairs (e.name, e.object))
all_counted z m d c l ps (lacks {n} {lost} {pairs} before not) = omega (arith, all_counted z m d n lost pairs before)

pub has_slots : (z : Sizes) → z.page_bytes ≤ 4096 → (m : NewestMap) → IsSingle m → (d c : ℕ) (listing : Listing) → ListsSlots z m d c listing → HasSlots z m d c listing
has_slots z within_limit m single d c listing read = record {
  each = λ i e lt slot. pair_of_slot z within_limit m single d c listing.lost (pairs_of listing) read i e lt slot;
  only = λ p at. slot_of_pair z m d c listing.lost (pairs_of listing) read p at;
  lost =
      let f : SalvagedName → Name × ℕ = λ n. (n.name.items, n.object) in
      omega (arith, all_counted z m d c listing.lost (pairs_of listing) read, length-map listing.names.items f);
}

-- ---- the objects of names

pair_on : (names : List SalvagedName) (o : ℕ) → IsOn (objects_in names) o → (name : Name) × Contains (pairs_in names) (name, o)
pair_on names o (k, is) =
    let n = at_mapped (λ (n : SalvagedName). n.object) names k o is in
    let at = mapped_at (λ (n : SalvagedName). (n.name.items, n.object)) names k n.0 n.1 in
    (n.0.name.items, subst (λ (x : ℕ). Contains (pairs_in names) (n.0.name.items, x)) n.2 (at_place (pairs_in names) k (n.0.name.items, n.0.object) at))

on_pair : (names : List SalvagedName) (name : Name) (o : ℕ) → Contains (pairs_in names) (name, o) → IsOn (objects_in names) o
on_pair names name o at =
    let p = place_of (pairs_in names) (name, o) at in
    let n = at_mapped (λ (n : SalvagedName). (n.name.items, n.object)) names p.0 (name, o) p.1 in
    let same : n.0.object ≡ o = ap (λ (x : Name × ℕ). x.1) n.2 in
    (p.0, mapped_at (λ (n : SalvagedName). n.object) names p.0 n.0 n.1 ∙ ap Some same)

-- the objects that a listing names
abbrev pub objects_reported : Option Listing → List ℕ
objects_reported None = []
objects_reported (Some listing) = objects_in listing.names.items

module _ (z : Sizes) (within_limit : z.page_bytes ≤ 4096) (m : NewestMap) (single : IsSingle m) (d : ℕ) where
  pub led : (reported : Option Listing) → ListsDirectory z m d reported → (o : ℕ) → LeadsTo z m d o → IsOn (objects_reported reported) o
  led None not o l = absurd (not l.fields l.has l.kind)
  led (Some listing) (f, has, kind, slots) o l =
      let same : l.fields ≡ f = one_header z within_limit m single d l.fields f l.has has in
      let within : l.place < f.length = subst (λ (x : Fields). l.place < x.length) same l.within in
      let pair = pair_of_slot z within_limit m single d f.length listing.lost (pairs_of listing) slots l.place l.entry within l.slot in
      on_pair listing.names.items l.entry.name o (subst (λ (x : ℕ). Contains (pairs_of listing) (l.entry.name, x)) l.names pair)

  pub leads : (reported : Option Listing) → ListsDirectory z m d reported → (o : ℕ) → IsOn (objects_reported reported) o → LeadsTo z m d o
  leads None not o (k, is) = absurd cc
  leads (Some listing) (f, has, kind, slots) o on =
      let pair = pair_on listing.names.items o on in
      let s = slot_of_pair z m d f.length listing.lost (pairs_of listing) slots (pair.0, o) pair.1 in
      record { fields = f; has = has; kind = kind; place = s.0; within = s.2; entry = s.1; slot = s.3; names = ap (λ (x : Name × ℕ). x.1) (sym s.4) }

-- ---- what the header says

module _ (z : Sizes) (m : NewestMap) (d : ℕ) (info : ObjectInfo) (says : SaysInfo z m d (Some info)) where
  pub no_directory : z.page_bytes ≤ 4096 → IsSingle m → info.kind ≡ kinds.File → ListsDirectory z m d None
  no_directory within_limit single file f has directory =
      let same : f ≡ says.0 = one_header z within_limit m single d f says.0 has says.1 in
      let two : kinds.File ≡ kinds.Directory = sym file ∙ says.2.kind ∙ ap (λ (x : Fields). x.kind) (sym same) ∙ directory in
      cc

  pub directory_of : (listing : Listing) → info.kind ≡ kinds.Directory → ListsSlots z m d info.length listing → ListsDirectory z m d (Some listing)
  directory_of listing directory slots = (says.0, says.1, sym says.2.kind ∙ directory, subst (λ n. ListsSlots z m d n listing) says.2.length_is slots)
