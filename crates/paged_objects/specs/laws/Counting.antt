-- Each page of objects is a unit of what they cost: there are no more pages than that.
use Rattle.std.specs.Prelude.{◌≡◌, ◌⊎◌, ◌<◌, ◌≤◌, ◌+◌, ℕ, zero, suc, true, false, List, [], ◌∷◌, length, map as list_map, sum_by, Option, Some, None, slice_get, cond, option_map}
use Rattle.std.proofs.Common.{refl, sym, ◌∙◌, ap, subst, inl, inr, arith, eqb, get_or}
use Rattle.std.proofs.lemmas.Bool.{cases_Bool, cases_lt, cond-true, cond-false, eqb-true, ne_eqb}
use Rattle.std.proofs.lemmas.List.{length-map}
use Rattle.std.proofs.lemmas.List.Sums.{sum_by-cons}
use Rattle.std.proofs.lemmas.Map.Keys.{IsDistinct-from_apart}
use Rattle.std.proofs.lemmas.Map.Steps.{length-le_from_distinct_below}
use Rattle.std.proofs.lemmas.Option.{slice_get-map, get_or_from_slice_get}
use Rattle.std.specs.Cmp.{nat_cmp_total}
use Rattle.std.specs.FinMap as map
use Rattle.std.specs.FinMap.Entries.{find}
use Rattle.std.specs.Int.{div_ceil}
use Rattle.std.specs.List.{list_any}
use Rattle.std.specs.Ordering.{nat_cmp, eq_by_cmp}
use Rattle.page_tags.specs.Headers.{MayBeSet, is_present}
use Rattle.page_tags.specs.declared.header.ObjectKind.{ObjectKind}
use Rattle.volume_terms.specs.Rounding.{ceiling}
use Rattle.volume_terms.specs.Sizes.{Sizes, IsSizes, page_slots}
use Rattle.volume_terms.specs.laws.Rounding.{ceiling_is}
use Rattle.posix_profile.specs.Charge.{cost, charge}
use Rattle.posix_profile.specs.State.{Entries, Object, File, Dir, Objects}
use Rattle.posix_profile.specs.laws.Map.{same_key, any_member, map_member, Member}
use Rattle.posix_profile.specs.laws.Fresh.{slots_some}
use Rattle.flash_tree.specs.declared.place.Key.{Key}
use Rattle.pages.specs.Maps.{PageMap}
use Rattle.pages.specs.Stores.{HasPage}
use Rattle.paged_objects.specs.Counting.{IsOnce, HavePages}
use Rattle.paged_objects.specs.Holding.{HoldsFile, HoldsDirectory, HoldsObject, HoldsObjects}

-- the object is there, and the chunk is one of those that it is charged for
record IsCharged (z : Sizes) (x : Option Object) (c : ℕ) : Type 0 where
  object : Object
  there : x ≡ Some object
  within : c < cost z object

module _ (z : Sizes) (m : PageMap) (numbers : IsSizes z) where
  file_charged : (o moment : ℕ) (bytes : List ℕ) → HoldsFile z m o moment bytes → (c : ℕ) → HasPage m o c → c ≤ ceiling (length bytes) z.page_bytes
  file_charged o moment bytes h zero page = omega arith
  file_charged o moment bytes h (suc k) page =
      let low : 1 ≤ suc k = omega arith in
      elim (cases_Bool (is_present h.reads.fields.bits (suc k))) [
        | inl set ↦
            let within : suc k ≤ ceiling h.reads.fields.length z.page_bytes = subst (λ (kind : ObjectKind). MayBeSet z.page_bytes kind h.reads.fields.length (suc k)) h.reads.kind (h.reads.has.1.within (suc k) low set) in
            subst (λ n. suc k ≤ ceiling n z.page_bytes) h.reads.size within
        | inr clear ↦ let two : None ≡ Some page.0 = sym (h.only (suc k) low clear) ∙ page.1 in absurd cc
      ]

  directory_charged : (o moment : ℕ) (entries : Entries) → HoldsDirectory z m o moment entries → (c : ℕ) → HasPage m o c → c ≤ ceiling (map.len entries) (page_slots z)
  directory_charged o moment entries h c page = elim (cases_lt (div_ceil (map.len entries) (page_slots z)) c) [
    | inl behind ↦ let two : None ≡ Some page.0 = sym (h.only c behind) ∙ page.1 in absurd cc
    | inr within ↦ subst (λ n. c ≤ n) (ceiling_is (map.len entries) (page_slots z) (slots_some z numbers)) within
  ]

  -- a page is one of those that its object is charged for
  page_charged : (o : ℕ) (x : Option Object) → HoldsObject z m o x → (c : ℕ) → HasPage m o c → IsCharged z x c
  page_charged o None h c page = let two : None ≡ Some page.0 = sym (h c) ∙ page.1 in absurd cc
  page_charged o (Some (File moment bytes)) h c page =
      let most = file_charged o moment bytes h c page in record { object = File moment bytes; there = refl; within = omega (arith, most) }
  page_charged o (Some (Dir moment entries)) h c page =
      let most = directory_charged o moment entries h c page in record { object = Dir moment entries; there = refl; within = omega (arith, most) }

module _ (z : Sizes) where
  -- what the objects of a list cost
  abbrev units : List (ℕ × Object) → ℕ
  units es = sum_by (cost z) (list_map (λ (e : ℕ × Object). e.1) es)

  units-cons : (e : ℕ × Object) (es : List (ℕ × Object)) → units (e ∷ es) ≡ cost z e.1 + units es
  units-cons e es = sum_by-cons (cost z) e.1 (list_map (λ (e : ℕ × Object). e.1) es)

  -- the unit of a chunk: its place among those of its object, behind those of the objects before
  abbrev unit_of : List (ℕ × Object) → ℕ → ℕ → ℕ
  unit_of [] o c = c
  unit_of (e ∷ es) o c = cond (eq_by_cmp nat_cmp o e.0) c (cost z e.1 + unit_of es o c)

  -- the object is the first of the list, or behind it
  abbrev IsFound : ℕ × Object → List (ℕ × Object) → ℕ → Object → Type 0
  IsFound e es o x =
      ((o ≡ e.0) × (x ≡ e.1) × ((c : ℕ) → unit_of (e ∷ es) o c ≡ c))
      ⊎ ((find nat_cmp o es ≡ Some x) × ((c : ℕ) → unit_of (e ∷ es) o c ≡ cost z e.1 + unit_of es o c))

  found : (e : ℕ × Object) (es : List (ℕ × Object)) (o : ℕ) (x : Object) → find nat_cmp o (e ∷ es) ≡ Some x → IsFound e es o x
  found e es o x is = elim (cases_Bool (eq_by_cmp nat_cmp o e.0)) [
    | inl first ↦
        let two : Some e.1 ≡ Some x = sym (cond-true _ (Some e.1) (find nat_cmp o es) first) ∙ is in
        let value : x ≡ e.1 = cc in
        inl (same_key nat_cmp_total map.nat_cmp-IsAntisymmetric o e.0 first, value, λ c. cond-true _ c (cost z e.1 + unit_of es o c) first)
    | inr later ↦ inr (sym (cond-false _ (Some e.1) (find nat_cmp o es) later) ∙ is, λ c. cond-false _ c (cost z e.1 + unit_of es o c) later)
  ]

  unit_below : (es : List (ℕ × Object)) (o c : ℕ) (x : Object) → find nat_cmp o es ≡ Some x → c < cost z x → unit_of es o c < units es
  unit_below [] o c x is low = absurd cc
  unit_below (e ∷ es) o c x is low = elim (found e es o x is) [
    | inl first ↦ omega (arith, units-cons e es, first.2 c, ap (cost z) first.1, low)
    | inr later ↦ omega (arith, units-cons e es, later.1 c, unit_below es o c x later.0 low)
  ]

  -- no two chunks have one unit
  unit_once : (es : List (ℕ × Object)) (o c : ℕ) (x : Object) (p d : ℕ) (y : Object) → find nat_cmp o es ≡ Some x → c < cost z x → find nat_cmp p es ≡ Some y → d < cost z y
      → unit_of es o c ≡ unit_of es p d → (o ≡ p) × (c ≡ d)
  unit_once [] o c x p d y is low there below same = absurd cc
  unit_once (e ∷ es) o c x p d y is low there below same = elim (found e es o x is) [
    | inl a ↦ elim (found e es p y there) [
      | inl b ↦ (a.0 ∙ sym b.0, sym (a.2 c) ∙ same ∙ b.2 d)
      | inr b ↦ absurd (omega (arith, a.2 c, b.1 d, ap (cost z) a.1, low, same))
    ]
    | inr a ↦ elim (found e es p y there) [
      | inl b ↦ absurd (omega (arith, a.1 c, b.2 d, ap (cost z) b.1, below, same))
      | inr b ↦ unit_once es o c x p d y a.0 low b.0 below (omega (arith, a.1 c, b.1 d, same))
    ]
  ]

key_at : (keys : List Key) (i : ℕ) → i < length keys → (k : Key) × (slice_get keys i ≡ Some k)
key_at [] i low = absurd (omega (arith, low))
key_at (k ∷ keys) zero low = (k, refl)
key_at (k ∷ keys) (suc i) low = key_at keys i (omega (arith, low))

member_at : (keys : List Key) (k : Key) → Member keys k → (i : ℕ) × (slice_get keys i ≡ Some k)
member_at [] k is = absurd is
member_at (first ∷ keys) k (inl is) = (zero, ap Some (sym is))
member_at (first ∷ keys) k (inr is) = let rest = member_at keys k is in (suc rest.0, rest.1)

module _ (z : Sizes) (m : PageMap) (objects : Objects) (numbers : IsSizes z) (holds : HoldsObjects z m objects) (keys : List Key) (once : IsOnce keys) (each : HavePages m keys) where
  charged : (i : ℕ) (k : Key) → slice_get keys i ≡ Some k → IsCharged z (map.get objects k.object) k.chunk
  charged i k is = page_charged z m numbers k.object (map.get objects k.object) (holds.each k.object) k.chunk (each i k is)

  listed : (i : ℕ) (k : Key) (is : slice_get keys i ≡ Some k) → find nat_cmp k.object (map.entries objects) ≡ Some (charged i k is).object
  listed i k is = sym (map.get-entries objects k.object) ∙ (charged i k is).there

  abbrev place : Key → ℕ
  place k = unit_of z (map.entries objects) k.object k.chunk

  place_at : (i d : ℕ) (k : Key) → slice_get keys i ≡ Some k → get_or (list_map place keys) i d ≡ place k
  place_at i d k is = get_or_from_slice_get (list_map place keys) i (place k) d (slice_get-map place keys i ∙ ap (option_map place) is)

  place_below : (q : ℕ) → list_any (eqb q) (list_map place keys) ≡ true → q < charge z objects
  place_below q is =
      let a = any_member (eqb q) (list_map place keys) is in
      let b = map_member place keys a.0 a.1 in
      let at = member_at keys b.0 b.1 in
      let low : place b.0 < charge z objects = unit_below z (map.entries objects) b.0.object b.0.chunk (charged at.0 b.0 at.1).object (listed at.0 b.0 at.1) (charged at.0 b.0 at.1).within in
      omega (arith, eqb-true q a.0 a.2, b.2, low)

  same_place : (i j : ℕ) (k l : Key) → slice_get keys i ≡ Some k → slice_get keys j ≡ Some l → place k ≡ place l → i ≡ j
  same_place i j k l is there same =
      let two = unit_once z (map.entries objects) k.object k.chunk (charged i k is).object l.object l.chunk (charged j l there).object (listed i k is) (charged i k is).within (listed j l there) (charged j l there).within same in
      let one : k ≡ l = λ t. record { object = two.0 t; chunk = two.1 t } in
      once i j l (is ∙ ap Some one) there

  places_apart : (i j d : ℕ) → i < j → j < length (list_map place keys) → eqb (get_or (list_map place keys) i d) (get_or (list_map place keys) j d) ≡ false
  places_apart i j d before within =
      let long : length (list_map place keys) ≡ length keys = length-map keys place in
      let a = key_at keys i (omega (arith, before, within, long)) in
      let b = key_at keys j (omega (arith, within, long)) in
      ne_eqb _ _ (λ same. let one : i ≡ j = same_place i j a.0 b.0 a.1 b.1 (sym (place_at i d a.0 a.1) ∙ same ∙ place_at j d b.0 b.1) in omega (arith, one, before))

  -- keys that have pages, each once, are no more than the objects cost
  pub pages_charged : length keys ≤ charge z objects
  pages_charged =
      let long : length (list_map place keys) ≡ length keys = length-map keys place in
      let within_limit = length-le_from_distinct_below (list_map place keys) (charge z objects) (IsDistinct-from_apart eqb (list_map place keys) places_apart) place_below in
      omega (arith, long, within_limit)
