-- The entries and links of a volume are numbers of 64 bits.
use Rattle.std.specs.Prelude.{◌≡◌, ◌<◌, ◌≤◌, ◌^◌, ◌*◌, ◌+◌, ℕ, List, [], ◌∷◌, length, map as list_map, filter, nat_eq, Bool, Some}
use Rattle.std.proofs.Common.{sym, ◌∙◌, ap, inl, inr, arith}
use Rattle.std.proofs.lemmas.List.{length-append, length-map}
use Rattle.std.proofs.lemmas.List.Sums.{length-filter, count_by-le-length, sum_by-cons}
use Rattle.std.specs.List.{flat_map, sum_by}
use Rattle.std.specs.Cmp.{nat_cmp_total}
use Rattle.std.specs.Cmp.Lexicographic.{nat_list_cmp_total}
use Rattle.std.specs.FinMap as map
use Rattle.std.proofs.lemmas.Nat.{mul-le}
use Rattle.volume_terms.specs.Sizes.{Sizes, IsSizes, page_slots}
use Rattle.volume_terms.specs.Rounding.{ceiling}
use Rattle.posix_profile.specs.State.{Name, Entries, Object, File, Dir, Objects}
use Rattle.posix_profile.specs.Names.{Names, names_to, link_pairs}
use Rattle.posix_profile.specs.Charge.{cost, charge}
use Rattle.posix_profile.specs.laws.Fresh.{slots_some}
use Rattle.posix_profile.specs.laws.Link.{Lists, IsSubdirectory, link_pairs_list}
use Rattle.posix_profile.specs.laws.Map.{Member, get_member, member_map}
use Rattle.posix_profile.specs.laws.Name.{name_same}
use Rattle.posix_profile.specs.laws.Total.{total_without}
use Rattle.posix_profile.specs.laws.Write.{ceiling_at_most}
use Rattle.object_store.specs.Totaled.{IsCountable}
use Rattle.object_store.proofs.Counting.{short, same_length}

-- an object has no more names of another than its cost allows entries
names_few : (z : Sizes) (o : ℕ) (x : Object) → 0 < page_slots z → length (names_to o x) ≤ page_slots z * cost z x
names_few z o (File moment bytes) some = omega arith
names_few z o (Dir moment entries) some =
    let test : Name × ℕ → Bool = λ e. nat_eq o e.1 in
    let n = count_by-le-length test (map.entries entries) in
    let named = length-map (filter test (map.entries entries)) (λ (e : Name × ℕ). e.0) in
    let entries_le = (ceiling_at_most (map.len entries) (page_slots z) (ceiling (map.len entries) (page_slots z)) some).0 (omega arith) in
    let product : page_slots z * (1 + ceiling (map.len entries) (page_slots z)) ≡ page_slots z + ceiling (map.len entries) (page_slots z) * page_slots z = grind arith in
    omega (arith, n, named, length-filter test (map.entries entries), map.len-entries entries, entries_le, product)

abbrev with_key : ℕ → List Name → List (ℕ × Name)
with_key k names = list_map (λ name. (k, name)) names

with_key_length : (k : ℕ) (names : List Name) → length (with_key k names) ≡ length names
with_key_length k names = let pair : Name → ℕ × Name = λ name. (k, name) in length-map names pair

pairs_few : (z : Sizes) (o : ℕ) (es : List (ℕ × Object)) → 0 < page_slots z
    → length (flat_map (λ (e : ℕ × Object). with_key e.0 (names_to o e.1)) es) ≤ page_slots z * sum_by (cost z) (list_map (λ (e : ℕ × Object). e.1) es)
pairs_few z o [] some = omega arith
pairs_few z o (e ∷ es) some =
    let sum' = sum_by-cons (cost z) e.1 (list_map (λ (e : ℕ × Object). e.1) es) in
    let product : page_slots z * (cost z e.1 + sum_by (cost z) (list_map (λ (e : ℕ × Object). e.1) es)) ≡ page_slots z * cost z e.1 + page_slots z * sum_by (cost z) (list_map (λ (e : ℕ × Object). e.1) es) = grind arith in
    let here : length (with_key e.0 (names_to o e.1)) ≤ page_slots z * cost z e.1 =
    omega (arith, with_key_length e.0 (names_to o e.1), names_few z o e.1 some) in
    let rest = pairs_few z o es some in
    omega (
      arith,
      length-append (with_key e.0 (names_to o e.1)) (flat_map (λ (e : ℕ × Object). with_key e.0 (names_to o e.1)) es),
      here,
      rest,
      product,
      ap (λ n. page_slots z * n) sum',
    )

page_few : (z : Sizes) → IsSizes z → z.page_bytes ≤ 4096
page_few z sizes = elim sizes.page_bytes [ inl a ↦ omega arith | inr b ↦ elim b [ inl c ↦ omega arith | inr d ↦ elim d [ inl e ↦ omega arith | inr f ↦ omega arith ] ] ]

slots_few : (z : Sizes) → IsSizes z → page_slots z ≤ 4096
slots_few z sizes = omega (arith, page_few z sizes)

module _ (z : Sizes) (objects : Objects) (countable : IsCountable z objects) where
  slots_charge : page_slots z * charge z objects ≤ 4096 * 2 ^ 48
  slots_charge = mul-le (page_slots z) (charge z objects) 4096 (2 ^ 48) (slots_few z countable.sizes) (omega (arith, countable.within_limit))

  -- a directory has at most so many entries
  pub entries_few : (d moment : ℕ) (entries : Entries) → map.get objects d ≡ Some (Dir moment entries) → map.len entries ≤ 4096 * 2 ^ 48
  entries_few d moment entries is =
      let cost_charge = total_without nat_cmp_total map.nat_cmp-IsAntisymmetric (cost z) objects d (Dir moment entries) is in
      let le = (ceiling_at_most (map.len entries) (page_slots z) (ceiling (map.len entries) (page_slots z)) (slots_some z countable.sizes)).0 (omega arith) in
      let part = mul-le (page_slots z) (ceiling (map.len entries) (page_slots z)) (page_slots z) (charge z objects) (omega arith) (omega (arith, cost_charge)) in
      let turn : ceiling (map.len entries) (page_slots z) * page_slots z ≡ page_slots z * ceiling (map.len entries) (page_slots z) = grind arith in
      omega (arith, le, part, turn, slots_charge)

  -- a file at most so many names
  pub names_listed_few : (o : ℕ) (pairs : List (ℕ × Name)) → Lists (λ pair. Names objects pair.0 pair.1 o) pairs → length pairs ≤ 4096 * 2 ^ 48
  names_listed_few o pairs lists =
      omega (
        arith,
        same_length (λ pair. Names objects pair.0 pair.1 o) pairs (link_pairs objects o) lists (link_pairs_list objects o),
        pairs_few z o (map.entries objects) (slots_some z countable.sizes),
        slots_charge,
      )

  -- and a directory so many directories in it
  pub children_few : (d moment : ℕ) (entries : Entries) → map.get objects d ≡ Some (Dir moment entries) → (children : List ℕ) → Lists (IsSubdirectory objects d) children → length children ≤ 4096 * 2 ^ 48
  children_few d moment entries is children lists =
      let values = list_map (λ (e : Name × ℕ). e.1) (map.entries entries) in
      omega (
        arith,
        short children values lists.distinct (λ c in'. among c (lists.only c in')),
        length-map (map.entries entries) (λ (e : Name × ℕ). e.1),
        map.len-entries entries,
        entries_few d moment entries is,
      )
    where
      among : (c : ℕ) → IsSubdirectory objects d c → Member (list_map (λ (e : Name × ℕ). e.1) (map.entries entries)) c
      among c sub =
          let n = sub.0.1 in
          let dirs : Some (Dir moment entries) ≡ Some (Dir n.moment n.entries) = sym is ∙ n.directory_is in
          let same : entries ≡ n.entries = cc in
          let got : map.get entries sub.0.0 ≡ Some c = ap (λ (e : Entries). map.get e sub.0.0) same ∙ n.object_is in
          member_map (λ (e : Name × ℕ). e.1) (map.entries entries) (sub.0.0, c) (get_member nat_list_cmp_total name_same entries sub.0.0 c got)
