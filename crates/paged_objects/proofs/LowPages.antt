-- No page that an object has is of a chunk that no tree looks up.
use Rattle.std.specs.Prelude.{◌≡◌, ◌<◌, ◌≤◌, ◌+◌, ◌*◌, ◌/◌, ◌%◌, ◌^◌, ◌-◌, ℕ, min, List, Option, Some, None}
use Rattle.std.specs.FinMap as map
use Rattle.std.specs.Int.{div_ceil}
use Rattle.std.proofs.Common.{sym, ◌∙◌, ap, inl, inr, arith}
use Rattle.std.proofs.lemmas.Bool.{cases_Bool, cases_lt}
use Rattle.std.proofs.Math.Nat.{mul-le-mul_right}
use Rattle.std.proofs.lemmas.Grind.{div_ceil_times}
use Rattle.volume_terms.specs.Sizes.{Sizes, IsSizes, page_slots}
use Rattle.page_tags.specs.Headers.{is_present}
use Rattle.posix_profile.specs.State.{Entries, Object, File, Dir}
use Rattle.flash_tree.specs.Tree.{IsPageSize}
use Rattle.pages.specs.Maps.{PageMap}
use Rattle.pages.specs.laws.Low.{present_low, slots_few}
use Rattle.paged_objects.specs.Holding.{HoldsFile, HoldsDirectory, HoldsObject}
use Rattle.flash_tree.specs.laws.SlotCounts.{entries_len}

-- the pages of a volume can be filled by headers
is_page_size : (z : Sizes) → IsSizes z → IsPageSize z.page_bytes
is_page_size z sizes = elim sizes.page_bytes [
  | inl is ↦ record { least = omega (arith, is); most = omega (arith, is) }
  | inr (inl is) ↦ record { least = omega (arith, is); most = omega (arith, is) }
  | inr (inr (inl is)) ↦ record { least = omega (arith, is); most = omega (arith, is) }
  | inr (inr (inr is)) ↦ record { least = omega (arith, is); most = omega (arith, is) }
]

-- and have a slot
some_slots : (z : Sizes) → IsSizes z → 1 ≤ page_slots z
some_slots z sizes = elim sizes.page_bytes [
  | inl is ↦ omega (arith, is)
  | inr (inl is) ↦ omega (arith, is)
  | inr (inr (inl is)) ↦ omega (arith, is)
  | inr (inr (inr is)) ↦ omega (arith, is)
]

-- no more pages than slots
ceil_few : (n k : ℕ) → 1 ≤ k → div_ceil n k ≤ n
ceil_few n k some = elim (cases_lt n (div_ceil n k)) [
  | inr within_limit ↦ within_limit
  | inl over ↦
      let high : (n + 1) * k ≤ (n / k + min 1 (n % k)) * k = mul-le-mul_right k (omega (arith, over)) in
      let base : 1 * n ≤ k * n = mul-le-mul_right n some in
      let times = div_ceil_times n k some in
      absurd (omega (arith, high, base, times.1))
]

module _ (z : Sizes) (sizes : IsSizes z) (m : PageMap) (o c : ℕ) (xs : List ℕ) (there : m o c ≡ Some xs) where
  absent : m o c ≡ None → c < 2 ^ 32
  absent none = let two : None ≡ Some xs = sym none ∙ there in absurd cc

  file_low : (moment : ℕ) (bytes : List ℕ) → HoldsFile z m o moment bytes → c < 2 ^ 32
  file_low moment bytes held = elim (cases_lt c 1) [
    | inl first ↦ omega (arith, first)
    | inr some ↦ elim (cases_Bool (is_present held.reads.fields.bits c)) [
      | inl present ↦ present_low z.page_bytes (is_page_size z sizes) held.reads.fields c held.reads.has.1 some present
      | inr none ↦ absent (held.only c some none)
    ]
  ]

  directory_low : (moment : ℕ) (entries : Entries) → HoldsDirectory z m o moment entries → c < 2 ^ 32
  directory_low moment entries held =
      let r = held.reads in
      let within_limit = slots_few z.page_bytes r.fields r.has.1 r.kind in
      let count : map.len entries ≡ r.fields.length = ap map.len r.entries_are ∙ entries_len r.slots r.once ∙ sym r.size in
      elim (cases_lt (div_ceil (map.len entries) (page_slots z)) c) [
        | inl behind ↦ absent (held.only c behind)
        | inr within ↦ let most = ceil_few (map.len entries) (page_slots z) (some_slots z sizes) in low_end (map.len entries) (div_ceil (map.len entries) (page_slots z)) within most (omega (arith, within_limit, count))
      ] where
        low_end : (n pages : ℕ) → c ≤ pages → pages ≤ n → n ≤ 2 ^ 32 - 1 → c < 2 ^ 32
        low_end n pages within most within_limit = omega (arith, within, most, within_limit)

  pub held_low : (x : Option Object) → HoldsObject z m o x → c < 2 ^ 32
  held_low None none = absent (none c)
  held_low (Some (File moment bytes)) held = file_low moment bytes held
  held_low (Some (Dir moment entries)) held = directory_low moment entries held
