-- Which pages of an object are looked up.
use Rattle.std.specs.Prelude.{◌≡◌, ◌↔◌, ◌<◌, ◌≤◌, ℕ, ◌+◌, ◌-◌, ◌*◌, ◌/◌, Bool, true, false, IsTrue, Some, None}
use Rattle.std.specs.Int.{div_ceil}
use Rattle.std.proofs.Common.{refl, sym, ◌∙◌, ap, subst, inl, inr, arith, ◌||◌, nat_eq, Option}
use Rattle.std.proofs.lemmas.Nat.{div-mul-add}
use Rattle.std.proofs.lemmas.Bool.{cases_lt, cases_eq, eq-eqb, ne_eqb, leb-true, le-leb}
use Rattle.std.specs.Option.{option_map_or}
use Rattle.std.proofs.Math.Nat.{div-mul-le_self}
use Rattle.page_tags.specs.Headers.{Fields, is_present}
use Rattle.page_tags.specs.declared.header.ObjectKind.{ObjectKind}
use Rattle.page_tags.specs.declared.header.ObjectKind.TheVariants as kinds
use Rattle.flash_tree.specs.Tree.{LooksUp, IsPageSize}
use Rattle.flash_tree.specs.laws.Finding.{same_header}
use Rattle.pages.specs.Maps.{PageMap, has}
use Rattle.volume_terms.specs.Sizes.{Sizes, page_slots}
use Rattle.volume_terms.specs.laws.Rounding.{part_begins, parts_reach}
use Rattle.tree_walk.specs.Heads.{IsHeadOf, head_looks_up, kind_looks_up}
use Rattle.tree_walk.specs.Trees.{ReportsHeads, IsLookedUp, head_at, keeps_key, objects_listed, page_size}
use Rattle.tree_walk.specs.declared.head.Head.{Head}
use Rattle.tree_walk.specs.declared.tree.Tree.{Tree}
use Rattle.tree_walk.proofs.Seeing.{single}

module _ (z : Sizes) (f : Fields) (head : Head) (is : IsHeadOf head f) (chunk : ℕ) (from : 1 ≤ chunk) where
  kinds_apart : head.kind ≡ kinds.File → head.kind ≡ kinds.Directory → ⊥
  kinds_apart file directory = let two : kinds.File ≡ kinds.Directory = sym file ∙ directory in cc

  pub file_looks : head.kind ≡ kinds.File → (b : Bool) → b ≡ is_present head.bits.items chunk → IsTrue b ↔ LooksUp z f chunk
  file_looks file b reported = (λ t. inr (inl (sym is.kind ∙ file, from, sym (is.bits chunk from) ∙ sym reported ∙ t)), back) where
    back : LooksUp z f chunk → IsTrue b
    back (inl zero_is) = absurd (omega (arith, zero_is, from))
    back (inr (inl (kind, some, present))) = reported ∙ is.bits chunk from ∙ present
    back (inr (inr (kind, slot))) = absurd (kinds_apart file (is.kind ∙ kind))

  pub directory_looks : head.kind ≡ kinds.Directory → 1 ≤ page_slots z → (b : Bool) → (b ≡ true → chunk ≤ div_ceil head.length (page_slots z)) → (chunk ≤ div_ceil head.length (page_slots z) → b ≡ true) → IsTrue b ↔ LooksUp z f chunk
  directory_looks directory some b to_le of_le = (there, back) where
    n : ℕ
    n = page_slots z

    there : IsTrue b → LooksUp z f chunk
    there t =
        let le = to_le (t) in
        let within : (chunk - 1) * n < head.length = part_begins head.length n (chunk - 1) some (omega (arith, le, from)) in
        let here : ((chunk - 1) * n + 0) / n ≡ chunk - 1 = div-mul-add (chunk - 1) n 0 (omega (arith, some)) in
        inr (inr (sym is.kind ∙ directory, ((chunk - 1) * n + 0, omega (arith, within, is.length_is), omega (arith, here, from))))

    back : LooksUp z f chunk → IsTrue b
    back (inl zero_is) = absurd (omega (arith, zero_is, from))
    back (inr (inl (kind, at_least, present))) = absurd (kinds_apart (is.kind ∙ kind) directory)
    back (inr (inr (kind, (i, lt, at)))) = elim (cases_lt (div_ceil head.length n) chunk) [
      | inr le ↦ of_le le
      | inl past ↦
          let all : head.length ≤ (i / n) * n = parts_reach head.length n (i / n) some (omega (arith, past, at)) in
          absurd (omega (arith, all, div-mul-le_self i n, lt, is.length_is))
    ]

module _ (z : Sizes) (size : IsPageSize z.page_bytes) (m : PageMap) (tree : Tree) (reports : ReportsHeads z (has m) tree) (o chunk : ℕ) where
  pub head_looks : (head : Head) → head_at tree o ≡ Some head → (b : Bool) → ((f : Fields) → IsHeadOf head f → IsTrue b ↔ LooksUp z f chunk) → IsTrue b ↔ IsLookedUp z (has m) (objects_listed tree) o chunk
  head_looks head there b looks =
      let says = reports.says o head there in
      let on = reports.only o head there in (
        λ t. record { place = on.0; listed = on.1; fields = says.0; has = says.1; looks = (looks says.0 says.2).0 t },
        λ l.
            let same : l.fields ≡ says.0 = same_header z size (has m) (single m) o l.fields says.0 l.has says.1 in
            (looks says.0 says.2).1 (subst (λ (f : Fields). LooksUp z f chunk) same l.looks),
      )

  pub none_looks : head_at tree o ≡ None → (b : Bool) → b ≡ false → IsTrue b ↔ IsLookedUp z (has m) (objects_listed tree) o chunk
  none_looks none b off = (λ t. absurd (let two : false ≡ true = sym off ∙ t in cc), λ l. absurd (let h = reports.each l.place o l.listed in let two : None ≡ Some h.0 = sym none ∙ h.1 in cc))

-- what the header says of a chunk, by its kind
kind_looks : (z : Sizes) (f : Fields) (head : Head) → IsHeadOf head f → 1 ≤ page_slots z → (c : ℕ) → 1 ≤ c → (k : ObjectKind) → head.kind ≡ k
    → IsTrue (kind_looks_up z.page_bytes head k c) ↔ LooksUp z f c
kind_looks z f head is some c from kinds.File kind = file_looks z f head is c from kind _ refl
kind_looks z f head is some c from kinds.Directory kind = directory_looks z f head is c from kind some _ (λ on. leb-true c (div_ceil head.length (page_slots z)) on) (λ le. le-leb c (div_ceil head.length (page_slots z)) le)

pub chunk_looks : (z : Sizes) (f : Fields) (head : Head) → IsHeadOf head f → 1 ≤ page_slots z → (c : ℕ) → IsTrue (head_looks_up z.page_bytes head c) ↔ LooksUp z f c
chunk_looks z f head is some c = elim (cases_eq c 0) [
  | inl here ↦ (λ t. inl here, λ l. ap (λ b. b || kind_looks_up z.page_bytes head head.kind c) (eq-eqb c 0 here))
  | inr ne ↦
      let off : nat_eq c 0 ≡ false = ne_eqb c 0 ne in
      subst (λ (b : Bool). IsTrue b ↔ LooksUp z f c) (sym (ap (λ b. b || kind_looks_up z.page_bytes head head.kind c) off)) (kind_looks z f head is some c (omega (arith, ne)) head.kind refl)
]

pub keys_are_reported : (z : Sizes) (m : PageMap) (tree : Tree) → z.page_bytes ≡ page_size tree → ReportsHeads z (has m) tree
    → (o c : ℕ) → (keeps_key tree o c ≡ true) ↔ IsLookedUp z (has m) (objects_listed tree) o c
keys_are_reported z m tree size reports o c = go (head_at tree o) refl where
  page : IsPageSize z.page_bytes
  page = record { least = omega (arith, size, tree.least); most = omega (arith, size, tree.most) }

  some : 1 ≤ page_slots z
  some = omega (arith, size, tree.least)

  go : (h : Option Head) → head_at tree o ≡ h → (keeps_key tree o c ≡ true) ↔ IsLookedUp z (has m) (objects_listed tree) o c
  go None at = none_looks z page m tree reports o c at (keeps_key tree o c) (ap (λ (h : Option Head). option_map_or (λ head. head_looks_up (page_size tree) head c) h false) at)
  go (Some head) at =
      let is : keeps_key tree o c ≡ head_looks_up z.page_bytes head c = ap (λ (h : Option Head). option_map_or (λ head. head_looks_up (page_size tree) head c) h false) at ∙ ap (λ d. head_looks_up d head c) (sym size) in
      head_looks z page m tree reports o c head at (keeps_key tree o c) (λ f of. subst (λ (b : Bool). IsTrue b ↔ LooksUp z f c) (sym is) (chunk_looks z f head of some c))
