-- What follows for a key.
use Rattle.std.specs.Prelude.{◌≡◌, ◌↔◌, ◌<◌, ◌^◌, ℕ, List, map, Some, length, slice_get, Contains}
use Rattle.std.proofs.Common.{sym, ◌∙◌, ap, subst, inl, inr, arith, get_or}
use Rattle.std.proofs.lemmas.Bool.{cases_order}
use Rattle.std.proofs.lemmas.List.{get_or-map, length-map}
use Rattle.nand_model.specs.Flash.{Flash, Written}
use Rattle.page_tags.specs.Tags.{tag_bytes}
use Rattle.flash_tree.specs.Newest.{Spot, IsNewest, HasNewest}
use Rattle.flash_tree.specs.declared.place.Found.{Found}
use Rattle.flash_tree.specs.Places.{spot_of}
use Rattle.mount_scan.specs.Copies.{copy_at}
use Rattle.mount_scan.specs.Keys.{HaveOtherKeys}
use Rattle.mount_scan.specs.declared.page_copy.PageCopy.{PageCopy}
use Rattle.mount_scan.specs.laws.Keys.{pair_at}
use Rattle.mount_scan.specs.Scanned.{IsNewestCopy, AreNewest}

-- a place with a tag, as programs have it
abbrev pub found_of : Spot → Found
found_of s = record { block = s.block; page = s.page; tag = s.tag }

-- among the places of a list is each that the list has
pub listed_spot : (list : List Found) (s : Spot) → Contains (map spot_of list) s ↔ Contains list (found_of s)
listed_spot list s = (
  λ has.
      let lt : has.0 < length list = omega (arith, has.1, length-map list spot_of) in
      let at : get_or (map spot_of list) has.0 s ≡ spot_of (get_or list has.0 (found_of s)) = get_or-map spot_of list has.0 (found_of s) s lt in
      (has.0, lt, ap found_of (sym at ∙ has.2)),
  λ has.
      let at : get_or (map spot_of list) has.0 s ≡ spot_of (get_or list has.0 (found_of s)) = get_or-map spot_of list has.0 (found_of s) s has.1 in
      (has.0, omega (arith, has.1, length-map list spot_of), at ∙ ap spot_of has.2),
)

-- the newest page of a key is that of its copy
newest_of : (f : Flash) (x : PageCopy) (o c : ℕ) (is : IsNewestCopy f x) → x.object ≡ o → x.chunk ≡ c → IsNewest f o c is.spot
newest_of f x o c is object chunk = subst (λ k. IsNewest f o k is.spot) chunk (subst (λ k. IsNewest f k x.chunk is.spot) object is.newest)

-- a key has a newest page exactly where the list has a copy of one of it
pub newest_listed : (f : Flash) (list : List PageCopy) (o c : ℕ) → c < 2 ^ 32 → AreNewest f list
    → ((s : Spot) × IsNewest f o c s) ↔ ((x : PageCopy) × Contains list x × (x.object ≡ o) × (x.chunk ≡ c))
newest_listed f list o c low are = (
  λ (s, newest). (copy_at s, are.each o c s low newest, newest.holds.object, newest.holds.chunk),
  λ (x, has, object, chunk). ((are.only x has).spot, newest_of f x o c (are.only x has) object chunk),
)

-- no key has two pages in the list
pub newest_once : (f : Flash) (list : List PageCopy) (i j : ℕ) (x y : PageCopy) → AreNewest f list → slice_get list i ≡ Some x → slice_get list j ≡ Some y
    → x.object ≡ y.object → x.chunk ≡ y.chunk → i ≡ j
newest_once f list i j x y are at_i at_j object chunk = elim (cases_order i j) [
  | inl same ↦ same
  | inr (inl lt) ↦ absurd (pair_at HaveOtherKeys list i j x y are.order lt at_i at_j (object, chunk))
  | inr (inr gt) ↦ absurd (pair_at HaveOtherKeys list j i y x are.order gt at_j at_i (sym object, sym chunk))
]

-- what the page of a copy has are the data of its key
has_data : (f : Flash) (x : PageCopy) (o c : ℕ) (bytes spare : List ℕ) → IsNewestCopy f x → x.object ≡ o → x.chunk ≡ c → f.page x.block x.page ≡ Written bytes spare → HasNewest f o c bytes
has_data f x o c bytes spare is object chunk stored =
    let held = is.newest.holds.has in
    let there : f.page is.spot.block is.spot.page ≡ Written bytes spare = subst (λ (y : PageCopy). f.page y.block y.page ≡ Written bytes spare) (sym is.copied) stored in
    let two : Written held.bytes (tag_bytes is.spot.tag) ≡ Written bytes spare = sym held.page ∙ there in
    let same : held.bytes ≡ bytes = cc in
    record { spot = is.spot; newest = newest_of f x o c is object chunk; stored = held.page ∙ ap (λ ys. Written ys (tag_bytes is.spot.tag)) same }

-- the newest data of a key are those of its page in the list
pub newest_data : (f : Flash) (list : List PageCopy) (o c : ℕ) (bytes : List ℕ) → c < 2 ^ 32 → AreNewest f list
    → HasNewest f o c bytes ↔ ((x : PageCopy) × Contains list x × (x.object ≡ o) × (x.chunk ≡ c) × (spare : List ℕ) × (f.page x.block x.page ≡ Written bytes spare))
newest_data f list o c bytes low are = (
  λ has. (copy_at has.spot, are.each o c has.spot low has.newest, has.newest.holds.object, has.newest.holds.chunk, tag_bytes has.spot.tag, has.stored),
  λ (x, has, object, chunk, spare, stored). has_data f x o c bytes spare (are.only x has) object chunk stored,
)
