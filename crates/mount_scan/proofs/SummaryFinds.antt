-- What is found by summaries.
use Rattle.std.specs.Prelude.{◌≡◌, ◌<◌, ◌≤◌, ◌^◌, ℕ, ◌+◌, ◌*◌, false, List, length, Contains}
use Rattle.std.proofs.Common.{refl, sym, ◌∙◌, ap, subst, inl, inr, arith, get_or}
use Rattle.std.proofs.lemmas.Bool.{cases_eq, cases_order}
use Rattle.std.proofs.lemmas.List.Elements.{Contains-get_or}
use Rattle.std.specs.Int.{div_ceil}
use Rattle.volume_terms.specs.Rounding.{ceiling}
use Rattle.volume_terms.specs.laws.Rounding.{ceiling_is, parts_reach}
use Rattle.nand_model.specs.Flash.{Flash, IsWithin}
use Rattle.nand_model.specs.Calls.{Device}
use Rattle.nand_model.specs.declared.geometry.Geometry.{Geometry}
use Rattle.page_tags.specs.declared.tag.Tag.{Tag}
use Rattle.flash_tree.specs.Checkpoints.{entry_of}
use Rattle.flash_tree.specs.Groups.{HasTag}
use Rattle.flash_tree.specs.Newest.{Spot, Holds, IsAfter, IsNewest, Numbers, AreAbove, AreGreatest}
use Rattle.flash_tree.specs.Summaries.{Summary, IsWholeSummary, IsSummarized, AreFindable, summary_tag}
use Rattle.flash_tree.specs.laws.Place.{no_tag, tag_placed}
use Rattle.mount_scan.specs.Blocks.{numbers_in, AreAtMost}
use Rattle.mount_scan.specs.Copies.{copy_at, spot_of_copy}
use Rattle.mount_scan.specs.Keys.{HaveOneKey, AreLatest}
use Rattle.mount_scan.specs.Summarized.{HasSummarizedFlash, FindsNeeded, IsKey}
use Rattle.mount_scan.specs.SummaryScan.{HasKnown, HasAsNew, IsSummarizedBlock, IsBehindErased, IsReadOlder, IsScannedBelow}
use Rattle.mount_scan.specs.declared.page_copy.PageCopy.{PageCopy}
use Rattle.mount_scan.specs.laws.Order.{not_after_on}

-- two places of which none comes after the other
record IsSameOrder (s t : Spot) : Type 0 where
  version : s.tag.version ≡ t.tag.version
  seq : s.tag.seq ≡ t.tag.seq
  page : s.page ≡ t.page
  block : s.block ≡ t.block

same_order : (s t : Spot) → (IsAfter s t → ⊥) → (IsAfter t s → ⊥) → IsSameOrder s t
same_order s t f g = elim (cases_order s.tag.version t.tag.version) [
  | inr o ↦ elim o [ inl lt ↦ absurd (g (inl lt)) | inr gt ↦ absurd (f (inl gt)) ]
  | inl v ↦ elim (cases_order s.tag.seq t.tag.seq) [
    | inr o ↦ elim o [ inl lt ↦ absurd (g (inr (sym v, inl lt))) | inr gt ↦ absurd (f (inr (v, inl gt))) ]
    | inl q ↦ elim (cases_order s.page t.page) [
      | inr o ↦ elim o [ inl lt ↦ absurd (g (inr (sym v, inr (sym q, inl lt)))) | inr gt ↦ absurd (f (inr (v, inr (q, inl gt)))) ]
      | inl p ↦ elim (cases_order s.block t.block) [
        | inr o ↦ elim o [ inl lt ↦ absurd (g (inr (sym v, inr (sym q, inr (sym p, lt))))) | inr gt ↦ absurd (f (inr (v, inr (q, inr (p, gt))))) ]
        | inl b ↦ record { version = v; seq = q; page = p; block = b }
      ]
    ]
  ]
]

-- a copy of a page's key of which that is so is the page's
same_copy : (x : PageCopy) (s : Spot) → HaveOneKey x (copy_at s) → (IsAfter s (spot_of_copy x) → ⊥) → (IsAfter (spot_of_copy x) s → ⊥) → x ≡ copy_at s
same_copy x s one f g =
    let is = same_order (spot_of_copy x) s g f in
    λ i. record { object = one.0 i; chunk = one.1 i; version = is.version i; seq = is.seq i; block = is.block i; page = is.page i }

-- a whole summary has a page
pub summary_some : (g : Geometry) (flash : Flash) (s : Summary) → IsWholeSummary g flash s → 0 < s.size
summary_some g flash s whole =
    let least : 512 ≤ g.bytes = g.least_bytes in
    let up : div_ceil (32 * (1 + length s.entries)) g.bytes ≡ ceiling (32 * (1 + length s.entries)) g.bytes = ceiling_is (32 * (1 + length s.entries)) g.bytes (omega (arith, least)) in
    elim (cases_eq s.size 0) [
      | inr ne ↦ omega (arith, ne)
      | inl none ↦
          let reach : 32 * (1 + length s.entries) ≤ 0 * g.bytes = parts_reach (32 * (1 + length s.entries)) g.bytes 0 (omega (arith, least)) (omega (arith, up, whole.form.size, none)) in
          absurd (omega (arith, reach))
    ]

-- which has its tag
pub first_of_summary : (g : Geometry) (flash : Flash) (s : Summary) → IsWholeSummary g flash s → HasTag flash s.block 0 (summary_tag s 0)
first_of_summary g flash s whole = let first = whole.pages 0 (summary_some g flash s whole) in record { bytes = _; page = first.0; valid = first.1 }

module _ (d : Device) (summarized : HasSummarizedFlash d) (within : IsWithin d.geometry.pages d.geometry.blocks d.flash) (list : List PageCopy) (n : Numbers)
    (below : IsScannedBelow d d.geometry.blocks list n) where
  abbrev flash : Flash
  flash = d.flash

  abbrev right : IsSummarized d.geometry d.flash
  right = summarized.1

  module _ (keys : ℕ → ℕ → Type 0) (findable : AreFindable d.geometry d.flash keys) (newest : List PageCopy) (latest : AreLatest list newest) (o c : ℕ) (s : Spot) (key : keys o c) (low : c < 2 ^ 32)
      (is : IsNewest d.flash o c s) where
    by_summary : IsSummarizedBlock d.geometry d.flash s.block list → HasAsNew list s
    by_summary sum =
        let listed = findable.listed sum.summary o c s sum.whole sum.matches key is (sym sum.block) in
        let valid = is.holds.has.valid in
        let was = sum.pages (entry_of s) listed.0 (subst (λ k. k < 2 ^ 32) (sym is.holds.chunk) low, valid.object.0, valid.version.0) in
        (was.0, was.1, was.2, λ after. was.3 (subst (λ q. IsAfter (record { block = s.block; page = s.page; tag = record { index = 0; count = 0; object = s.tag.object; chunk = s.tag.chunk; version = s.tag.version; group = 0; seq = q } }) (spot_of_copy was.0)) listed.1 after))

    not_erased : IsBehindErased d.flash s.block → ⊥
    not_erased behind = elim (cases_eq s.page 0) [
      | inl first ↦ no_tag flash s.block 0 s.tag behind.erased.1 (subst (λ l. HasTag flash s.block l s.tag) first is.holds.has)
      | inr ne ↦ findable.in_order o c 0 s key is (omega (arith, ne)) behind.erased.1
    ]

    own_key : Holds flash s.tag.object s.tag.chunk s
    own_key = record {
      group = is.holds.group;
      whole = is.holds.whole;
      index = is.holds.index;
      within = is.holds.within;
      block = is.holds.block;
      page = is.holds.page;
      has = is.holds.has;
      object = refl;
      chunk = refl;
    }

    as_new : HasAsNew list s
    as_new = elim (below.scanned summarized.0 s.block (tag_placed d.geometry.pages d.geometry.blocks flash s.block s.page s.tag within is.holds.has).0 (ap flash.bad is.holds.block ∙ is.holds.whole.good)) [
      | inl read ↦ read.pages s refl (subst (λ k. k < 2 ^ 32) (sym is.holds.chunk) low) own_key
      | inr (inl sum) ↦ by_summary sum
      | inr (inr (inl behind)) ↦ absurd (not_erased behind)
      | inr (inr (inr older)) ↦ older.pages s refl (subst (λ k. k < 2 ^ 32) (sym is.holds.chunk) low) own_key (λ l lt. findable.in_order o c l s key is lt)
    ]

    -- no copy of the key comes after the page
    none_after : (x : PageCopy) → Contains list x → x.object ≡ o → x.chunk ≡ c → IsAfter (spot_of_copy x) s → ⊥
    none_after x has object chunk after = elim (below.known.known summarized.0 x has) [
      | inl valid_pages ↦ is.last valid_pages.spot (subst (λ k. Holds flash o k valid_pages.spot) chunk (subst (λ k. Holds flash k x.chunk valid_pages.spot) object valid_pages.holds))
          (subst (λ (y : PageCopy). IsAfter (spot_of_copy y) s) (sym valid_pages.copied) after)
      | inr named ↦
          let object_of : o ≡ named.entry.object = sym object ∙ sym (ap (λ (y : PageCopy). y.object) named.copied) in
          let chunk_of : c ≡ named.entry.chunk = sym chunk ∙ sym (ap (λ (y : PageCopy). y.chunk) named.copied) in
          findable.latest named.summary named.entry s named.whole named.matches named.has (subst (λ k. keys named.entry.object k) chunk_of (subst (λ k. keys k c) object_of key))
          (subst (λ k. IsNewest flash named.entry.object k s) chunk_of (subst (λ k. IsNewest flash k c s) object_of is))
          (subst (λ (y : PageCopy). IsAfter (spot_of_copy y) s) (sym named.copied) after)
    ]

    found_one : Contains newest (copy_at s)
    found_one =
        let first = as_new in
        let some = latest.some first.0 first.1 in
        let x : PageCopy = some.0 in
        let one : HaveOneKey x (copy_at s) = (some.2.0 ∙ first.2.0, some.2.1 ∙ first.2.1) in
        subst (Contains newest) (same_copy x s one
        (not_after_on s (spot_of_copy first.0) (spot_of_copy x) first.3 (latest.last x first.0 some.1 first.1 (sym some.2.0, sym some.2.1)))
        (none_after x (latest.among x some.1) (one.0 ∙ is.holds.object) (one.1 ∙ is.holds.chunk))) some.1

  -- no tag of a block with a summary has a number above those of the summary
  below_summary : (b p : ℕ) (t : Tag) → HasTag flash b p t → IsSummarizedBlock d.geometry d.flash b list → AreAtMost (numbers_in t) n
  below_summary b p t has sum =
      let less = right.right.below sum.summary p t sum.whole sum.matches (subst (λ k. HasTag flash k p t) (sym sum.block) has) in
      let first : HasTag flash sum.summary.block 0 (summary_tag sum.summary 0) = first_of_summary d.geometry flash sum.summary sum.whole in
      let at = (tag_placed d.geometry.pages d.geometry.blocks flash sum.summary.block 0 (summary_tag sum.summary 0) within first).0 in
      let most : AreAtMost (numbers_in (summary_tag sum.summary 0)) n = below.above summarized.0 sum.summary.block (summary_tag sum.summary 0) at (sum.whole.good, first) in
      record {
        version = omega (arith, has.valid.version, less.0, most.version);
        group = omega (arith, less.0, most.group);
        seq = omega (arith, less.1, most.seq);
      }

  -- nor one of a block that is older than another above those of that one's first page
  below_newer : (b p : ℕ) (t : Tag) → flash.bad b ≡ false → HasTag flash b p t → IsReadOlder flash b list → AreAtMost (numbers_in t) n
  below_newer b p t good has read =
      let (first, begins, k, u, other, own, less) = read.older in
      let same = right.right.ordered.one b p 0 t first good has begins.1 in
      let rise = right.right.ordered.rise b k p 0 t u good other.0 has other.1 (omega (arith, same, less)) in
      let at = (tag_placed d.geometry.pages d.geometry.blocks flash k 0 u within other.1).0 in
      let most : AreAtMost (numbers_in u) n = below.above summarized.0 k u at other in
      record {
        version = omega (arith, has.valid.version, rise, own, most.version);
        group = omega (arith, rise, most.group);
        seq = omega (arith, same, less, most.seq);
      }

  above_each : (b p : ℕ) (t : Tag) → flash.bad b ≡ false → HasTag flash b p t → AreAtMost (numbers_in t) n
  above_each b p t good has = elim (below.scanned summarized.0 b (tag_placed d.geometry.pages d.geometry.blocks flash b p t within has).0 good) [
    | inl read ↦ read.numbers p t has
    | inr (inl sum) ↦ below_summary b p t has sum
    | inr (inr (inl behind)) ↦ absurd (right.first behind.other b p t behind.before behind.first behind.erased has)
    | inr (inr (inr older)) ↦ below_newer b p t good has older
  ]

  -- the numbers are the greatest
  pub greatest_summarized : AreGreatest d.flash n
  greatest_summarized = record {
    above = λ b p t good has. let is = above_each b p t good has in (is.version, is.group, is.seq);
    least = λ m above. let is = below.least summarized.0 m above in (is.version, is.group, is.seq);
  }

-- no version that is found is above the numbers of all groups
version_most : (d : Device) (list : List PageCopy) (n : Numbers) → HasSummarizedFlash d → HasKnown d list → AreAbove d.flash n → (f : PageCopy) → Contains list f → f.version ≤ n.group
version_most d list n summarized known above f has = elim (known.known summarized.0 f has) [
  | inl valid_pages ↦
      let s : Spot = valid_pages.spot in
      let most = above s.block s.page s.tag (ap d.flash.bad valid_pages.holds.block ∙ valid_pages.holds.whole.good) valid_pages.holds.has in
      let version : s.tag.version ≡ f.version = ap (λ (y : PageCopy). y.version) valid_pages.copied in
      omega (arith, most.1, valid_pages.holds.has.valid.version, version)
  | inr named ↦
      let less = summarized.1.right.versions named.summary named.entry named.whole named.has in
      let most = above named.summary.block 0 (summary_tag named.summary 0) named.whole.good (first_of_summary d.geometry d.flash named.summary named.whole) in
      let version : named.entry.version ≡ f.version = ap (λ (y : PageCopy). y.version) named.copied in
      omega (arith, most.1, less, version)
]

-- the latest of what is found are what is needed
pub finds_needed : (d : Device) (list newest : List PageCopy) (n : Numbers) → IsWithin d.geometry.pages d.geometry.blocks d.flash → IsScannedBelow d d.geometry.blocks list n → AreLatest list newest → FindsNeeded d newest
finds_needed d list newest n within below latest = record {
  placed = λ k x lt. below.known.placed (get_or newest k x) (latest.among (get_or newest k x) (Contains-get_or newest k x lt));
  low = λ k x lt. below.known.low (get_or newest k x) (latest.among (get_or newest k x) (Contains-get_or newest k x lt));
  named = λ k x lt. below.known.named (get_or newest k x) (latest.among (get_or newest k x) (Contains-get_or newest k x lt));
  order = latest.order;
  found = λ summarized o c findable k l s key low is. found_one d summarized within list n below (IsKey o c) findable newest latest k l s key low is;
  versions = λ summarized m above k x lt. version_most d list m summarized below.known above (get_or newest k x) (latest.among (get_or newest k x) (Contains-get_or newest k x lt));
}
