-- How many pages of some blocks are read.
use Rattle.std.specs.Prelude.{◌≡◌, ◌≢◌, ◌⊎◌, ◌↔◌, ◌<◌, ◌≤◌, ℕ, zero, suc, ◌+◌, ◌-◌, Bool, true, false, List, Some, length, slice_get, if◌then◌else◌}
use Rattle.std.proofs.Common.{refl, sym, ◌∙◌, ap, subst, inl, inr, arith, get_or}
use Rattle.std.proofs.lemmas.Bool.{cases_Bool, false≢true}
use Rattle.std.proofs.lemmas.List.FromFn.{sum_by-map-range_with_len_more}
use Rattle.std.proofs.lemmas.Option.{slice_get-get_or}
use Rattle.nand_model.specs.Flash.{Flash, Erased, IsWithin}
use Rattle.nand_model.specs.Calls.{Device}
use Rattle.nand_model.specs.Changes.{OnlyReads}
use Rattle.nand_model.specs.declared.geometry.Geometry.{Geometry}
use Rattle.page_tags.specs.declared.tag.Tag.{Tag}
use Rattle.flash_tree.specs.Summaries.{summary_tag}
use Rattle.flash_tree.specs.laws.Newest.{one_tag}
use Rattle.flash_tree.specs.laws.Place.{no_tag, same_flash, tag_placed}
use Rattle.mount_scan.specs.FewReads.{AreAllDone, AreCosts, AreDoneBelow, IsCost, IsOlder, IsOther, LacksSummary, erased_pages, sum_below}
use Rattle.mount_scan.specs.FirstPages.{BeginsWithTag, FirstPagesBelow, IsFirstPage, IsOlderThan, first_tag}
use Rattle.mount_scan.specs.SummaryScan.{IsLeft}
use Rattle.mount_scan.specs.declared.first_page.FirstPage.{FirstPage}
use Rattle.mount_scan.specs.declared.first_page.FirstPage.TheVariants as firsts
use Rattle.mount_scan.specs.declared.first_page.FirstPages.{FirstPages}
use Rattle.mount_scan.specs.declared.summary_pages.SummaryPages.{SummaryPages}
use Rattle.mount_scan.proofs.SummaryFinds.{first_of_summary}

-- one block more
pub sum_more : (each : ℕ → ℕ) (b : ℕ) → sum_below each (b + 1) ≡ sum_below each b + each b
sum_more each b = sum_by-map-range_with_len_more (λ n. n) each 0 b b (omega arith)

-- those of fewer blocks are no more
sum_rise : (each : ℕ → ℕ) (b n : ℕ) → sum_below each b ≤ sum_below each (b + n)
sum_rise each b zero = let same : b + 0 ≡ b = omega arith in omega (arith, ap (sum_below each) same)
sum_rise each b (suc n) =
    let next : b + suc n ≡ b + n + 1 = omega arith in
    omega (arith, sum_rise each b n, sum_more each (b + n), ap (sum_below each) next)

-- with the block that comes next
pub sum_within : (each : ℕ → ℕ) (b n : ℕ) → b < n → sum_below each b + each b ≤ sum_below each n
sum_within each b n lt =
    let at : b + 1 + (n - (b + 1)) ≡ n = omega (arith, lt) in
    omega (arith, sum_more each b, sum_rise each (b + 1) (n - (b + 1)), ap (sum_below each) at)

-- nor are lower ones
pub sum_at_most : (each most : ℕ → ℕ) (n : ℕ) → ((k : ℕ) → each k ≤ most k) → sum_below each n ≤ sum_below most n
sum_at_most each most zero le = omega arith
sum_at_most each most (suc n) le =
    let next : suc n ≡ n + 1 = omega arith in
    omega (arith, sum_at_most each most n le, le n, sum_more each n, sum_more most n, ap (sum_below each) next, ap (sum_below most) next)

-- x pages were read before the blocks, y were and may be before a block, and z after it
pub others_more : (pages : ℕ) (costs : ℕ → ℕ) (b x y z : ℕ) → y ≤ x + (pages + sum_below costs b) → z ≤ y + costs b → z ≤ x + (pages + sum_below costs (b + 1))
others_more pages costs b x y z were is = omega (arith, were, is, sum_more costs b)

pub others_end : (pages : ℕ) (costs : ℕ → ℕ) (b n x y z : ℕ) → b < n → y ≤ x + (pages + sum_below costs b) → z ≤ y + costs b → z ≤ x + (pages + sum_below costs n)
others_end pages costs b n x y z lt were is = omega (arith, were, is, sum_within costs b n lt)

-- ---- the blocks with a summary are noted

pub all_done : (d : Device) (summarized : SummaryPages) → d.honest ≡ true → IsWithin d.geometry.pages d.geometry.blocks d.flash → AreDoneBelow d d.geometry.blocks summarized → AreAllDone d.geometry d.flash summarized.done.items
all_done d summarized honest within are b not s whole matches at =
    let lt = (tag_placed d.geometry.pages d.geometry.blocks d.flash s.block 0 (summary_tag s 0) within (first_of_summary d.geometry d.flash s whole)).0 in
    let two : Some false ≡ Some true = sym not ∙ ap (slice_get summarized.done.items) (sym at) ∙ are honest s lt whole matches in
    cc

-- the block that comes next begins as is noted, is noted, and costs so much
pub other_here : (d : Device) (costs : ℕ → ℕ) (b : ℕ) (firsts : FirstPages) (done : List Bool) (first : FirstPage) (summarized : Bool) → d.honest ≡ true → IsWithin d.geometry.pages d.geometry.blocks d.flash
    → FirstPagesBelow d d.geometry.blocks firsts → AreAllDone d.geometry d.flash done → AreCosts d.geometry d.flash costs → b < d.geometry.blocks → b < length done → first ≡ get_or firsts.pages.items b first
    → summarized ≡ get_or done b summarized → IsOther d b first summarized firsts.renewed (costs b)
other_here d costs b firsts done first summarized honest within below all are lt in_done is_first is_summarized = record {
  honest = honest;
  first_page = below.noted.noted honest b first (slice_get-get_or firsts.pages.items b first (omega (arith, lt, below.noted.len)) ∙ ap Some (sym is_first));
  noted = λ not. all b (slice_get-get_or done b summarized in_done ∙ ap Some (sym is_summarized ∙ not));
  latest = λ k t begins own. below.latest honest k t (tag_placed d.geometry.pages d.geometry.blocks d.flash k 0 t within begins.1).0 begins own;
  cost_is = are b;
}

-- and so it is after more reads
pub other_after : (d a : Device) (b : ℕ) (first : FirstPage) (summarized : Bool) (renewed cost : ℕ) → OnlyReads d a → IsOther d b first summarized renewed cost → IsOther a b first summarized renewed cost
other_after d a b first summarized renewed cost only is = record {
  honest = only.lasts.honest ∙ is.honest;
  first_page = subst (λ f. IsFirstPage f b first) same is.first_page;
  noted = subst (λ f. summarized ≡ false → LacksSummary a.geometry f b) same (subst (λ g. summarized ≡ false → LacksSummary g d.flash b) geometry is.noted);
  latest = subst (λ (f : Flash). (k : ℕ) (t : Tag) → BeginsWithTag f k t → t.version ≡ t.group → t.seq ≤ renewed) same is.latest;
  cost_is = subst (λ f. IsCost a.geometry f b cost) same (subst (λ g. IsCost g d.flash b cost) geometry is.cost_is);
} where
  same : d.flash ≡ a.flash
  same = sym (same_flash d a only is.honest)

  geometry : d.geometry ≡ a.geometry
  geometry = sym only.lasts.geometry

-- ---- one block

-- a first page that has a tag is not erased
begun_written : (flash : Flash) (b : ℕ) (t : Tag) → BeginsWithTag flash b t → flash.page b 0 ≢ Erased
begun_written flash b t begins erased = no_tag flash b 0 t erased begins.1

-- a block of a lower seq begins with a tag
pub older_begins : (flash : Flash) (b renewed : ℕ) (first : FirstPage) → IsFirstPage flash b first → IsOlderThan renewed first → (t : Tag) × BeginsWithTag flash b t × (t.seq < renewed)
older_begins flash b renewed firsts.Bad is (s, at, lt) = absurd cc
older_begins flash b renewed firsts.Erased is (s, at, lt) = absurd cc
older_begins flash b renewed firsts.Untagged is (s, at, lt) = absurd cc
older_begins flash b renewed (firsts.Tagged seq) (t, begins, same, other) (s, at, lt) = let both : seq ≡ s = cc in (t, begins, omega (arith, same, both, lt))
older_begins flash b renewed (firsts.Summary count number seq) begins (s, at, lt) = let both : seq ≡ s = cc in (first_tag count number seq, begins, omega (arith, both, lt))

-- and one of no lower seq is not older than another
not_older : (flash : Flash) (b renewed : ℕ) (first : FirstPage) → IsFirstPage flash b first → ((k : ℕ) (t : Tag) → BeginsWithTag flash k t → t.version ≡ t.group → t.seq ≤ renewed) → (IsOlderThan renewed first → ⊥)
    → IsOlder flash b → ⊥
not_older flash b renewed firsts.Bad is latest not (t, begins, k, u, other, own, less) = false≢true (sym begins.0 ∙ is)
not_older flash b renewed firsts.Erased is latest not (t, begins, k, u, other, own, less) = no_tag flash b 0 t is.1 begins.1
not_older flash b renewed firsts.Untagged is latest not (t, begins, k, u, other, own, less) = is.2 t begins.1
not_older flash b renewed (firsts.Tagged seq) (v, is, same, no_summary) latest not (t, begins, k, u, other, own, less) =
    let one : v ≡ t = one_tag flash b 0 v t is.1 begins.1 in
    let most = latest k u other own in
    not (seq, refl, omega (arith, same, ap (λ (x : Tag). x.seq) one, less, most))
not_older flash b renewed (firsts.Summary count number seq) is latest not (t, begins, k, u, other, own, less) =
    let one : first_tag count number seq ≡ t = one_tag flash b 0 (first_tag count number seq) t is.1 begins.1 in
    let most = latest k u other own in
    not (seq, refl, omega (arith, ap (λ (x : Tag). x.seq) one, less, most))

-- nor of one that does not begin erased and is not older
pub other_costs : (d : Device) (b : ℕ) (first : FirstPage) (summarized : Bool) (renewed cost : ℕ) → IsOther d b first summarized renewed cost → summarized ≡ false → (first ≡ firsts.Bad → ⊥) → (first ≡ firsts.Erased → ⊥)
    → (IsOlderThan renewed first → ⊥) → d.geometry.pages ≤ cost
other_costs d b first summarized renewed cost is not good written other =
    let (is_good, is_written) = begun first is.first_page good written in
    elim (is.cost_is is_good is_written (is.noted not)) [
      | inl all ↦ all
      | inr (it, at) ↦ absurd (not_older d.flash b renewed first is.first_page is.latest other it)
    ] where
      begun : (first : FirstPage) → IsFirstPage d.flash b first → (first ≡ firsts.Bad → ⊥) → (first ≡ firsts.Erased → ⊥) → (d.flash.bad b ≡ false) × (d.flash.page b 0 ≢ Erased)
      begun firsts.Bad is good written = absurd (good refl)
      begun firsts.Erased is good written = absurd (written refl)
      begun firsts.Untagged is good written = (is.0, is.1)
      begun (firsts.Tagged seq) (t, begins, same, other) good written = (begins.0, begun_written d.flash b t begins)
      begun (firsts.Summary count number seq) is good written = (is.0, begun_written d.flash b (first_tag count number seq) is)

-- of any block whose tags are read, no more than it costs, where the pages of one that begins erased are in the count apart
erased_or_other : (first : FirstPage) → (first ≡ firsts.Erased) ⊎ (first ≡ firsts.Erased → ⊥)
erased_or_other firsts.Bad = inr (λ same. cc)
erased_or_other firsts.Erased = inl refl
erased_or_other firsts.Untagged = inr (λ same. cc)
erased_or_other (firsts.Tagged seq) = inr (λ same. cc)
erased_or_other (firsts.Summary count number seq) = inr (λ same. cc)

module _ (d : Device) (b : ℕ) (first : FirstPage) (summarized erased : Bool) (renewed cost x y : ℕ) (is : IsOther d b first summarized renewed cost) (left : IsLeft first summarized erased)
    (other : IsOlderThan renewed first → ⊥) (most : y ≤ x + d.geometry.pages) where
  pub block_costs : y ≤ x + erased_pages d erased + cost
  block_costs = elim (erased_or_other first) [
    | inl same ↦ let all : erased_pages d erased ≡ d.geometry.pages = ap (erased_pages d) (left.written same) in omega (arith, most, all)
    | inr written ↦ let cost_is = other_costs d b first summarized renewed cost is left.other left.good written other in omega (arith, most, cost_is)
  ]

  pub block_leaves : (a : Device) (next : Bool) → OnlyReads d a → (next ≡ true) ↔ ((erased ≡ true) ⊎ (first ≡ firsts.Erased)) → y + erased_pages a next ≤ x + erased_pages d erased + cost
  block_leaves a next only read = elim (erased_or_other first) [
    | inl same ↦
        let all : erased_pages d erased ≡ d.geometry.pages = ap (erased_pages d) (left.written same) in
        let none : erased_pages a next ≡ 0 = ap (erased_pages a) (read.1 (inr same)) in
        omega (arith, most, all, none)
    | inr written ↦
        let cost_is = other_costs d b first summarized renewed cost is left.other left.good written other in
        let same : next ≡ erased = elim (cases_Bool erased) [
          | inl was ↦ read.1 (inl was) ∙ sym was
          | inr not ↦ elim (cases_Bool next) [
            | inr not_next ↦ not_next ∙ sym not
            | inl now ↦ elim (read.0 now) [ inl was ↦ absurd (false≢true (sym not ∙ was)) | inr it ↦ absurd (written it) ]
          ]
        ] in
        omega (arith, most, cost_is, ap (erased_pages a) same, ap (λ (g : Geometry). if erased then 0 else g.pages) only.lasts.geometry)
  ]
