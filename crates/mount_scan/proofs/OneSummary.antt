-- The whole summary that a block begins with.
use Rattle.std.specs.Prelude.{◌≡◌, ◌<◌, ◌≤◌, ℕ, ◌+◌, ◌-◌, ◌*◌, true, List, Option, ◌++◌, length, take, drop, replicate, flat_map, slice_get, Some, None}
use Rattle.std.specs.Option.{option_map_or}
use Rattle.std.proofs.Common.{refl, sym, ◌∙◌, ap, subst, inl, inr, arith, get_or, append_assoc}
use Rattle.std.proofs.lemmas.Bool.{cases_eq, false≢true}
use Rattle.std.proofs.lemmas.List.{take_at, take-take}
use Rattle.std.proofs.lemmas.Option.{slice_get-get_or}
use Rattle.nand_model.specs.Flash.{Flash, Written, IsWithin}
use Rattle.nand_model.specs.Calls.{Device}
use Rattle.nand_model.specs.Changes.{OnlyReads}
use Rattle.nand_model.specs.declared.geometry.Geometry.{Geometry}
use Rattle.page_tags.specs.Checks.{check_entry_bytes}
use Rattle.page_tags.specs.Summaries.{head_bytes, head_in, summary_bytes}
use Rattle.page_tags.specs.Tags.{tag_bytes}
use Rattle.page_tags.specs.laws.Summary.{head_read}
use Rattle.page_tags.specs.declared.tag.Tag.{Tag}
use Rattle.page_tags.specs.declared.check.CheckEntry.{CheckEntry}
use Rattle.page_tags.specs.declared.summary_head.SummaryHead.{SummaryHead}
use Rattle.flash_tree.specs.Groups.{HasTag}
use Rattle.flash_tree.specs.Summaries.{Summary, IsWholeSummary, MatchesBlock, summary_tag, summary_page}
use Rattle.flash_tree.specs.laws.Newest.{one_tag}
use Rattle.flash_tree.specs.laws.Place.{no_tag, same_flash, tag_placed}
use Rattle.mount_scan.specs.FoundSummary.{summary_of, IsOf, IsWholeOn, HasNoSummary}
use Rattle.mount_scan.specs.declared.block_summary.found_summary.FoundSummary.{FoundSummary}
use Rattle.mount_scan.specs.FewReads.{AreSizes, AreDoneBelow, IsNoted, pages_of_summary, summary_size}
use Rattle.mount_scan.specs.FirstPages.{AreAllNoted, AreFirstPages, BeginsWithTag, IsNoSummaryTag, IsFirstPage, HasSeqAt, first_tag, seq_of_first, tag_of_summary}
use Rattle.mount_scan.specs.declared.first_page.FirstPage.{FirstPage}
use Rattle.mount_scan.specs.declared.first_page.FirstPage.TheVariants as firsts
use Rattle.mount_scan.specs.declared.summary_pages.SummaryPages.{SummaryPages}
use Rattle.mount_scan.proofs.ReadCount.{back_honest}
use Rattle.mount_scan.proofs.SummaryFinds.{summary_some, first_of_summary}

-- ---- its head

length-head : (h : SummaryHead) → length (head_bytes h) ≡ 32
unfolding head_bytes
length-head h = omega arith

head_of_bytes : (size : ℕ) (head : SummaryHead) (es : List CheckEntry) → take 32 (summary_bytes size head es) ≡ head_bytes head
head_of_bytes size head es =
    let zeros : List ℕ = replicate (size - 32 * (1 + length es)) 0 in
    ap (take 32) (append_assoc (head_bytes head) (flat_map check_entry_bytes es) zeros) ∙ take_at (head_bytes head) (flat_map check_entry_bytes es ++ zeros) 32 (length-head head)

head_of_page : (d : ℕ) (s : Summary) → 32 ≤ d → take 32 (summary_page d s 0) ≡ head_bytes s.head
head_of_page d s least =
    let zero : 0 * d ≡ 0 = omega arith in
    let all : List ℕ = summary_bytes (s.size * d) s.head s.entries in
    ap (λ n. take 32 (take d (drop n all))) zero ∙ take-take 32 d all least ∙ head_of_bytes (s.size * d) s.head s.entries

-- whole summaries of one block have one head
same_head : (g : Geometry) (flash : Flash) (s t : Summary) → IsWholeSummary g flash s → IsWholeSummary g flash t → s.block ≡ t.block → s.head ≡ t.head
same_head g flash s t one other here =
    let least : 512 ≤ g.bytes = g.least_bytes in
    let at_s : flash.page s.block 0 ≡ Written (summary_page g.bytes s 0) (tag_bytes (summary_tag s 0)) = (one.pages 0 (summary_some g flash s one)).0 in
    let at_t : flash.page t.block 0 ≡ Written (summary_page g.bytes t 0) (tag_bytes (summary_tag t 0)) = (other.pages 0 (summary_some g flash t other)).0 in
    let two : Written (summary_page g.bytes s 0) (tag_bytes (summary_tag s 0)) ≡ Written (summary_page g.bytes t 0) (tag_bytes (summary_tag t 0)) = sym at_s ∙ ap (λ b. flash.page b 0) here ∙ at_t in
    let pages : summary_page g.bytes s 0 ≡ summary_page g.bytes t 0 = cc in
    let heads : head_bytes s.head ≡ head_bytes t.head = sym (head_of_page g.bytes s (omega (arith, least))) ∙ ap (take 32) pages ∙ head_of_page g.bytes t (omega (arith, least)) in
    sym (head_read s.head one.form.head) ∙ ap head_in heads ∙ head_read t.head other.form.head

-- ---- what is noted of its block

first_has : (flash : Flash) (b : ℕ) (first : FirstPage) (tag : Tag) → IsFirstPage flash b first → tag_of_summary first ≡ Some tag → BeginsWithTag flash b tag
first_has flash b firsts.Bad tag is same = absurd cc
first_has flash b firsts.Erased tag is same = absurd cc
first_has flash b firsts.Untagged tag is same = absurd cc
first_has flash b (firsts.Tagged seq) tag is same = absurd cc
first_has flash b (firsts.Summary count number seq) tag is same = let one : first_tag count number seq ≡ tag = cc in subst (BeginsWithTag flash b) one is

no_first : (flash : Flash) (b : ℕ) (first : FirstPage) (s : Summary) → IsFirstPage flash b first → tag_of_summary first ≡ None → BeginsWithTag flash b (summary_tag s 0) → ⊥
no_first flash b firsts.Bad s is none has = absurd (false≢true (sym has.0 ∙ is))
no_first flash b firsts.Erased s is none has = no_tag flash b 0 (summary_tag s 0) is.1 has.1
no_first flash b firsts.Untagged s is none has = is.2 (summary_tag s 0) has.1
no_first flash b (firsts.Tagged seq) s is none has =
    let one : is.0 ≡ summary_tag s 0 = one_tag flash b 0 is.0 (summary_tag s 0) is.1.1 has.1 in
    subst IsNoSummaryTag one is.3 (refl, refl, refl) refl
no_first flash b (firsts.Summary count number seq) s is none has = absurd cc

seq_with_tag : (flash : Flash) (b : ℕ) (first : FirstPage) (t : Tag) → IsFirstPage flash b first → BeginsWithTag flash b t → seq_of_first first ≡ Some t.seq
seq_with_tag flash b firsts.Bad t is has = absurd (false≢true (sym has.0 ∙ is))
seq_with_tag flash b firsts.Erased t is has = absurd (no_tag flash b 0 t is.1 has.1)
seq_with_tag flash b firsts.Untagged t is has = absurd (is.2 t has.1)
seq_with_tag flash b (firsts.Tagged seq) t is has = ap Some (sym is.2 ∙ ap (λ (u : Tag). u.seq) (one_tag flash b 0 is.0 t is.1.1 has.1))
seq_with_tag flash b (firsts.Summary count number seq) t is has = ap Some (ap (λ (u : Tag). u.seq) (one_tag flash b 0 (first_tag count number seq) t is.1 has.1))

module _ (d : Device) (within : IsWithin d.geometry.pages d.geometry.blocks d.flash) (pages : List FirstPage) (noted : AreAllNoted d pages) (honest : d.honest ≡ true) where
  at_block : (b : ℕ) (d' : FirstPage) → b < d.geometry.blocks → IsFirstPage d.flash b (get_or pages b d')
  at_block b d' lt = noted.noted honest b (get_or pages b d') (slice_get-get_or pages b d' (omega (arith, lt, noted.len)))

  -- a summary that matches its block is of the seq that is noted there
  seq_noted : (s : Summary) (first : FirstPage) → MatchesBlock d.flash s → HasSeqAt pages s.head.block s.head.seq
  seq_noted s first matches =
      let lt = (tag_placed d.geometry.pages d.geometry.blocks d.flash s.head.block 0 matches.tag within matches.has).0 in (
        get_or pages s.head.block first,
        slice_get-get_or pages s.head.block first (omega (arith, lt, noted.len)),
        seq_with_tag d.flash s.head.block (get_or pages s.head.block first) matches.tag (at_block s.head.block first lt) (matches.good, matches.has) ∙ ap Some matches.seq,
      )

  module _ (b : ℕ) (first : FirstPage) (at : slice_get pages b ≡ Some first) where
    -- a block that is noted without a summary's tag has no whole summary
    none_noted : tag_of_summary first ≡ None → (s : Summary) → s.block ≡ b → IsWholeSummary d.geometry d.flash s → ⊥
    none_noted none s here whole =
        no_first d.flash b first s (noted.noted honest b first at) none
        (subst (λ k. BeginsWithTag d.flash k (summary_tag s 0)) here (whole.good, first_of_summary d.geometry d.flash s whole))

    -- nor where the tag's count is above the pages of a block
    none_long : (tag : Tag) → tag_of_summary first ≡ Some tag → d.geometry.pages < tag.count → (s : Summary) → s.block ≡ b → IsWholeSummary d.geometry d.flash s → ⊥
    none_long tag is long s here whole =
        let has : HasTag d.flash b 0 (summary_tag s 0) = subst (λ k. HasTag d.flash k 0 (summary_tag s 0)) here (first_of_summary d.geometry d.flash s whole) in
        let same : tag ≡ summary_tag s 0 = one_tag d.flash b 0 tag (summary_tag s 0) (first_has d.flash b first tag (noted.noted honest b first at) is).1 has in
        let count : tag.count ≡ s.size = ap (λ (t : Tag). t.count) same in
        let last = whole.pages (s.size - 1) (let some = summary_some d.geometry d.flash s whole in omega (arith, some)) in
        let placed = (tag_placed d.geometry.pages d.geometry.blocks d.flash s.block (0 + (s.size - 1)) (summary_tag s (s.size - 1)) within (record { bytes = _; page = last.0; valid = last.1 })).1 in
        absurd (omega (arith, long, count, placed))

-- ---- the blocks whose summaries were read

done_more : (d : Device) (b : ℕ) (old new : SummaryPages) → ((k : ℕ) → IsNoted old k → IsNoted new k)
    → (d.honest ≡ true → (s : Summary) → s.block ≡ b → IsWholeSummary d.geometry d.flash s → MatchesBlock d.flash s → IsNoted new s.head.block) → AreDoneBelow d b old → AreDoneBelow d (b + 1) new
done_more d b old new keeps here were honest s lt whole matches = elim (cases_eq s.block b) [
  | inl same ↦ here honest s same whole matches
  | inr ne ↦ keeps s.head.block (were honest s (omega (arith, lt, ne)) whole matches)
]

within_on : (d a : Device) → OnlyReads d a → IsWithin a.geometry.pages a.geometry.blocks a.flash → a.flash ≡ d.flash → IsWithin d.geometry.pages d.geometry.blocks d.flash
within_on d a only within same = subst (λ f. IsWithin d.geometry.pages d.geometry.blocks f) same (subst (λ (g : Geometry). IsWithin g.pages g.blocks a.flash) only.lasts.geometry within)

module _ (d a : Device) (only : OnlyReads d a) (within : IsWithin a.geometry.pages a.geometry.blocks a.flash) (b : ℕ) (pages : List FirstPage) (noted : AreAllNoted d pages) (first : FirstPage)
    (at : slice_get pages b ≡ Some first) where
  within_here : d.honest ≡ true → IsWithin d.geometry.pages d.geometry.blocks d.flash
  within_here honest = within_on d a only within (same_flash d a only honest)

  -- no summary may begin there
  pub done_none : (done : SummaryPages) → tag_of_summary first ≡ None → AreDoneBelow d b done → AreDoneBelow d (b + 1) done
  done_none done none were = done_more d b done done (λ k is. is) (λ honest s here whole matches. absurd (none_noted d (within_here honest) pages noted honest b first at none s here whole)) were

  pub done_long : (done : SummaryPages) (tag : Tag) → tag_of_summary first ≡ Some tag → a.geometry.pages < tag.count → AreDoneBelow d b done → AreDoneBelow d (b + 1) done
  done_long done tag is long were = done_more d b done done (λ k was. was)
      (λ honest s here whole matches. absurd (none_long d (within_here honest) pages noted honest b first at tag is (omega (arith, long, ap (λ (g : Geometry). g.pages) only.lasts.geometry)) s here whole)) were

  -- none was found
  pub done_unfound : (done : SummaryPages) (tag : Tag) → tag_of_summary first ≡ Some tag → HasNoSummary a b tag → AreDoneBelow d b done → AreDoneBelow d (b + 1) done
  done_unfound done tag is none were = done_more d b done done (λ k was. was) (λ honest s here whole matches.
      absurd (none (only.lasts.honest ∙ honest)
      (subst (λ f. HasTag f b 0 tag) (sym (same_flash d a only honest)) (first_has d.flash b first tag (noted.noted honest b first at) is).1) s
      (subst (λ g. IsWholeSummary g a.flash s) (sym only.lasts.geometry) (subst (λ f. IsWholeSummary d.geometry f s) (sym (same_flash d a only honest)) whole)) here)) were

  -- one was
  pub done_found : (old new : SummaryPages) (f : FoundSummary) (tag : Tag) → IsWholeOn a f → IsOf b tag f → ((k : ℕ) → IsNoted old k → IsNoted new k)
      → (HasSeqAt pages f.head.block f.head.seq → IsNoted new f.head.block) → AreDoneBelow d b old → AreDoneBelow d (b + 1) new
  done_found old new f tag found of keeps notes were = done_more d b old new keeps (λ honest s here whole matches.
      let there : IsWholeSummary d.geometry d.flash (summary_of f) = back_honest (λ g flash. IsWholeSummary g flash (summary_of f)) d a only found honest in
      let head : f.head ≡ s.head = same_head d.geometry d.flash (summary_of f) s there whole (of.block ∙ sym here) in
      subst (λ (h : SummaryHead). IsNoted new h.block) head (notes (subst (λ (h : SummaryHead). HasSeqAt pages h.block h.seq) (sym head) (seq_noted d (within_here honest) pages noted honest s first matches)))) were

-- ---- how many pages it has

-- as many as the tag counts
pub size_of_tag : (pages : List FirstPage) (b : ℕ) (first : FirstPage) (tag : Tag) → slice_get pages b ≡ Some first → tag_of_summary first ≡ Some tag → summary_size pages b ≡ tag.count
size_of_tag pages b first tag at is = ap (λ read. option_map_or pages_of_summary read 0) at ∙ counted first tag is where
  counted : (first : FirstPage) (tag : Tag) → tag_of_summary first ≡ Some tag → pages_of_summary first ≡ tag.count
  counted firsts.Bad tag same = absurd cc
  counted firsts.Erased tag same = absurd cc
  counted firsts.Untagged tag same = absurd cc
  counted (firsts.Tagged seq) tag same = absurd cc
  counted (firsts.Summary count number seq) tag same = let one : first_tag count number seq ≡ tag = cc in ap (λ (t : Tag). t.count) one

-- and no more than it may have
pub size_fits : (flash : Flash) (pages : List FirstPage) (sizes : ℕ → ℕ) → AreFirstPages flash pages → AreSizes flash sizes → (b : ℕ) → summary_size pages b ≤ sizes b
size_fits flash pages sizes are fits b = at (slice_get pages b) refl where
  one : (first : FirstPage) → IsFirstPage flash b first → pages_of_summary first ≤ sizes b
  one firsts.Bad is = omega arith
  one firsts.Erased is = omega arith
  one firsts.Untagged is = omega arith
  one (firsts.Tagged seq) is = omega arith
  one (firsts.Summary count number seq) is = fits b (first_tag count number seq) is (refl, refl, refl)

  at : (read : Option FirstPage) → slice_get pages b ≡ read → option_map_or pages_of_summary read 0 ≤ sizes b
  at None same = omega arith
  at (Some first) same = one first (are b first same)
