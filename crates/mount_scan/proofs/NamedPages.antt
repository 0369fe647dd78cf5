-- The pages that entries of summaries name.
use Rattle.std.specs.Prelude.{◌≡◌, ◌≢◌, ◌<◌, ◌^◌, ℕ, zero, suc, ◌+◌, Bool, true, false, List, [], ◌∷◌, Some, length, replicate, take, slice_get, slice_set, Contains}
use Rattle.std.proofs.Common.{refl, sym, ◌∙◌, ap, subst, inl, inr, arith, get_or}
use Rattle.std.proofs.lemmas.Bool.{cases_eq}
use Rattle.std.proofs.lemmas.List.{length-map, get_or-map, length-set, length-replicate}
use Rattle.std.proofs.lemmas.List.Elements.{All-contains}
use Rattle.nand_model.specs.Flash.{Flash}
use Rattle.nand_model.specs.Calls.{Device}
use Rattle.nand_model.specs.Changes.{OnlyReads}
use Rattle.nand_model.specs.declared.geometry.Geometry.{Geometry}
use Rattle.page_tags.specs.declared.tag.Tag.{Tag}
use Rattle.page_tags.specs.declared.check.CheckEntry.{CheckEntry}
use Rattle.flash_tree.specs.Newest.{Spot}
use Rattle.flash_tree.specs.Places.{spot_of}
use Rattle.flash_tree.specs.Summaries.{Summary, IsEntryIn, HasSummaryForm, IsWholeSummary, MatchesBlock, claimed}
use Rattle.flash_tree.specs.declared.place.Found.{Found}
use Rattle.mount_scan.specs.Copies.{FitsCopy, HasValidName, copy_of, spot_of_copy, page_named, pages_named}
use Rattle.mount_scan.specs.Keys.{Thins, ThinsFound}
use Rattle.mount_scan.specs.CheckpointCandidates.{IsGoodTag}
use Rattle.mount_scan.specs.FirstPages.{BeginsWithTag, IsFirstPage, IsGoodFirst, AreFirstPages, AreAllNoted, AreGoodFirsts, HasSeqAt, first_tag, seq_of_first, tag_of_summary}
use Rattle.mount_scan.specs.Listed.{listed}
use Rattle.mount_scan.specs.SummaryScan.{HasKnown, HasAsNew, CoversSummary, IsSummarizedBlock, AreSummarized, AreSummaryPages, MayBeAdded}
use Rattle.mount_scan.specs.declared.page_copy.PageCopy.{PageCopy}
use Rattle.mount_scan.specs.declared.first_page.FirstPage.{FirstPage}
use Rattle.mount_scan.specs.declared.first_page.FirstPage.TheVariants as firsts
use Rattle.mount_scan.specs.declared.summary_pages.SummaryPages.{SummaryPages}
use Rattle.mount_scan.specs.laws.Order.{not_after_on}
use Rattle.mount_scan.proofs.ReadCount.{back_honest}
use Rattle.mount_scan.proofs.Thinning.{found_skip, found_next}

-- ---- one page after the other

module _ (seq : ℕ) (entries : List CheckEntry) (i : ℕ) (e : CheckEntry) (lt : i < length entries) (at : get_or entries i e ≡ e) where
  abbrev all : List Found
  all = pages_named seq entries

  within : i < length all
  within = omega (arith, lt, length-map entries (page_named seq))

  lies : get_or all i (page_named seq e) ≡ page_named seq e
  lies = get_or-map (page_named seq) entries i e (page_named seq e) lt ∙ ap (page_named seq) at

  -- the next page was added
  pub named_next : (x : Found) (old mid new : List PageCopy) (y : PageCopy) → x ≡ page_named seq e → (y ≡ copy_of x) × FitsCopy x → ThinsFound (take i all) old mid → Thins (y ∷ []) mid new
      → ThinsFound (take (i + 1) all) old new
  named_next x old mid new y is fits first next =
      found_next all old mid new i (page_named seq e) within lies y (subst (λ (z : Found). (y ≡ copy_of z) × FitsCopy z) is fits) first next

  -- or does not fit
  pub named_skip : (x : Found) (old new : List PageCopy) → x ≡ page_named seq e → (FitsCopy x → ⊥) → ThinsFound (take i all) old new → ThinsFound (take (i + 1) all) old new
  named_skip x old new is not first = found_skip all old new new i (page_named seq e) within lies (subst (λ (z : Found). FitsCopy z → ⊥) is not) first

-- a page that is named has an entry that names it
entry_of_named : (seq : ℕ) (entries : List CheckEntry) (x : Found) → Contains (pages_named seq entries) x → (e : CheckEntry) × Contains entries e × (page_named seq e ≡ x)
entry_of_named seq [] x has = absurd (omega (arith, has.1))
entry_of_named seq (e ∷ entries) x (zero, lt, is) = (e, (0, omega arith, refl), is)
entry_of_named seq (e ∷ entries) x (suc k, lt, is) =
    let rest = entry_of_named seq entries x (k, omega (arith, lt), is) in
    (rest.0, (suc rest.1.0, let less = rest.1.1 in omega (arith, less), rest.1.2), rest.2)

-- and the page that an entry names is one
named_of_entry : (seq : ℕ) (entries : List CheckEntry) (e : CheckEntry) → Contains entries e → Contains (pages_named seq entries) (page_named seq e)
named_of_entry seq entries e has = (
  has.0,
  omega (arith, has.1, length-map entries (page_named seq)),
  get_or-map (page_named seq) entries has.0 e (page_named seq e) has.1 ∙ ap (page_named seq) has.2,
)

-- ---- pages that are as new stay so

pub as_new_on : (added : List Found) (old new : List PageCopy) (s : Spot) → ThinsFound added old new → HasAsNew old s → HasAsNew new s
as_new_on added old new s thins was =
    let then = thins.some was.0 (inl was.1) in
    (then.0, then.1, (then.2.0 ∙ was.2.0, then.2.1 ∙ was.2.1), not_after_on s (spot_of_copy was.0) (spot_of_copy then.0) was.3 then.3)

pub as_new_added : (added : List Found) (old new : List PageCopy) (x : Found) → ThinsFound added old new → Contains added x → FitsCopy x → HasAsNew new (spot_of x)
as_new_added added old new x thins has fits = thins.some (copy_of x) (inr (x, has, fits, refl))

pub summarized_on : (g : Geometry) (flash : Flash) (b : ℕ) (added : List Found) (old new : List PageCopy) → ThinsFound added old new → IsSummarizedBlock g flash b old → IsSummarizedBlock g flash b new
summarized_on g flash b added old new thins was = record {
  summary = was.summary;
  whole = was.whole;
  matches = was.matches;
  block = was.block;
  pages = λ e has may. as_new_on added old new (claimed was.summary e) thins (was.pages e has may);
}

-- ---- a summary was added

-- a block whose first page has this seq
tag_with_seq : (flash : Flash) (b seq : ℕ) (first : FirstPage) → IsFirstPage flash b first → seq_of_first first ≡ Some seq → (t : Tag) × BeginsWithTag flash b t × (t.seq ≡ seq)
tag_with_seq flash b seq firsts.Bad is same = absurd cc
tag_with_seq flash b seq firsts.Erased is same = absurd cc
tag_with_seq flash b seq firsts.Untagged is same = absurd cc
tag_with_seq flash b seq (firsts.Tagged q) is same = let one : q ≡ seq = cc in (is.0, is.1, is.2 ∙ one)
tag_with_seq flash b seq (firsts.Summary count number q) is same = let one : q ≡ seq = cc in (first_tag count number q, is, one)

-- a summary of it is of it as it was allocated last
matches_first : (flash : Flash) (pages : List FirstPage) (s : Summary) → AreFirstPages flash pages → HasSeqAt pages s.head.block s.head.seq → MatchesBlock flash s
matches_first flash pages s noted (first, at, seq) =
    let is = tag_with_seq flash s.head.block s.head.seq first (noted s.head.block first at) seq in
    record { good = is.1.0; tag = is.0; has = is.1.1; seq = is.2 }

module _ (d : Device) (s : Summary) (may : MayBeAdded d s) (matches : d.honest ≡ true → MatchesBlock d.flash s) (old new : List PageCopy) (thins : ThinsFound (pages_named s.head.seq s.entries) old new) where
  entry_in : (e : CheckEntry) → Contains s.entries e → IsEntryIn d.geometry s.head e
  entry_in e has = All-contains (IsEntryIn d.geometry s.head) s.entries e may.form.each has

  entry_placed : (e : CheckEntry) → Contains s.entries e → (e.block < d.geometry.blocks) × (e.page < d.geometry.pages)
  entry_placed e has = let is = entry_in e has in (omega (arith, is.block, may.form.block), is.page)

  -- what is known of the pages
  known_named : HasKnown d old → HasKnown d new
  known_named were = record {
    placed = λ f has. elim (thins.among f has) [
      | inl was ↦ were.placed f was
      | inr (x, there, fits, same) ↦
          let (e, is, names) = entry_of_named s.head.seq s.entries x there in
          subst (λ (y : PageCopy). (y.block < d.geometry.blocks) × (y.page < d.geometry.pages)) (ap copy_of names ∙ same) (entry_placed e is)
    ];
    low = λ f has. elim (thins.among f has) [
      | inl was ↦ were.low f was
      | inr (x, there, fits, same) ↦ subst (λ (y : PageCopy). y.chunk < 2 ^ 32) same fits.0
    ];
    named = λ f has. elim (thins.among f has) [
      | inl was ↦ were.named f was
      | inr (x, there, fits, same) ↦ subst HasValidName same fits.3
    ];
    known = λ honest f has. elim (thins.among f has) [
      | inl was ↦ were.known honest f was
      | inr (x, there, fits, same) ↦
          let (e, is, names) = entry_of_named s.head.seq s.entries x there in
          inr (record { summary = s; whole = may.whole honest; matches = matches honest; entry = e; has = is; copied = ap copy_of names ∙ same })
    ];
  }

  -- each that the summary names has one as new
  covers_named : CoversSummary s new
  covers_named e has (low, object, version) =
      let at = entry_placed e has in
      let blocks = d.geometry.most_blocks in
      let pages = d.geometry.most_pages in
      as_new_added (pages_named s.head.seq s.entries) old new (page_named s.head.seq e) thins (named_of_entry s.head.seq s.entries e has)
      (low, omega (arith, at.0, blocks), omega (arith, at.1, pages), (object, (entry_in e has).entry.object, version))

  -- one more block is summarized
  summarized_named : (done : List Bool) → d.honest ≡ true → AreSummarized d.geometry d.flash done old → AreSummarized d.geometry d.flash (slice_set done s.head.block true) new
  summarized_named done honest were k at = elim (cases_eq k s.head.block) [
    | inl here ↦ record { summary = s; whole = may.whole honest; matches = matches honest; block = sym here; pages = covers_named }
    | inr ne ↦ summarized_on d.geometry d.flash k (pages_named s.head.seq s.entries) old new thins (were k (sym (set_there done s.head.block k ne) ∙ at))
  ] where
    set_there : (bs : List Bool) (i k : ℕ) → k ≢ i → slice_get (slice_set bs i true) k ≡ slice_get bs k
    set_there [] i k ne = refl
    set_there (x ∷ bs) zero zero ne = absurd (ne refl)
    set_there (x ∷ bs) zero (suc k) ne = refl
    set_there (x ∷ bs) (suc i) zero ne = refl
    set_there (x ∷ bs) (suc i) (suc k) ne = set_there bs i k (λ same. ne (ap suc same))

pub summary_added : (d : Device) (pages : List FirstPage) (s : Summary) (old new : SummaryPages) → AreAllNoted d pages → MayBeAdded d s → HasSeqAt pages s.head.block s.head.seq
    → ThinsFound (pages_named s.head.seq s.entries) (listed old.newest) (listed new.newest) → new.done.items ≡ slice_set old.done.items s.head.block true → AreSummaryPages d old → AreSummaryPages d new
summary_added d pages s old new noted may seq thins done were = record {
  len = ap (λ (bs : List Bool). length bs) done ∙ length-set old.done.items s.head.block true ∙ were.len;
  known = known_named d s may matches (listed old.newest) (listed new.newest) thins were.known;
  blocks = λ honest. subst (λ bs. AreSummarized d.geometry d.flash bs (listed new.newest)) (sym done) (summarized_named d s may matches (listed old.newest) (listed new.newest) thins old.done.items honest (were.blocks honest));
} where
  matches : d.honest ≡ true → MatchesBlock d.flash s
  matches honest = matches_first d.flash pages s (noted.noted honest) seq

no_true : (n k : ℕ) → slice_get (replicate n false) k ≡ Some true → ⊥
no_true zero k at = absurd cc
no_true (suc n) zero at = absurd cc
no_true (suc n) (suc k) at = no_true n k at

-- at first no summary was added
pub summarized_none : (d : Device) (blocks : ℕ) (summarized : SummaryPages) → d.geometry.blocks ≡ blocks → summarized.done.items ≡ replicate blocks false → ((f : PageCopy) → Contains (listed summarized.newest) f → ⊥) → AreSummaryPages d summarized
summarized_none d blocks summarized same done none = record {
  len = ap (λ (bs : List Bool). length bs) done ∙ length-replicate blocks false ∙ sym same;
  known = record { placed = λ f has. absurd (none f has); low = λ f has. absurd (none f has); named = λ f has. absurd (none f has); known = λ honest f has. absurd (none f has) };
  blocks = λ honest k at. absurd (no_true blocks k (sym (ap (λ bs. slice_get bs k) done) ∙ at));
}

-- what was read of a summary holds of the device before other reads
pub may_back : (d a : Device) (s : Summary) → OnlyReads d a → HasSummaryForm a.geometry s → (a.honest ≡ true → IsWholeSummary a.geometry a.flash s) → MayBeAdded d s
may_back d a s only form whole = record {
  form = subst (λ g. HasSummaryForm g s) only.lasts.geometry form;
  whole = back_honest (λ g flash. IsWholeSummary g flash s) d a only whole;
}

-- the firsts are still good
good_on_one : (d a : Device) (b : ℕ) (first : FirstPage) → OnlyReads d a → IsGoodFirst d b first → IsGoodFirst a b first
good_on_one d a b firsts.Bad only is = is
good_on_one d a b firsts.Erased only is = is
good_on_one d a b firsts.Untagged only is = is
good_on_one d a b (firsts.Tagged seq) only is = is
good_on_one d a b (firsts.Summary count number seq) only is = (is.0, ap (λ f. f b) only.bad ∙ is.1)

pub good_on : (d a : Device) (pages : List FirstPage) → OnlyReads d a → AreGoodFirsts d pages → AreGoodFirsts a pages
good_on d a pages only are b first at = good_on_one d a b first only (are b first at)

-- the tag that may begin a summary
pub good_first : (d : Device) (b : ℕ) (first : FirstPage) (tag : Tag) → IsGoodFirst d b first → tag_of_summary first ≡ Some tag → IsGoodTag d b tag
good_first d b firsts.Bad tag is same = absurd cc
good_first d b firsts.Erased tag is same = absurd cc
good_first d b firsts.Untagged tag is same = absurd cc
good_first d b (firsts.Tagged seq) tag is same = absurd cc
good_first d b (firsts.Summary count number seq) tag is same = let one : first_tag count number seq ≡ tag = cc in subst (IsGoodTag d b) one is
