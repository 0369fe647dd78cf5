-- What is noted of the first pages of blocks.
use Rattle.std.specs.Prelude.{◌≡◌, ◌≢◌, ◌<◌, ◌≤◌, ℕ, ◌+◌, true, List, [], ◌∷◌, ◌++◌, length, slice_get, Option, Some, None, IfSome}
use Rattle.std.proofs.Common.{sym, ◌∙◌, ap, subst, inl, inr, arith, length-append}
use Rattle.std.proofs.lemmas.Bool.{cases_eq, cases_lt, false≢true}
use Rattle.volume_terms.specs.laws.List.{get_push}
use Rattle.nand_model.specs.Flash.{Flash}
use Rattle.nand_model.specs.Calls.{Device}
use Rattle.nand_model.specs.Changes.{OnlyReads}
use Rattle.nand_model.specs.declared.geometry.Geometry.{Geometry}
use Rattle.page_tags.specs.declared.tag.Tag.{Tag}
use Rattle.flash_tree.specs.Newest.{Numbers}
use Rattle.flash_tree.specs.Places.{numbers_of}
use Rattle.flash_tree.specs.laws.Newest.{one_tag}
use Rattle.flash_tree.specs.laws.Place.{no_tag}
use Rattle.mount_scan.specs.Blocks.{numbers_in, AreAtMost}
use Rattle.mount_scan.specs.FirstPages.{BeginsWithTag, IsFirstRead, IsGoodRead, IsFirstPage, IsGoodFirst, IsRaisedToRead, IsRenewedBy, AreFirstPages, AreGoodFirsts, AreNoneAbove, BeginsRenewed, FirstPagesBelow, FirstReadsBelow, tag_of_read}
use Rattle.mount_scan.specs.CheckpointCandidates.{FirstIs, IsCandidate, IsGoodTag, IsGreatestBelow}
use Rattle.mount_scan.specs.declared.first_page.FirstReads.{FirstReads}
use Rattle.mount_scan.specs.declared.first_page.FirstRead.{FirstRead}
use Rattle.mount_scan.specs.declared.first_page.FirstRead.TheVariants as reads
use Rattle.mount_scan.specs.declared.first_page.FirstPage.{FirstPage}
use Rattle.mount_scan.specs.declared.first_page.FirstPages.{FirstPages}
use Rattle.mount_scan.proofs.Raised.{at_most_on}
use Rattle.mount_scan.proofs.ReadCount.{back_honest}

-- ---- one block

good_back : (d a : Device) (b : ℕ) (read : FirstRead) → OnlyReads d a → IsGoodRead a b read → IsGoodRead d b read
good_back d a b reads.Bad only is = is
good_back d a b reads.Erased only is = is
good_back d a b reads.Untagged only is = is
good_back d a b (reads.Tagged t) only is = (is.0, ap (λ f. f b) (sym only.bad) ∙ is.1)

same_numbers : (m n : Numbers) → n ≡ m → AreAtMost m n
same_numbers m n same = record {
  version = omega (arith, ap (λ (x : Numbers). x.version) same);
  group = omega (arith, ap (λ (x : Numbers). x.group) same);
  seq = omega (arith, ap (λ (x : Numbers). x.seq) same);
}

-- no number falls
raised_keeps : (read : FirstRead) (m n : Numbers) → IsRaisedToRead read m n → AreAtMost m n
raised_keeps reads.Bad m n is = same_numbers m n is
raised_keeps reads.Erased m n is = same_numbers m n is
raised_keeps reads.Untagged m n is = same_numbers m n is
raised_keeps (reads.Tagged t) m n is = record { version = omega (arith, is.version); group = omega (arith, is.group); seq = omega (arith, is.seq) }

-- and the block's first tag has none above
raised_above : (flash : Flash) (b : ℕ) (read : FirstRead) (m n : Numbers) (t : Tag) → IsFirstRead flash b read → IsRaisedToRead read m n → BeginsWithTag flash b t → AreAtMost (numbers_in t) n
raised_above flash b reads.Bad m n t first is has = absurd (false≢true (sym has.0 ∙ first))
raised_above flash b reads.Erased m n t first is has = absurd (no_tag flash b 0 t first.1 has.1)
raised_above flash b reads.Untagged m n t first is has = absurd (first.2 t has.1)
raised_above flash b (reads.Tagged u) m n t first is has =
    let same : u ≡ t = one_tag flash b 0 u t first.1 has.1 in
    record {
      version = omega (arith, is.version, ap (λ (v : Tag). v.version) same);
      group = omega (arith, is.group, ap (λ (v : Tag). v.group) same);
      seq = omega (arith, is.seq, ap (λ (v : Tag). v.seq) same);
    }

-- and they are not raised further
raised_least : (flash : Flash) (b : ℕ) (read : FirstRead) (m n : Numbers) → IsFirstRead flash b read → IsRaisedToRead read m n → AreNoneAbove flash m → AreNoneAbove flash n
raised_least flash b reads.Bad m n first is least = subst (AreNoneAbove flash) (sym is) least
raised_least flash b reads.Erased m n first is least = subst (AreNoneAbove flash) (sym is) least
raised_least flash b reads.Untagged m n first is least = subst (AreNoneAbove flash) (sym is) least
raised_least flash b (reads.Tagged u) m n first is least = λ k above.
    let were = least k above in
    let this = above b 0 u first.0 first.1 in
    record { version = omega (arith, is.version, were.version, this.0); group = omega (arith, is.group, were.group, this.1); seq = omega (arith, is.seq, were.seq, this.2) }

-- ---- the greatest seq of a page whose version is the number of its group

renewed_keeps : (read : FirstRead) (m n : ℕ) → IsRenewedBy read m n → m ≤ n
renewed_keeps reads.Bad m n is = omega (arith, is)
renewed_keeps reads.Erased m n is = omega (arith, is)
renewed_keeps reads.Untagged m n is = omega (arith, is)
renewed_keeps (reads.Tagged t) m n is = elim (cases_eq t.version t.group) [
  | inl own ↦ let raised = is.0 own in omega (arith, raised)
  | inr other ↦ let same = is.1 other in omega (arith, same)
]

renewed_begins : (flash : Flash) (b : ℕ) (read : FirstRead) (m n : ℕ) → IsFirstRead flash b read → IsRenewedBy read m n → (m ≢ 0 → BeginsRenewed flash m) → n ≢ 0 → BeginsRenewed flash n
renewed_begins flash b reads.Bad m n first is were some = subst (BeginsRenewed flash) (sym is) (were (λ none. some (is ∙ none)))
renewed_begins flash b reads.Erased m n first is were some = subst (BeginsRenewed flash) (sym is) (were (λ none. some (is ∙ none)))
renewed_begins flash b reads.Untagged m n first is were some = subst (BeginsRenewed flash) (sym is) (were (λ none. some (is ∙ none)))
renewed_begins flash b (reads.Tagged t) m n first is were some = elim (cases_eq t.version t.group) [
  | inr other ↦ let same = is.1 other in subst (BeginsRenewed flash) (sym same) (were (λ none. some (same ∙ none)))
  | inl own ↦
      let raised = is.0 own in
      elim (cases_lt m t.seq) [
        | inl lt ↦ (b, t, first, own, omega (arith, raised, lt))
        | inr past ↦ let same : n ≡ m = omega (arith, raised, past) in subst (BeginsRenewed flash) (sym same) (were (λ none. some (same ∙ none)))
      ]
]

renewed_here : (flash : Flash) (b : ℕ) (read : FirstRead) (m n : ℕ) (t : Tag) → IsFirstRead flash b read → IsRenewedBy read m n → BeginsWithTag flash b t → t.version ≡ t.group → t.seq ≤ n
renewed_here flash b reads.Bad m n t first is has own = absurd (false≢true (sym has.0 ∙ first))
renewed_here flash b reads.Erased m n t first is has own = absurd (no_tag flash b 0 t first.1 has.1)
renewed_here flash b reads.Untagged m n t first is has own = absurd (first.2 t has.1)
renewed_here flash b (reads.Tagged u) m n t first is has own =
    let same : u ≡ t = one_tag flash b 0 u t first.1 has.1 in
    let raised = is.0 (ap (λ (x : Tag). x.version) same ∙ own ∙ ap (λ (x : Tag). x.group) (sym same)) in
    omega (arith, raised, ap (λ (x : Tag). x.seq) same)

-- ---- block after block

pub firsts_none : (device : Device) (firsts : FirstPages) → firsts.pages.items ≡ [] → numbers_of firsts.numbers ≡ record { version = 0; group = 0; seq = 0 } → firsts.renewed ≡ 0 → FirstPagesBelow device 0 firsts
firsts_none device firsts empty zeros zero = record {
  noted = record {
    len = ap (λ (xs : List FirstPage). length xs) empty;
    good = subst (AreGoodFirsts device) (sym empty) (λ b first at. absurd cc);
    noted = λ honest. subst (AreFirstPages device.flash) (sym empty) (λ b first at. absurd cc);
  };
  above = λ honest k t lt. absurd (omega (arith, lt));
  least = λ honest m above. record {
    version = omega (arith, ap (λ (x : Numbers). x.version) zeros);
    group = omega (arith, ap (λ (x : Numbers). x.group) zeros);
    seq = omega (arith, ap (λ (x : Numbers). x.seq) zeros);
  };
  renewed = λ honest some. absurd (some zero);
  latest = λ honest k t lt. absurd (omega (arith, lt));
}

-- one more page is noted
noted_more : (P : ℕ → FirstPage → Type 0) (b : ℕ) (pages : List FirstPage) (page : FirstPage) → length pages ≡ b → ((k : ℕ) (first : FirstPage) → slice_get pages k ≡ Some first → P k first) → P b page
    → (k : ℕ) (first : FirstPage) → slice_get (pages ++ page ∷ []) k ≡ Some first → P k first
noted_more P b pages page len were is k first at = elim (get_push pages page k first at) [
  | inl before ↦ were k first before.1
  | inr last ↦ let here : b ≡ k = sym len ∙ sym last.0 in subst (λ x. P x first) here (subst (P b) (sym last.1) is)
]

pub firsts_more :
    (d a : Device) (b : ℕ) (old new : FirstPages) (read : FirstRead) (page : FirstPage) → OnlyReads d a → new.pages.items ≡ old.pages.items ++ page ∷ [] → IsGoodRead a b read
    → (a.honest ≡ true → IsFirstRead a.flash b read) → ((flash : Flash) (k : ℕ) → IsFirstRead flash k read → IsFirstPage flash k page) → ((e : Device) (k : ℕ) → IsGoodRead e k read → IsGoodFirst e k page)
    → IsRaisedToRead read (numbers_of old.numbers) (numbers_of new.numbers) → IsRenewedBy read old.renewed new.renewed → FirstPagesBelow d b old → FirstPagesBelow d (b + 1) new
firsts_more d a b old new read page only pages good is noted keeps raised renews were = record {
  noted = record {
    len = ap (λ (xs : List FirstPage). length xs) pages ∙ omega (arith, length-append old.pages.items (page ∷ []), were.noted.len);
    good = subst (AreGoodFirsts d) (sym pages) (noted_more (IsGoodFirst d) b old.pages.items page were.noted.len were.noted.good (keeps d b (good_back d a b read only good)));
    noted = λ honest. subst (AreFirstPages d.flash) (sym pages) (noted_more (IsFirstPage d.flash) b old.pages.items page were.noted.len (were.noted.noted honest) (noted d.flash b (read_is honest)));
  };
  above = λ honest k t lt has. elim (cases_eq k b) [
    | inr ne ↦ at_most_on (numbers_in t) (numbers_of old.numbers) (numbers_of new.numbers) (were.above honest k t (omega (arith, lt, ne)) has) (raised_keeps read (numbers_of old.numbers) (numbers_of new.numbers) raised)
    | inl here ↦ raised_above d.flash b read (numbers_of old.numbers) (numbers_of new.numbers) t (read_is honest) raised (subst (λ j. BeginsWithTag d.flash j t) here has)
  ];
  least = λ honest. raised_least d.flash b read (numbers_of old.numbers) (numbers_of new.numbers) (read_is honest) raised (were.least honest);
  renewed = λ honest. renewed_begins d.flash b read old.renewed new.renewed (read_is honest) renews (were.renewed honest);
  latest = λ honest k t lt has own. elim (cases_eq k b) [
    | inr ne ↦ let before = were.latest honest k t (omega (arith, lt, ne)) has own in omega (arith, before, renewed_keeps read old.renewed new.renewed renews)
    | inl here ↦ renewed_here d.flash b read old.renewed new.renewed t (read_is honest) renews (subst (λ j. BeginsWithTag d.flash j t) here has) own
  ];
} where
  read_is : d.honest ≡ true → IsFirstRead d.flash b read
  read_is = back_honest (λ g flash. IsFirstRead flash b read) d a only is

-- ---- and the best candidate

tag_is_good : (e : Device) (b : ℕ) (read : FirstRead) → IsGoodRead e b read → IfSome (tag_of_read read) (IsGoodTag e b)
tag_is_good e b reads.Bad is = is
tag_is_good e b reads.Erased is = is
tag_is_good e b reads.Untagged is = is
tag_is_good e b (reads.Tagged t) is = is

tag_is_first : (flash : Flash) (b : ℕ) (read : FirstRead) → IsFirstRead flash b read → FirstIs flash b (tag_of_read read)
tag_is_first flash b reads.Bad is = λ t good has. false≢true (sym good ∙ is)
tag_is_first flash b reads.Erased is = λ t good has. no_tag flash b 0 t is.1 has
tag_is_first flash b reads.Untagged is = λ t good has. is.2 t has
tag_is_first flash b (reads.Tagged t) is = is

pub best_none : (device : Device) (r : FirstReads) → r.firsts.pages.items ≡ [] → numbers_of r.firsts.numbers ≡ record { version = 0; group = 0; seq = 0 } → r.firsts.renewed ≡ 0 → r.best ≡ None → FirstReadsBelow device 0 r
best_none device r empty zeros zero none = record {
  pages = firsts_none device r.firsts empty zeros zero;
  candidate = subst (λ best. IfSome best (IsCandidate device)) (sym none) tt;
  best = λ honest. subst (IsGreatestBelow device.flash 0) (sym none) (λ k t lt may. absurd (omega (arith, lt)));
}

pub best_more :
    (d a : Device) (b : ℕ) (old new : FirstReads) (read : FirstRead) (first : Option Tag) → OnlyReads d a → b < a.geometry.blocks → IsGoodRead a b read
    → (a.honest ≡ true → IsFirstRead a.flash b read) → first ≡ tag_of_read read
    → ((e : Device) → b < e.geometry.blocks → IfSome first (IsGoodTag e b) → IfSome old.best (IsCandidate e) → IfSome new.best (IsCandidate e))
    → ((flash : Flash) → FirstIs flash b first → IsGreatestBelow flash b old.best → IsGreatestBelow flash (b + 1) new.best)
    → (FirstPagesBelow d b old.firsts → FirstPagesBelow d (b + 1) new.firsts) → FirstReadsBelow d b old → FirstReadsBelow d (b + 1) new
best_more d a b old new read first only within good is tag candidate greatest pages were = record {
  pages = pages were.pages;
  candidate = candidate d (omega (arith, within, ap (λ (g : Geometry). g.blocks) only.lasts.geometry)) (subst (λ t. IfSome t (IsGoodTag d b)) (sym tag) (tag_is_good d b read (good_back d a b read only good))) were.candidate;
  best = λ honest. greatest d.flash (subst (FirstIs d.flash b) (sym tag) (tag_is_first d.flash b read (back_honest (λ g flash. IsFirstRead flash b read) d a only is honest))) (were.best honest);
}
