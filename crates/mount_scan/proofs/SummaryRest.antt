-- The blocks that have no summary.
use Rattle.std.specs.Prelude.{◌≡◌, ◌≢◌, ◌⊎◌, ◌↔◌, ◌<◌, ◌≤◌, ◌^◌, ℕ, ◌+◌, Bool, true, false, List, Some, Contains, Result, if◌then◌else◌}
use Rattle.std.proofs.Common.{refl, sym, ◌∙◌, ap, subst, inl, inr, arith}
use Rattle.std.proofs.lemmas.Bool.{cases_eq, false≢true}
use Rattle.nand_model.specs.Flash.{Flash}
use Rattle.nand_model.specs.Calls.{Device}
use Rattle.nand_model.specs.Changes.{OnlyReads}
use Rattle.nand_model.specs.declared.geometry.Geometry.{Geometry}
use Rattle.page_tags.specs.declared.tag.Tag.{Tag}
use Rattle.flash_tree.specs.Newest.{Spot, Holds, Numbers}
use Rattle.flash_tree.specs.Places.{spot_of, numbers_of}
use Rattle.flash_tree.specs.ErasedBlocks.{BeginsErased}
use Rattle.flash_tree.specs.declared.place.Found.{Found}
use Rattle.mount_scan.specs.Copies.{HasValidName}
use Rattle.mount_scan.specs.Blocks.{numbers_in, AreAtMost, RaisesBy}
use Rattle.mount_scan.specs.FewReads.{IsOlder}
use Rattle.mount_scan.specs.FirstPages.{IsFirstPage, AreAboveFirsts, AreNoneAbove, BeginsRenewed, BeginsWithTag, FirstPagesBelow, IsOlderThan}
use Rattle.mount_scan.specs.FoundCheckpoint.{ReadsAtMost}
use Rattle.mount_scan.specs.Keys.{ThinsFound}
use Rattle.mount_scan.specs.Latest.{AddsBlock}
use Rattle.mount_scan.specs.Listed.{listed}
use Rattle.mount_scan.specs.Scanned.{ReadsEach}
use Rattle.mount_scan.specs.SummaryScan.{HasAsNew, HasKnown, CoversBlock, IsScanned, AreSummarized, AreSummaryPages, IsLeft, IsRestBelow, IsNextBlock}
use Rattle.mount_scan.specs.WrittenBlocks.{AddsWritten, IsWrittenUpTo, RaisesWithin}
use Rattle.mount_scan.specs.declared.fault.ScanFault.{ScanFault}
use Rattle.mount_scan.specs.declared.page_copy.PageCopy.{PageCopy}
use Rattle.mount_scan.specs.declared.first_page.FirstPage.{FirstPage}
use Rattle.mount_scan.specs.declared.first_page.FirstPage.TheVariants as firsts
use Rattle.mount_scan.specs.declared.first_page.FirstPages.{FirstPages}
use Rattle.mount_scan.specs.declared.summary_pages.SummaryPages.{SummaryPages}
use Rattle.mount_scan.specs.declared.summary_scan.Rest.{Rest}
use Rattle.mount_scan.specs.laws.Scan.{found_of}
use Rattle.mount_scan.proofs.FewPages.{older_begins}
use Rattle.mount_scan.proofs.Latest.{counted_copy, held_named, place_fits}
use Rattle.mount_scan.proofs.NamedPages.{as_new_on, as_new_added, summarized_on}
use Rattle.mount_scan.proofs.Raised.{at_most_on}
use Rattle.mount_scan.proofs.ReadCount.{back_honest}

-- ---- the tags of a block were read

-- what a read adds is the same of the device before other reads
adds_back : (d a : Device) (b : ℕ) (old new : List PageCopy) → OnlyReads d a → AddsBlock a b old new → AddsBlock d b old new
adds_back d a b old new only adds = record {
  pages = adds.pages;
  reports = record {
    placed = λ f has. let is = adds.reports.placed f has in (is.0, omega (arith, is.1, ap (λ (g : Geometry). g.pages) only.lasts.geometry));
    exact = back_honest (λ g flash. (f : Found) → Contains adds.pages f ↔ ((f.block ≡ b) × Holds flash f.tag.object f.tag.chunk (spot_of f))) d a only adds.reports.exact;
  };
  thins = adds.thins;
}

-- what is known of a block stays while pages are added
scanned_on : (g : Geometry) (flash : Flash) (k : ℕ) (added : List Found) (old new : List PageCopy) (m n : Numbers) → ThinsFound added old new → AreAtMost m n → IsScanned g flash k old m → IsScanned g flash k new n
scanned_on g flash k added old new m n thins most was = elim was [
  | inl read ↦ inl (record {
    pages = λ s here low holds. as_new_on added old new s thins (read.pages s here low holds);
    numbers = λ l t has. at_most_on (numbers_in t) m n (read.numbers l t has) most;
  })
  | inr (inl sum) ↦ inr (inl (summarized_on g flash k added old new thins sum))
  | inr (inr (inl behind)) ↦ inr (inr (inl behind))
  | inr (inr (inr older)) ↦ inr (inr (inr (record { pages = λ s here low holds up_to. as_new_on added old new s thins (older.pages s here low holds up_to); older = older.older })))
]

-- valid pages of a block were added
known_added :
    (d : Device) (b : ℕ) (pages : List Found) (old new : List PageCopy) → b < d.geometry.blocks → ((f : Found) → Contains pages f → (f.block ≡ b) × (f.page < d.geometry.pages))
    → (d.honest ≡ true → (f : Found) → Contains pages f → Holds d.flash f.tag.object f.tag.chunk (spot_of f)) → ThinsFound pages old new → HasKnown d old → HasKnown d new
known_added d b pages old new lt placed held thins were = record {
  placed = λ f has. elim (thins.among f has) [
    | inl was ↦ were.placed f was
    | inr (x, is, fits, same) ↦
        let at = placed x is in
        subst (λ (y : PageCopy). (y.block < d.geometry.blocks) × (y.page < d.geometry.pages)) same (omega (arith, at.0, lt), at.1)
  ];
  low = λ f has. elim (thins.among f has) [
    | inl was ↦ were.low f was
    | inr (x, is, fits, same) ↦ subst (λ (y : PageCopy). y.chunk < 2 ^ 32) same fits.0
  ];
  named = λ f has. elim (thins.among f has) [
    | inl was ↦ were.named f was
    | inr (x, is, fits, same) ↦ subst HasValidName same fits.3
  ];
  known = λ honest f has. elim (thins.among f has) [
    | inl was ↦ were.known honest f was
    | inr (x, is, fits, same) ↦ inl (counted_copy d.flash x f same (held honest x is))
  ];
}

module _ (d : Device) (b : ℕ) (lt : b < d.geometry.blocks) (old new : List PageCopy) (adds : AddsBlock d b old new) where
  known_block : HasKnown d old → HasKnown d new
  known_block = known_added d b adds.pages old new lt adds.reports.placed (λ honest f has. ((adds.reports.exact honest f).0 has).1) adds.thins

  covers_block : d.honest ≡ true → CoversBlock d.flash b new
  covers_block honest s here low holds =
      let has = (adds.reports.exact honest (found_of s)).1 (here, holds) in
      let at = adds.reports.placed (found_of s) has in
      as_new_added adds.pages old new (found_of s) adds.thins has (place_fits d.geometry (found_of s) low (omega (arith, at.0, lt)) at.1 (held_named d.flash s.tag.object s.tag.chunk s holds))

-- and so it is the next block's turn
pub rest_read :
    (d a : Device) (b : ℕ) (done : List Bool) (first : FirstPage) (summarized : Bool) (old new : Rest) → OnlyReads d a → IsNextBlock d b done first summarized → AddsBlock a b (listed old.newest) (listed new.newest)
    → (a.honest ≡ true → RaisesBy a.flash b (numbers_of old.seen.numbers) (numbers_of new.seen.numbers)) → (new.erased ≡ true → (old.erased ≡ true) ⊎ (first ≡ firsts.Erased)) → new.renewed ≡ old.renewed
    → IsRestBelow d done b old → IsRestBelow d done (b + 1) new
rest_read d a b done first summarized old new only next there raised erased same were = record {
  below = record {
    known = known_block d b next.block (listed old.newest) (listed new.newest) adds were.below.known;
    scanned = λ honest k lt good. elim (cases_eq k b) [
      | inr ne ↦ scanned_on d.geometry d.flash k adds.pages (listed old.newest) (listed new.newest) m n adds.thins (raises honest).keeps (were.below.scanned honest k (omega (arith, lt, ne)) good)
      | inl here ↦ subst (λ j. IsScanned d.geometry d.flash j (listed new.newest) n) (sym here) (inl (record {
        pages = covers_block d b next.block (listed old.newest) (listed new.newest) adds honest;
        numbers = (raises honest).above (ap d.flash.bad (sym here) ∙ good);
      }))
    ];
    above = λ honest k t lt begins. at_most_on (numbers_in t) m n (were.below.above honest k t lt begins) (raises honest).keeps;
    least = λ honest k above. (raises honest).least k (were.below.least honest k above) (λ good l t has. let is = above b l t good has in record { version = is.0; group = is.1; seq = is.2 });
  };
  summarized = λ honest k at. summarized_on d.geometry d.flash k adds.pages (listed old.newest) (listed new.newest) adds.thins (were.summarized honest k at);
  erased = λ honest is. elim (erased is) [
    | inl was ↦ let j = were.erased honest was in (j.0, let lt = j.1 in omega (arith, lt), j.2)
    | inr here ↦ (b, omega arith, subst (IsFirstPage d.flash b) here (next.first_page honest))
  ];
  renewed = λ honest. subst (λ seq. seq ≢ 0 → BeginsRenewed d.flash seq) (sym same) (were.renewed honest);
} where
  m : Numbers
  m = numbers_of old.seen.numbers

  n : Numbers
  n = numbers_of new.seen.numbers

  adds : AddsBlock d b (listed old.newest) (listed new.newest)
  adds = adds_back d a b (listed old.newest) (listed new.newest) only there

  raises : d.honest ≡ true → RaisesBy d.flash b (numbers_of old.seen.numbers) (numbers_of new.seen.numbers)
  raises = back_honest (λ g flash. RaisesBy flash b (numbers_of old.seen.numbers) (numbers_of new.seen.numbers)) d a only raised

-- ---- those up to the first erased page were

-- what a read adds is the same of the device before other reads
written_back : (d a : Device) (b : ℕ) (old new : List PageCopy) → OnlyReads d a → AddsWritten a b old new → AddsWritten d b old new
written_back d a b old new only adds = record {
  pages = adds.pages;
  placed = λ f has. let is = adds.placed f has in (is.0, omega (arith, is.1, ap (λ (g : Geometry). g.pages) only.lasts.geometry));
  held = back_honest (λ g flash. flash.bad b ≡ false → (f : Found) → Contains adds.pages f → Holds flash f.tag.object f.tag.chunk (spot_of f)) d a only adds.held;
  covers = back_honest (λ g flash. (f : Found) → f.block ≡ b → Holds flash f.tag.object f.tag.chunk (spot_of f) → IsWrittenUpTo flash b f.page → Contains adds.pages f) d a only adds.covers;
  thins = adds.thins;
}

pub rest_older :
    (d a : Device) (b : ℕ) (done : List Bool) (first : FirstPage) (summarized : Bool) (old new : Rest) → OnlyReads d a → IsNextBlock d b done first summarized → IsOlderThan old.renewed first
    → AddsWritten a b (listed old.newest) (listed new.newest) → (a.honest ≡ true → RaisesWithin a.flash b (numbers_of old.seen.numbers) (numbers_of new.seen.numbers)) → new.erased ≡ old.erased → new.renewed ≡ old.renewed
    → IsRestBelow d done b old → IsRestBelow d done (b + 1) new
rest_older d a b done first summarized old new only next older there raised erased same were = record {
  below = record {
    known = known_added d b adds.pages (listed old.newest) (listed new.newest) next.block adds.placed (λ honest. adds.held honest (begins honest).1.0) adds.thins were.below.known;
    scanned = λ honest k lt good. elim (cases_eq k b) [
      | inr ne ↦ scanned_on d.geometry d.flash k adds.pages (listed old.newest) (listed new.newest) m n adds.thins (raises honest).keeps (were.below.scanned honest k (omega (arith, lt, ne)) good)
      | inl here ↦ subst (λ j. IsScanned d.geometry d.flash j (listed new.newest) n) (sym here) (inr (inr (inr (record { pages = covers honest; older = is_older honest }))))
    ];
    above = λ honest k t lt begun. at_most_on (numbers_in t) m n (were.below.above honest k t lt begun) (raises honest).keeps;
    least = λ honest k above.
        let good = (begins honest).1.0 in
        (raises honest).least good k (were.below.least honest k above) (λ l t has. let is = above b l t good has in record { version = is.0; group = is.1; seq = is.2 });
  };
  summarized = λ honest k at. summarized_on d.geometry d.flash k adds.pages (listed old.newest) (listed new.newest) adds.thins (were.summarized honest k at);
  erased = λ honest is. let j = were.erased honest (sym erased ∙ is) in (j.0, let lt = j.1 in omega (arith, lt), j.2);
  renewed = λ honest. subst (λ seq. seq ≢ 0 → BeginsRenewed d.flash seq) (sym same) (were.renewed honest);
} where
  m : Numbers
  m = numbers_of old.seen.numbers

  n : Numbers
  n = numbers_of new.seen.numbers

  adds : AddsWritten d b (listed old.newest) (listed new.newest)
  adds = written_back d a b (listed old.newest) (listed new.newest) only there

  raises : d.honest ≡ true → RaisesWithin d.flash b (numbers_of old.seen.numbers) (numbers_of new.seen.numbers)
  raises = back_honest (λ g flash. RaisesWithin flash b (numbers_of old.seen.numbers) (numbers_of new.seen.numbers)) d a only raised

  begins : d.honest ≡ true → (t : Tag) × BeginsWithTag d.flash b t × (t.seq < old.renewed)
  begins honest = older_begins d.flash b old.renewed first (next.first_page honest) older

  is_older : d.honest ≡ true → IsOlder d.flash b
  is_older honest =
      let (t, begun, less) = begins honest in
      let (k, u, other, own, seq) = were.renewed honest (λ none. omega (arith, none, less)) in
      (t, begun, k, u, other, own, omega (arith, seq, less))

  covers : d.honest ≡ true → (s : Spot) → s.block ≡ b → s.tag.chunk < 2 ^ 32 → Holds d.flash s.tag.object s.tag.chunk s → IsWrittenUpTo d.flash b s.page → HasAsNew (listed new.newest) s
  covers honest s here low holds up_to =
      let has = adds.covers honest (found_of s) here holds up_to in
      let at = adds.placed (found_of s) has in
      let lt = next.block in
      as_new_added adds.pages (listed old.newest) (listed new.newest) (found_of s) adds.thins has
      (place_fits d.geometry (found_of s) low (omega (arith, at.0, lt)) at.1 (held_named d.flash s.tag.object s.tag.chunk s holds))

-- ---- they were not

-- why not
not_left : (flash : Flash) (b : ℕ) (first : FirstPage) (summarized erased : Bool) → IsFirstPage flash b first → flash.bad b ≡ false → (IsLeft first summarized erased → ⊥)
    → (summarized ≡ true) ⊎ (BeginsErased flash b × (erased ≡ true))
not_left flash b first true erased is good not = inl refl
not_left flash b firsts.Bad false erased is good not = absurd (false≢true (sym good ∙ is))
not_left flash b firsts.Erased false true is good not = inr (is, refl)
not_left flash b firsts.Erased false false is good not = absurd (not (record { good = λ same. absurd cc; other = refl; written = λ same. refl }))
not_left flash b firsts.Untagged false erased is good not = absurd (not (record { good = λ same. absurd cc; other = refl; written = λ same. absurd cc }))
not_left flash b (firsts.Tagged seq) false erased is good not = absurd (not (record { good = λ same. absurd cc; other = refl; written = λ same. absurd cc }))
not_left flash b (firsts.Summary count number seq) false erased is good not = absurd (not (record { good = λ same. absurd cc; other = refl; written = λ same. absurd cc }))

pub rest_skip : (d : Device) (b : ℕ) (done : List Bool) (first : FirstPage) (summarized : Bool) (rest : Rest) → (IsLeft first summarized rest.erased → ⊥) → IsNextBlock d b done first summarized → IsRestBelow d done b rest
    → IsRestBelow d done (b + 1) rest
rest_skip d b done first summarized rest not next were = record {
  below = record {
    known = were.below.known;
    scanned = λ honest k lt good. elim (cases_eq k b) [
      | inr ne ↦ were.below.scanned honest k (omega (arith, lt, ne)) good
      | inl here ↦ subst (λ j. IsScanned d.geometry d.flash j (listed rest.newest) (numbers_of rest.seen.numbers)) (sym here) (elim (not_left d.flash b first summarized rest.erased (next.first_page honest) (ap d.flash.bad (sym here) ∙ good) not) [
        | inl is ↦ inr (inl (were.summarized honest b (next.noted ∙ ap Some is)))
        | inr (is, before) ↦ let j = were.erased honest before in inr (inr (inl (record { erased = is; other = j.0; before = j.1; first = j.2 })))
      ])
    ];
    above = were.below.above;
    least = were.below.least;
  };
  summarized = were.summarized;
  erased = λ honest is. let j = were.erased honest is in (j.0, let lt = j.1 in omega (arith, lt), j.2);
  renewed = were.renewed;
}

-- ---- the first block

pub rest_none : (d : Device) (first : FirstPages) (summarized : SummaryPages) (rest : Rest) → rest.newest ≡ summarized.newest → rest.seen.numbers ≡ first.numbers → rest.erased ≡ false → rest.renewed ≡ first.renewed
    → FirstPagesBelow d d.geometry.blocks first → AreSummaryPages d summarized → IsRestBelow d summarized.done.items 0 rest
rest_none d first summarized rest newest numbers erased same firsts is = record {
  below = record {
    known = subst (λ pages. HasKnown d (listed pages)) (sym newest) is.known;
    scanned = λ honest k lt. absurd (omega (arith, lt));
    above = λ honest. subst (λ n. AreAboveFirsts d.flash d.geometry.blocks (numbers_of n)) (sym numbers) (firsts.above honest);
    least = λ honest. subst (λ n. AreNoneAbove d.flash (numbers_of n)) (sym numbers) (firsts.least honest);
  };
  summarized = λ honest. subst (λ pages. AreSummarized d.geometry d.flash summarized.done.items (listed pages)) (sym newest) (is.blocks honest);
  erased = λ honest was. absurd (false≢true (sym erased ∙ was));
  renewed = λ honest. subst (λ seq. seq ≢ 0 → BeginsRenewed d.flash seq) (sym same) (firsts.renewed honest);
}

-- ---- the pages of a block at most

at_most_pages : (bad : Bool) (pages : ℕ) → (if bad then 0 else pages) ≤ pages
at_most_pages true pages = omega arith
at_most_pages false pages = omega arith

pub each_at_most : {T : Type 0} (bad : Bool) (pages : ℕ) (a b : Device) (result : Result T ScanFault) → ReadsEach (if bad then 0 else pages) a b result → ReadsAtMost pages a b result
each_at_most bad pages a b result read = record { only = read.only; most = omega (arith, read.most, at_most_pages bad pages); gone = read.gone }
