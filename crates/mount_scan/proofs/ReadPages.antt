-- The pages of a candidate, read one after the other.
use mathlib.Core.Logic.{∥∥₁_elim}
use Rattle.std.specs.Prelude.{◌≡◌, ◌≢◌, ◌<◌, ◌≤◌, ℕ, ◌+◌, ◌*◌, ◌/◌, min, true, List, length, Option, Some, None, IfSome, IfNone}
use Rattle.std.proofs.Common.{refl, sym, ◌∙◌, ap, subst, inl, inr, arith}
use Rattle.std.proofs.lemmas.Bool.{cases_eq}
use Rattle.std.specs.Int.{div_ceil}
use Rattle.volume_terms.specs.Rounding.{ceiling}
use Rattle.volume_terms.specs.laws.Rounding.{ceiling_is, parts_reach}
use Rattle.nand_model.specs.Size.{IsSize}
use Rattle.nand_model.specs.Flash.{Flash, Written}
use Rattle.nand_model.specs.Calls.{Device}
use Rattle.nand_model.specs.Changes.{OnlyReads}
use Rattle.nand_model.specs.declared.geometry.Geometry.{Geometry}
use Rattle.page_tags.specs.declared.check.CheckEntry.{CheckEntry}
use Rattle.page_tags.specs.Tags.{tag_bytes, IsTag}
use Rattle.page_tags.specs.Checks.{check_page}
use Rattle.flash_tree.specs.Checkpoints.{IsWhole}
use Rattle.mount_scan.specs.CheckpointParts.{AreEntries, Takes, Refuses}
use Rattle.mount_scan.specs.CheckpointPages.{IsPageSize, entries_below, TakesFirst, RefusesFirst}
use Rattle.mount_scan.specs.FoundCheckpoint.{HasForm, IsWholeOn}
use Rattle.mount_scan.specs.CheckpointCandidates.{IsCandidate}
use Rattle.mount_scan.specs.CheckpointBlocks.{page_tag, begun, HasPage, HasBegun, IsNone, IsBegun, IsTagged}
use Rattle.mount_scan.specs.declared.checkpoint_candidate.Candidate.{Candidate}
use Rattle.mount_scan.proofs.CheckpointPages.{number_of_first}
use Rattle.mount_scan.proofs.ReadCount.{on_honest, back_honest}

-- a page of a device is parts of 32 bytes
pub page_size : (g : Geometry) → IsPageSize g.bytes
page_size g = record { least = g.least_bytes; most = g.most_bytes; parts = parts } where
  parts : 32 * (g.bytes / 32) ≡ g.bytes
  parts = elim (cases_eq (32 * (g.bytes / 32)) g.bytes) [
    | inl same ↦ same
    | inr ne ↦ absurd (∥∥₁_elim g.sizes (λ x y. absurd x) (λ (size : IsSize g.bytes g.pages g.blocks). elim size.bytes_of_page [
      | inl is ↦ ne (omega (arith, is))
      | inr (inl is) ↦ ne (omega (arith, is))
      | inr (inr (inl is)) ↦ ne (omega (arith, is))
      | inr (inr (inr is)) ↦ ne (omega (arith, is))
    ]))
  ]

-- and so is a buffer of that size
pub buffer_size : (g : Geometry) (page : List ℕ) → length page ≡ g.bytes → IsPageSize (length page)
buffer_size g page len = subst IsPageSize (sym len) (page_size g)

-- each page of the checkpoint has a valid tag
pub page_tag_valid : (c : Candidate) (i : ℕ) → IsTag c.tag → i < c.tag.count → IsTag (page_tag c.tag i)
page_tag_valid c i valid lt = record {
  count = valid.count;
  index = lt;
  object = omega arith;
  chunk = omega (arith, lt, valid.count);
  version = omega (arith, valid.version);
  group = valid.group;
  seq = valid.seq;
}

module _ (g : Geometry) (flash : Flash) (c : Candidate) where
  -- a whole checkpoint has each of its pages
  page_of_whole : (fs : List CheckEntry) → IsWhole g flash (begun c fs) → (i : ℕ) → i < c.tag.count → HasPage g flash c i fs
  page_of_whole fs whole i lt = let at : i ≡ 0 + i = omega arith in ap (flash.page c.block) at ∙ (whole.pages i lt).0

  -- a page that was read is that of a checkpoint exactly where its bytes are
  same_bytes : (page : List ℕ) (fs : List CheckEntry) (i : ℕ) → flash.page c.block i ≡ Written page (tag_bytes (page_tag c.tag i)) → HasPage g flash c i fs → page ≡ check_page g.bytes fs i
  same_bytes page fs i read has =
      let two : Written page (tag_bytes (page_tag c.tag i)) ≡ Written (check_page g.bytes fs i) (tag_bytes (page_tag c.tag i)) = sym read ∙ has in
      cc

  -- a checkpoint without such a page isn't whole
  pub none_tagged : (i : ℕ) → i < c.tag.count → ((bytes : List ℕ) → flash.page c.block i ≢ Written bytes (tag_bytes (page_tag c.tag i))) → (fs : List CheckEntry) → IsWhole g flash (begun c fs) → ⊥
  none_tagged i lt not fs whole = not (check_page g.bytes fs i) (page_of_whole fs whole i lt)

  module _ (page : List ℕ) (len : length page ≡ g.bytes) (i : ℕ) (lt : i < c.tag.count) (read : flash.page c.block i ≡ Written page (tag_bytes (page_tag c.tag i))) where
    here : (fs : List CheckEntry) → IsWhole g flash (begun c fs) → page ≡ check_page (length page) fs i
    here fs whole = same_bytes page fs i read (page_of_whole fs whole i lt) ∙ ap (λ d. check_page d fs i) (sym len)

    there : (fs : List CheckEntry) → page ≡ check_page (length page) fs i → HasPage g flash c i fs
    there fs is = read ∙ ap (λ (bytes : List ℕ). Written bytes (tag_bytes (page_tag c.tag i))) (is ∙ ap (λ d. check_page d fs i) len)

    -- a later page was taken
    pub pages_next : (n : ℕ) (old new : List CheckEntry) (r : ℕ) → HasBegun g flash c n i old → Takes n r (λ fs. page ≡ check_page (length page) fs i) old new → HasBegun g flash c n (i + 1) new
    pages_next n old new r were takes = record {
      pages = λ fs are begins j less.
          let is = (takes.exact fs are).0 begins in
          elim (cases_eq j i) [
            | inl at ↦ subst (λ k. HasPage g flash c k fs) (sym at) (there fs is.1)
            | inr ne ↦ were.pages fs are is.0 j (omega (arith, less, ne))
          ];
      among = λ fs whole. let was = were.among fs whole in (was.0, (takes.exact fs was.0).1 (was.1, here fs whole));
    }

    -- or refused
    pub none_next : (n : ℕ) (old : List CheckEntry) → HasBegun g flash c n i old → Refuses n (λ fs. page ≡ check_page (length page) fs i) old → (fs : List CheckEntry) → IsWhole g flash (begun c fs) → ⊥
    none_next n old were not fs whole = let was = were.among fs whole in not fs was.0 was.1 (here fs whole)

  module _ (page : List ℕ) (len : length page ≡ g.bytes) (valid : IsTag c.tag) (read : flash.page c.block 0 ≡ Written page (tag_bytes (page_tag c.tag 0))) where
    some : 0 < c.tag.count
    some = omega (arith, valid.count)

    sized : (fs : List CheckEntry) → IsWhole g flash (begun c fs) → c.tag.count ≡ ceiling (32 * (1 + length fs)) (length page)
    sized fs whole = whole.size ∙ ap (ceiling (32 * (1 + length fs))) (sym len)

    -- the first page was taken
    pub pages_first : (n : ℕ) (new : List CheckEntry) → TakesFirst n c.tag.count page new → HasBegun g flash c n 1 new
    pages_first n new takes = record {
      pages = λ fs are begins j less.
          let at : 0 ≡ j = omega (arith, less) in
          subst (λ k. HasPage g flash c k fs) at (there page len 0 some read fs ((takes.takes.exact fs are).0 begins).1);
      among = λ fs whole.
          let is = here page len 0 some read fs whole in
          let number : length fs ≡ n = number_of_first page (buffer_size g page len) n c.tag.count new valid.count.1 takes fs (sized fs whole) is in
          let are : AreEntries n fs = record { count = number; each = whole.entries; rise = whole.rise } in
          (are, (takes.takes.exact fs are).1 (λ k e at. absurd cc, is));
    }

    -- or refused
    pub none_first : RefusesFirst c.tag.count page → (fs : List CheckEntry) → IsWhole g flash (begun c fs) → ⊥
    none_first not fs whole = not fs (record { count = refl; each = whole.entries; rise = whole.rise }) (sized fs whole) (here page len 0 some read fs whole)

-- ---- of each device

-- a later page was taken
pub begun_next :
    (d : Device) (c : Candidate) (n i : ℕ) (page : List ℕ) (old new : List CheckEntry) → length page ≡ d.geometry.bytes → i < c.tag.count → (d.honest ≡ true → IsTagged d.flash c i page)
    → IsBegun d c n i old → Takes n (entries_below (length page) (i + 1)) (λ fs. page ≡ check_page (length page) fs i) old new → IsBegun d c n (i + 1) new
begun_next d c n i page old new len lt read were takes = record {
  size = were.size;
  so_far = subst (λ k. AreEntries (min n (entries_below k (i + 1))) new) len takes.so_far;
  pages = λ honest. pages_next d.geometry d.flash c page len i lt (read honest) n old new (entries_below (length page) (i + 1)) (were.pages honest) takes;
}

-- the first page was taken, if it was
pub if_begun :
    (found : Option ℕ) (d : Device) (c : Candidate) (page : List ℕ) (new : List CheckEntry) → length page ≡ d.geometry.bytes → IsTag c.tag → (d.honest ≡ true → IsTagged d.flash c 0 page)
    → IfSome found (λ n. TakesFirst n c.tag.count page new) → IfSome found (λ n. IsBegun d c n 1 new)
if_begun None d c page new len valid read is = is
if_begun (Some n) d c page new len valid read is = record {
  size = is.size ∙ ap (ceiling (32 * (1 + n))) len;
  so_far = subst (λ k. AreEntries (min n (entries_below k 1)) new) len is.takes.so_far;
  pages = λ honest. pages_first d.geometry d.flash c page len valid (read honest) n new is;
}

-- and none, where it was not
pub if_none :
    (found : Option ℕ) (d : Device) (c : Candidate) (page : List ℕ) → length page ≡ d.geometry.bytes → IsTag c.tag
    → (d.honest ≡ true → d.flash.page c.block 0 ≡ Written page (tag_bytes (page_tag c.tag 0))) → IfNone found (RefusesFirst c.tag.count page) → IfNone found (IsNone d c)
if_none None d c page len valid read is = λ honest. none_first d.geometry d.flash c page len valid (read honest) is
if_none (Some n) d c page len valid read is = is

-- ---- after some reads

pub candidate_on : (a b : Device) (c : Candidate) → OnlyReads a b → IsCandidate a c → IsCandidate b c
candidate_on a b c reads is = record {
  block = omega (arith, is.block, ap (λ (x : Geometry). x.blocks) reads.lasts.geometry);
  good = ap (λ f. f c.block) reads.bad ∙ is.good;
  tag = is.tag;
}

pub begun_on : (a b : Device) (c : Candidate) (n i : ℕ) (es : List CheckEntry) → OnlyReads a b → IsBegun a c n i es → IsBegun b c n i es
begun_on a b c n i es reads is =
    let bytes : a.geometry.bytes ≡ b.geometry.bytes = ap (λ (x : Geometry). x.bytes) (sym reads.lasts.geometry) in
    record {
      size = is.size ∙ ap (ceiling (32 * (1 + n))) bytes;
      so_far = subst (λ k. AreEntries (min n (entries_below k i)) es) bytes is.so_far;
      pages = on_honest (λ g flash. HasBegun g flash c n i es) a b reads is.pages;
    }

pub begun_back : (a b : Device) (c : Candidate) (n i : ℕ) (es : List CheckEntry) → OnlyReads a b → IsBegun b c n i es → IsBegun a c n i es
begun_back a b c n i es reads is =
    let bytes : b.geometry.bytes ≡ a.geometry.bytes = ap (λ (x : Geometry). x.bytes) reads.lasts.geometry in
    record {
      size = is.size ∙ ap (ceiling (32 * (1 + n))) bytes;
      so_far = subst (λ k. AreEntries (min n (entries_below k i)) es) bytes is.so_far;
      pages = back_honest (λ g flash. HasBegun g flash c n i es) a b reads is.pages;
    }

pub none_back : (a b : Device) (c : Candidate) → OnlyReads a b → IsNone b c → IsNone a c
none_back a b c reads is = back_honest (λ g flash. (es : List CheckEntry) → IsWhole g flash (begun c es) → ⊥) a b reads is

-- ---- all pages were read

-- n entries have room behind the head in the pages that they take
room_for : (n d count : ℕ) → IsPageSize d → count ≡ ceiling (32 * (1 + n)) d → 1 + n ≤ count * (d / 32)
room_for n d count size is =
    let up : div_ceil (32 * (1 + n)) d ≡ ceiling (32 * (1 + n)) d = ceiling_is (32 * (1 + n)) d (omega (arith, size.least)) in
    let reach : 32 * (1 + n) ≤ count * d = parts_reach (32 * (1 + n)) d count (omega (arith, size.least)) (omega (arith, up, is)) in
    let all : count * (32 * (d / 32)) ≡ count * d = ap (λ k. count * k) size.parts in
    let turn : count * (32 * (d / 32)) ≡ 32 * (count * (d / 32)) = grind arith in
    omega (arith, reach, all, turn)

-- so they are all there once all pages were taken
all_taken : (d : Device) (c : Candidate) (n : ℕ) (es : List CheckEntry) → IsBegun d c n c.tag.count es → AreEntries n es
all_taken d c n es is =
    let room = room_for n d.geometry.bytes c.tag.count (page_size d.geometry) is.size in
    let all : min n (entries_below d.geometry.bytes c.tag.count) ≡ n = omega (arith, room) in
    subst (λ k. AreEntries k es) all is.so_far

pub form_all : (d : Device) (c : Candidate) (n : ℕ) (es : List CheckEntry) → IsCandidate d c → c.tag.count ≤ d.geometry.pages → IsBegun d c n c.tag.count es → HasForm d (begun c es)
form_all d c n es candidate within_limit is =
    let are = all_taken d c n es is in
    record {
      block = candidate.block;
      good = candidate.good;
      room = within_limit;
      tag = page_tag_valid c 0 candidate.tag (omega (arith, candidate.tag.count));
      size = is.size ∙ ap (λ k. ceiling (32 * (1 + k)) d.geometry.bytes) (sym are.count);
      entries = are.each;
      rise = are.rise;
    }

pub whole_all : (d : Device) (c : Candidate) (n : ℕ) (es : List CheckEntry) → IsCandidate d c → IsBegun d c n c.tag.count es → IsWholeOn d (begun c es)
whole_all d c n es candidate is honest =
    let are = all_taken d c n es is in
    record {
      good = candidate.good;
      size = is.size ∙ ap (λ k. ceiling (32 * (1 + k)) d.geometry.bytes) (sym are.count);
      pages = λ i lt. (let at : 0 + i ≡ i = omega arith in ap (d.flash.page c.block) at ∙ (is.pages honest).pages es are (λ k e has. has) i lt, page_tag_valid c i candidate.tag lt);
      entries = are.each;
      rise = are.rise;
    }
