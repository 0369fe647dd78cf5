-- What keeps the summaries of a flash right.
use Rattle.std.specs.Prelude.{◌≡◌, ◌≢◌, ◌⊎◌, ◌<◌, ◌≤◌, ℕ, ◌+◌, true, false, Contains, Result}
use Rattle.std.proofs.Common.{refl, sym, ◌∙◌, ap, subst, inl, inr, arith}
use Rattle.std.proofs.lemmas.Bool.{cases_eq, cases_lt}
use Rattle.nand_model.specs.Flash.{Flash, IsWithin, Page, Erased, Written, Uncorrectable}
use Rattle.nand_model.specs.Calls.{Device, Marks}
use Rattle.nand_model.specs.Changes.{Grows, Shrinks}
use Rattle.nand_model.specs.declared.geometry.Geometry.{Geometry}
use Rattle.nand_model.specs.declared.nand.Gone.{Gone}
use Rattle.page_tags.specs.declared.tag.Tag.{Tag}
use Rattle.page_tags.specs.Tags.{tag_bytes}
use Rattle.page_tags.specs.declared.check.CheckEntry.{CheckEntry}
use Rattle.flash_tree.specs.Checkpoints.{Checkpoint, check_group, check_tag, AddsOrdinary, AddsCheckpoint}
use Rattle.flash_tree.specs.Fading.{Fades}
use Rattle.flash_tree.specs.Groups.{HasTag, Group, IsPart, IsGroup}
use Rattle.flash_tree.specs.Keeping.{Loses}
use Rattle.flash_tree.specs.Newest.{Holds}
use Rattle.flash_tree.specs.Summaries.{summary_chunk, Summary, summary_group, summary_tag, IsWholeSummary, MatchesBlock, AreTagsOrdered, AreSummariesRight, IsSummarized}
use Rattle.flash_tree.specs.ErasedBlocks.{BeginsErased, OnlyFirstHasTags, GoesFirst}
use Rattle.flash_tree.specs.Summarizing.{HasNoTags, WritesIn, AddsNoSummary, ListsBlock, AddsSummary}
use Rattle.flash_tree.specs.laws.Checking.{first_tag as checkpoint_tag}
use Rattle.flash_tree.specs.laws.Fading.{loses_fading, fades_erase, fades_mark, written_before, good_before}
use Rattle.flash_tree.specs.laws.Newest.{one_tag, tag_stays, tag_grows, has_before}
use Rattle.flash_tree.specs.laws.SameSummary.{first_tag, group_whole, same_summary}

-- a page is erased or not
erased_or : (p : Page) → (p ≡ Erased) ⊎ (p ≢ Erased)
erased_or Erased = inl refl
erased_or (Written bytes tag) = inr (λ is. cc)
erased_or Uncorrectable = inr (λ is. cc)

-- what is erased afterwards was so before
pub erased_before : (old new : Flash) → Grows old new → (b p : ℕ) → new.page b p ≡ Erased → old.page b p ≡ Erased
erased_before old new grows b p is = elim (erased_or (old.page b p)) [
  | inl was ↦ was
  | inr other ↦ absurd (other (sym (grows b p other) ∙ is))
]

-- where pages and marks are the same, whatever comes next in each block, none is lost
pub fades_same : (old new : Flash) → new.bad ≡ old.bad → new.page ≡ old.page → Fades 0 old new
fades_same old new bad page = record {
  good = λ is. ap (λ f. f 0) (sym bad) ∙ is;
  pages = λ l bytes tag is. ap (λ f. f 0 l) (sym page) ∙ is;
  other_marks = λ k ne. ap (λ f. f k) bad;
  other_pages = λ k l ne. ap (λ f. f k l) page;
}

module _ (g : Geometry) where
  -- ---- a block fades

  module _ (b : ℕ) (old new : Flash) (fades : Fades b old new) where
    abbrev loses : Loses b old new
    loses = loses_fading b old new fades

    pub whole_before : (s : Summary) → IsWholeSummary g new s → IsWholeSummary g old s
    whole_before s whole = record {
      good = good_before b old new fades s.block whole.good;
      form = whole.form;
      pages = λ i lt. (written_before b old new fades s.block (0 + i) _ _ (whole.pages i lt).0, (whole.pages i lt).1);
    }

    pub matches_before : (s : Summary) → MatchesBlock new s → MatchesBlock old s
    matches_before s matches = record {
      good = good_before b old new fades s.head.block matches.good;
      tag = matches.tag;
      has = has_before b old new loses s.head.block 0 matches.tag matches.has;
      seq = matches.seq;
    }

    ordered_faded : AreTagsOrdered old → AreTagsOrdered new
    ordered_faded were = record {
      one = λ k l m t u good has has'. were.one k l m t u (good_before b old new fades k good) (has_before b old new loses k l t has) (has_before b old new loses k m u has');
      rise = λ k n l m t u good good' has has'.
          were.rise k n l m t u (good_before b old new fades k good) (good_before b old new fades n good') (has_before b old new loses k l t has) (has_before b old new loses n m u has');
    }

    -- the summaries are right still
    pub right_faded : AreSummariesRight g old → AreSummariesRight g new
    right_faded right = record {
      older = λ s whole. right.older s (whole_before s whole);
      versions = λ s e whole. right.versions s e (whole_before s whole);
      below = λ s l t whole matches has. right.below s l t (whole_before s whole) (matches_before s matches) (has_before b old new loses s.head.block l t has);
      ordered = ordered_faded right.ordered;
    }

    -- where it is the first that may be torn, no other becomes so
    first_faded : GoesFirst old b → IsSummarized g old → IsSummarized g new
    first_faded goes was = record {
      right = right_faded was.right;
      first = λ a k l t lt begins begins' has. elim (cases_eq k b) [
        | inr ne ↦ (goes k ne (begun_before k ne begins')).1 l t (has_before b old new loses k l t has)
        | inl e ↦ let ne : a ≢ b = λ same. absurd (omega (arith, lt, e, same)) in
            let less = (goes a ne (begun_before a ne begins)).0 in
            absurd (omega (arith, lt, e, less))
      ];
    } where
      begun_before : (k : ℕ) → k ≢ b → BeginsErased new k → BeginsErased old k
      begun_before k ne begins = (sym (fades.other_marks k ne) ∙ begins.0, sym (fades.other_pages k 0 ne) ∙ begins.1)

    -- where no page is other, no block begins erased that did not
    pages_committed : ((k l : ℕ) → new.page k l ≡ old.page k l) → IsSummarized g old → IsSummarized g new
    pages_committed same was = record {
      right = right_faded was.right;
      first = λ a k l t lt begins begins' has. was.first a k l t lt (begun_before a begins) (begun_before k begins') (has_before b old new loses k l t has);
    } where
      begun_before : (k : ℕ) → BeginsErased new k → BeginsErased old k
      begun_before k begins = (good_before b old new fades k begins.0, sym (same k 0) ∙ begins.1)

  pub summarized_erase : (b : ℕ) (old new : Flash) → Shrinks b old new → GoesFirst old b → IsSummarized g old → IsSummarized g new
  summarized_erase b old new shrinks = first_faded b old new (fades_erase b old new shrinks)

  pub summarized_mark : (b : ℕ) (old new : Device) (result : Result (Unit {0}) Gone) → old.honest ≡ true → Marks b old new result → IsSummarized g old.flash → IsSummarized g new.flash
  summarized_mark b old new result honest marks =
      pages_committed b old.flash new.flash (fades_mark b old new result honest marks) (λ k l. ap (λ f. f k l) (marks.page honest))

  pub summarized_same : (old new : Flash) → new.bad ≡ old.bad → new.page ≡ old.page → IsSummarized g old → IsSummarized g new
  summarized_same old new bad page = pages_committed 0 old new (fades_same old new bad page) (λ k l. ap (λ f. f k l) page)

  -- ---- nothing is written

  pub summarized_blank : (flash : Flash) → HasNoTags flash → IsSummarized g flash
  summarized_blank flash none = record {
    right = record {
      older = λ s whole. absurd (no_summary s whole);
      versions = λ s e whole. absurd (no_summary s whole);
      below = λ s l t whole. absurd (no_summary s whole);
      ordered = record {
        one = λ b l m t u good has. absurd (none b l t good has);
        rise = λ b k l m t u good good' has. absurd (none b l t good has);
      };
    };
    first = λ a k l t lt begins begins' has. none k l t begins'.0 has;
  } where
    no_summary : (s : Summary) → IsWholeSummary g flash s → ⊥
    no_summary s whole = none s.block 0 (summary_tag s 0) whole.good (first_tag g flash s whole)

-- ---- which block is erased first

pub lowest_first : (blocks : ℕ) (flash : Flash) (b : ℕ) → b < blocks → BeginsErased flash b → ((k : ℕ) → k < blocks → BeginsErased flash k → b ≤ k)
    → OnlyFirstHasTags flash → GoesFirst flash b
lowest_first blocks flash b here begins least only k ne begins' =
    let lt : b < k = elim (cases_lt k blocks) [
      | inl within ↦ let le = least k within begins' in omega (arith, le, ne)
      | inr past ↦ omega (arith, here, past)
    ] in
    (lt, λ l t has. only b k l t lt begins begins' has)

pub lone_first : (pages blocks : ℕ) (flash : Flash) (b : ℕ) → IsWithin pages blocks flash → b < blocks
    → ((k : ℕ) → k < blocks → BeginsErased flash k → k ≡ b) → GoesFirst flash b
lone_first pages blocks flash b all_within here alone k ne begins = elim (cases_lt k blocks) [
  | inl within ↦ absurd (ne (alone k within begins))
  | inr past ↦ (omega (arith, here, past), λ l t has. let two : Erased ≡ Written has.bytes (tag_bytes t) = sym (all_within.block k l past) ∙ has.page in absurd cc)
]

-- ---- a block is written

-- what a whole summary has to be for a flash to be right
record IsRightOne (flash : Flash) (s : Summary) : Type 0 where
  older : s.head.seq < s.seq
  versions : (e : CheckEntry) → Contains s.entries e → e.version < s.number
  below : (l : ℕ) (t : Tag) → MatchesBlock flash s → HasTag flash s.head.block l t → (t.group < s.number) × (t.seq < s.seq)

right_of : (g : Geometry) (flash : Flash) → AreTagsOrdered flash → ((s : Summary) → IsWholeSummary g flash s → IsRightOne flash s) → AreSummariesRight g flash
right_of g flash ordered each = record {
  older = λ s whole. (each s whole).older;
  versions = λ s e whole. (each s whole).versions e;
  below = λ s l t whole. (each s whole).below l t;
  ordered = ordered;
}

module _ (o number seq : ℕ) (old new : Flash) (writes : WritesIn o number seq old new) where
  pub tag_elsewhere : (k l : ℕ) (t : Tag) → k ≢ o → HasTag new k l t → HasTag old k l t
  tag_elsewhere k l t ne has = tag_stays new old k l t (sym (writes.elsewhere k l ne)) has

  pub good_stays : (k : ℕ) → new.bad k ≡ false → old.bad k ≡ false
  good_stays k is = ap (λ f. f k) (sym writes.bads) ∙ is

  -- a tag of another block has a lower number of its group, and no greater seq
  below_written : (k l : ℕ) (t : Tag) → k ≢ o → new.bad k ≡ false → HasTag new k l t → (t.group < number) × (t.seq ≤ seq)
  below_written k l t ne good has =
      let less = writes.below k l t (good_stays k good) (tag_elsewhere k l t ne has) in
      (less.1, omega (arith, less))

  -- the numbers of tags rise still
  pub ordered_written : AreTagsOrdered old → AreTagsOrdered new
  ordered_written were = record { one = one; rise = rise } where
    one : (b l m : ℕ) (t u : Tag) → new.bad b ≡ false → HasTag new b l t → HasTag new b m u → t.seq ≡ u.seq
    one b l m t u good has has' = elim (cases_eq b o) [
      | inl e ↦ writes.own l t (subst (λ n. HasTag new n l t) e has) ∙ sym (writes.own m u (subst (λ n. HasTag new n m u) e has'))
      | inr ne ↦ were.one b l m t u (good_stays b good) (tag_elsewhere b l t ne has) (tag_elsewhere b m u ne has')
    ]

    rise : (b k l m : ℕ) (t u : Tag) → new.bad b ≡ false → new.bad k ≡ false → HasTag new b l t → HasTag new k m u → t.seq < u.seq → t.group < u.group
    rise b k l m t u good good' has has' less = elim (cases_eq b o) [
      | inl e ↦
          let own = writes.own l t (subst (λ n. HasTag new n l t) e has) in
          elim (cases_eq k o) [
            | inl same ↦ let own' = writes.own m u (subst (λ n. HasTag new n m u) same has') in absurd (omega (arith, own, own', less))
            | inr ne ↦ let most = (below_written k m u ne good' has').1 in absurd (omega (arith, own, most, less))
          ]
      | inr ne ↦
          let was = tag_elsewhere b l t ne has in
          elim (cases_eq k o) [
            | inr other ↦ were.rise b k l m t u (good_stays b good) (good_stays k good') was (tag_elsewhere k m u other has') less
            | inl same ↦ elim (writes.named m u (subst (λ n. HasTag new n m u) same has')) [
              | inl before ↦ were.rise b o l m t u (good_stays b good) (subst (λ n. old.bad n ≡ false) same (good_stays k good')) was before less
              | inr number_is ↦ let below = (below_written b l t ne good has).0 in omega (arith, below, number_is)
            ]
          ]
    ]

  -- of the blocks that begin with an erased page the first alone has tags
  first_written : OnlyFirstHasTags old → OnlyFirstHasTags new
  first_written only a k l t lt begins begins' has = elim (cases_eq k o) [
    | inl e ↦ absurd (writes.begun l t (subst (λ n. HasTag new n l t) e has) (ap (λ n. new.page n 0) (sym e) ∙ begins'.1))
    | inr ne ↦ only a k l t lt (begun_before a begins) (begun_before k begins') (tag_elsewhere k l t ne has)
  ] where
    begun_before : (k : ℕ) → BeginsErased new k → BeginsErased old k
    begun_before k begins = (good_stays k begins.0, erased_before old new writes.grows k 0 begins.1)

  module _ (g : Geometry) where
    -- a summary whose group was valid before was whole
    pub whole_as : (s : Summary) → IsWholeSummary g new s → IsGroup old (summary_group s) → IsWholeSummary g old s
    whole_as s whole was = record {
      good = was.good;
      form = whole.form;
      pages = λ i lt.
          let part : IsPart old (summary_group s) i = was.each i lt in
          (sym (tag_grows old new writes.grows s.block (0 + i) part.tag part.has) ∙ (whole.pages i lt).0, (whole.pages i lt).1);
    }

    module _ (right : AreSummariesRight g old) (s : Summary) (was : IsWholeSummary g old s) where
      -- the block that is written was allocated after the one that the summary lists
      pub head_older : s.head.seq < seq
      head_older =
          let older = right.older s was in
          let less = (writes.below s.block 0 (summary_tag s 0) was.good (first_tag g old s was)).2 in
          omega (arith, older, less)

      pub number_less : s.number < number
      number_less = (writes.below s.block 0 (summary_tag s 0) was.good (first_tag g old s was)).1

      -- so it is not that one where the summary matches
      pub not_written : MatchesBlock new s → s.head.block ≢ o
      not_written matches e =
          let own = writes.own 0 matches.tag (subst (λ n. HasTag new n 0 matches.tag) e matches.has) in
          absurd (omega (arith, own, matches.seq, head_older))

      pub matches_as : MatchesBlock new s → MatchesBlock old s
      matches_as matches = record {
        good = good_stays s.head.block matches.good;
        tag = matches.tag;
        has = tag_elsewhere s.head.block 0 matches.tag (not_written matches) matches.has;
        seq = matches.seq;
      }

    -- a summary that was whole is right still
    stays_right : AreSummariesRight g old → (s : Summary) → IsWholeSummary g old s → IsRightOne new s
    stays_right right s was = record {
      older = right.older s was;
      versions = λ e. right.versions s e was;
      below = λ l t matches has. right.below s l t was (matches_as right s was matches) (tag_elsewhere s.head.block l t (not_written right s was matches) has);
    }

    -- a group that does not begin as a summary is none
    pub none_new : AddsNoSummary old new → (s : Summary) → IsWholeSummary g new s → IsWholeSummary g old s
    none_new (inl same) s whole = whole_as s whole ((same (summary_group s)).0 (group_whole g new s whole))
    none_new (inr (added, adds, other)) s whole = elim ((adds (summary_group s)).0 (group_whole g new s whole)) [
      | inl was ↦ whole_as s whole was
      | inr is ↦
          let block : s.block ≡ added.block = ap (λ (x : Group). x.block) is in
          let start : 0 ≡ added.start = ap (λ (x : Group). x.start) is in
          let has = subst (λ p. HasTag new added.block p (summary_tag s 0)) start (subst (λ k. HasTag new k 0 (summary_tag s 0)) block (first_tag g new s whole)) in
          absurd (other (summary_tag s 0) has (refl, refl, refl))
    ]

    pub right_none : AddsNoSummary old new → AreSummariesRight g old → AreSummariesRight g new
    right_none adds right = right_of g new (ordered_written right.ordered) (λ s whole. stays_right right s (none_new adds s whole))

    pub summarized_none : AddsNoSummary old new → IsSummarized g old → IsSummarized g new
    summarized_none adds was = record { right = right_none adds was.right; first = first_written was.first }

-- ---- the group of a summary

module _ (g : Geometry) (old new : Flash) (s : Summary) (added : AddsSummary g old new s) where
  abbrev writes : WritesIn s.block s.number s.seq old new
  writes = added.writes

  abbrev lists : ListsBlock old s
  lists = added.lists

  as_before : (d : Summary) → IsWholeSummary g new d → IsGroup old (summary_group d) → IsWholeSummary g old d
  as_before = whole_as s.block s.number s.seq old new writes g

  -- each whole summary was so before, or is the one that is added
  pub was_or_new : (d : Summary) → IsWholeSummary g new d → IsWholeSummary g old d ⊎ (d ≡ s)
  was_or_new d whole = elim added.groups [
    | inl same ↦ inl (as_before d whole ((same (summary_group d)).0 (group_whole g new d whole)))
    | inr (adds, it) ↦ elim ((adds (summary_group d)).0 (group_whole g new d whole)) [
      | inl was ↦ inl (as_before d whole was)
      | inr is ↦ inr (same_summary g new d s whole it (ap (λ (x : Group). x.block) is))
    ]
  ]

  -- it does not match the block that it lies in
  not_own : MatchesBlock new s → s.head.block ≢ s.block
  not_own matches e =
      let own = writes.own 0 matches.tag (subst (λ n. HasTag new n 0 matches.tag) e matches.has) in
      let older = lists.older in
      absurd (omega (arith, own, matches.seq, older))

  new_right : IsRightOne new s
  new_right = record {
    older = lists.older;
    versions = λ e listed.
        let of_page = lists.only e listed in
        let p = of_page.0 in
        let holds : Holds old e.object e.chunk p = of_page.1 in
        let less = (writes.below p.block p.page p.tag (ap old.bad holds.block ∙ holds.whole.good) holds.has).0 in
        let same : e.version ≡ p.tag.version = ap (λ (x : CheckEntry). x.version) of_page.3 in
        omega (arith, less, same);
    below = λ l t matches has.
        let was = tag_elsewhere s.block s.number s.seq old new writes s.head.block l t (not_own matches) has in
        let less = writes.below s.head.block l t (good_stays s.block s.number s.seq old new writes s.head.block matches.good) was in
        (less.1, let same = lists.seqs l t was in let older = lists.older in omega (arith, same, older));
  }

  pub right_summary : AreSummariesRight g old → AreSummariesRight g new
  right_summary right = right_of g new (ordered_written s.block s.number s.seq old new writes right.ordered) (λ d whole. elim (was_or_new d whole) [
    | inl was ↦ stays_right s.block s.number s.seq old new writes g right d was
    | inr is ↦ subst (IsRightOne new) (sym is) new_right
  ])

  pub summarized_summary : IsSummarized g old → IsSummarized g new
  summarized_summary was = record { right = right_summary was.right; first = first_written s.block s.number s.seq old new writes was.first }

-- ---- what adds no summary

pub ordinary_none : (old new : Flash) → AddsOrdinary old new → AddsNoSummary old new
ordinary_none old new adds = elim adds.groups [
  | inl same ↦ inl same
  | inr (x, is, other) ↦ inr (x, is, λ t has begins. other t has begins.0)
]

pub checkpoint_none : (g : Geometry) (old new : Flash) (c : Checkpoint) → AddsCheckpoint g old new c → AddsNoSummary old new
checkpoint_none g old new c adds = inr (
  check_group c,
  adds.adds,
  λ t has begins.
      let same : t ≡ check_tag c 0 = one_tag new c.block 0 t (check_tag c 0) has (checkpoint_tag g new c adds.whole) in
      let chunk : t.chunk ≡ 1 + 0 = ap (λ (u : Tag). u.chunk) same in
      let is : t.chunk ≡ summary_chunk = begins.1 in
      absurd (omega (arith, chunk, is)),
)
