-- What keeps the newest pages.
use Rattle.std.specs.Prelude.{◌≡◌, ◌≢◌, ℕ, List, true, false, Result, Ok, Err}
use Rattle.std.proofs.Common.{sym, ◌∙◌, ap, subst, inl, inr, arith}
use Rattle.std.proofs.lemmas.Bool.{cases_eq, cases_order}
use Rattle.nand_model.specs.Flash.{Flash, Erased, Written, Uncorrectable}
use Rattle.nand_model.specs.Calls.{Device, Marks, MarkLeaves}
use Rattle.nand_model.specs.Changes.{Grows, Shrinks, OnlyReads}
use Rattle.nand_model.specs.declared.nand.Gone.{Gone}
use Rattle.page_tags.specs.declared.tag.Tag.{Tag}
use Rattle.page_tags.specs.Tags.{tag_bytes}
use Rattle.page_tags.specs.laws.Tag.{same_tag}
use Rattle.flash_tree.specs.Groups.{HasTag, Group, IsPart, IsGroup, IsCounted, SameGroups}
use Rattle.flash_tree.specs.Newest.{Spot, Holds, IsAfter, IsNewest, IsNewestWith, HasNewest, Numbers, AreGreatest}
use Rattle.flash_tree.specs.Keeping.{StaysNewest, KeepsNewest, KeepsElsewhere, Loses}

-- of two places one comes after the other, or they are at one place with equal order
pub one_is_after : (s t : Spot) → (IsAfter s t → ⊥) → (IsAfter t s → ⊥) → (s.block ≡ t.block) × (s.page ≡ t.page)
one_is_after s t f g = elim (cases_order s.tag.version t.tag.version) [
  | inr o ↦ elim o [ inl lt ↦ absurd (g (inl lt)) | inr gt ↦ absurd (f (inl gt)) ]
  | inl v ↦ elim (cases_order s.tag.seq t.tag.seq) [
    | inr o ↦ elim o [ inl lt ↦ absurd (g (inr (sym v, inl lt))) | inr gt ↦ absurd (f (inr (v, inl gt))) ]
    | inl q ↦ elim (cases_order s.page t.page) [
      | inr o ↦ elim o [ inl lt ↦ absurd (g (inr (sym v, inr (sym q, inl lt)))) | inr gt ↦ absurd (f (inr (v, inr (q, inl gt)))) ]
      | inl p ↦ elim (cases_order s.block t.block) [
        | inr o ↦ elim o [ inl lt ↦ absurd (g (inr (sym v, inr (sym q, inr (sym p, lt))))) | inr gt ↦ absurd (f (inr (v, inr (q, inr (p, gt))))) ]
        | inl b ↦ (b, p)
      ]
    ]
  ]
]

-- a page has one tag
pub one_tag : (f : Flash) (b p : ℕ) (t u : Tag) → HasTag f b p t → HasTag f b p u → t ≡ u
one_tag f b p t u x y =
    let pages : Written x.bytes (tag_bytes t) ≡ Written y.bytes (tag_bytes u) = sym x.page ∙ y.page in
    let tags : tag_bytes t ≡ tag_bytes u = cc in
    same_tag t u x.valid y.valid tags

-- a key has one newest page
pub one_spot : (f : Flash) (o c : ℕ) (s t : Spot) → IsNewest f o c s → IsNewest f o c t → s ≡ t
one_spot f o c s t a b =
    let at = one_is_after s t (λ after. b.last s a.holds after) (λ after. a.last t b.holds after) in
    let block : s.block ≡ t.block = at.0 in
    let page : s.page ≡ t.page = at.1 in
    let here : HasTag f t.block t.page s.tag = subst (λ n. HasTag f n t.page s.tag) block (subst (λ n. HasTag f s.block n s.tag) page a.holds.has) in
    let tag : s.tag ≡ t.tag = one_tag f t.block t.page s.tag t.tag here b.holds.has in
    λ i. record { block = block i; page = page i; tag = tag i }

-- and so one data
pub one_newest : (f : Flash) (o c : ℕ) (xs ys : List ℕ) → HasNewest f o c xs → HasNewest f o c ys → xs ≡ ys
one_newest f o c xs ys a b =
    let at = one_spot f o c a.spot b.spot a.newest b.newest in
    let pages : Written xs (tag_bytes a.spot.tag) ≡ Written ys (tag_bytes b.spot.tag) = sym a.stored ∙ ap (λ (s : Spot). f.page s.block s.page) at ∙ b.stored in
    cc

-- a tag stays with its page
pub tag_stays : (old new : Flash) (b p : ℕ) (t : Tag) → new.page b p ≡ old.page b p → HasTag old b p t → HasTag new b p t
tag_stays old new b p t same has = record { bytes = has.bytes; page = same ∙ has.page; valid = has.valid }

-- a page with a tag isn't erased
pub tag_grows : (old new : Flash) → Grows old new → (b p : ℕ) (t : Tag) → HasTag old b p t → new.page b p ≡ old.page b p
tag_grows old new grows b p t has = grows b p (λ is. let two : Erased ≡ Written has.bytes (tag_bytes t) = sym is ∙ has.page in absurd cc)

-- what counts goes on to count where its group is whole and its tag is there
pub holds_with : (old new : Flash) (o c : ℕ) (t : Spot) (h : Holds old o c t) → IsGroup new h.group → HasTag new t.block t.page t.tag → Holds new o c t
holds_with old new o c t h whole has = record {
  group = h.group;
  whole = whole;
  index = h.index;
  within = h.within;
  block = h.block;
  page = h.page;
  has = has;
  object = h.object;
  chunk = h.chunk;
}

-- a page that counts, of a group that was whole before, is as it was where no page but erased ones changed
pub held_page : (old new : Flash) → Grows old new → (o c : ℕ) (t : Spot) (h : Holds new o c t) → IsGroup old h.group → new.page t.block t.page ≡ old.page t.block t.page
held_page old new grows o c t h was =
    let part : IsPart old h.group h.index = was.each h.index h.within in
    ap (λ k. new.page k t.page) h.block ∙ ap (new.page h.group.block) h.page ∙ tag_grows old new grows _ _ _ part.has
    ∙ ap (old.page h.group.block) (sym h.page) ∙ ap (λ k. old.page k t.page) (sym h.block)

-- and so it was valid before
pub held_before : (old new : Flash) → Grows old new → (o c : ℕ) (t : Spot) (h : Holds new o c t) → IsGroup old h.group → Holds old o c t
held_before old new grows o c t h was =
    holds_with new old o c t h was (tag_stays new old _ _ _ (sym (held_page old new grows o c t h was)) h.has)

-- Where nothing more counts for a key, its newest page stays so if its group is whole and the page as it was.
pub stays_of_fewer : (old new : Flash) (o c : ℕ) (s : Spot) (newest : IsNewest old o c s) → ((t : Spot) → Holds new o c t → Holds old o c t)
    → IsGroup new newest.holds.group → new.page s.block s.page ≡ old.page s.block s.page → StaysNewest old new o c s
stays_of_fewer old new o c s newest fewer whole same = record {
  newest = record {
    holds = holds_with old new o c s newest.holds whole (tag_stays old new _ _ _ same newest.holds.has);
    last = λ t holds after. newest.last t (fewer t holds) after;
  };
  page = same;
}

-- a newest page that stays so has its data
pub newest_with_stays : (old new : Flash) (o c : ℕ) (s : Spot) (bytes : List ℕ) → IsNewestWith old o c s bytes → StaysNewest old new o c s → IsNewestWith new o c s bytes
newest_with_stays old new o c s bytes was stays = record { newest = stays.newest; stored = stays.page ∙ was.stored }

pub has_newest_stays : (old new : Flash) (o c : ℕ) (bytes : List ℕ) (h : HasNewest old o c bytes) → StaysNewest old new o c h.spot → HasNewest new o c bytes
has_newest_stays old new o c bytes h stays = record { spot = h.spot; newest = stays.newest; stored = stays.page ∙ h.stored }

-- what stays over one change and then another
pub stays_on : (f g h : Flash) (o c : ℕ) (s : Spot) → StaysNewest f g o c s → StaysNewest g h o c s → StaysNewest f h o c s
stays_on f g h o c s first then = record { newest = then.newest; page = then.page ∙ first.page }

module _ (b : ℕ) (old new : Flash) (loses : Loses b old new) where
  pub has_before : (k l : ℕ) (t : Tag) → HasTag new k l t → HasTag old k l t
  has_before k l t has = elim (cases_eq k b) [
    | inr ne ↦ tag_stays new old k l t (sym (loses.other_pages k l ne)) has
    | inl e ↦ subst (λ n. HasTag old n l t) (sym e) (loses.tags l t (subst (λ n. HasTag new n l t) e has))
  ]

  pub group_before : (g : Group) → IsGroup new g → IsGroup old g
  group_before g whole = record {
    good = elim (cases_eq g.block b) [
      | inr ne ↦ sym (loses.other_marks g.block ne) ∙ whole.good
      | inl e ↦ ap old.bad e ∙ loses.good (ap new.bad (sym e) ∙ whole.good)
    ];
    some = whole.some;
    each = λ i lt. let part : IsPart new g i = whole.each i lt in
        record { tag = part.tag; has = has_before _ _ _ part.has; index = part.index; count = part.count; group = part.group; seq = part.seq };
  }

  group_stays : (g : Group) → g.block ≢ b → IsGroup old g → IsGroup new g
  group_stays g ne whole = record {
    good = loses.other_marks g.block ne ∙ whole.good;
    some = whole.some;
    each = λ i lt. let part : IsPart old g i = whole.each i lt in
        record {
          tag = part.tag;
          has = tag_stays old new _ _ _ (loses.other_pages _ _ ne) part.has;
          index = part.index;
          count = part.count;
          group = part.group;
          seq = part.seq;
        };
  }

  -- what a block loses leaves what lies elsewhere
  pub keeps_elsewhere : KeepsElsewhere b old new
  keeps_elsewhere o c s newest ne =
      let was = newest.holds in
      stays_of_fewer old new o c s newest
      (λ t holds. holds_with new old o c t holds (group_before _ holds.whole) (has_before _ _ _ holds.has))
      (group_stays _ (λ is. ne (was.block ∙ is)) was.whole)
      (loses.other_pages _ _ ne)

-- an erase, however it ends
pub loses_erase : (b : ℕ) (old new : Flash) → Shrinks b old new → Loses b old new
loses_erase b old new shrinks = record {
  good = λ is. ap (λ f. f b) (sym shrinks.bad) ∙ is;
  tags = λ l t has. elim (shrinks.inside l) [
    | inl same ↦ tag_stays new old b l t (sym same) has
    | inr (inl is) ↦ let two : Erased ≡ Written has.bytes (tag_bytes t) = sym is ∙ has.page in absurd cc
    | inr (inr is) ↦ let two : Uncorrectable ≡ Written has.bytes (tag_bytes t) = sym is ∙ has.page in absurd cc
  ];
  other_marks = λ k ne. ap (λ f. f k) shrinks.bad;
  other_pages = shrinks.others;
}

-- a mark, done or cut
pub loses_mark : (b : ℕ) (old new : Device) (result : Result (Unit {0}) Gone) → old.honest ≡ true → Marks b old new result → Loses b old.flash new.flash
loses_mark b old new result honest marks = record {
  good = was_good result marks.bad;
  tags = λ l t has. tag_stays new.flash old.flash b l t (ap (λ f. f b l) (sym (marks.page honest))) has;
  other_marks = marks.other_bads;
  other_pages = λ k l ne. ap (λ f. f k l) (marks.page honest);
} where
  was_good : (result : Result (Unit {0}) Gone) → MarkLeaves result (old.flash.bad b) (new.flash.bad b) → new.flash.bad b ≡ false → old.flash.bad b ≡ false
  was_good (Ok done) marked is = let two : true ≡ false = sym marked ∙ is in absurd cc
  was_good (Err gone) (inl same) is = sym same ∙ is
  was_good (Err gone) (inr marked) is = let two : true ≡ false = sym marked ∙ is in absurd cc

-- what lies in other blocks stays over an erase
pub erase_keeps_elsewhere : (b : ℕ) (old new : Flash) → Shrinks b old new → KeepsElsewhere b old new
erase_keeps_elsewhere b old new shrinks = keeps_elsewhere b old new (loses_erase b old new shrinks)

-- and over a mark
pub mark_keeps_elsewhere : (b : ℕ) (old new : Device) (result : Result (Unit {0}) Gone) → old.honest ≡ true → Marks b old new result → KeepsElsewhere b old.flash new.flash
mark_keeps_elsewhere b old new result honest marks = keeps_elsewhere b old.flash new.flash (loses_mark b old new result honest marks)

-- the same groups have the same newest pages
pub same_groups_keep : (old new : Flash) → SameGroups old new → Grows old new → KeepsNewest old new
same_groups_keep old new same grows o c s newest =
    let was = newest.holds in
    stays_of_fewer old new o c s newest
    (λ t holds. held_before old new grows o c t holds ((same holds.group).0 holds.whole))
    ((same was.group).1 was.whole)
    (tag_grows old new grows _ _ _ was.has)

-- a read changes no page
pub reads_keep : (old new : Device) → old.honest ≡ true → OnlyReads old new → KeepsNewest old.flash new.flash
reads_keep old new honest reads o c s newest =
    let page = reads.page honest in
    let same : old.flash ≡ new.flash = λ i. record { bad = sym reads.bad i; next = sym reads.next i; page = sym page i } in
    record { newest = subst (λ (f : Flash). IsNewest f o c s) same newest; page = ap (λ f. f s.block s.page) page }

-- the greatest numbers of a flash are one
pub one_greatest : (f : Flash) (m n : Numbers) → AreGreatest f m → AreGreatest f n → m ≡ n
one_greatest f m n a b =
    let up = a.least n b.above in
    let down = b.least m a.above in
    let version : m.version ≡ n.version = omega (arith, up.0, down.0) in
    let group : m.group ≡ n.group = omega (arith, up.1, down.1) in
    let seq : m.seq ≡ n.seq = omega (arith, up.2, down.2) in
    λ i. record { version = version i; group = group i; seq = seq i }

-- what is newest counts
pub newest_counts : (f : Flash) (o c : ℕ) (s : Spot) → IsNewest f o c s → IsCounted f s.block s.page
newest_counts f o c s h = record { group = h.holds.group; whole = h.holds.whole; block = h.holds.block; index = h.holds.index; within = h.holds.within; page = h.holds.page }
