-- The tags of a block up to its first erased page, and the pages that they list.
use Rattle.std.specs.Prelude.{◌≡◌, ◌≢◌, ◌<◌, ◌≤◌, ℕ, ◌+◌, ◌-◌, ◌++◌, ◌∷◌, [], Bool, true, false, List, Option, Some, None, Ok, length, slice_get, Contains}
use Rattle.std.proofs.Common.{refl, sym, ◌∙◌, ap, subst, inl, inr, arith, get_or, length-append}
use Rattle.std.proofs.lemmas.Bool.{cases_Bool, cases_eq, cases_lt}
use Rattle.std.proofs.lemmas.Option.{slice_get-get_or}
use Rattle.volume_terms.specs.laws.List.{get_push}
use Rattle.nand_model.specs.Flash.{Flash, Erased, IsWithin}
use Rattle.nand_model.specs.Calls.{Device}
use Rattle.nand_model.specs.Changes.{OnlyReads}
use Rattle.page_tags.specs.declared.tag.Tag.{Tag}
use Rattle.flash_tree.specs.Groups.{HasTag}
use Rattle.flash_tree.specs.Newest.{Holds, Numbers}
use Rattle.flash_tree.specs.Places.{CountsByTag, TagIs, spot_of}
use Rattle.flash_tree.specs.laws.Place.{counts_by_tag, no_tag, tag_placed}
use Rattle.flash_tree.specs.declared.place.Found.{Found}
use Rattle.mount_scan.specs.Blocks.{AreRaisedBy}
use Rattle.mount_scan.specs.FoundCheckpoint.{ReadsAtMost}
use Rattle.mount_scan.specs.Keys.{ThinsFound}
use Rattle.mount_scan.specs.Runs.{AddsCounted, IsCountedIn}
use Rattle.mount_scan.specs.WrittenBlocks.{AddsWritten, AreWrittenTags, IsWrittenUpTo, PushesTag, RaisesWithin, ReadsUpToErased}
use Rattle.mount_scan.specs.declared.page_copy.PageCopy.{PageCopy}
use Rattle.mount_scan.proofs.Latest.{none_in}
use Rattle.mount_scan.proofs.ReadCount.{HasRead, back_honest, read_none, read_on}
use Rattle.mount_scan.proofs.Tagged.{counted_held, held_counted, reported_is}

-- ---- the list

-- What is listed of the first pages of a block, and whether one of them is erased.
pub record IsReadUpTo (flash : Flash) (b p : ℕ) (ended : Bool) (tags : List (Option Tag)) : Type 0 where
  pub end : ℕ
  pub within : end ≤ p
  pub written : IsWrittenUpTo flash b end
  pub erased : ended ≡ true → flash.page b end ≡ Erased
  pub goes : ended ≡ false → end ≡ p
  pub reported : (l : ℕ) (reported : Option Tag) → l < end → slice_get tags l ≡ Some reported → TagIs flash b l reported
  pub none : (l : ℕ) (reported : Option Tag) → end ≤ l → slice_get tags l ≡ Some reported → reported ≡ None

pub up_to_none : (flash : Flash) (b : ℕ) → IsReadUpTo flash b 0 false []
up_to_none flash b = record {
  end = 0;
  within = omega arith;
  written = λ l lt. absurd (omega (arith, lt));
  erased = λ two. absurd cc;
  goes = λ is. omega arith;
  reported = λ l reported lt. absurd (omega (arith, lt));
  none = λ l reported le at. absurd cc;
}

-- an erased page lies behind all that were read
pub erased_behind : (flash : Flash) (b p : ℕ) (tags : List (Option Tag)) → IsReadUpTo flash b p false tags → (q : ℕ) → flash.page b q ≡ Erased → p ≤ q
erased_behind flash b p tags read q is = elim (cases_lt q p) [
  | inr past ↦ omega (arith, past)
  | inl lt ↦ absurd (read.written q (omega (arith, lt, read.goes refl)) is)
]

-- one more that is not erased
more_written : (flash : Flash) (b p : ℕ) (reported : Option Tag) (tags : List (Option Tag)) → length tags ≡ p → flash.page b p ≢ Erased → TagIs flash b p reported → IsReadUpTo flash b p false tags
    → IsReadUpTo flash b (p + 1) false (tags ++ reported ∷ [])
more_written flash b p reported tags len not is read =
    let end : read.end ≡ p = read.goes refl in
    record {
      end = p + 1;
      within = omega arith;
      written = λ l lt. elim (cases_eq l p) [
        | inl here ↦ λ erased. not (ap (flash.page b) (sym here) ∙ erased)
        | inr ne ↦ read.written l (omega (arith, lt, ne, end))
      ];
      erased = λ two. absurd cc;
      goes = λ same. omega arith;
      reported = λ l u lt at. elim (get_push tags reported l u at) [
        | inl before ↦ let less = before.0 in read.reported l u (omega (arith, less, len, end)) before.1
        | inr last ↦ let here : p ≡ l = sym len ∙ sym last.0 in subst (λ x. TagIs flash b l x) (sym last.1) (subst (λ n. TagIs flash b n reported) here is)
      ];
      none = λ l u le at. elim (get_push tags reported l u at) [
        | inl before ↦ let less = before.0 in absurd (omega (arith, less, len, le))
        | inr last ↦ let at_end = last.0 in absurd (omega (arith, at_end, len, le))
      ];
    }

-- one more, which is erased, or lies behind such a one
more_none : (flash : Flash) (b p : ℕ) (ended : Bool) (tags : List (Option Tag)) → length tags ≡ p → (read : IsReadUpTo flash b p ended tags) → flash.page b read.end ≡ Erased
    → IsReadUpTo flash b (p + 1) true (tags ++ None ∷ [])
more_none flash b p ended tags len read erased = record {
  end = read.end;
  within = let within = read.within in omega (arith, within);
  written = read.written;
  erased = λ is. erased;
  goes = λ two. absurd cc;
  reported = λ l u lt at. elim (get_push tags None l u at) [
    | inl before ↦ read.reported l u lt before.1
    | inr last ↦ let at_end = last.0 in let within = read.within in absurd (omega (arith, at_end, len, lt, within))
  ];
  none = λ l u le at. elim (get_push tags None l u at) [
    | inl before ↦ read.none l u le before.1
    | inr last ↦ last.1
  ];
}

pub up_to_behind : (flash : Flash) (b p : ℕ) (tags : List (Option Tag)) → length tags ≡ p → IsReadUpTo flash b p true tags → IsReadUpTo flash b (p + 1) true (tags ++ None ∷ [])
up_to_behind flash b p tags len read = more_none flash b p true tags len read (read.erased refl)

pub up_to_more : (d : Device) (b p : ℕ) (old new : List (Option Tag)) (erased : Bool) → d.honest ≡ true → length old ≡ p → PushesTag d b p old new erased → IsReadUpTo d.flash b p false old
    → IsReadUpTo d.flash b (p + 1) erased new
up_to_more d b p old new erased honest len pushes read = subst (IsReadUpTo d.flash b (p + 1) erased) (sym pushes.pushed) (elim (cases_Bool erased) [
  | inl is ↦
      let blank : d.flash.page b read.end ≡ Erased = ap (d.flash.page b) (read.goes refl) ∙ pushes.is_erased honest is in
      subst (λ x. IsReadUpTo d.flash b (p + 1) x (old ++ pushes.reported ∷ [])) (sym is)
      (subst (λ x. IsReadUpTo d.flash b (p + 1) true (old ++ x ∷ [])) (sym (pushes.none is)) (more_none d.flash b p false old len read blank))
  | inr is ↦
      let written = pushes.is_written honest is in
      subst (λ x. IsReadUpTo d.flash b (p + 1) x (old ++ pushes.reported ∷ [])) (sym is) (more_written d.flash b p pushes.reported old len written.0 written.1 read)
])

-- ---- the pages that were read

-- The first p pages of a block were passed, up to the first that is erased by reading their tags.
pub record HasPassed (a c : Device) (b p : ℕ) (ended : Bool) (tags : List (Option Tag)) : Type 0 where
  pub read : HasRead p a c
  pub len : length tags ≡ p
  pub stopped : a.honest ≡ true → ended ≡ true → ReadsUpToErased b a c
  pub up_to : a.honest ≡ true → IsReadUpTo a.flash b p ended tags

pub passed_none : (a : Device) (b : ℕ) (tags : List (Option Tag)) → tags ≡ [] → HasPassed a a b 0 false tags
passed_none a b tags empty = record {
  read = read_none a;
  len = ap (λ (xs : List (Option Tag)). length xs) empty;
  stopped = λ honest two. absurd cc;
  up_to = λ honest. subst (IsReadUpTo a.flash b 0 false) (sym empty) (up_to_none a.flash b);
}

-- one that is not read
pub passed_behind : (a c : Device) (b p : ℕ) (ended : Bool) (tags new : List (Option Tag)) → ended ≡ true → new ≡ tags ++ None ∷ [] → HasPassed a c b p ended tags → HasPassed a c b (p + 1) ended new
passed_behind a c b p ended tags new is pushed were = record {
  read = record { only = were.read.only; most = let most = were.read.most in omega (arith, most); power = were.read.power };
  len = ap (λ (xs : List (Option Tag)). length xs) pushed ∙ omega (arith, length-append tags (None ∷ []), were.len);
  stopped = were.stopped;
  up_to = λ honest.
      subst (λ x. IsReadUpTo a.flash b (p + 1) x new) (sym is)
      (subst (IsReadUpTo a.flash b (p + 1) true) (sym pushed) (up_to_behind a.flash b p tags were.len (subst (λ x. IsReadUpTo a.flash b p x tags) is (were.up_to honest))));
}

-- what is pushed is that of the device before it was read
pushes_back : (a c : Device) (b p : ℕ) (old new : List (Option Tag)) (erased : Bool) → OnlyReads a c → PushesTag c b p old new erased → PushesTag a b p old new erased
pushes_back a c b p old new erased only pushes = record {
  reported = pushes.reported;
  pushed = pushes.pushed;
  none = pushes.none;
  is_erased = back_honest (λ g f. erased ≡ true → f.page b p ≡ Erased) a c only pushes.is_erased;
  is_written = back_honest (λ g f. erased ≡ false → (f.page b p ≢ Erased) × TagIs f b p pushes.reported) a c only pushes.is_written;
}

-- and one that is
pub passed_more : (a c e : Device) (b p : ℕ) (before ended : Bool) (tags new : List (Option Tag)) → before ≡ false → ReadsAtMost 1 c e (Ok ended) → PushesTag c b p tags new ended
    → HasPassed a c b p before tags → HasPassed a e b (p + 1) ended new
passed_more a c e b p before ended tags new not reads pushes were = record {
  read = read_on p 1 (p + 1) a c e ended were.read reads (omega arith);
  len = ap (λ (xs : List (Option Tag)). length xs) pushes.pushed ∙ omega (arith, length-append tags (pushes.reported ∷ []), were.len);
  stopped = λ honest is q erased. let behind = behind_it honest q erased in let first = were.read.most in let one = reads.most in omega (arith, behind, first, one);
  up_to = λ honest. up_to_more a b p tags new ended honest were.len (pushes_back a c b p tags new ended were.read.only pushes) (so_far honest);
} where
  so_far : a.honest ≡ true → IsReadUpTo a.flash b p false tags
  so_far honest = subst (λ x. IsReadUpTo a.flash b p x tags) not (were.up_to honest)

  behind_it : a.honest ≡ true → (q : ℕ) → a.flash.page b q ≡ Erased → p ≤ q
  behind_it honest = erased_behind a.flash b p tags (so_far honest)

pub passed_all : (a c : Device) (b p : ℕ) (ended : Bool) (tags : List (Option Tag)) → HasPassed a c b p ended tags → a.honest ≡ true → ReadsUpToErased b a c
passed_all a c b p ended tags were honest q erased = elim (cases_Bool ended) [
  | inl is ↦ were.stopped honest is q erased
  | inr not ↦
      let behind = erased_behind a.flash b p tags (subst (λ x. IsReadUpTo a.flash b p x tags) not (were.up_to honest)) q erased in
      let most = were.read.most in
      omega (arith, behind, most)
]

-- ---- the pages that are listed

module _ (f : Flash) (b count : ℕ) (tags : List (Option Tag)) (len : length tags ≡ count) (read : AreWrittenTags f b count tags) where
  pub tag_there : (p : ℕ) (t : Tag) → slice_get tags p ≡ Some (Some t) → HasTag f b p t
  tag_there p t at = elim (cases_lt p read.end) [
    | inl lt ↦ read.reported p (Some t) lt at
    | inr past ↦ let two : Some t ≡ None = read.none p (Some t) (omega (arith, past)) at in absurd cc
  ]

  tag_listed : (p : ℕ) (t : Tag) → p < count → p < read.end → HasTag f b p t → slice_get tags p ≡ Some (Some t)
  tag_listed p t lt before has =
      let at : slice_get tags p ≡ Some (get_or tags p None) = slice_get-get_or tags p None (omega (arith, lt, len)) in
      reported_is f b tags p t (get_or tags p None) has at (read.reported p (get_or tags p None) before at)

  -- a page with a tag, before which none is erased, lies before the end
  before_end : (p : ℕ) (t : Tag) → p < count → HasTag f b p t → IsWrittenUpTo f b p → p < read.end
  before_end p t lt has up_to = elim (cases_lt p read.end) [
    | inl before ↦ before
    | inr past ↦
        let erased = read.stops (omega (arith, past, lt)) in
        elim (cases_eq read.end p) [
          | inl here ↦ absurd (no_tag f b p t (ap (f.page b) (sym here) ∙ erased) has)
          | inr ne ↦ absurd (up_to read.end (omega (arith, past, ne)) erased)
        ]
  ]

  module _ (blocks : ℕ) (within : IsWithin count blocks f) (x : Found) (here : x.block ≡ b) (holds : Holds f x.tag.object x.tag.chunk (spot_of x)) (up_to : IsWrittenUpTo f b x.page) where
    by_tag : CountsByTag f x.tag.object x.tag.chunk (spot_of x)
    by_tag = (counts_by_tag f x.tag.object x.tag.chunk (spot_of x)).0 holds

    has_it : HasTag f b x.page x.tag
    has_it = subst (λ k. HasTag f k x.page x.tag) here by_tag.has

    it_ends : x.page < read.end
    it_ends = before_end x.page x.tag (tag_placed count blocks f b x.page x.tag within has_it).1 has_it up_to

    abbrev start : ℕ
    start = x.page - x.tag.index

    part_has : (i : ℕ) (lt : i < x.tag.count) → HasTag f b (start + i) (by_tag.whole.each i lt).tag
    part_has i lt = subst (λ k. HasTag f k (start + i) (by_tag.whole.each i lt).tag) here (by_tag.whole.each i lt).has

    -- so do all pages of its group
    part_ends : (i : ℕ) (lt : i < x.tag.count) → start + i < read.end
    part_ends i lt = elim (cases_lt (start + i) read.end) [
      | inl before ↦ before
      | inr past ↦
          let placed = (tag_placed count blocks f b (start + i) (by_tag.whole.each i lt).tag within (part_has i lt)).1 in
          let erased = read.stops (omega (arith, past, placed)) in
          let j : ℕ = read.end - start in
          let at : start + j ≡ read.end = let ends = it_ends in omega (arith, ends) in
          let lt_j : j < x.tag.count = omega (arith, at, past, lt) in
          absurd (no_tag f b (start + j) (by_tag.whole.each j lt_j).tag (ap (f.page b) at ∙ erased) (part_has j lt_j))
    ]

    pub counted_up_to : IsCountedIn b tags (length tags) x
    counted_up_to =
        let placed = (tag_placed count blocks f b x.page x.tag within has_it).1 in
        held_counted f b tags x here by_tag
        (λ i lt. tag_listed (start + i) (by_tag.whole.each i lt).tag (tag_placed count blocks f b (start + i) (by_tag.whole.each i lt).tag within (part_has i lt)).1 (part_ends i lt) (part_has i lt))
        (omega (arith, placed, len)) (tag_listed x.page x.tag placed it_ends has_it)

-- the pages that are listed are added
pub adds_written : (d : Device) (b : ℕ) (tags : List (Option Tag)) (none valid_pages : List Found) (old new : List PageCopy) → IsWithin d.geometry.pages d.geometry.blocks d.flash → length tags ≡ d.geometry.pages
    → (d.honest ≡ true → AreWrittenTags d.flash b d.geometry.pages tags) → none ≡ [] → AddsCounted b tags (length tags) none valid_pages → ThinsFound valid_pages old new → AddsWritten d b old new
adds_written d b tags none valid_pages old new within len read empty adds thins = record {
  pages = valid_pages;
  placed = λ f has. let is = listed f has in (is.block, let before = is.before in omega (arith, before, len));
  held = λ honest good f has. (counted_held d.flash b tags (tag_there d.flash b d.geometry.pages tags len (read honest)) f good (listed f has)).1;
  covers = λ honest f here holds up_to. (adds.each f).1 (inr (counted_up_to d.flash b d.geometry.pages tags len (read honest) d.geometry.blocks within f here holds up_to));
  thins = thins;
} where
  listed : (f : Found) → Contains valid_pages f → IsCountedIn b tags (length tags) f
  listed f has = elim ((adds.each f).0 has) [
    | inl was ↦ absurd (none_in f (subst (λ xs. Contains xs f) empty was))
    | inr is ↦ is
  ]

-- and the numbers are raised to those of the tags that were read
pub raises_written : (f : Flash) (b count : ℕ) (tags : List (Option Tag)) (n m : Numbers) → length tags ≡ count → AreWrittenTags f b count tags → AreRaisedBy tags (length tags) n m → RaisesWithin f b n m
raises_written f b count tags n m len read raised = record {
  keeps = raised.keeps;
  least = λ good k keeps above. raised.least k keeps (λ l t lt at. above l t (tag_there f b count tags len read l t at));
}
