-- What keeps the newest pages of keys findable by the summaries of a flash.
use Rattle.std.specs.Prelude.{◌≡◌, ◌≢◌, ◌⊎◌, ◌<◌, ◌≤◌, ℕ, ◌+◌, ◌-◌, List, Contains}
use Rattle.std.proofs.Common.{refl, sym, ◌∙◌, ap, subst, inl, inr, arith}
use Rattle.std.proofs.lemmas.Bool.{cases_lt}
use Rattle.nand_model.specs.Flash.{Flash, Erased, Written}
use Rattle.nand_model.specs.declared.geometry.Geometry.{Geometry}
use Rattle.page_tags.specs.declared.tag.Tag.{Tag}
use Rattle.page_tags.specs.declared.check.CheckEntry.{CheckEntry}
use Rattle.page_tags.specs.Tags.{tag_bytes}
use Rattle.flash_tree.specs.Fading.{Fades}
use Rattle.flash_tree.specs.Groups.{HasTag, Group, IsGroup, SameGroups, NamesOnce, NamesNot}
use Rattle.flash_tree.specs.Keeping.{StaysNewest}
use Rattle.flash_tree.specs.Newest.{Spot, spot_in, Holds, IsAfter, IsNewest}
use Rattle.flash_tree.specs.Slots.{check_object}
use Rattle.flash_tree.specs.Summaries.{BeginsSummary, Summary, summary_group, summary_tag, summary_page, IsWholeSummary, MatchesBlock, IsListed, AreSummariesRight, claimed, AreFindable}
use Rattle.flash_tree.specs.Summarizing.{WritesIn, AddsNoSummary, ListsKey, AddsSummary, AddsNamed, IsKey, IsFindable, Renews}
use Rattle.flash_tree.specs.laws.Added.{newest_this, newest_other}
use Rattle.flash_tree.specs.laws.Fading.{loses_fading}
use Rattle.flash_tree.specs.laws.Newest.{one_tag, one_spot, group_before, keeps_elsewhere, same_groups_keep}
use Rattle.flash_tree.specs.laws.Summarizing.{fades_same, whole_before, matches_before, matches_as, not_written, head_older, number_less, none_new, was_or_new, erased_before}

-- The key has a newest page, which a mount by summaries finds.
record FindsKey (g : Geometry) (flash : Flash) (o c : ℕ) : Type 0 where
  pub ordinary : o ≢ check_object
  pub spot : Spot
  pub newest : IsNewest flash o c spot
  pub listed : (s : Summary) → IsWholeSummary g flash s → MatchesBlock flash s → spot.block ≡ s.head.block → IsListed s spot
  pub latest : (s : Summary) (e : CheckEntry) → IsWholeSummary g flash s → MatchesBlock flash s → Contains s.entries e
      → e.object ≡ o → e.chunk ≡ c → IsAfter (claimed s e) spot → ⊥
  pub in_order : (l : ℕ) → l < spot.page → flash.page spot.block l ≢ Erased

-- what is of a key is of one with equal numbers
same_key : (P : ℕ → ℕ → Type 0) (o c k d : ℕ) → o ≡ k → c ≡ d → P o c → P k d
same_key P o c k d object chunk is = subst (λ x. P k x) chunk (subst (λ x. P x c) object is)

-- what comes after a place is the same for places of equal order
after_as : (s t u : Spot) → s.tag.version ≡ t.tag.version → s.tag.seq ≡ t.tag.seq → s.page ≡ t.page → s.block ≡ t.block → IsAfter s u → IsAfter t u
after_as s t u v q p b (inl lt) = inl (omega (arith, lt, v))
after_as s t u v q p b (inr (v', inl lt)) = inr (sym v ∙ v', inl (omega (arith, lt, q)))
after_as s t u v q p b (inr (v', inr (q', inl lt))) = inr (sym v ∙ v', inr (sym q ∙ q', inl (omega (arith, lt, p))))
after_as s t u v q p b (inr (v', inr (q', inr (p', lt)))) = inr (sym v ∙ v', inr (sym q ∙ q', inr (sym p ∙ p', omega (arith, lt, b))))

-- what comes after has no lesser version
after_most : (s t : Spot) → IsAfter s t → t.tag.version ≤ s.tag.version
after_most s t (inl lt) = omega (arith, lt)
after_most s t (inr (v, rest)) = omega (arith, v)

-- and of an older block a greater one
after_more : (s t : Spot) → s.tag.seq < t.tag.seq → IsAfter s t → t.tag.version < s.tag.version
after_more s t older (inl lt) = lt
after_more s t older (inr (v, inl lt)) = absurd (omega (arith, older, lt))
after_more s t older (inr (v, inr (q, rest))) = absurd (omega (arith, older, q))

module _ (g : Geometry) (flash : Flash) (keys : ℕ → ℕ → Type 0) where
  at_key : AreFindable g flash keys → (o c : ℕ) → keys o c → FindsKey g flash o c
  at_key all o c key = let there = all.there o c key in record {
    ordinary = all.ordinary o c key;
    spot = there.0;
    newest = there.1;
    listed = λ s whole matches at. all.listed s o c there.0 whole matches key there.1 at;
    latest = λ s e whole matches listed object chunk after. all.latest s e there.0 whole matches listed (same_key keys o c e.object e.chunk (sym object) (sym chunk) key)
        (same_key (λ k d. IsNewest flash k d there.0) o c e.object e.chunk (sym object) (sym chunk) there.1) after;
    in_order = λ l lt. all.in_order o c l there.0 key there.1 lt;
  }

  of_keys : ((o c : ℕ) → keys o c → FindsKey g flash o c) → AreFindable g flash keys
  of_keys each = record {
    ordinary = λ o c key. (each o c key).ordinary;
    there = λ o c key. ((each o c key).spot, (each o c key).newest);
    listed = λ s o c p whole matches key newest at.
        let found = each o c key in
        let same : found.spot ≡ p = one_spot flash o c found.spot p found.newest newest in
        subst (IsListed s) same (found.listed s whole matches (ap (λ (q : Spot). q.block) same ∙ at));
    latest = λ s e p whole matches listed key newest after.
        let found = each e.object e.chunk key in
        let same : p ≡ found.spot = one_spot flash e.object e.chunk p found.spot newest found.newest in
        found.latest s e whole matches listed refl refl (subst (IsAfter (claimed s e)) same after);
    in_order = λ o c l p key newest lt is.
        let found = each o c key in
        let same : p ≡ found.spot = one_spot flash o c p found.spot newest found.newest in
        found.in_order l (subst (λ (q : Spot). l < q.page) same lt) (subst (λ (q : Spot). flash.page q.block l ≡ Erased) same is);
  }

module _ (g : Geometry) (flash : Flash) (keys : ℕ → ℕ → Type 0) where
  -- keys are findable exactly if each is
  pub one_findable : AreFindable g flash keys → (o c : ℕ) → keys o c → IsFindable g flash o c
  one_findable all o c key = of_keys g flash (IsKey o c) (λ k d is. same_key (FindsKey g flash) o c k d (sym is.0) (sym is.1) (at_key g flash keys all o c key))

module _ (g : Geometry) (old new : Flash) where
  -- each summary that may claim a page afterwards did so before
  abbrev ClaimsNoMore : Type 0
  ClaimsNoMore = (s : Summary) → IsWholeSummary g new s → MatchesBlock new s → IsWholeSummary g old s × MatchesBlock old s

  -- a key whose newest page stays is found still, where no more is claimed
  key_stays : ClaimsNoMore → (o c : ℕ) (found : FindsKey g old o c) → StaysNewest old new o c found.spot
      → ((l : ℕ) → l < found.spot.page → new.page found.spot.block l ≡ Erased → old.page found.spot.block l ≡ Erased)
      → FindsKey g new o c
  key_stays fewer o c found stays pages = record {
    ordinary = found.ordinary;
    spot = found.spot;
    newest = stays.newest;
    listed = λ s whole matches. let was = fewer s whole matches in found.listed s was.0 was.1;
    latest = λ s e whole matches. let was = fewer s whole matches in found.latest s e was.0 was.1;
    in_order = λ l lt is. found.in_order l lt (pages l lt is);
  }

  -- ---- a block fades

  pub findable_faded : (b : ℕ) (keys : ℕ → ℕ → Type 0) → Fades b old new → ((o c : ℕ) (p : Spot) → keys o c → IsNewest old o c p → p.block ≢ b)
      → AreFindable g old keys → AreFindable g new keys
  findable_faded b keys fades apart all = of_keys g new keys (λ o c key.
      let found = at_key g old keys all o c key in
      let ne = apart o c found.spot key found.newest in
      key_stays (λ s whole matches. (whole_before g b old new fades s whole, matches_before g b old new fades s matches)) o c found
      (keeps_elsewhere b old new (loses_fading b old new fades) o c found.spot found.newest ne)
      (λ l lt is. sym (fades.other_pages found.spot.block l ne) ∙ is))

  -- a key alone
  pub fades_key : (b o c : ℕ) → Fades b old new → ((p : Spot) → IsNewest old o c p → p.block ≢ b) → IsFindable g old o c → IsFindable g new o c
  fades_key b o c fades apart = findable_faded b (IsKey o c) fades (λ k d p is newest. apart p (same_key (λ n m. IsNewest old n m p) k d o c is.0 is.1 newest))

  -- ---- the same pages and marks

  pub findable_committed : (keys : ℕ → ℕ → Type 0) → new.bad ≡ old.bad → new.page ≡ old.page → AreFindable g old keys → AreFindable g new keys
  findable_committed keys bad page all = of_keys g new keys (λ o c key.
      let fades = fades_same old new bad page in
      let back = fades_same new old (sym bad) (sym page) in
      let groups : SameGroups old new = λ x. (group_before 0 old new (loses_fading 0 old new fades) x, group_before 0 new old (loses_fading 0 new old back) x) in
      let found = at_key g old keys all o c key in
      key_stays (λ s whole matches. (whole_before g 0 old new fades s whole, matches_before g 0 old new fades s matches)) o c found
      (same_groups_keep old new groups (λ b p ne. ap (λ f. f b p) page) o c found.spot found.newest)
      (λ l lt is. ap (λ f. f found.spot.block l) (sym page) ∙ is))

  -- ---- pages of no valid group

  module _ (o number seq : ℕ) (writes : WritesIn o number seq old new) (right : AreSummariesRight g old) where
    no_more : AddsNoSummary old new → ClaimsNoMore
    no_more adds s whole matches =
        let was = none_new o number seq old new writes g adds s whole in
        (was, matches_as o number seq old new writes g right s was matches)

    pub findable_same : (keys : ℕ → ℕ → Type 0) → SameGroups old new → AreFindable g old keys → AreFindable g new keys
    findable_same keys same all = of_keys g new keys (λ k c key.
        let found = at_key g old keys all k c key in
        key_stays (no_more (inl same)) k c found (same_groups_keep old new same writes.grows k c found.spot found.newest)
        (λ l lt. erased_before old new writes.grows found.spot.block l))

-- ---- the group of a summary

module _ (g : Geometry) (old new : Flash) (s : Summary) (added : AddsSummary g old new s) (right : AreSummariesRight g old) where
  abbrev writes : WritesIn s.block s.number s.seq old new
  writes = added.writes

  -- a page that the summary lists was valid, so it does not come after the newest of its key
  listed_before : (e : CheckEntry) (p : Spot) → Contains s.entries e → IsNewest old e.object e.chunk p → IsAfter (claimed s e) p → ⊥
  listed_before e p listed newest after =
      let of_page = added.lists.only e listed in
      let q = of_page.0 in
      let holds : Holds old e.object e.chunk q = of_page.1 in
      let seq : q.tag.seq ≡ s.head.seq = added.lists.seqs q.page q.tag (subst (λ n. HasTag old n q.page q.tag) of_page.2 holds.has) in
      newest.last q holds (after_as (claimed s e) q p (ap (λ (x : CheckEntry). x.version) of_page.3) (sym seq) (ap (λ (x : CheckEntry). x.page) of_page.3) (ap (λ (x : CheckEntry). x.block) of_page.3) after)

  summary_stays : (keys : ℕ → ℕ → Type 0) (o c : ℕ) (found : FindsKey g old o c) → StaysNewest old new o c found.spot
  summary_stays keys o c found = elim added.groups [
    | inl same ↦ same_groups_keep old new same writes.grows o c found.spot found.newest
    | inr (adds, whole) ↦ newest_other (summary_group s) (summary_tag s) (summary_page g.bytes s) old new adds writes.grows whole.pages o c found.spot
        (λ i lt object chunk. found.ordinary (sym object)) found.newest
  ]

  -- each key stays findable whose newest page it lists, if that lies in its block
  pub findable_summary : (keys : ℕ → ℕ → Type 0) → ((o c : ℕ) → keys o c → ListsKey old s o c) → AreFindable g old keys → AreFindable g new keys
  findable_summary keys lists all = of_keys g new keys (λ o c key.
      let found = at_key g old keys all o c key in
      let stays = summary_stays keys o c found in
      record {
        ordinary = found.ordinary;
        spot = found.spot;
        newest = stays.newest;
        listed = λ d whole matches at. elim (was_or_new g old new s added d whole) [
          | inl was ↦ found.listed d was (matches_as s.block s.number s.seq old new writes g right d was matches) at
          | inr is ↦
              let here : found.spot.block ≡ s.head.block = at ∙ ap (λ (x : Summary). x.head.block) is in
              subst (λ (x : Summary). IsListed x found.spot) (sym is)
              (lists o c key found.spot found.newest here, added.lists.seqs found.spot.page found.spot.tag (subst (λ n. HasTag old n found.spot.page found.spot.tag) here found.newest.holds.has))
        ];
        latest = λ d e whole matches listed object chunk after. elim (was_or_new g old new s added d whole) [
          | inl was ↦ found.latest d e was (matches_as s.block s.number s.seq old new writes g right d was matches) listed object chunk after
          | inr is ↦ listed_before e found.spot (subst (λ (x : Summary). Contains x.entries e) is listed)
              (same_key (λ k n. IsNewest old k n found.spot) o c e.object e.chunk (sym object) (sym chunk) found.newest)
              (subst (λ (x : Summary). IsAfter (claimed x e) found.spot) is after)
        ];
        in_order = λ l lt is. found.in_order l lt (erased_before old new writes.grows found.spot.block l is);
      })

  -- a key alone
  pub summary_key : (o c : ℕ) → ListsKey old s o c → IsFindable g old o c → IsFindable g new o c
  summary_key o c lists = findable_summary (IsKey o c) (λ k d is. same_key (ListsKey old s) o c k d (sym is.0) (sym is.1) lists)

-- ---- a group that is no summary

module _ (g : Geometry) (x : Group) (tag : ℕ → Tag) (bytes : ℕ → List ℕ) (old new : Flash) (added : AddsNamed x tag bytes old new) where
  abbrev named_writes : WritesIn x.block x.number x.seq old new
  named_writes = added.writes

  group_is : IsGroup new x
  group_is = (added.adds x).1 (inr refl)

  pub adds_none : AddsNoSummary old new
  adds_none = inr (
    x,
    added.adds,
    λ t has begins.
        let there = added.all 0 group_is.some in
        let first : HasTag new x.block (x.start + 0) (tag 0) = record { bytes = bytes 0; page = there.0; valid = there.1 } in
        let start : x.start + 0 ≡ x.start = omega arith in
        let same : t ≡ tag 0 = one_tag new x.block x.start t (tag 0) has (subst (λ p. HasTag new x.block p (tag 0)) start first) in
        added.no_summary (subst BeginsSummary same begins),
  )

  module _ (right : AreSummariesRight g old) where
    fewer : ClaimsNoMore g old new
    fewer = no_more g old new x.block x.number x.seq named_writes right adds_none

    pub other_findable : (keys : ℕ → ℕ → Type 0) → ((o c : ℕ) → keys o c → NamesNot x tag o c) → AreFindable g old keys → AreFindable g new keys
    other_findable keys other all = of_keys g new keys (λ o c key.
        let found = at_key g old keys all o c key in
        key_stays g old new fewer o c found (newest_other x tag bytes old new added.adds named_writes.grows added.all o c found.spot (other o c key) found.newest)
        (λ l lt. erased_before old new named_writes.grows found.spot.block l))

    pub unnamed_findable : (o c : ℕ) → NamesNot x tag o c → IsFindable g old o c → IsFindable g new o c
    unnamed_findable o c other = other_findable (IsKey o c) (λ k d is. same_key (NamesNot x tag) o c k d (sym is.0) (sym is.1) other)

    module _ (o c i : ℕ) (names : NamesOnce x tag o c i) (renews : Renews g old x.number (spot_in x tag i)) where
      abbrev s : Spot
      s = spot_in x tag i

      has_it : HasTag new x.block (x.start + i) (tag i)
      has_it = record { bytes = bytes i; page = (added.all i names.within).0; valid = (added.all i names.within).1 }

      -- no summary claims a page that comes after it
      none_after : (d : Summary) (e : CheckEntry) → IsWholeSummary g old d → MatchesBlock old d → Contains d.entries e
          → e.object ≡ s.tag.object → e.chunk ≡ s.tag.chunk → IsAfter (claimed d e) s → ⊥
      none_after d e was matches listed object chunk after = elim renews.version [
        | inl is ↦
            let less = right.versions d e was listed in
            let below = number_less x.block x.number x.seq old new named_writes g right d was in
            let most = after_most (claimed d e) s after in
            absurd (omega (arith, less, below, most, is))
        | inr (all, copy) ↦
            let p = copy.0 in
            let own : s.tag.seq ≡ x.seq = named_writes.own (x.start + i) (tag i) has_it in
            let less : d.head.seq < s.tag.seq = let older = head_older x.block x.number x.seq old new named_writes g right d was in omega (arith, own, older) in
            all.latest d e p was matches listed (object, chunk)
            (same_key (λ k n. IsNewest old k n p) s.tag.object s.tag.chunk e.object e.chunk (sym object) (sym chunk) copy.1)
            (inl (let more = after_more (claimed d e) s less after in let same = copy.2 in omega (arith, more, same)))
      ]

      finds_it : FindsKey g new s.tag.object s.tag.chunk
      finds_it = record {
        ordinary = renews.ordinary;
        spot = s;
        newest = (newest_this x tag bytes old new added.adds named_writes.grows added.all s.tag.object s.tag.chunk i names.within refl refl
            (λ k lt object chunk. names.once k lt (object ∙ names.object) (chunk ∙ names.chunk)) renews.last).newest;
        listed = λ d whole matches at. absurd (not_written x.block x.number x.seq old new named_writes g right d (fewer d whole matches).0 matches (sym at));
        latest = λ d e whole matches. let was = fewer d whole matches in none_after d e was.0 was.1;
        in_order = λ l lt is. elim (cases_lt l x.start) [
          | inl before ↦ added.in_order l before (erased_before old new named_writes.grows x.block l is)
          | inr behind ↦
              let at : x.start + (l - x.start) ≡ l = omega (arith, behind) in
              let within : l - x.start < x.size = let within_limit = names.within in omega (arith, lt, behind, within_limit) in
              let there = (added.all (l - x.start) within).0 in
              let two : Erased ≡ Written (bytes (l - x.start)) (tag_bytes (tag (l - x.start))) = sym is ∙ ap (new.page x.block) (sym at) ∙ there in
              absurd cc
        ];
      }

      pub named_findable : IsFindable g new o c
      named_findable = of_keys g new (IsKey o c) (λ k d is. same_key (FindsKey g new) s.tag.object s.tag.chunk k d (names.object ∙ sym is.0) (names.chunk ∙ sym is.1) finds_it)
