-- The writing of a group, page by page.
use Rattle.std.proofs.Common.{◌≡◌, ◌≢◌, ◌⊎◌, ◌+◌, ◌-◌, ◌<◌, ◌≤◌, ℕ, true, List, Some, Ok, Err, Result, sym, ◌∙◌, ap, subst, arith, inl, inr}
use Rattle.std.proofs.lemmas.Bool.{cases_eq, cases_lt}
use Rattle.nand_model.specs.Flash.{Page, Erased, Written, Uncorrectable}
use Rattle.nand_model.specs.Calls.{Device, Lasts}
use Rattle.nand_model.specs.laws.Calls.{lasts_on}
use Rattle.nand_model.specs.Changes.{Grows}
use Rattle.nand_model.specs.Counts.{ReadsFew}
use Rattle.page_tags.specs.Tags.{tag_bytes}
use Rattle.flash_tree.specs.Groups.{Group, AllThere}
use Rattle.transactions.specs.declared.source.PageName.{PageName}
use Rattle.transactions.specs.declared.group.GroupFault.{GroupFault}
use Rattle.transactions.specs.declared.group.GroupFault.TheVariants as faults
use Rattle.transactions.specs.declared.page.LastPage.{LastPage}
use Rattle.transactions.specs.declared.page.LastPage.TheVariants as lasts
use Rattle.transactions.specs.Written.{Progress, StopsBy, WritesOne, WritesLast, LastEnds, LastNext, LastLeaves, WritesAll, AllEnds, AllLeaves, IsAsked, IsNothing, OneLacks, tag_in, page_in, unwritten}

-- a page that is not written is not the page that was wanted for
nothing_asked : (g : Group) (name : ℕ → PageName) (bytes : ℕ → List ℕ) (k : ℕ) (page : Page) → IsNothing page → page ≢ page_in g name bytes k
nothing_asked g name bytes k page nothing issued = elim nothing [
  | inl is ↦ let two : Erased ≡ page_in g name bytes k = sym is ∙ issued in cc
  | inr is ↦ let two : Uncorrectable ≡ page_in g name bytes k = sym is ∙ issued in cc
]

-- what is known of why a page stopped is known of the group
stops_on : (old mid new : Device) (g : Group) (name : ℕ → PageName) (bytes : ℕ → List ℕ) (i : ℕ) (fault : GroupFault)
    → Progress old mid g name bytes i → Lasts mid new → StopsBy mid new fault → StopsBy old new fault
stops_on old mid new g name bytes i faults.NoRoom so_far lasts ends = ends
stops_on old mid new g name bytes i faults.Failed so_far lasts ends = (ends.0 ∙ ap (λ n. n + 1) so_far.failures, ends.1, omega (arith, so_far.changes, ends.2))
stops_on old mid new g name bytes i faults.Lost so_far lasts ends = sym so_far.lasts.honest ∙ ends
stops_on old mid new g name bytes i faults.Gone so_far lasts ends = ends

-- and the page on which it stopped is read once at most
reads_on : (old mid new : Device) (fault : GroupFault) → ReadsFew 0 old mid → Lasts mid new → new.reads ≤ mid.reads + 1 → StopsBy mid new fault → ReadsFew (unwritten {T = Unit {0}} (Err fault)) old new
reads_on old mid new faults.NoRoom so_far lasts once ends = omega (arith, so_far, lasts.changes, lasts.failures, once)
reads_on old mid new faults.Failed so_far lasts once ends = omega (arith, so_far, lasts.changes, ends.0, once)
reads_on old mid new faults.Lost so_far lasts once ends = omega (arith, so_far, lasts.changes, lasts.failures, once)
reads_on old mid new faults.Gone so_far lasts once ends = omega (arith, so_far, lasts.changes, lasts.failures, once)

module _ (old mid : Device) (g : Group) (name : ℕ → PageName) (bytes : ℕ → List ℕ) (i : ℕ) (so_far : Progress old mid g name bytes i) where
  -- only erased pages were written
  pub progress_grows : old.honest ≡ true → ((l : ℕ) → g.start ≤ l → old.flash.page g.block l ≡ Erased) → Grows old.flash mid.flash
  progress_grows h erased k l not = elim (cases_eq k g.block) [
    | inr ne ↦ so_far.other_blocks h k l ne
    | inl e ↦ elim (cases_lt l g.start) [
      | inl less ↦ ap (λ n. mid.flash.page n l) e ∙ so_far.before h l less ∙ ap (λ n. old.flash.page n l) (sym e)
      | inr le ↦ absurd (not (ap (λ n. old.flash.page n l) e ∙ erased l le))
    ]
  ]

  -- before the first page none is other
  none_yet : old.honest ≡ true → i ≡ 0 → (k l : ℕ) → mid.flash.page k l ≡ old.flash.page k l
  none_yet h zero k l = elim (cases_eq k g.block) [
    | inr ne ↦ so_far.other_blocks h k l ne
    | inl e ↦ elim (cases_lt l g.start) [
      | inl less ↦ ap (λ n. mid.flash.page n l) e ∙ so_far.before h l less ∙ ap (λ n. old.flash.page n l) (sym e)
      | inr le ↦ ap (λ n. mid.flash.page n l) e ∙ so_far.rest h l (omega (arith, le, zero)) ∙ ap (λ n. old.flash.page n l) (sym e)
    ]
  ]

module _ (old mid new : Device) (g : Group) (name : ℕ → PageName) (bytes bytes' : ℕ → List ℕ) (i : ℕ) (so_far : Progress old mid g name bytes i) (same : old.honest ≡ true → bytes' i ≡ bytes i) where
  mid_honest : old.honest ≡ true → mid.honest ≡ true
  mid_honest h = so_far.lasts.honest ∙ h

  page_same : old.honest ≡ true → page_in g name bytes' i ≡ page_in g name bytes i
  page_same h = ap (λ b. Written b (tag_bytes (tag_in g name i))) (same h)

  asked_same : old.honest ≡ true → (page : Page) → IsAsked g name bytes' i page → IsAsked g name bytes i page
  asked_same h page is = (is.0 ∙ page_same h, is.1)

  -- where there was no change no page was written
  still_yet : (mid.honest ≡ true → new.changes ≡ mid.changes → (k l : ℕ) → new.flash.page k l ≡ mid.flash.page k l) → Lasts mid new
      → old.honest ≡ true → new.changes ≡ old.changes → (k l : ℕ) → new.flash.page k l ≡ old.flash.page k l
  still_yet still lasts h same k l =
      let none : i ≡ 0 = omega (arith, so_far.changes, lasts.changes, same) in
      still (mid_honest h) (omega (arith, so_far.changes, same, none)) k l ∙ none_yet old mid g name bytes i so_far h none k l

  -- one more page is written
  pub progress_more : i < g.size → WritesOne mid new g name bytes' i (Ok tt) → Progress old new g name bytes (i + 1)
  progress_more lt one =
      let at : (g.start + i) + 1 ≡ g.start + (i + 1) = omega arith in
      record {
        lasts = lasts_on old mid new so_far.lasts one.lasts;
        failures = one.ends.0 ∙ so_far.failures;
        changes = omega (arith, one.ends.2, so_far.changes);
        reads = omega (arith, one.ends.0, one.ends.2, one.reads, so_far.reads);
        bad = one.bad ∙ so_far.bad;
        next = one.next ∙ ap Some at;
        other_nexts = λ k ne. one.other_nexts k ne ∙ so_far.other_nexts k ne;
        named = λ h k less. elim (cases_eq k i) [
          | inl e ↦ subst (λ n. IsAsked g name bytes n (new.flash.page g.block (g.start + n))) (sym e) (asked_same h _ (one.page (mid_honest h)))
          | inr ne ↦
              let apart : g.start + k ≢ g.start + i = λ is. ne (omega arith) in
              let was = so_far.named h k (omega arith) in
              (one.same_block (mid_honest h) _ apart ∙ was.0, was.1)
        ];
        before = λ h l less. let apart : l ≢ g.start + i = omega arith in one.same_block (mid_honest h) l apart ∙ so_far.before h l less;
        rest = λ h l le. let apart : l ≢ g.start + i = omega arith in one.same_block (mid_honest h) l apart ∙ so_far.rest h l (omega arith);
        other_blocks = λ h k l ne. one.other_blocks (mid_honest h) k l ne ∙ so_far.other_blocks h k l ne;
      }

  module _ (erased : old.honest ≡ true → (l : ℕ) → g.start ≤ l → old.flash.page g.block l ≡ Erased)
      (same_block : old.honest ≡ true → (l : ℕ) → l ≢ g.start + i → new.flash.page g.block l ≡ mid.flash.page g.block l) where
    -- a place behind page i is erased
    later : old.honest ≡ true → (k : ℕ) → i < k → new.flash.page g.block (g.start + k) ≡ Erased
    later h k less =
        let apart : g.start + k ≢ g.start + i = omega arith in
        same_block h _ apart ∙ so_far.rest h _ (omega arith) ∙ erased h _ (omega arith)

    -- a place before it is as wanted
    earlier : old.honest ≡ true → (k : ℕ) → k < i → IsAsked g name bytes k (new.flash.page g.block (g.start + k))
    earlier h k less =
        let apart : g.start + k ≢ g.start + i = omega arith in
        let was = so_far.named h k less in
        (same_block h _ apart ∙ was.0, was.1)

    -- no page is written before those in front of it
    in_turn : old.honest ≡ true → (n k : ℕ) → k < n → new.flash.page g.block (g.start + n) ≢ Erased → IsAsked g name bytes k (new.flash.page g.block (g.start + k))
    in_turn h n k less written = elim (cases_lt i n) [
      | inl behind ↦ absurd (written (later h n behind))
      | inr upto ↦ earlier h k (omega (arith, less, upto))
    ]

    -- the pages of the group, by what is known of page i
    inside : old.honest ≡ true → IsAsked g name bytes i (new.flash.page g.block (g.start + i)) ⊎ IsNothing (new.flash.page g.block (g.start + i))
        → (k : ℕ) → k < g.size → IsAsked g name bytes k (new.flash.page g.block (g.start + k)) ⊎ IsNothing (new.flash.page g.block (g.start + k))
    inside h this k less = elim (cases_eq k i) [
      | inl e ↦ subst (λ n. IsAsked g name bytes n (new.flash.page g.block (g.start + n)) ⊎ IsNothing (new.flash.page g.block (g.start + n))) (sym e) this
      | inr ne ↦ elim (cases_lt k i) [ inl before ↦ inl (earlier h k before) | inr after ↦ inr (inl (later h k (omega arith))) ]
    ]

    outside : old.honest ≡ true → i < g.size → (l : ℕ) → (l < g.start) ⊎ (g.start + g.size ≤ l) → new.flash.page g.block l ≡ old.flash.page g.block l
    outside h lt l either = elim either [
      | inl less ↦ let apart : l ≢ g.start + i = omega arith in same_block h l apart ∙ so_far.before h l less
      | inr le ↦ let apart : l ≢ g.start + i = omega arith in same_block h l apart ∙ so_far.rest h l (omega arith)
    ]

    -- with page i, the last one, all are there
    all_there : old.honest ≡ true → i + 1 ≡ g.size → IsAsked g name bytes i (new.flash.page g.block (g.start + i)) → AllThere g (tag_in g name) bytes new.flash
    all_there h end this k less = elim (cases_eq k i) [
      | inl e ↦ subst (λ n. IsAsked g name bytes n (new.flash.page g.block (g.start + n))) (sym e) this
      | inr ne ↦ earlier h k (omega arith)
    ]

  -- The writing stops at page i, which is not the last: the next one is not there.
  pub progress_stops : (fault : GroupFault) → i + 1 < g.size → (old.honest ≡ true → (l : ℕ) → g.start ≤ l → old.flash.page g.block l ≡ Erased)
      → WritesOne mid new g name bytes' i (Err fault) → WritesAll old new g name bytes (Err fault)
  progress_stops fault lt erased one =
      let same_block = λ (h : old.honest ≡ true). one.same_block (mid_honest h) in
      let lacks : old.honest ≡ true → OneLacks g name bytes new.flash = λ h. (i + 1, lt, nothing_asked g name bytes (i + 1) _ (inl (later erased same_block h (i + 1) (omega arith)))) in
      record {
        lasts = lasts_on old mid new so_far.lasts one.lasts;
        ends = stops_on old mid new g name bytes i fault so_far one.lasts one.ends;
        changes = omega (arith, one.changes, so_far.changes, lt);
        reads = reads_on old mid new fault so_far.reads one.lasts one.reads one.ends;
        bad = one.bad ∙ so_far.bad;
        next = tt;
        other_nexts = λ k ne. one.other_nexts k ne ∙ so_far.other_nexts k ne;
        wrote = λ h. record {
          bad = one.bad ∙ so_far.bad;
          others = λ k l ne. one.other_blocks (mid_honest h) k l ne ∙ so_far.other_blocks h k l ne;
          outside = outside erased same_block h (omega arith);
          inside = inside erased same_block h (elim (one.page (mid_honest h)) [ inl is ↦ inl (asked_same h _ is) | inr lost ↦ inr lost ]);
        };
        order = in_turn erased same_block;
        all = λ h. lacks_leaves fault (lacks h);
        still = still_yet one.still one.lasts;
      }
    where
      lacks_leaves : (fault : GroupFault) → OneLacks g name bytes new.flash → AllLeaves g name bytes new.flash (Err fault)
      lacks_leaves faults.NoRoom lacks = inr lacks
      lacks_leaves faults.Failed lacks = lacks
      lacks_leaves faults.Lost lacks = inr lacks
      lacks_leaves faults.Gone lacks = inr lacks

  -- the last page ends the group
  pub progress_ends : (result : Result LastPage GroupFault) → i + 1 ≡ g.size → (old.honest ≡ true → (l : ℕ) → g.start ≤ l → old.flash.page g.block l ≡ Erased)
      → WritesLast mid new g name bytes' i result → WritesAll old new g name bytes result
  progress_ends result end erased one =
      let same_block = λ (h : old.honest ≡ true). one.same_block (mid_honest h) in
      let at : g.start + i ≡ g.start + g.size - 1 = omega arith in
      record {
        lasts = lasts_on old mid new so_far.lasts one.lasts;
        ends = ends_all result one.ends;
        changes = omega (arith, one.changes, so_far.changes, end);
        reads = omega (arith, one.reads, so_far.reads);
        bad = one.bad ∙ so_far.bad;
        next = subst (λ n. LastNext n result (new.flash.next g.block)) at one.next;
        other_nexts = λ k ne. one.other_nexts k ne ∙ so_far.other_nexts k ne;
        wrote = λ h. record {
          bad = one.bad ∙ so_far.bad;
          others = λ k l ne. one.other_blocks (mid_honest h) k l ne ∙ so_far.other_blocks h k l ne;
          outside = outside erased same_block h (omega arith);
          inside = inside erased same_block h (left h result (one.page (mid_honest h)));
        };
        order = in_turn erased same_block;
        all = λ h. leaves h result (one.page (mid_honest h)) (all_there erased same_block h end);
        still = still_yet one.still one.lasts;
      }
    where
      ends_all : (result : Result LastPage GroupFault) → LastEnds mid new result → AllEnds old new g.size result
      ends_all (Ok lasts.Done) ends = (ends.0 ∙ so_far.failures, ends.1, omega (arith, ends.2, so_far.changes, end))
      ends_all (Ok lasts.Suspect) ends = (ends.0 ∙ ap (λ n. n + 1) so_far.failures, ends.1, omega (arith, ends.2, so_far.changes, end))
      ends_all (Err fault) ends = stops_on old mid new g name bytes i fault so_far one.lasts ends

      left : old.honest ≡ true → (result : Result LastPage GroupFault) → LastLeaves g name bytes' i result (new.flash.page g.block (g.start + i))
          → IsAsked g name bytes i (new.flash.page g.block (g.start + i)) ⊎ IsNothing (new.flash.page g.block (g.start + i))
      left h (Ok last) is = inl (asked_same h _ is)
      left h (Err faults.NoRoom) is = elim is [ inl issued ↦ inl (asked_same h _ issued) | inr lost ↦ inr lost ]
      left h (Err faults.Failed) is = inr is
      left h (Err faults.Lost) is = elim is [ inl issued ↦ inl (asked_same h _ issued) | inr lost ↦ inr lost ]
      left h (Err faults.Gone) is = elim is [ inl issued ↦ inl (asked_same h _ issued) | inr lost ↦ inr lost ]

      lacking : IsNothing (new.flash.page g.block (g.start + i)) → OneLacks g name bytes new.flash
      lacking lost = (i, omega (arith, end), nothing_asked g name bytes i _ lost)

      leaves : old.honest ≡ true → (result : Result LastPage GroupFault) → LastLeaves g name bytes' i result (new.flash.page g.block (g.start + i))
          → (IsAsked g name bytes i (new.flash.page g.block (g.start + i)) → AllThere g (tag_in g name) bytes new.flash) → AllLeaves g name bytes new.flash result
      leaves h (Ok last) is all = all (asked_same h _ is)
      leaves h (Err faults.NoRoom) is all = elim is [ inl issued ↦ inl (all (asked_same h _ issued)) | inr lost ↦ inr (lacking lost) ]
      leaves h (Err faults.Failed) is all = lacking is
      leaves h (Err faults.Lost) is all = elim is [ inl issued ↦ inl (all (asked_same h _ issued)) | inr lost ↦ inr (lacking lost) ]
      leaves h (Err faults.Gone) is all = elim is [ inl issued ↦ inl (all (asked_same h _ issued)) | inr lost ↦ inr (lacking lost) ]
