-- What holds after a group.
use Rattle.std.proofs.Common.{◌≡◌, ◌≢◌, ◌⊎◌, ◌+◌, ◌-◌, ◌<◌, ◌≤◌, if◌then◌else◌, ℕ, Bool, true, false, List, Option, Some, None, Ok, Err, Result, refl, sym, ◌∙◌, ap, subst, arith, inl, inr}
use Rattle.std.specs.Option.{option_map_or}
use Rattle.std.proofs.lemmas.Bool.{cases_eq, cases_lt}
use Rattle.nand_model.specs.Flash.{Erased, IsClean, Written}
use Rattle.nand_model.specs.Calls.{Device, Lasts}
use Rattle.nand_model.specs.Changes.{Grows}
use Rattle.nand_model.specs.declared.geometry.Geometry.{Geometry}
use Rattle.block_state.specs.declared.blocks.BlockEntry.{BlockEntry}
use Rattle.page_tags.specs.declared.tag.Tag.{Tag}
use Rattle.page_tags.specs.Tags.{tag_bytes}
use Rattle.flash_tree.specs.Groups.{AllThere, Group, HasTag}
use Rattle.block_state.specs.Table.{Table, room}
use Rattle.transactions.specs.declared.source.PageName.{PageName}
use Rattle.transactions.specs.declared.place.GroupPlace.{GroupPlace}
use Rattle.transactions.specs.declared.group.GroupFault.{GroupFault}
use Rattle.transactions.specs.declared.group.GroupFault.TheVariants as faults
use Rattle.transactions.specs.declared.page.LastPage.{LastPage}
use Rattle.transactions.specs.declared.page.LastPage.TheVariants as lasts
use Rattle.flash_tree.specs.Numbering.{AreBelow}
use Rattle.transactions.specs.Ready.{IsOpenOn, IsReady, IsPlaceIn, IsWrittenInOrder}
use Rattle.transactions.specs.Handing.{HandsNumbers}
use Rattle.flash_tree.specs.Summaries.{AreSummariesRight}
use Rattle.flash_tree.specs.Summarizing.{WritesIn}
use Rattle.flash_tree.specs.laws.Summarizing.{right_none}
use Rattle.flash_tree.specs.Truth.{KeepsTrue}
use Rattle.flash_tree.specs.laws.Truth.{true_same}
use Rattle.transactions.specs.laws.Handing.{below_greater}
use Rattle.transactions.specs.laws.Ready.{none_waits}
use Rattle.transactions.specs.laws.Truth.{true_ordinary, ordinary_after, none_summarized}
use Rattle.transactions.specs.Naming.{AreOrdinary, BeginsOther}
use Rattle.transactions.specs.Written.{WritesAll, AllEnds, AllLeaves, LastNext, TableAfter, MayWrite, group_at, tag_in, stays_open, is_suspect}
use Rattle.transactions.specs.declared.group.Placed.{Placed}
use Rattle.transactions.specs.Groups.{next_group, AddsPages, GroupsAfter, GroupEnds, OkTable, TableEnds, TakesPages, Stays, BelowAfter, WritesOpen}
use Rattle.transactions.proofs.GroupLaws.{IsFresh, is_added, is_not_added, wrote_grows, below_after, written_tag, tag_committed, tag_not_erased, tag_not_lost}

-- the table with the group number handed out
abbrev pub numbered : Table → Table
numbered t = record t { next_group = t.next_group + 1 }

-- the next numbers and the checkpoint stay when the end of a group is noted
after_numbers : (block count : ℕ) (open_still : Bool) (t t' : Table) → TableAfter block count open_still t t'
    → (t'.next_group ≡ t.next_group) × (t'.next_seq ≡ t.next_seq) × (t'.checkpoint ≡ t.checkpoint)
after_numbers block count true t t' (sets, still, noted, seq) = (sets.next_group, seq, noted)
after_numbers block count false t t' is = (ap (λ (x : Table). x.next_group) is, ap (λ (x : Table). x.next_seq) is, ap (λ (x : Table). x.checkpoint) is)

-- where nothing is written
pub nothing_written : (d : Device) (t : Table) → IsReady d t → IsClean d.flash → d.honest ≡ true → WritesOpen t d.flash d.flash
nothing_written d t can_write clean h = record {
  grows = λ k l not. refl;
  within = λ o is.
      let opens = can_write.open_block o is in
      let ordered = opens.in_order h in
      record {
        grows = λ k l not. refl;
        bads = refl;
        elsewhere = λ k l ne. refl;
        own = ordered.own;
        named = λ l u has. inl has;
        begun = λ l u has blank. elim (cases_eq (t.entry o).next 0) [
          | inr some ↦ ordered.written 0 (omega (arith, some)) blank
          | inl none ↦ tag_not_erased d.flash _ _ _ has (clean o (t.entry o).next l opens.next (omega (arith, none)))
        ];
        below = let seq : t.next_seq ≡ 1 + (t.entry o).seq = omega (arith, opens.seq) in subst (AreBelow d.flash t.next_group) seq (can_write.below h);
      };
}

module _ (old : Device) (t : Table) (count : ℕ) (place : GroupPlace) (can_write : IsReady old t) (at : IsPlaceIn t count place) where
  open_now : IsOpenOn old t place.block
  open_now = can_write.open_block place.block at.block

  -- a block is open, so none may have a checkpoint
  none_now : t.checkpoint ≡ None
  none_now = none_waits old t place.block can_write at.block

  -- the device may write the first page
  pub may_write : MayWrite old place 0
  may_write =
      let first : (t.entry place.block).next ≡ place.first + 0 = omega (arith, at.first) in
      record {
        block = open_now.within;
        good = open_now.good;
        pages = subst (λ (g : Geometry). place.first + place.count ≤ g.pages) can_write.geometry (omega (arith, at.pages, at.count_is));
        next = open_now.next ∙ ap Some first;
        seq = omega (arith, at.seq, open_now.seq);
      }

  -- the place is that of the next group
  pub group_is : (o : ℕ) → t.open_block ≡ Some o → group_at place ≡ next_group t count o
  group_is o is =
      let both : Some place.block ≡ Some o = sym at.block ∙ is in
      let block : place.block ≡ o = cc in
      let first : place.first ≡ (t.entry o).next = at.first ∙ ap (λ b. (t.entry b).next) block in
      let seq : place.seq ≡ (t.entry o).seq = at.seq ∙ ap (λ b. (t.entry b).seq) block in
      let size : place.count ≡ count = at.count_is in
      let number : place.group ≡ t.next_group = at.group in
      λ i. record { block = block i; start = first i; size = size i; number = number i; seq = seq i }

  module _ (new : Device) (name : ℕ → PageName) (bytes : ℕ → List ℕ) (result : Result LastPage GroupFault) (all : WritesAll old new (group_at place) name bytes result)
      (some : 1 ≤ place.count) (erased : old.honest ≡ true → (l : ℕ) → place.first ≤ l → old.flash.page place.block l ≡ Erased) where
    fresh : old.honest ≡ true → IsFresh old.flash place.block place.group
    fresh h p u has is = let below = can_write.below h place.block p u open_now.good has in absurd (omega (arith, below, is, at.group))

    inside_erased : old.honest ≡ true → (i : ℕ) → i < place.count → old.flash.page place.block (place.first + i) ≡ Erased
    inside_erased h i lt = erased h (place.first + i) (omega arith)

    pub group_grows : old.honest ≡ true → Grows old.flash new.flash
    group_grows h = wrote_grows (group_at place) name bytes old.flash new.flash (all.wrote h) (inside_erased h) (fresh h)

    below_seq : old.honest ≡ true → (seq : ℕ) → place.seq < seq → AreBelow old.flash t.next_group seq → AreBelow new.flash (t.next_group + 1) seq
    below_seq h seq lt below =
        subst (λ n. AreBelow new.flash (n + 1) seq) at.group
        (below_after (group_at place) name bytes old.flash new.flash (all.wrote h) (inside_erased h) (fresh h) seq lt
        (subst (λ n. AreBelow old.flash n seq) (sym at.group) below))

    numbers_below : new.honest ≡ true → AreBelow new.flash (t.next_group + 1) t.next_seq
    numbers_below honest =
        let h : old.honest ≡ true = sym all.lasts.honest ∙ honest in
        below_seq h t.next_seq (omega (arith, at.seq, open_now.seq)) (can_write.below h)

    -- numbers above the block's stay above all tags
    pub group_below : old.honest ≡ true → (o : ℕ) → t.open_block ≡ Some o → BelowAfter t o old.flash new.flash
    group_below h o is seq lt below =
        let both : Some place.block ≡ Some o = sym at.block ∙ is in
        let same : place.block ≡ o = cc in
        let of_block : place.seq ≡ (t.entry o).seq = at.seq ∙ ap (λ b. (t.entry b).seq) same in
        below_greater new.flash (t.next_group + 1) seq _ _ (omega arith) (omega arith) (below_seq h seq (omega (arith, of_block, lt)) below)

    -- a tag of the block was there before, or is that of a page of the group
    tag_place : old.honest ≡ true → (l : ℕ) (u : Tag) → HasTag new.flash place.block l u
        → ((l < place.first) × HasTag old.flash place.block l u) ⊎ ((i : ℕ) × (i < place.count) × (l ≡ place.first + i) × (u ≡ tag_in (group_at place) name i))
    tag_place h l u has = elim (cases_lt l place.first) [
      | inl before ↦ inl (before, tag_committed new.flash old.flash _ _ _ has (sym ((all.wrote h).outside l (inl before))))
      | inr from ↦ elim (cases_lt l (place.first + place.count)) [
        | inr after ↦ absurd (tag_not_erased new.flash _ _ _ has ((all.wrote h).outside l (inr after) ∙ erased h l from))
        | inl within ↦
            let i : ℕ = l - place.first in
            let same : l ≡ place.first + i = omega arith in
            let has' : HasTag new.flash place.block (place.first + i) u = subst (λ n. HasTag new.flash place.block n u) same has in
            inr (
              i,
              omega (arith, within, from),
              same,
              elim ((all.wrote h).inside i (omega (arith, within, from))) [
                | inl is ↦ written_tag new.flash _ _ u _ (bytes i) has' is.0 is.1
                | inr lost ↦ absurd (elim lost [ inl is ↦ tag_not_erased new.flash _ _ _ has' is | inr is ↦ tag_not_lost new.flash _ _ _ has' is ])
              ],
            )
      ]
    ]

    -- each tag of the block has its seq
    own_seq : old.honest ≡ true → (l : ℕ) (u : Tag) → HasTag new.flash place.block l u → u.seq ≡ place.seq
    own_seq h l u has = elim (tag_place h l u has) [
      | inl was ↦ (open_now.in_order h).own l u was.1 ∙ sym at.seq
      | inr is ↦ ap (λ (x : Tag). x.seq) is.3
    ]

    -- the block has no tag without its first page
    begun : old.honest ≡ true → (l : ℕ) (u : Tag) → HasTag new.flash place.block l u → new.flash.page place.block 0 ≢ Erased
    begun h l u has blank = elim (cases_eq place.first 0) [
      | inr some_before ↦ (open_now.in_order h).written 0 (omega (arith, some_before, at.first)) (sym ((all.wrote h).outside 0 (inl (omega (arith, some_before)))) ∙ blank)
      | inl zero ↦ elim (tag_place h l u has) [
        | inl was ↦ let before = was.0 in omega (arith, before, zero)
        | inr is ↦ elim (cases_eq is.0 0) [
          | inl none ↦
              let l_is = is.2 in
              let here : l ≡ 0 = omega (arith, l_is, none, zero) in
              tag_not_erased new.flash _ _ _ has (ap (new.flash.page place.block) here ∙ blank)
          | inr later ↦
              let has' : HasTag new.flash place.block (place.first + is.0) u = subst (λ n. HasTag new.flash place.block n u) is.2 has in
              let issued = (all.order h is.0 0 (omega (arith, later)) (tag_not_erased new.flash _ _ _ has')).0 in
              let here : place.first + 0 ≡ 0 = omega (arith, zero) in
              let two : Written (bytes 0) (tag_bytes (tag_in (group_at place) name 0)) ≡ Erased = sym issued ∙ ap (new.flash.page place.block) here ∙ blank in
              cc
        ]
      ]
    ]

    -- only pages of the open block are written
    writes_in : old.honest ≡ true → WritesIn place.block place.group place.seq old.flash new.flash
    writes_in h = record {
      grows = group_grows h;
      bads = all.bad;
      elsewhere = λ k l ne. (all.wrote h).others k l ne;
      own = own_seq h;
      named = λ l u has. elim (tag_place h l u has) [ inl was ↦ inl was.1 | inr is ↦ inr (ap (λ (x : Tag). x.group) is.3) ];
      begun = begun h;
      below =
          let seq : t.next_seq ≡ 1 + place.seq = open_now.seq.1 ∙ omega (arith, at.seq) in
          subst (λ n. AreBelow old.flash n (1 + place.seq)) (sym at.group) (subst (AreBelow old.flash t.next_group) seq (can_write.below h));
    }

    pub group_writes : old.honest ≡ true → WritesOpen t old.flash new.flash
    group_writes h = record {
      grows = group_grows h;
      within = λ o is. subst (λ (x : Group). WritesIn x.block x.number x.seq old.flash new.flash) (group_is o is) (writes_in h);
    }

    -- where the group does not begin as a summary, each summary stays right
    pub group_right : (h : old.honest ≡ true) (placed : Result Placed GroupFault) → GroupsAfter (group_at place) name bytes old.flash new.flash placed → BeginsOther (name 0)
        → AreSummariesRight old.geometry old.flash → AreSummariesRight new.geometry new.flash
    group_right h placed groups other right =
        subst (λ (g : Geometry). AreSummariesRight g new.flash) (sym all.lasts.geometry)
        (right_none place.block place.group place.seq old.flash new.flash (writes_in h) old.geometry
        (none_summarized (group_at place) name bytes old.flash new.flash (omega (arith, some)) other placed groups) right)

    -- once all pages of the group are there, the block is written in order up to them
    in_order_after : old.honest ≡ true → AllThere (group_at place) (tag_in (group_at place) name) bytes new.flash
        → IsWrittenInOrder new.flash place.block ((t.entry place.block).next + place.count) (t.entry place.block).seq
    in_order_after h there = record { written = written; own = λ l u has. own_seq h l u has ∙ at.seq } where
      written : (l : ℕ) → l < (t.entry place.block).next + place.count → new.flash.page place.block l ≢ Erased
      written l lt is = elim (cases_lt l place.first) [
        | inl before ↦ (open_now.in_order h).written l (omega (arith, at.first, before)) (sym ((all.wrote h).outside l (inl before)) ∙ is)
        | inr from ↦
            let i : ℕ = l - place.first in
            let same : place.first + i ≡ l = omega arith in
            let page = (there i (omega (arith, at.first, lt))).0 in
            let two : Written (bytes i) (tag_bytes (tag_in (group_at place) name i)) ≡ Erased = sym page ∙ ap (new.flash.page place.block) same ∙ is in
            cc
      ]

    -- the table is ready again, whichever way it ended
    pub ready_after : (t' : Table) → TableAfter place.block place.count (stays_open result) (numbered t) t' → IsReady new t'
    ready_after t' after = go result all.next all.all after where
      next_here : (next : Option ℕ) → next ≡ Some (place.first + place.count - 1 + 1) → next ≡ Some ((t.entry place.block).next + place.count)
      next_here next is = let same : place.first + place.count - 1 + 1 ≡ (t.entry place.block).next + place.count = omega (arith, some, at.first) in is ∙ ap Some same

      closed_ready : t' ≡ record (numbered t) { open_block = None } → IsReady new t'
      closed_ready is = subst (IsReady new) (sym is) (record {
        geometry = can_write.geometry ∙ sym all.lasts.geometry;
        marks = λ b. can_write.marks b ∙ ap (λ f. f b) (sym all.bad);
        open_block = λ o none. let two : None ≡ Some o = none in absurd cc;
        waits = λ c is. let two : None ≡ Some c = sym none_now ∙ is in absurd cc;
        numbers = (omega (arith, can_write.numbers), can_write.numbers.1);
        below = numbers_below;
      })

      go : (result : Result LastPage GroupFault) → LastNext (place.first + place.count - 1) result (new.flash.next place.block)
          → (old.honest ≡ true → AllLeaves (group_at place) name bytes new.flash result)
          → TableAfter place.block place.count (stays_open result) (numbered t) t' → IsReady new t'
      go (Ok lasts.Suspect) next there is = closed_ready is
      go (Err fault) next there is = closed_ready is
      go (Ok lasts.Done) next there after =
          let parts : TableAfter place.block place.count true (numbered t) t' = after in
          let sets = parts.0 in
          let still = parts.1 in
          let noted = parts.2 in
          let seq = parts.3 in
          record {
            geometry = sets.geometry ∙ can_write.geometry ∙ sym all.lasts.geometry;
            marks = λ b. elim (cases_eq b place.block) [
              | inl e ↦ ap (λ k. (t'.entry k).bad) e ∙ ap (λ (x : BlockEntry). x.bad) sets.here ∙ ap (λ k. (t.entry k).bad) (sym e) ∙ can_write.marks b ∙ ap (λ f. f b) (sym all.bad)
              | inr ne ↦ ap (λ (x : BlockEntry). x.bad) (sets.others b ne) ∙ can_write.marks b ∙ ap (λ f. f b) (sym all.bad)
            ];
            open_block = λ o is.
                let both : Some place.block ≡ Some o = sym at.block ∙ sym still ∙ is in
                let same : place.block ≡ o = cc in
                subst (IsOpenOn new t') same (record {
                  within = subst (λ (g : Geometry). place.block < g.blocks) (sym all.lasts.geometry) open_now.within;
                  good = ap (λ f. f place.block) all.bad ∙ open_now.good;
                  next = next_here _ next ∙ ap (λ (x : BlockEntry). Some x.next) (sym sets.here);
                  pages = subst (λ (x : BlockEntry). x.next ≤ new.geometry.pages) (sym sets.here)
                      (subst (λ (g : Geometry). (t.entry place.block).next + place.count ≤ g.pages) (can_write.geometry ∙ sym all.lasts.geometry) (omega (arith, at.pages, at.first, at.count_is)));
                  seq = subst (λ n. (1 ≤ (t'.entry place.block).seq) × (n ≡ (t'.entry place.block).seq + 1)) (sym seq)
                      (subst (λ (x : BlockEntry). (1 ≤ x.seq) × (t.next_seq ≡ x.seq + 1)) (sym sets.here) open_now.seq);
                  in_order = λ honest.
                      let h : old.honest ≡ true = sym all.lasts.honest ∙ honest in
                      subst (λ (x : BlockEntry). IsWrittenInOrder new.flash place.block x.next x.seq) (sym sets.here) (in_order_after h (there h));
                });
            waits = λ c is. let two : None ≡ Some c = sym none_now ∙ sym noted ∙ is in absurd cc;
            numbers = (subst (λ n. 1 ≤ n) (sym sets.next_group) (omega (arith, can_write.numbers)), subst (λ n. 1 ≤ n) (sym seq) can_write.numbers.1);
            below = λ h. subst (λ n. AreBelow new.flash n t'.next_seq) (sym sets.next_group) (subst (λ n. AreBelow new.flash (t.next_group + 1) n) (sym seq) (numbers_below h));
          }

    -- with power an honest device in the count a change
    counts : (result : Result LastPage GroupFault) → AllEnds old new place.count result → old.honest ≡ true → new.gone ≡ false → 1 + old.changes ≤ new.changes
    counts (Ok lasts.Done) ends honest power = omega (arith, ends.2, some)
    counts (Ok lasts.Suspect) ends honest power = omega (arith, ends.2, some)
    counts (Err faults.NoRoom) ends honest power = absurd ends
    counts (Err faults.Failed) ends honest power = omega (arith, ends.2)
    counts (Err faults.Lost) ends honest power = let lies : true ≡ false = sym honest ∙ ends in absurd cc
    counts (Err faults.Gone) ends honest power = let two : true ≡ false = sym ends ∙ power in absurd cc

    below_written : old.honest ≡ true → (more : ℕ) → new.changes ≡ old.changes + more → AreBelow new.flash (t.next_group + more) (t.next_seq + more)
    below_written honest more totaled = elim (cases_eq more 0) [
      | inl none ↦ λ b p u good_block has.
          let page : new.flash.page b p ≡ old.flash.page b p = all.still honest (omega (arith, totaled, none)) b p in
          let was = can_write.below honest b p u (ap (λ f. f b) (sym all.bad) ∙ good_block) (record { bytes = has.bytes; page = sym page ∙ has.page; valid = has.valid }) in
          (omega (arith, was), omega (arith, was), omega (arith, was))
      | inr some_more ↦ below_greater new.flash (t.next_group + 1) t.next_seq _ _ (omega (arith, some_more)) (omega arith) (numbers_below (all.lasts.honest ∙ honest))
    ]

    -- the number of a group is handed out, and of no block
    pub group_hands : (t' : Table) → TableAfter place.block place.count (stays_open result) (numbered t) t' → HandsNumbers old new t t'
    group_hands t' after =
        let same = after_numbers place.block place.count (stays_open result) (numbered t) t' after in
        record {
          groups_rise = omega (arith, same.0);
          seqs_rise = omega (arith, same.1);
          seqs = omega (arith, same.1, all.lasts.changes);
          groups = λ honest power. omega (arith, same.0, counts result all.ends honest power);
          below = λ honest is. below_greater new.flash (t.next_group + 1) t.next_seq _ _ (omega (arith, same.0)) (omega (arith, same.1)) (numbers_below (all.lasts.honest ∙ honest));
          written = λ honest is. below_written honest;
        }

    -- what stays, however it ended
    pub group_stays : Stays t old new
    group_stays =
        let apart : (k : ℕ) → t.open_block ≢ Some k → k ≢ place.block = λ k not is. not (at.block ∙ ap Some (sym is)) in
        record {
          bad = all.bad;
          other_nexts = λ k not. all.other_nexts k (apart k not);
          other_blocks = λ h k l not. (all.wrote h).others k l (apart k not);
        }

    good : old.flash.bad place.block ≡ false
    good = open_now.good

  -- the group counts after Ok
  pub groups_ok : (new : Device) (name : ℕ → PageName) (bytes : ℕ → List ℕ) (last : LastPage) → WritesAll old new (group_at place) name bytes (Ok last) → 1 ≤ place.count
      → (old.honest ≡ true → (l : ℕ) → place.first ≤ l → old.flash.page place.block l ≡ Erased) → old.honest ≡ true
      → AddsPages (group_at place) name bytes old.flash new.flash
  groups_ok new name bytes last all some erased h = record {
    group = is_added (group_at place) name bytes old.flash new.flash (all.wrote h) (inside_erased new name bytes (Ok last) all some erased h) (fresh new name bytes (Ok last) all some erased h) open_now.good some (all.all h);
    pages = all.all h;
  }

  -- and not after a failure
  pub groups_err : (new : Device) (name : ℕ → PageName) (bytes : ℕ → List ℕ) (fault : GroupFault) → WritesAll old new (group_at place) name bytes (Err fault) → 1 ≤ place.count
      → (old.honest ≡ true → (l : ℕ) → place.first ≤ l → old.flash.page place.block l ≡ Erased) → old.honest ≡ true
      → GroupsAfter (group_at place) name bytes old.flash new.flash (Err fault)
  groups_err new name bytes faults.NoRoom all some erased h = absurd all.ends
  groups_err new name bytes faults.Failed all some erased h =
      let lacks = all.all h in
      is_not_added (group_at place) name bytes old.flash new.flash (all.wrote h) (inside_erased new name bytes _ all some erased h) (fresh new name bytes _ all some erased h) lacks.0 lacks.1 lacks.2
  groups_err new name bytes faults.Lost all some erased h = let lies : true ≡ false = sym h ∙ all.ends in absurd cc
  groups_err new name bytes faults.Gone all some erased h = elim (all.all h) [
    | inl there ↦ inr (record { group = is_added (group_at place) name bytes old.flash new.flash (all.wrote h) (inside_erased new name bytes _ all some erased h) (fresh new name bytes _ all some erased h) open_now.good some there; pages = there })
    | inr lacks ↦ inl (is_not_added (group_at place) name bytes old.flash new.flash (all.wrote h) (inside_erased new name bytes _ all some erased h) (fresh new name bytes _ all some erased h) lacks.0 lacks.1 lacks.2)
  ]

-- The open block has its pages less, and the number is used.
pub table_filled : (t t' : Table) (count : ℕ) (place : GroupPlace) → IsPlaceIn t count place → TableAfter place.block place.count true (numbered t) t' → TakesPages count t t'
table_filled t t' count place at (sets, still, noted, seq) = record {
  here = λ o is.
      let both : Some place.block ≡ Some o = sym at.block ∙ is in
      let same : place.block ≡ o = cc in
      subst (λ b. t'.entry b ≡ record (t.entry b) { next = (t.entry b).next + count }) same
      (sets.here ∙ ap (λ n. record (t.entry place.block) { next = (t.entry place.block).next + n }) at.count_is);
  others = λ k not. sets.others k (λ is. not (at.block ∙ ap Some (sym is)));
  geometry = sets.geometry;
  open_block = still;
  checkpoint = noted;
  next_seq = seq;
  next_number = sets.next_group;
}

-- what becomes of the table after Ok
pub ok_table : (t t' : Table) (count : ℕ) (place : GroupPlace) (last : LastPage) → IsPlaceIn t count place → TableAfter place.block place.count (stays_open (Ok last)) (numbered t) t' → OkTable (is_suspect last) count t t'
ok_table t t' count place lasts.Suspect at after = after
ok_table t t' count place lasts.Done at after = table_filled t t' count place at after

-- the room is that of before the number was handed out
pub room_left : (t mid : Table) (count : ℕ) (place : GroupPlace) → IsPlaceIn t count place → mid ≡ numbered t → count ≤ room t → place.count ≤ room mid
room_left t mid count place at is le = subst (λ (x : Table). place.count ≤ room x) (sym is) (omega (arith, at.count_is, le))

-- how a group ends that was written
pub ends_written : (old new : Device) (count : ℕ) (last : LastPage) → AllEnds old new count (Ok last)
    → (new.failures ≡ old.failures + (if is_suspect last then 1 else 0)) × (new.gone ≡ false) × (new.changes ≡ old.changes + count)
ends_written old new count lasts.Done ends = (omega (arith, ends.0), ends.1, ends.2)
ends_written old new count lasts.Suspect ends = (omega (arith, ends.0), ends.1, ends.2)

-- ---- checkpoints

-- the block that may have a checkpoint stays, however a group ended
ok_noted : (suspect : Bool) (count : ℕ) (t u : Table) → OkTable suspect count t u → u.checkpoint ≡ t.checkpoint
ok_noted true count t u is = ap (λ (x : Table). x.checkpoint) is
ok_noted false count t u takes = takes.checkpoint

pub ends_noted : (count : ℕ) (t u : Table) (result : Result Placed GroupFault) → TableEnds count t u result → u.checkpoint ≡ t.checkpoint
ends_noted count t u (Ok placed) ends = ok_noted placed.suspect count t u ends
ends_noted count t u (Err faults.NoRoom) ends = ap (λ (x : Table). x.checkpoint) ends
ends_noted count t u (Err faults.Failed) ends = ap (λ (x : Table). x.checkpoint) ends
ends_noted count t u (Err faults.Lost) ends = ap (λ (x : Table). x.checkpoint) ends
ends_noted count t u (Err faults.Gone) ends = ap (λ (x : Table). x.checkpoint) ends

module _ (d e : Device) (t u : Table) (count : ℕ) (name : ℕ → PageName) (bytes : ℕ → List ℕ) (result : Result Placed GroupFault) (some : 1 ≤ count)
    (can_write : IsReady d t) (lasts : Lasts d e) (ends : GroupEnds d e count result) (table : TableEnds count t u result)
    (no_room : room t < count → result ≡ Err faults.NoRoom) where
  -- without an open block nothing is written
  nothing : t.open_block ≡ None → (d_is : e ≡ d) × (u ≡ t)
  nothing closed =
      let none : room t ≡ 0 = ap (λ o. option_map_or (λ k. t.geometry.pages - (t.entry k).next) o 0) closed in
      let is : result ≡ Err faults.NoRoom = no_room (omega (arith, none, some)) in
      (subst (GroupEnds d e count) is ends, subst (TableEnds count t u) is table)

  -- a group of other objects keeps the checkpoints right
  pub group_true : (d.honest ≡ true → (o : ℕ) → t.open_block ≡ Some o → GroupsAfter (next_group t count o) name bytes d.flash e.flash result)
      → (d.honest ≡ true → Grows d.flash e.flash) → e.flash.bad ≡ d.flash.bad → (d.honest ≡ true → AreOrdinary count name)
      → (d.honest ≡ true → BeginsOther (name 0) → AreSummariesRight d.geometry d.flash → AreSummariesRight e.geometry e.flash) → KeepsTrue d e t.checkpoint u.checkpoint
  group_true groups grows bads ordinary right = go t.open_block refl where
    go : (x : Option ℕ) → t.open_block ≡ x → KeepsTrue d e t.checkpoint u.checkpoint
    go None is =
        let same = nothing is in
        subst (λ (k : Device). KeepsTrue d k t.checkpoint u.checkpoint) (sym same.0) (true_same d t.checkpoint u.checkpoint (ap (λ (x : Table). x.checkpoint) same.1))
    go (Some o) is =
        true_ordinary d e t u lasts (none_waits d t o can_write is) (ends_noted count t u result table)
        (λ honest. ordinary_after (next_group t count o) name bytes d.flash e.flash (grows honest) bads (omega (arith, some)) (ordinary honest) result (groups honest o is))
        (λ honest. right honest (λ object chunk. ordinary honest 0 (omega (arith, some)) object))
