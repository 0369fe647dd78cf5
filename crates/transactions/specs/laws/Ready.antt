-- What keeps a device and its table ready.
use Rattle.std.specs.Prelude.{◌≡◌, ◌≢◌, ◌<◌, ◌≤◌, ℕ, ◌+◌, max, true, false, None, Some, Option, Result, if◌then◌else◌}
use Rattle.std.proofs.Common.{refl, sym, ◌∙◌, ap, subst, inl, inr, arith}
use Rattle.std.proofs.lemmas.Bool.{cases_Bool, cases_eq, cases_lt}
use Rattle.nand_model.specs.Flash.{Flash, Erased, Written, IsWithin}
use Rattle.nand_model.specs.Calls.{Device, Erases, Marks}
use Rattle.nand_model.specs.Changes.{Shrinks, OnlyReads, PowersUp}
use Rattle.nand_model.specs.laws.Changes.{shrinks-erase}
use Rattle.nand_model.specs.declared.geometry.Geometry.{Geometry}
use Rattle.nand_model.specs.declared.nand.EraseFault.{EraseFault}
use Rattle.nand_model.specs.declared.nand.Gone.{Gone}
use Rattle.page_tags.specs.Tags.{tag_bytes}
use Rattle.flash_tree.specs.Groups.{HasTag}
use Rattle.flash_tree.specs.Keeping.{Loses}
use Rattle.flash_tree.specs.Newest.{Numbers, AreAbove}
use Rattle.flash_tree.specs.laws.Newest.{tag_stays, loses_erase, loses_mark}
use Rattle.block_state.specs.declared.blocks.BlockEntry.{BlockEntry}
use Rattle.block_state.specs.laws.Checkpoint.{other_is_other}
use Rattle.flash_tree.specs.Mount.{bad_blocks}
use Rattle.block_state.specs.Counting.{how_many}
use Rattle.block_state.specs.Committed.{bad_count}
use Rattle.block_state.specs.Table.{Table, blank, is_bad, other_than}
use Rattle.flash_tree.specs.Numbering.{AreBelow}
use Rattle.transactions.specs.Ready.{IsOpenOn, IsWaiting, IsReady, IsWrittenInOrder}
use Rattle.transactions.specs.Opening.{Opens}
use Rattle.transactions.specs.Marking.{IsMarked, MarksNoted, NotesMark}

-- what a block loses brings no number
below_lost : (b : ℕ) (old new : Flash) (group seq : ℕ) → Loses b old new → AreBelow old group seq → AreBelow new group seq
below_lost b old new group seq loses below k l t good has = elim (cases_eq k b) [
  | inr ne ↦ below k l t (sym (loses.other_marks k ne) ∙ good) (tag_stays new old k l t (sym (loses.other_pages k l ne)) has)
  | inl e ↦
      subst (λ n. old.bad n ≡ false → HasTag old n l t → (t.version < group) × (t.group < group) × (t.seq < seq)) (sym e) (below b l t)
      (ap old.bad e ∙ loses.good (ap new.bad (sym e) ∙ good)) (subst (λ n. HasTag old n l t) (sym e) (loses.tags l t (subst (λ n. HasTag new n l t) e has)))
]

-- over an erase
pub below_erased : (b : ℕ) (old new : Flash) (group seq : ℕ) → Shrinks b old new → AreBelow old group seq → AreBelow new group seq
below_erased b old new group seq shrinks = below_lost b old new group seq (loses_erase b old new shrinks)

-- over a mark, done or cut
pub below_marked : (b : ℕ) (old new : Device) (group seq : ℕ) (result : Result (Unit {0}) Gone) → old.honest ≡ true → Marks b old new result
    → AreBelow old.flash group seq → AreBelow new.flash group seq
below_marked b old new group seq result honest does = below_lost b old.flash new.flash group seq (loses_mark b old new result honest does)

-- while a block is open no block may have a checkpoint
pub none_waits : (d : Device) (t : Table) (b : ℕ) → IsReady d t → t.open_block ≡ Some b → t.checkpoint ≡ None
none_waits d t b can_write opened = go t.checkpoint refl where
  go : (x : Option ℕ) → t.checkpoint ≡ x → t.checkpoint ≡ None
  go None is = is
  go (Some c) is = let two : None ≡ Some b = sym (can_write.waits c is).closed ∙ opened in absurd cc

-- what waits goes on to wait, where its block has the mark that it had and none was opened
waits_on : (old new : Device) (t u : Table) (c : ℕ) → ((k : ℕ) → t.checkpoint ≡ Some k → IsWaiting old t k) → t.checkpoint ≡ Some c → u.checkpoint ≡ Some c
    → new.geometry ≡ old.geometry → new.flash.bad c ≡ old.flash.bad c → (t.open_block ≡ None → u.open_block ≡ None) → IsWaiting new u c
waits_on old new t u c waits was is sizes mark closed =
    let waited = waits c was in
    record { within = subst (λ (g : Geometry). c < g.blocks) (sym sizes) waited.within; good = mark ∙ waited.good; closed = closed waited.closed }

-- a block whose pages are as they were is written in order still
in_order_same : (f h : Flash) (o next seq : ℕ) → ((l : ℕ) → h.page o l ≡ f.page o l) → IsWrittenInOrder f o next seq → IsWrittenInOrder h o next seq
in_order_same f h o next seq same is = record {
  written = λ l lt erased. is.written l lt (sym (same l) ∙ erased);
  own = λ l u has. is.own l u (record { bytes = has.bytes; page = sym (same l) ∙ has.page; valid = has.valid });
}

-- a block that was erased wholly is written in order: nothing is
in_order_erased : (f : Flash) (o seq : ℕ) → ((l : ℕ) → f.page o l ≡ Erased) → IsWrittenInOrder f o 0 seq
in_order_erased f o seq erased = record {
  written = λ l lt is. omega (arith, lt);
  own = λ l u has. let two : Written has.bytes (tag_bytes u) ≡ Erased = sym has.page ∙ erased l in absurd cc;
}

-- an erase of a block that is not open, however it ends
pub ready_erased : (b : ℕ) (old new : Device) (t : Table) (result : Result (Unit {0}) EraseFault) → IsReady old t → t.open_block ≢ Some b → Erases b old new result → IsReady new t
ready_erased b old new t result can_write closed does = record {
  geometry = can_write.geometry ∙ sym does.lasts.geometry;
  marks = λ k. can_write.marks k ∙ ap (λ f. f k) (sym does.bad);
  open_block = λ o is.
      let was : IsOpenOn old t o = can_write.open_block o is in
      record {
        within = subst (λ (g : Geometry). o < g.blocks) (sym does.lasts.geometry) was.within;
        good = ap (λ f. f o) does.bad ∙ was.good;
        next = does.other_nexts o (λ same. closed (is ∙ ap Some same)) ∙ was.next;
        pages = subst (λ (g : Geometry). (t.entry o).next ≤ g.pages) (sym does.lasts.geometry) was.pages;
        seq = was.seq;
        in_order = λ honest.
            let h : old.honest ≡ true = sym does.lasts.honest ∙ honest in
            in_order_same old.flash new.flash o _ _ (λ l. does.other_blocks h o l (λ same. closed (is ∙ ap Some same))) (was.in_order h);
      };
  waits = λ c is. waits_on old new t t c can_write.waits is is does.lasts.geometry (ap (λ f. f c) does.bad) (λ none. none);
  numbers = can_write.numbers;
  below = λ honest.
      let h : old.honest ≡ true = sym does.lasts.honest ∙ honest in
      below_erased b old.flash new.flash t.next_group t.next_seq (shrinks-erase b old new result h does) (can_write.below h);
}

-- the block that was erased is opened
pub ready_opened : (b : ℕ) (d : Device) (t t' : Table) → IsReady d t → b < d.geometry.blocks → d.flash.bad b ≡ false → d.flash.next b ≡ Some 0
    → (d.honest ≡ true → (l : ℕ) → d.flash.page b l ≡ Erased) → Opens b t t' → IsReady d t'
ready_opened b d t t' can_write lt good next erased opens = record {
  geometry = opens.sets.geometry ∙ can_write.geometry;
  marks = λ k. elim (cases_eq k b) [
    | inl e ↦ ap (λ n. (t'.entry n).bad) e ∙ ap (λ (x : BlockEntry). x.bad) opens.sets.here ∙ ap (λ n. (t.entry n).bad) (sym e) ∙ can_write.marks k
    | inr ne ↦ ap (λ (x : BlockEntry). x.bad) (opens.sets.others k ne) ∙ can_write.marks k
  ];
  open_block = λ o is.
      let both : Some b ≡ Some o = sym opens.open_block ∙ is in
      let same : b ≡ o = cc in
      subst (IsOpenOn d t') same (record {
        within = lt;
        good = good;
        next = next ∙ ap (λ (x : BlockEntry). Some x.next) (sym opens.sets.here);
        pages = subst (λ (x : BlockEntry). x.next ≤ d.geometry.pages) (sym opens.sets.here) (omega arith);
        seq = subst (λ (x : BlockEntry). (1 ≤ x.seq) × (t'.next_seq ≡ x.seq + 1)) (sym opens.sets.here) (can_write.numbers.1, opens.next_seq);
        in_order = λ honest. subst (λ (x : BlockEntry). IsWrittenInOrder d.flash b x.next x.seq) (sym opens.sets.here) (in_order_erased d.flash b t.next_seq (erased honest));
      });
  waits = λ c is. let two : None ≡ Some c = sym opens.checkpoint ∙ is in absurd cc;
  numbers = (subst (λ n. 1 ≤ n) (sym opens.sets.next_group) can_write.numbers.0, omega (arith, opens.next_seq));
  below = λ honest k l u good has.
      let was = can_write.below honest k l u good has in
      (omega (arith, was, opens.sets.next_group), omega (arith, was, opens.sets.next_group), omega (arith, was, opens.next_seq));
}

-- any number of reads
pub ready_read : (old new : Device) (t : Table) → IsReady old t → OnlyReads old new → IsReady new t
ready_read old new t can_write reads = record {
  geometry = can_write.geometry ∙ sym reads.lasts.geometry;
  marks = λ k. can_write.marks k ∙ ap (λ f. f k) (sym reads.bad);
  open_block = λ o is.
      let was : IsOpenOn old t o = can_write.open_block o is in
      record {
        within = subst (λ (g : Geometry). o < g.blocks) (sym reads.lasts.geometry) was.within;
        good = ap (λ f. f o) reads.bad ∙ was.good;
        next = ap (λ f. f o) reads.next ∙ was.next;
        pages = subst (λ (g : Geometry). (t.entry o).next ≤ g.pages) (sym reads.lasts.geometry) was.pages;
        seq = was.seq;
        in_order = λ honest.
            let h : old.honest ≡ true = sym reads.lasts.honest ∙ honest in
            in_order_same old.flash new.flash o _ _ (λ l. ap (λ f. f o l) (reads.page h)) (was.in_order h);
      };
  waits = λ c is. waits_on old new t t c can_write.waits is is reads.lasts.geometry (ap (λ f. f c) reads.bad) (λ none. none);
  numbers = can_write.numbers;
  below = λ honest.
      let h : old.honest ≡ true = sym reads.lasts.honest ∙ honest in
      let page = reads.page h in
      let same : new.flash ≡ old.flash = λ i. record { bad = reads.bad i; next = reads.next i; page = page i } in
      subst (λ (f : Flash). AreBelow f t.next_group t.next_seq) (sym same) (can_write.below h);
}

-- all tags are below the numbers after the greatest
pub above_below : (f : Flash) (n : Numbers) → AreAbove f n → AreBelow f (n.group + 1) (n.seq + 1)
above_below f n above b p t good has =
    let most = above b p t good has in
    let version : t.version ≤ t.group = has.valid.version.1 in
    (omega (arith, most, version), omega (arith, most), omega (arith, most))

-- a mark of a block that is not open, done or cut
pub ready_marked : (b : ℕ) (old new : Device) (t t' : Table) (result : Result (Unit {0}) Gone) → IsReady old t → t.open_block ≢ Some b → Marks b old new result
    → NotesMark b new.flash t t' → IsReady new t'
ready_marked b old new t t' result can_write closed does notes = record {
  geometry = notes.sets.geometry ∙ can_write.geometry ∙ sym does.lasts.geometry;
  marks = λ k. elim (cases_eq k b) [
    | inl e ↦ ap (λ n. (t'.entry n).bad) e ∙ ap (λ (x : BlockEntry). x.bad) notes.sets.here ∙ ap new.flash.bad (sym e)
    | inr ne ↦ ap (λ (x : BlockEntry). x.bad) (notes.sets.others k ne) ∙ can_write.marks k ∙ sym (does.other_bads k ne)
  ];
  open_block = λ o is.
      let earlier : t.open_block ≡ Some o = sym notes.open_block ∙ is in
      let ne : o ≢ b = λ e. closed (earlier ∙ ap Some e) in
      let was : IsOpenOn old t o = can_write.open_block o earlier in
      let same : t'.entry o ≡ t.entry o = notes.sets.others o ne in
      record {
        within = subst (λ (g : Geometry). o < g.blocks) (sym does.lasts.geometry) was.within;
        good = does.other_bads o ne ∙ was.good;
        next = ap (λ f. f o) does.next ∙ was.next ∙ ap (λ (x : BlockEntry). Some x.next) (sym same);
        pages = subst (λ (x : BlockEntry). x.next ≤ new.geometry.pages) (sym same) (subst (λ (g : Geometry). (t.entry o).next ≤ g.pages) (sym does.lasts.geometry) was.pages);
        seq = subst (λ n. (1 ≤ (t'.entry o).seq) × (n ≡ (t'.entry o).seq + 1)) (sym notes.next_seq) (subst (λ (x : BlockEntry). (1 ≤ x.seq) × (t.next_seq ≡ x.seq + 1)) (sym same) was.seq);
        in_order = λ honest.
            let h : old.honest ≡ true = sym does.lasts.honest ∙ honest in
            subst (λ (x : BlockEntry). IsWrittenInOrder new.flash o x.next x.seq) (sym same)
            (in_order_same old.flash new.flash o _ _ (λ l. ap (λ f. f o l) (does.page h)) (was.in_order h));
      };
  waits = λ c is.
      let still : t.checkpoint ≡ Some c = noted c is in
      waits_on old new t t' c can_write.waits still is does.lasts.geometry (elim (cases_eq c b) [
        | inr ne ↦ does.other_bads c ne
        | inl at ↦ ap new.flash.bad at ∙ elim (cases_Bool (new.flash.bad b)) [
          | inl bad ↦ absurd ((other_is_other b c t.checkpoint (sym (ap (λ x. if x then other_than b t.checkpoint else t.checkpoint) bad) ∙ sym notes.checkpoint ∙ is)).1 at)
          | inr good ↦ good ∙ sym (can_write.waits c still).good ∙ ap old.flash.bad at ∙ ap old.flash.bad (sym at)
        ]
      ]) (λ none. notes.open_block ∙ none);
  numbers = (subst (λ n. 1 ≤ n) (sym notes.sets.next_group) can_write.numbers.0, subst (λ n. 1 ≤ n) (sym notes.next_seq) can_write.numbers.1);
  below = λ honest.
      let h : old.honest ≡ true = sym does.lasts.honest ∙ honest in
      subst (λ n. AreBelow new.flash n t'.next_seq) (sym notes.sets.next_group) (subst (λ n. AreBelow new.flash t.next_group n) (sym notes.next_seq)
      (below_marked b old new t.next_group t.next_seq result h does (can_write.below h)));
} where
  -- the block that is noted afterwards was noted
  noted : (c : ℕ) → t'.checkpoint ≡ Some c → t.checkpoint ≡ Some c
  noted c is = elim (cases_Bool (new.flash.bad b)) [
    | inl bad ↦ (other_is_other b c t.checkpoint (sym (ap (λ x. if x then other_than b t.checkpoint else t.checkpoint) bad) ∙ sym notes.checkpoint ∙ is)).0
    | inr good ↦ sym (ap (λ x. if x then other_than b t.checkpoint else t.checkpoint) good) ∙ sym notes.checkpoint ∙ is
  ]

-- a table that is made anew
pub made_marked : (d : Device) (n : Numbers) (t0 t1 t2 : Table) → IsWithin d.geometry.pages d.geometry.blocks d.flash
    → t0 ≡ record { geometry = d.geometry; entry = λ b. blank; open_block = None; checkpoint = None; next_seq = 1; next_group = 1 }
    → MarksNoted d d.geometry.blocks t0 t1 → t2 ≡ record t1 { next_seq = max t1.next_seq (n.seq + 1); next_group = max t1.next_group (n.group + 1) } → IsMarked d n t2
made_marked d n t0 t1 t2 within fresh noted raised =
    let seq_one : t1.next_seq ≡ 1 = noted.next_seq ∙ ap (λ (t : Table). t.next_seq) fresh in
    let group_one : t1.next_group ≡ 1 = noted.next_group ∙ ap (λ (t : Table). t.next_group) fresh in
    let made : IsMarked d n (record t1 { next_seq = max t1.next_seq (n.seq + 1); next_group = max t1.next_group (n.group + 1) }) = record {
      geometry = noted.geometry ∙ ap (λ (t : Table). t.geometry) fresh;
      marks = λ b. elim (cases_lt b d.geometry.blocks) [
        | inl lt ↦ noted.marked b lt
        | inr ge ↦ noted.others b ge ∙ sym (within.bad b ge)
      ];
      closed = noted.open_block;
      checkpoint = noted.checkpoint;
      committed = λ b. noted.committed b ∙ ap (λ (t : Table). (t.entry b).committed) fresh;
      seqs = λ b. noted.seqs b ∙ ap (λ (t : Table). (t.entry b).seq) fresh;
      nexts = λ b. noted.nexts b ∙ ap (λ (t : Table). (t.entry b).next) fresh;
      group = omega (arith, group_one);
      seq = omega (arith, seq_one);
    } in
    subst (IsMarked d n) (sym raised) made

-- is ready, where no valid tag has numbers above its own
pub made_ready : (d : Device) (n : Numbers) (t : Table) → IsMarked d n t → (d.honest ≡ true → AreAbove d.flash n) → IsReady d t
made_ready d n t is above = record {
  geometry = is.geometry;
  marks = is.marks;
  open_block = λ o at. let two : None ≡ Some o = sym is.closed ∙ at in absurd cc;
  waits = λ c at. let two : None ≡ Some c = sym is.checkpoint ∙ at in absurd cc;
  numbers = (omega (arith, is.group), omega (arith, is.seq));
  below = λ honest. subst (λ k. AreBelow d.flash k t.next_seq) (sym is.group) (subst (λ k. AreBelow d.flash (n.group + 1) k) (sym is.seq) (above_below d.flash n (above honest)));
}

-- power comes back while no block is open
pub ready_powered : (old new : Device) (t : Table) → IsReady old t → t.open_block ≡ None → PowersUp old new → IsReady new t
ready_powered old new t can_write closed up = record {
  geometry = can_write.geometry ∙ sym up.geometry;
  marks = λ b. can_write.marks b ∙ ap (λ f. f b) (sym up.bad);
  open_block = λ o is. let two : None ≡ Some o = sym closed ∙ is in absurd cc;
  waits = λ c is. waits_on old new t t c can_write.waits is is up.geometry (ap (λ f. f c) up.bad) (λ none. none);
  numbers = can_write.numbers;
  below = λ honest b p u good has.
      let page : new.flash.page b p ≡ old.flash.page b p = ap (λ f. f b p) up.page in
      can_write.below (sym up.honest ∙ honest) b p u (ap (λ f. f b) (sym up.bad) ∙ good) (record { bytes = has.bytes; page = sym page ∙ has.page; valid = has.valid });
}

-- no more pages are written to the open block
pub ready_closed : (d : Device) (t : Table) → IsReady d t → IsReady d (record t { open_block = None })
ready_closed d t can_write = record {
  geometry = can_write.geometry;
  marks = can_write.marks;
  open_block = λ o is. let two : None ≡ Some o = is in absurd cc;
  waits = λ c is. let waited = can_write.waits c is in record { within = waited.within; good = waited.good; closed = refl };
  numbers = can_write.numbers;
  below = can_write.below;
}

-- table and flash have as many bad blocks
pub same_bad : (d : Device) (t : Table) → IsReady d t → bad_count t ≡ bad_blocks d.geometry d.flash
same_bad d t can_write =
    let marks : is_bad t ≡ d.flash.bad = λ i b. can_write.marks b i in
    ap (λ f. how_many f t.geometry.blocks) marks ∙ ap (λ (g : Geometry). how_many d.flash.bad g.blocks) can_write.geometry
