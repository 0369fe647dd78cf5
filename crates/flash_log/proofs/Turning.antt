-- Whose turn it is.
use Rattle.std.proofs.Common.{◌≡◌, ◌≢◌, ◌<◌, ◌∙◌, if◌then◌else◌, ℕ, true, false, not, ◌&&◌, nat_eq, Option, Some, None, refl, sym, ap, subst, inl, inr, arith}
use Rattle.std.proofs.lemmas.Bool.{cases_eq, cases_lt}
use Rattle.nand_model.specs.Flash.{Flash}
use Rattle.nand_model.specs.Calls.{Device}
use Rattle.nand_model.specs.declared.geometry.Geometry.{Geometry}
use Rattle.block_state.specs.declared.blocks.BlockEntry.{BlockEntry}
use Rattle.block_state.specs.Table.{Table, IsNextFree, IsNextTaken, is_free, is_open, other_than, turn_of}
use Rattle.block_state.specs.laws.Checkpoint.{other_is_other}
use Rattle.transactions.specs.Marking.{NotesMark}
use Rattle.transactions.specs.Opening.{MayLose, Opens}
use Rattle.transactions.specs.Ready.{IsReady}
use Rattle.flash_tree.specs.ErasedBlocks.{GoesFirst}
use Rattle.flash_log.proofs.Free.{was_uncommitted}
use Rattle.flash_log.specs.Erased.{KnowsErased, LeadsErased}
use Rattle.flash_log.specs.Passing.{Passes}
use Rattle.flash_log.specs.Taking.{CouldBeTaken, IsItsTurn, LiesApart, NoneGoesFirst, SameTurns}

-- where none is open a good block without a committed page is free
free_if : (t : Table) (b : ℕ) → t.open_block ≡ None → (t.entry b).bad ≡ false → (t.entry b).committed ≡ 0 → is_free t b ≡ true
free_if t b closed good none =
    ap (λ x. not x && (nat_eq (t.entry b).committed 0 && not (is_open t.open_block b))) good
    ∙ ap (λ x. nat_eq x 0 && not (is_open t.open_block b)) none
    ∙ ap (λ x. not (is_open x b)) closed

-- the block that may have a checkpoint is free while no block is open
first_is_free : (d : Device) (t : Table) (c : ℕ) → IsReady d t → LiesApart t → t.checkpoint ≡ Some c → is_free t c ≡ true
first_is_free d t c can_write apart is =
    let waits = can_write.waits c is in
    free_if t c waits.closed (can_write.marks c ∙ waits.good) (apart c is)

-- so it is the one that is allocated, if there is one
pub first_taken : (d : Device) (t : Table) (n b : ℕ) → IsReady d t → LiesApart t → IsNextTaken t n b → MayLose b t
first_taken d t n b can_write apart next = go t.checkpoint refl where
  go : (x : Option ℕ) → t.checkpoint ≡ x → MayLose b t
  go None is = inl is
  go (Some c) is = inr (is ∙ ap Some (sym (next.first c is (first_is_free d t c can_write apart is))))

-- the block that is opened was at its turn
pub opened_in_turn : (b : ℕ) (d : Device) (t u : Table) → IsReady d t → LiesApart t → t.open_block ≡ None → IsNextTaken t t.geometry.blocks b → Opens b t u → IsItsTurn b t u
opened_in_turn b d t u can_write apart closed next opens = record {
  first = λ c is good. next.first c is (first_is_free d t c can_write apart is);
  oldest = λ none k could. elim (cases_eq k b) [
    | inl is ↦ let same : turn_of (t.entry k) ≡ turn_of (t.entry b) = ap (λ n. turn_of (t.entry n)) is in omega (arith, same)
    | inr ne ↦ (turn none).oldest k could.within (free k could ne)
  ];
  lowest = λ none k could as_long. elim (cases_eq k b) [
    | inl is ↦ omega (arith, is)
    | inr ne ↦ (turn none).lowest k could.within (free k could ne) as_long
  ];
}
  where
    free : (k : ℕ) → CouldBeTaken t u k → k ≢ b → is_free t k ≡ true
    free k could ne = free_if t k closed (sym (ap (λ (e : BlockEntry). e.bad) (opens.sets.others k ne)) ∙ could.good) could.uncommitted

    -- a block that may have a checkpoint is good when it is opened, so there was none
    good : (c : ℕ) → t.checkpoint ≡ Some c → (u.entry c).bad ≡ false
    good c is =
        let same : b ≡ c = next.first c is (first_is_free d t c can_write apart is) in
        ap (λ n. (u.entry n).bad) (sym same) ∙ ap (λ (e : BlockEntry). e.bad) opens.sets.here ∙ ap (λ n. (t.entry n).bad) same ∙ can_write.marks c ∙ (can_write.waits c is).good

    turn : NoneGoesFirst t u → IsNextFree t t.geometry.blocks b
    turn none = next.turn (λ c is. let two : true ≡ false = sym (none c is) ∙ good c is in absurd cc)

-- a block that is at its turn after others were marked was at its turn before
pub turn_from : (b : ℕ) (old mid end : Device) (t u v : Table) → Passes old mid t u → Passes mid end u v → SameTurns t u → IsItsTurn b u v → IsItsTurn b t v
turn_from b old mid end t u v passes later same turn = record {
  first = λ c is good. elim (same.noted c is) [
    | inl still ↦ turn.first c still good
    | inr bad ↦ let two : true ≡ false = sym (later.marks_stay c bad) ∙ good in absurd cc
  ];
  oldest = λ none k could.
      let here : turn_of (u.entry b) ≡ turn_of (t.entry b) = same.turns b in
      let there : turn_of (u.entry k) ≡ turn_of (t.entry k) = same.turns k in
      omega (arith, turn.oldest (λ c is. none c (same.from c is)) k (after k could), here, there);
  lowest = λ none k could as_long. turn.lowest (λ c is. none c (same.from c is)) k (after k could) (same.turns k ∙ as_long ∙ sym (same.turns b));
}
  where
    after : (k : ℕ) → CouldBeTaken t v k → CouldBeTaken u v k
    after k could = record {
      within = subst (λ (g : Geometry). k < g.blocks) (sym passes.geometry) could.within;
      uncommitted = passes.committed k ∙ could.uncommitted;
      good = could.good;
    }

-- turns in turn
pub same_turns_on : (t u v : Table) → ((b : ℕ) → (u.entry b).bad ≡ true → (v.entry b).bad ≡ true) → SameTurns t u → SameTurns u v → SameTurns t v
same_turns_on t u v marks same next = record {
  turns = λ b. next.turns b ∙ same.turns b;
  noted = λ c is. elim (same.noted c is) [ inl still ↦ next.noted c still | inr bad ↦ inr (marks c bad) ];
  from = λ c is. same.from c (next.from c is);
}

-- no block is open any longer
pub same_turns_closed : (t u : Table) → u ≡ record t { open_block = None } → SameTurns t u
same_turns_closed t u is = record {
  turns = λ b. ap (λ (x : Table). turn_of (x.entry b)) is;
  noted = λ c was. inl (ap (λ (x : Table). x.checkpoint) is ∙ was);
  from = λ c now. sym (ap (λ (x : Table). x.checkpoint) is) ∙ now;
}

-- the mark of a block leaves the turns of blocks
turns_stay : (b : ℕ) (flash : Flash) (t u : Table) → NotesMark b flash t u → (k : ℕ) → turn_of (u.entry k) ≡ turn_of (t.entry k)
turns_stay b flash t u notes k = elim (cases_eq k b) [
  | inl is ↦ ap (λ n. turn_of (u.entry n)) is ∙ ap (λ (e : BlockEntry). turn_of e) notes.sets.here ∙ sym (ap (λ n. turn_of (t.entry n)) is)
  | inr ne ↦ ap (λ (e : BlockEntry). turn_of e) (notes.sets.others k ne)
]

-- the mark of a block that may have the checkpoint leaves the turns
pub turns_marked : (b : ℕ) (flash : Flash) (t u : Table) → NotesMark b flash t u → flash.bad b ≡ true → SameTurns t u
turns_marked b flash t u notes bad = record {
  turns = turns_stay b flash t u notes;
  noted = λ c is. elim (cases_eq c b) [
    | inl at ↦ inr (ap (λ n. (u.entry n).bad) at ∙ ap (λ (e : BlockEntry). e.bad) notes.sets.here ∙ bad)
    | inr ne ↦ inl (now ∙ ap (other_than b) is ∙ left c ne)
  ];
  from = λ c is. (other_is_other b c t.checkpoint (sym now ∙ is)).0;
} where
  now : u.checkpoint ≡ other_than b t.checkpoint
  now = notes.checkpoint ∙ ap (λ x. if x then other_than b t.checkpoint else t.checkpoint) bad

  left : (k : ℕ) → k ≢ b → other_than b (Some k) ≡ Some k
  left k ne = grind (arith, ne)

-- the block that is allocated next goes first of those that begin erased
pub goes_next : (d : Device) (t : Table) (b : ℕ) → IsReady d t → LiesApart t → t.open_block ≡ None → IsNextTaken t t.geometry.blocks b → KnowsErased d.flash t → LeadsErased d.flash t → GoesFirst d.flash b
goes_next d t b can_write apart closed next knows leads = go t.checkpoint refl where
  in_turn : IsNextFree t t.geometry.blocks b → GoesFirst d.flash b
  in_turn turn k ne begins = elim (cases_lt k t.geometry.blocks) [
    | inr out ↦ let within = turn.within in (
      omega (arith, out, within),
      λ l u has. let at = knows.torn k l u begins has in let inside = at.within in absurd (omega (arith, out, inside)),
    )
    | inl inside ↦
        let was = knows.unwritten k inside begins in
        let free = free_if t k closed (can_write.marks k ∙ begins.0) was.committed in
        let at_once : turn_of (t.entry k) ≡ 0 = ap (λ n. if nat_eq n 0 then 0 else (t.entry k).seq) was.next in
        let older = turn.oldest k inside free in
        let here : turn_of (t.entry b) ≡ 0 = omega (arith, at_once, older) in
        let le = turn.lowest k inside free (at_once ∙ sym here) in (
          omega (arith, le, ne),
          λ l u has.
              let le' = (knows.torn k l u begins has).lowest b (record { within = turn.within; good = (was_uncommitted t b turn.free).0; next = unwritten here }) in
              absurd (omega (arith, le, le', ne)),
        )
  ] where
    -- a block that comes at once has no page that was programmed
    unwritten : turn_of (t.entry b) ≡ 0 → (t.entry b).next ≡ 0
    unwritten here = elim (cases_eq (t.entry b).next 0) [
      | inl none ↦ none
      | inr some ↦
          let age = knows.aged b (omega (arith, some)) in
          let at : turn_of (t.entry b) ≡ (t.entry b).seq = grind (arith, some) in
          absurd (omega (arith, at, here, age))
    ]

  go : (x : Option ℕ) → t.checkpoint ≡ x → GoesFirst d.flash b
  go (Some c) is = subst (GoesFirst d.flash) (sym (next.first c is (first_is_free d t c can_write apart is))) (leads.noted c is)
  go None is = in_turn (next.turn (λ c at. let two : None ≡ Some c = sym is ∙ at in absurd cc))

-- and no other may have a checkpoint
pub noted_next : (d : Device) (t : Table) (b : ℕ) → IsReady d t → LiesApart t → IsNextTaken t t.geometry.blocks b → (c : ℕ) → t.checkpoint ≡ Some c → c ≡ b
noted_next d t b can_write apart next c is = sym (next.first c is (first_is_free d t c can_write apart is))
