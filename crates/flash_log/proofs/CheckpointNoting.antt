-- What holds once the block of a checkpoint is closed and noted.
use Rattle.std.proofs.Common.{◌≡◌, ◌<◌, ℕ, true, false, not, ◌&&◌, nat_eq, if◌then◌else◌, Some, None, refl, sym, ap, subst, ◌∙◌}
use Rattle.nand_model.specs.Calls.{Device}
use Rattle.nand_model.specs.Flash.{Flash}
use Rattle.block_state.specs.Table.{Table, is_free, other_than}
use Rattle.block_state.specs.laws.Checkpoint.{other_than_it}
use Rattle.transactions.specs.Marking.{NotesMark}
use Rattle.transactions.specs.Opening.{MayLose}
use Rattle.transactions.specs.Ready.{IsReady}

-- a good block without a committed page is free where none is open
pub free_closed : (t u : Table) (b : ℕ) → u ≡ record t { open_block = None } → (t.entry b).bad ≡ false → (t.entry b).committed ≡ 0 → is_free u b ≡ true
free_closed t u b is good none =
    ap (λ (x : Table). is_free x b) is ∙ ap (λ x. not x && (nat_eq (t.entry b).committed 0 && true)) good ∙ ap (λ n. nat_eq n 0 && true) none

-- the table with the block closed and noted
abbrev pub noted : ℕ → Table → Table
noted b t = record t { open_block = None; checkpoint = Some b }

pub ready_noted : (d : Device) (t u : Table) (b : ℕ) → u ≡ noted b t → b < d.geometry.blocks → d.flash.bad b ≡ false → IsReady d t → IsReady d u
ready_noted d t u b is within good can_write = subst (IsReady d) (sym is) (record {
  geometry = can_write.geometry;
  marks = can_write.marks;
  open_block = λ o at. let two : None ≡ Some o = at in absurd cc;
  waits = λ c at.
      let both : Some b ≡ Some c = at in
      let same : b ≡ c = cc in
      record { within = subst (λ k. k < d.geometry.blocks) same within; good = subst (λ k. d.flash.bad k ≡ false) same good; closed = refl };
  numbers = can_write.numbers;
  below = can_write.below;
})

-- once it is marked none is
pub none_marked : (b : ℕ) (f : Flash) (t u : Table) → NotesMark b f t u → MayLose b t → f.bad b ≡ true → u.checkpoint ≡ None
none_marked b f t u notes first bad = notes.checkpoint ∙ ap (λ x. if x then other_than b t.checkpoint else t.checkpoint) bad ∙ other_than_it b t.checkpoint first
