-- Whether the open block stays open, and what hinders the writing of the buffered pages.
use Rattle.std.proofs.Common.{◌≡◌, ◌<◌, ◌≤◌, ℕ, ◌+◌, ◌-◌, true, false, Option, Some, None, Result, Ok, Err, refl, sym, ap, subst, ◌∙◌, arith}
use Rattle.std.specs.Option.{option_map_or}
use Rattle.std.proofs.lemmas.Result.{on_ok_weaker}
use Rattle.nand_model.specs.Calls.{Device, Lasts}
use Rattle.nand_model.specs.declared.geometry.Geometry.{Geometry}
use Rattle.block_state.specs.declared.blocks.BlockEntry.{BlockEntry}
use Rattle.block_state.specs.Table.{Table, room}
use Rattle.chunk_index.specs.Counts.{Recounts}
use Rattle.transactions.specs.Checking.{LogState}
use Rattle.transactions.specs.Groups.{TakesPages}
use Rattle.transactions.specs.Ready.{IsReady}
use Rattle.flash_log.specs.RoomMaking.{FitsOpen}
use Rattle.flash_log.specs.declared.room_fault.RoomFault.{RoomFault}
use Rattle.flash_log.specs.declared.room_fault.RoomFault.TheVariants as faults
use Rattle.page_store.specs.Buffered.{BufferedLog}
use Rattle.page_store.specs.Committing.{IsUnhindered, KeepsOpen, StaysOpen}
use Rattle.page_store.specs.GroupWriting.{AttemptEnds, GoesWell}

-- the pages of the open block that are not written
room_open : (o : ℕ) (t : Table) → t.open_block ≡ Some o → room t ≡ t.geometry.pages - (t.entry o).next
room_open o t is = ap (λ (b : Option ℕ). option_map_or (λ k. t.geometry.pages - (t.entry k).next) b 0) is

-- pages that the open block has room for lie in it
pub lie_in_open : (o n : ℕ) (d : Device) (t : Table) → IsReady d t → t.open_block ≡ Some o → n ≤ room t → (t.entry o).next + n ≤ t.geometry.pages
lie_in_open o n d t can_write opened fit =
    let is = room_open o t opened in
    let next : (t.entry o).next ≤ t.geometry.pages = subst (λ (g : Geometry). (t.entry o).next ≤ g.pages) (sym can_write.geometry) (can_write.open_block o opened).pages in
    omega (arith, is, next, fit)

-- ---- the open block stays open

-- a recount leaves the open block as it was
pub stays_recounted : (t u : Table) (before after : ℕ → ℕ) → Recounts before after t u → StaysOpen 0 t u
stays_recounted t u before after counts = go t.open_block refl where
  go : (b : Option ℕ) → t.open_block ≡ b → StaysOpen 0 t u
  go None none =
      let here : room t ≡ 0 = ap (λ (b : Option ℕ). option_map_or (λ k. t.geometry.pages - (t.entry k).next) b 0) none in
      let there : room u ≡ 0 = ap (λ (b : Option ℕ). option_map_or (λ k. u.geometry.pages - (u.entry k).next) b 0) (counts.open_block ∙ none) in
      record { open_block = counts.open_block; pages = omega (arith, here, there) }
  go (Some o) is =
      let here = room_open o t is in
      let there = room_open o u (counts.open_block ∙ is) in
      let pages : u.geometry.pages ≡ t.geometry.pages = ap (λ (g : Geometry). g.pages) counts.geometry in
      let next = counts.next o in
      record { open_block = counts.open_block; pages = omega (arith, here, there, pages, next) }

-- a group takes its pages
pub stays_open : (count o : ℕ) (t u v : Table) (before after : ℕ → ℕ) → t.open_block ≡ Some o → count ≤ room t → TakesPages count t u → Recounts before after u v → StaysOpen count t v
stays_open count o t u v before after is fits takes counts =
    let here = room_open o t is in
    let there = room_open o v (counts.open_block ∙ takes.open_block ∙ is) in
    let pages : v.geometry.pages ≡ t.geometry.pages = ap (λ (g : Geometry). g.pages) (counts.geometry ∙ takes.geometry) in
    let next : (v.entry o).next ≡ (t.entry o).next + count = counts.next o ∙ ap (λ (e : BlockEntry). e.next) (takes.here o is) in
    record { open_block = counts.open_block ∙ takes.open_block; pages = omega (arith, here, there, pages, next, fits) }

-- ---- a turn

-- Before a turn's writing room was made, and where there was room nothing was done for it.
module _ {T E : Type 0} (count : ℕ) (a b c : LogState) (result : Result T E) (first : Lasts a.device b.device) (then : Lasts b.device c.device) (same : FitsOpen count a.table → b ≡ a) where
  still : FitsOpen count a.table → c.device.failures ≡ a.device.failures → c.device.failures ≡ b.device.failures
  still fits none = let rise = first.failures in let rises = then.failures in omega (arith, rise, rises, none)

  pub well_after : GoesWell count b c result → GoesWell count a c result
  well_after well = record {
    stays_open = on_ok_weaker result (λ keeps fits none. subst (λ (s : LogState). StaysOpen count s.table c.table) (same fits) (keeps (subst (λ (s : LogState). FitsOpen count s.table) (sym (same fits)) fits) (still fits none))) well.stays_open;
    unhindered = λ h. well.unhindered (subst (λ (s : LogState). IsUnhindered count s c) (sym (same h.fits)) h);
  }

-- A turn comes after others: it is the first one, or each before it in the count a failure.
module _ (count now : ℕ) (a b c : LogState) (same : now ≡ count) (first : Lasts a.device b.device) (then : Lasts b.device c.device) (here : b.device.failures ≡ a.device.failures → b ≡ a) where
  at_first : c.device.failures ≡ a.device.failures → b ≡ a
  at_first none = let rise = first.failures in let rises = then.failures in here (omega (arith, rise, rises, none))

  unhindered_first : IsUnhindered count a c → IsUnhindered now b c
  unhindered_first h = subst (λ n. IsUnhindered n b c) (sym same) (subst (λ (s : LogState). IsUnhindered count s c) (sym (at_first h.failures)) h)

  pub well_written : {S T E F : Type 0} (turn : S) (done : T) → GoesWell {E = E} now b c (Ok turn) → GoesWell {E = F} count a c (Ok done)
  well_written turn done well = record {
    stays_open = subst (λ n. KeepsOpen n a c) same (λ fits none. subst (λ (s : LogState). KeepsOpen now s c) (at_first none) well.stays_open fits none);
    unhindered = λ _. refl;
  }

  pub well_short : {S T E F : Type 0} (fault : E) (other : F) → GoesWell {T = S} now b c (Err fault) → GoesWell {T = T} count a c (Err other)
  well_short fault other well = record { stays_open = tt; unhindered = λ h. well.unhindered (unhindered_first h) }

-- ---- what hinders

-- a group is not written only where the device is gone or is not honest
pub attempt_hindered : (count spare : ℕ) (a b : BufferedLog) (fault : RoomFault) → AttemptEnds spare a b (Err fault) → b.log.device.honest ≡ a.log.device.honest → IsUnhindered count a.log b.log → ⊥
attempt_hindered count spare a b faults.Full ends same h = ends
attempt_hindered count spare a b faults.Worn ends same h = ends
attempt_hindered count spare a b faults.Lost ends same h = let two : true ≡ false = sym (same ∙ h.honest) ∙ ends in absurd cc
attempt_hindered count spare a b faults.Gone ends same h = let two : true ≡ false = sym ends ∙ h.power in absurd cc
