use Rattle.std.proofs.Common.{◌≡◌, ◌≤◌, ◌+◌, false, if◌then◌else◌, sym, subst, ℕ, true, Ok, Err, arith, rules}
use Rattle.std.proofs.lemmas.Result.{err_from_is_err_and}
use Rattle.nand_model.specs.Calls.{Device}
use Rattle.flash_tree.specs.Groups.{Group}
use Rattle.block_state.specs.Table.{Table}
use Rattle.block_state.specs.TableOf.{table}
use Rattle.transactions.specs.declared.place.GroupPlace.{GroupPlace}
use Rattle.transactions.specs.Groups.{AddsPages, GroupsAfter}
use Rattle.transactions.specs.Naming.{BeginsOther}
use Rattle.transactions.specs.Written.{is_suspect}
use Rattle.transactions.specs.Handing.{HandsNumbers}
use Rattle.transactions.specs.laws.Handing.{hands_nothing, below_greater}
use Rattle.transactions.proofs.ReadyLaws.{room_left, may_write, ready_after, group_is, group_writes, nothing_written, group_below, group_hands, group_right, groups_ok, groups_err, ok_table, ends_written}
use Rattle.transactions.proofs.group.write_any.Goals as goal

pub note_end-requires-clause-room : goal.note_end-requires-clause-room
note_end-requires-clause-room g c =
    let t : Table = table c.args.blocks.now in
    let found = c.in-Some.ensures.found in
    room_left t _ c.count-count.result c.in-Some.place found c.in-Some.ensures.taken (search rules)

pub returns-in_default-clause-group : goal.returns-in_default-clause-group
returns-in_default-clause-group g c = record {
  no_room = search rules;
  ends = search rules;
  table = search rules;
  placed = search rules;
  groups = search rules;
  writes = λ h. nothing_written (g.N.Nand.state c.args.device.now) (table c.args.blocks.now) c.requires.can_write (g.met.N.Nand.clean c.args.device.now h) h;
  stays = search rules;
  quiet = search rules;
  reads = search rules;
  numbers = let d : Device = g.N.Nand.state c.args.device.now in
      let same = c.in_default.ensures.none in
      subst (λ (t : Table). HandsNumbers d d (table c.args.blocks.now) t) (sym same.1) (hands_nothing d (table c.args.blocks.now)).numbers;
  summaries = search rules;
}

pub returns-in_default-clause-below : goal.returns-in_default-clause-below
returns-in_default-clause-below g c = λ h o is seq lt below.
    let d : Device = g.N.Nand.state c.args.device.now in
    let t : Table = table c.args.blocks.now in
    below_greater d.flash t.next_group seq (1 + t.next_group) seq (omega arith) (omega arith) below

pub returns-in_err-last-clause-group : goal.returns-in_err-last-clause-group
returns-in_err-last-clause-group g c =
    let old : Device = g.N.Nand.state c.args.device.now in
    let new : Device = g.N.Nand.state c.write_pages-written.new.device in
    let t : Table = table c.args.blocks.now in
    let place : GroupPlace = c.in-Some.place in
    let found = c.in-Some.ensures.found in
    let some : 1 ≤ place.count = omega (arith, found.count_is, c.count-count.ensures.not_empty) in
    let may = may_write old _ _ place c.requires.can_write found in
    let erased = λ (h : old.honest ≡ true) (l : ℕ) (le : place.first ≤ l). g.met.N.Nand.clean c.args.device.now h place.block (place.first + 0) l may.next (omega (arith, le)) in
    let written = c.write_pages-written.ensures.writes in
    let after = rw c.in-Some.ensures.taken at c.note_end.ensures in
    let begins = λ (other : 1 ≤ g.S.PageSource.count c.args.source.now → BeginsOther (g.S.PageSource.name c.args.source.now t.next_group 0)).
    subst (λ n. BeginsOther (g.S.PageSource.name c.args.source.now n 0)) (sym found.group) (other (subst (λ n. 1 ≤ n) c.count-count.ensures.value c.count-count.ensures.not_empty)) in
    let all = rw c.in_err-last.was at written in
    let p = err_from_is_err_and c.from_residual.result c.from_residual.ensures.1 in
    record {
      no_room = search rules;
      ends = search rules;
      table = search rules;
      placed = search rules;
      groups = λ h o is.
          let left = groups_err old t _ place c.requires.can_write found new _ _ _ all some erased h in
          let same = group_is old t _ place c.requires.can_write found o is in
          rw (← c.count-count.ensures.value, p.1, p.2) (subst (λ (x : Group). GroupsAfter x (g.S.PageSource.name c.args.source.now x.number) (g.S.PageSource.bytes c.args.source.now old.flash) old.flash new.flash (Err c.in_err-last.field-0.0)) same left);
      writes = λ h. group_writes old _ _ place c.requires.can_write found _ _ _ _ written some erased h;
      stays = search rules;
      quiet = search rules;
      reads = search rules;
      numbers = group_hands old _ _ place c.requires.can_write found _ _ _ _ written some erased _ after;
      summaries = λ h other right.
          let left = groups_err old t _ place c.requires.can_write found _ _ _ _ all some erased h in
          group_right old t _ place c.requires.can_write found _ _ _ _ all some erased h (Err c.in_err-last.field-0.0) left (begins other) right;
    }

pub returns-in_err-last-clause-can_write : goal.returns-in_err-last-clause-can_write
returns-in_err-last-clause-can_write g c =
    let old : Device = g.N.Nand.state c.args.device.now in
    let place : GroupPlace = c.in-Some.place in
    let found = c.in-Some.ensures.found in
    let some : 1 ≤ place.count = omega (arith, found.count_is, c.count-count.ensures.not_empty) in
    let may = may_write old _ _ place c.requires.can_write found in
    let erased = λ (h : old.honest ≡ true) (l : ℕ) (le : place.first ≤ l). g.met.N.Nand.clean c.args.device.now h place.block (place.first + 0) l may.next (omega (arith, le)) in
    let after = rw c.in-Some.ensures.taken at c.note_end.ensures in
    ready_after old _ _ place c.requires.can_write found _ _ _ _ c.write_pages-written.ensures.writes some erased _ after

pub returns-in_err-last-clause-below : goal.returns-in_err-last-clause-below
returns-in_err-last-clause-below g c =
    let old : Device = g.N.Nand.state c.args.device.now in
    let place : GroupPlace = c.in-Some.place in
    let found = c.in-Some.ensures.found in
    let some : 1 ≤ place.count = omega (arith, found.count_is, c.count-count.ensures.not_empty) in
    let may = may_write old _ _ place c.requires.can_write found in
    let erased = λ (h : old.honest ≡ true) (l : ℕ) (le : place.first ≤ l). g.met.N.Nand.clean c.args.device.now h place.block (place.first + 0) l may.next (omega (arith, le)) in
    group_below old _ _ place c.requires.can_write found _ _ _ _ c.write_pages-written.ensures.writes some erased

pub returns-clause-group : goal.returns-clause-group
returns-clause-group g c =
    let old : Device = g.N.Nand.state c.args.device.now in
    let new : Device = g.N.Nand.state c.write_pages-written.new.device in
    let t : Table = table c.args.blocks.now in
    let place : GroupPlace = c.in-Some.place in
    let found = c.in-Some.ensures.found in
    let some : 1 ≤ place.count = omega (arith, found.count_is, c.count-count.ensures.not_empty) in
    let may = may_write old _ _ place c.requires.can_write found in
    let erased = λ (h : old.honest ≡ true) (l : ℕ) (le : place.first ≤ l). g.met.N.Nand.clean c.args.device.now h place.block (place.first + 0) l may.next (omega (arith, le)) in
    let written = c.write_pages-written.ensures.writes in
    let after = rw c.in-Some.ensures.taken at c.note_end.ensures in
    let begins = λ (other : 1 ≤ g.S.PageSource.count c.args.source.now → BeginsOther (g.S.PageSource.name c.args.source.now t.next_group 0)).
    subst (λ n. BeginsOther (g.S.PageSource.name c.args.source.now n 0)) (sym found.group) (other (subst (λ n. 1 ≤ n) c.count-count.ensures.value c.count-count.ensures.not_empty)) in
    let all = rw c.in_ok-last.was at written in
    record {
      no_room = search rules;
      ends = let ends = ends_written old new _ c.in_ok-last.last all.ends in
          rw (← c.count-count.ensures.value, c.is_suspect.ensures) (subst (λ n. (new.failures ≡ old.failures + (if is_suspect c.in_ok-last.last then 1 else 0)) × (new.gone ≡ false) × (new.changes ≡ old.changes + n)) found.count_is ends);
      table = let left = rw (c.in-Some.ensures.taken, c.in_ok-last.was) at c.note_end.ensures in
          rw (← c.count-count.ensures.value, c.is_suspect.ensures) (ok_table t _ c.count-count.result place c.in_ok-last.last found left);
      placed = search rules;
      groups = λ h o is.
          let adds = groups_ok old t _ place c.requires.can_write found new _ _ c.in_ok-last.last all some erased h in
          let same = group_is old t _ place c.requires.can_write found o is in
          rw (← c.count-count.ensures.value) (subst (λ (x : Group). AddsPages x (g.S.PageSource.name c.args.source.now x.number) (g.S.PageSource.bytes c.args.source.now old.flash) old.flash new.flash) same adds);
      writes = λ h. group_writes old _ _ place c.requires.can_write found _ _ _ _ written some erased h;
      stays = search rules;
      quiet = search rules;
      reads = search rules;
      numbers = group_hands old _ _ place c.requires.can_write found _ _ _ _ written some erased _ after;
      summaries = λ h other right.
          let adds = groups_ok old t _ place c.requires.can_write found _ _ _ c.in_ok-last.last all some erased h in
          group_right old t _ place c.requires.can_write found _ _ _ _ all some erased h (Ok (record { block = place.block; first = place.first; count = place.count; group = place.group; suspect = false })) adds (begins other) right;
    }

pub returns-clause-can_write : goal.returns-clause-can_write
returns-clause-can_write g c =
    let old : Device = g.N.Nand.state c.args.device.now in
    let place : GroupPlace = c.in-Some.place in
    let found = c.in-Some.ensures.found in
    let some : 1 ≤ place.count = omega (arith, found.count_is, c.count-count.ensures.not_empty) in
    let may = may_write old _ _ place c.requires.can_write found in
    let erased = λ (h : old.honest ≡ true) (l : ℕ) (le : place.first ≤ l). g.met.N.Nand.clean c.args.device.now h place.block (place.first + 0) l may.next (omega (arith, le)) in
    let after = rw c.in-Some.ensures.taken at c.note_end.ensures in
    ready_after old _ _ place c.requires.can_write found _ _ _ _ c.write_pages-written.ensures.writes some erased _ after

pub returns-clause-below : goal.returns-clause-below
returns-clause-below g c =
    let old : Device = g.N.Nand.state c.args.device.now in
    let place : GroupPlace = c.in-Some.place in
    let found = c.in-Some.ensures.found in
    let some : 1 ≤ place.count = omega (arith, found.count_is, c.count-count.ensures.not_empty) in
    let may = may_write old _ _ place c.requires.can_write found in
    let erased = λ (h : old.honest ≡ true) (l : ℕ) (le : place.first ≤ l). g.met.N.Nand.clean c.args.device.now h place.block (place.first + 0) l may.next (omega (arith, le)) in
    group_below old _ _ place c.requires.can_write found _ _ _ _ c.write_pages-written.ensures.writes some erased
