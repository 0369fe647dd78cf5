use Rattle.std.proofs.Common.{◌≡◌, ◌≤◌, ◌+◌, ℕ, true, false, List, length, Some, Ok, Err, refl, sym, ap, subst, ◌∙◌, arith, if◌then◌else◌}
use Rattle.nand_model.specs.Calls.{Device}
use Rattle.nand_model.specs.declared.geometry.Geometry.{Geometry}
use Rattle.flash_tree.specs.Keeping.{KeepsNewest}
use Rattle.flash_tree.specs.declared.place.FreshPage.{FreshPage}
use Rattle.block_state.specs.Table.{Table}
use Rattle.block_state.specs.TableOf.{table}
use Rattle.chunk_index.specs.declared.index.Index.{Index}
use Rattle.page_store.specs.BufferOf.{contents}
use Rattle.transactions.specs.Checking.{log_of}
use Rattle.transactions.specs.Committing.{fresh_name, fresh_bytes}
use Rattle.transactions.specs.Groups.{AddsPages, GroupsAfter, OkTable, ReportsGroup, next_group}
use Rattle.transactions.specs.declared.group.GroupFault.TheVariants as groups
use Rattle.flash_log.specs.Passing.{KeepsFound}
use Rattle.flash_log.specs.laws.Erased.{erased_written}
use Rattle.flash_log.specs.laws.Found.{found_same}
use Rattle.flash_log.specs.laws.Keeping.{same_ends, same_closed}
use Rattle.flash_log.specs.declared.room_fault.RoomFault.TheVariants as rooms
use Rattle.page_store.specs.Buffered.{BufferedLog, in_parts}
use Rattle.page_store.specs.Carrying.{HaveRanges}
use Rattle.page_store.specs.GroupWriting.{IsWhole}
use Rattle.page_store.specs.declared.group_writing.Attempt.TheVariants as attempts
use Rattle.page_store.proofs.Costing.{attempt_done, attempt_short}
use Rattle.page_store.proofs.Staying.{lie_in_open, stays_open}
use Rattle.page_store.proofs.Findable.{mountable_short, mountable_whole}
use Rattle.page_store.proofs.GroupCounts.{ListsAreWhole}
use Rattle.page_store.proofs.Grouping.{newest_written}
use Rattle.page_store.proofs.Settling.{ready_counted}
use Rattle.page_store.proofs.Turning.{leaves_committed, leaves_committed_pages}
use Rattle.page_store.proofs.GroupWritten.{agree_still, bad_closed, bad_recounted, keeps_written, leaves_gone, was_open, whole_written}
use Rattle.page_store.proofs.group_writing.write_buffered.Goals as goal

pub settle-requires-clause-fits : goal.settle-requires-clause-fits
settle-requires-clause-fits g c =
    let t : Table = table c.args.blocks.now in
    let u : Table = table c.write_group.new.blocks in
    let o : ℕ = c.in-Some.block in
    let opened : t.open_block ≡ Some o = sym c.in-Some.ensures in
    let same = same_ends (length c.pages-pages.result.now) t u (Ok c.in-Ok.placed) c.in-Ok.ensures.group.table in
    let first : c.in-Ok.placed.first ≡ (t.entry o).next = (c.in-Ok.ensures.group.placed o opened).first in
    let lie = lie_in_open o (length (contents c.args.buffer.now)) (g.N.Nand.state c.args.device.now) t c.requires.can_write opened c.requires.fits in
    subst (λ (s : Geometry). c.in-Ok.placed.first + length (contents c.args.buffer.now) ≤ s.pages) (sym same.geometry) (omega (arith, first, lie))

pub settle-requires-clause-agree : goal.settle-requires-clause-agree
settle-requires-clause-agree g c =
    let t : Table = table c.args.blocks.now in
    let u : Table = table c.write_group.new.blocks in
    agree_still t u c.args.index.now (same_ends (length c.pages-pages.result.now) t u (Ok c.in-Ok.placed) c.in-Ok.ensures.group.table) c.requires.consistent.1.tables.counts

pub returns-then-placed-clause-bad : goal.returns-then-placed-clause-bad
returns-then-placed-clause-bad g c =
    let t : Table = table c.args.blocks.now in
    let u : Table = table c.write_group.new.blocks in
    bad_recounted t u (table c.settle.new.blocks) _ _ (same_ends (length c.pages-pages.result.now) t u (Ok c.in-Ok.placed) c.in-Ok.ensures.group.table) c.settle.ensures.counts

pub returns-then-placed-clause-can_write : goal.returns-then-placed-clause-can_write
returns-then-placed-clause-can_write g c =
    ready_counted (g.N.Nand.state c.write_group.new.device) (table c.write_group.new.blocks) (table c.settle.new.blocks) _ _ c.settle.ensures.counts c.in-Ok.ensures.can_write

pub returns-then-placed-clause-pays : goal.returns-then-placed-clause-pays
returns-then-placed-clause-pays g c =
    let d : Device = g.N.Nand.state c.args.device.now in
    let e : Device = g.N.Nand.state c.write_group.new.device in
    let t : Table = table c.args.blocks.now in
    let u : Table = table c.write_group.new.blocks in
    let v : Table = table c.settle.new.blocks in
    let w = c.in-Ok.ensures in
    let many : length c.pages-pages.result.now ≡ length (contents c.args.buffer.now) = ap length c.pages-pages.ensures in
    let changes = w.group.ends.2 in
    let quiet : e.reads + d.failures ≤ d.reads + e.failures = w.group.quiet tt in
    attempt_done (length (contents c.args.buffer.now)) (log_of d t) (log_of e v) (attempts.Suspect c.in-Some.block)
    (bad_recounted t u v _ _ (same_ends (length c.pages-pages.result.now) t u (Ok c.in-Ok.placed) w.group.table) c.settle.ensures.counts) (w.group.ends.0 ∙ ap (λ s. d.failures + (if s then 1 else 0)) c.if-placed.true)
    (omega (arith, changes, many)) w.group.reads (omega (arith, quiet, changes, many))

pub returns-then-placed-clause-attempts : goal.returns-then-placed-clause-attempts
returns-then-placed-clause-attempts g c = λ spare consistent free.
    let d : Device = g.N.Nand.state c.args.device.now in
    let e : Device = g.N.Nand.state c.write_group.new.device in
    let t : Table = table c.args.blocks.now in
    let u : Table = table c.write_group.new.blocks in
    let v : Table = table c.settle.new.blocks in
    let x : Index = c.args.index.now in
    let y : Index = c.settle.new.index in
    let pages : List FreshPage = contents c.args.buffer.now in
    let same : c.pages-pages.result.now ≡ pages = c.pages-pages.ensures in
    let o : ℕ = c.in-Some.block in
    let opened : t.open_block ≡ Some o = sym c.in-Some.ensures in
    let lists : ListsAreWhole = let l = c.the_list_of_a_block_is_whole.ensures in record { committed = l.committed; here = l.here; count = l.count; all = l.all; once = l.once } in
    let ranges : HaveRanges pages = subst HaveRanges c.pages.ensures c.have_ranges.ensures in
    let w = c.in-Ok.ensures in
    let ok = subst (λ (xs : List FreshPage). OkTable c.in-Ok.placed.suspect (length xs) t u) same w.group.table in
    let reports = subst (λ (xs : List FreshPage). ReportsGroup (next_group t (length xs) o) c.in-Ok.placed) same (w.group.placed o opened) in
    let adds = subst (λ (xs : List FreshPage). d.honest ≡ true → AddsPages (next_group t (length xs) o) (fresh_name xs t.next_group) (fresh_bytes xs) d.flash e.flash) same (λ honest. w.group.groups honest o opened) in
    let a : BufferedLog = in_parts g.N.Nand.state c.args.device.now c.args.blocks.now c.args.index.now c.args.buffer.now in
    let b : BufferedLog = in_parts g.N.Nand.state c.write_group.new.device c.settle.new.blocks c.settle.new.index c.settle.new.self in
    let whole : IsWhole spare a b = whole_written spare lists d e t u v x y pages o c.in-Ok.placed c.requires.buffers opened c.requires.can_write consistent free c.requires.pages ranges c.requires.fits c.requires.number w.lasts w.can_write w.numbers w.group.writes ok w.group.ends.1 reports adds
    c.settle.ensures.settles c.settle.ensures.agree c.settle.ensures.counts a.last b.pages b.last c.settle.ensures.moved.empty c.settle.ensures.moved.written in
    (leaves_committed spare a b whole.commits whole.empty, (whole, was_open o d e t v c.requires.can_write opened w.lasts (c.settle.ensures.counts.bad o ∙ (same_ends (length pages) t u (Ok c.in-Ok.placed) ok).bad o)))

pub returns-else-placed-clause-bad : goal.returns-else-placed-clause-bad
returns-else-placed-clause-bad g c =
    let t : Table = table c.args.blocks.now in
    let u : Table = table c.write_group.new.blocks in
    bad_recounted t u (table c.settle.new.blocks) _ _ (same_ends (length c.pages-pages.result.now) t u (Ok c.in-Ok.placed) c.in-Ok.ensures.group.table) c.settle.ensures.counts

pub returns-else-placed-clause-can_write : goal.returns-else-placed-clause-can_write
returns-else-placed-clause-can_write g c =
    ready_counted (g.N.Nand.state c.write_group.new.device) (table c.write_group.new.blocks) (table c.settle.new.blocks) _ _ c.settle.ensures.counts c.in-Ok.ensures.can_write

pub returns-else-placed-clause-pays : goal.returns-else-placed-clause-pays
returns-else-placed-clause-pays g c =
    let d : Device = g.N.Nand.state c.args.device.now in
    let e : Device = g.N.Nand.state c.write_group.new.device in
    let t : Table = table c.args.blocks.now in
    let u : Table = table c.write_group.new.blocks in
    let v : Table = table c.settle.new.blocks in
    let w = c.in-Ok.ensures in
    let many : length c.pages-pages.result.now ≡ length (contents c.args.buffer.now) = ap length c.pages-pages.ensures in
    let changes = w.group.ends.2 in
    let quiet : e.reads + d.failures ≤ d.reads + e.failures = w.group.quiet tt in
    attempt_done (length (contents c.args.buffer.now)) (log_of d t) (log_of e v) attempts.Trusted
    (bad_recounted t u v _ _ (same_ends (length c.pages-pages.result.now) t u (Ok c.in-Ok.placed) w.group.table) c.settle.ensures.counts) (w.group.ends.0 ∙ ap (λ s. d.failures + (if s then 1 else 0)) c.if-placed.false)
    (omega (arith, changes, many)) w.group.reads (omega (arith, quiet, changes, many))

pub returns-else-placed-clause-attempts : goal.returns-else-placed-clause-attempts
returns-else-placed-clause-attempts g c = λ spare consistent free.
    let d : Device = g.N.Nand.state c.args.device.now in
    let e : Device = g.N.Nand.state c.write_group.new.device in
    let t : Table = table c.args.blocks.now in
    let u : Table = table c.write_group.new.blocks in
    let v : Table = table c.settle.new.blocks in
    let x : Index = c.args.index.now in
    let y : Index = c.settle.new.index in
    let pages : List FreshPage = contents c.args.buffer.now in
    let same : c.pages-pages.result.now ≡ pages = c.pages-pages.ensures in
    let o : ℕ = c.in-Some.block in
    let opened : t.open_block ≡ Some o = sym c.in-Some.ensures in
    let lists : ListsAreWhole = let l = c.the_list_of_a_block_is_whole.ensures in record { committed = l.committed; here = l.here; count = l.count; all = l.all; once = l.once } in
    let ranges : HaveRanges pages = subst HaveRanges c.pages.ensures c.have_ranges.ensures in
    let w = c.in-Ok.ensures in
    let ok = subst (λ (xs : List FreshPage). OkTable c.in-Ok.placed.suspect (length xs) t u) same w.group.table in
    let reports = subst (λ (xs : List FreshPage). ReportsGroup (next_group t (length xs) o) c.in-Ok.placed) same (w.group.placed o opened) in
    let adds = subst (λ (xs : List FreshPage). d.honest ≡ true → AddsPages (next_group t (length xs) o) (fresh_name xs t.next_group) (fresh_bytes xs) d.flash e.flash) same (λ honest. w.group.groups honest o opened) in
    let a : BufferedLog = in_parts g.N.Nand.state c.args.device.now c.args.blocks.now c.args.index.now c.args.buffer.now in
    let b : BufferedLog = in_parts g.N.Nand.state c.write_group.new.device c.settle.new.blocks c.settle.new.index c.settle.new.self in
    let whole : IsWhole spare a b = whole_written spare lists d e t u v x y pages o c.in-Ok.placed c.requires.buffers opened c.requires.can_write consistent free c.requires.pages ranges c.requires.fits c.requires.number w.lasts w.can_write w.numbers w.group.writes ok w.group.ends.1 reports adds
    c.settle.ensures.settles c.settle.ensures.agree c.settle.ensures.counts a.last b.pages b.last c.settle.ensures.moved.empty c.settle.ensures.moved.written in
    let none : e.failures ≡ d.failures + 0 = w.group.ends.0 ∙ ap (λ s. d.failures + (if s then 1 else 0)) c.if-placed.false in
    (leaves_committed spare a b whole.commits whole.empty, (whole, omega (arith, none)))

pub returns-in-Err-Failed-clause-bad : goal.returns-in-Err-Failed-clause-bad
returns-in-Err-Failed-clause-bad g c = let w = rw c.in-Err-Failed.field-0-is at c.in-Err-Failed.ensures in bad_closed (table c.args.blocks.now) (table c.write_group.new.blocks) w.group.table

pub returns-in-Err-Failed-clause-pays : goal.returns-in-Err-Failed-clause-pays
returns-in-Err-Failed-clause-pays g c =
    let d : Device = g.N.Nand.state c.args.device.now in
    let e : Device = g.N.Nand.state c.write_group.new.device in
    let t : Table = table c.args.blocks.now in
    let u : Table = table c.write_group.new.blocks in
    let w = rw c.in-Err-Failed.field-0-is at c.in-Err-Failed.ensures in
    let many : length c.pages-pages.result.now ≡ length (contents c.args.buffer.now) = ap length c.pages-pages.ensures in
    let rise = w.group.ends.0 in
    let changes = w.group.ends.3 in
    attempt_done (length (contents c.args.buffer.now)) (log_of d t) (log_of e u) (attempts.Failed c.in-Some.block) (bad_closed t u w.group.table) rise (omega (arith, changes, many)) w.group.reads tt

pub returns-in-Err-Failed-clause-attempts : goal.returns-in-Err-Failed-clause-attempts
returns-in-Err-Failed-clause-attempts g c = λ spare consistent free.
    let d : Device = g.N.Nand.state c.args.device.now in
    let e : Device = g.N.Nand.state c.write_group.new.device in
    let t : Table = table c.args.blocks.now in
    let u : Table = table c.write_group.new.blocks in
    let x : Index = c.args.index.now in
    let o : ℕ = c.in-Some.block in
    let opened : t.open_block ≡ Some o = sym c.in-Some.ensures in
    let w = rw c.in-Err-Failed.field-0-is at c.in-Err-Failed.ensures in
    let lists : ListsAreWhole = let l = c.the_list_of_a_block_is_whole.ensures in record { committed = l.committed; here = l.here; count = l.count; all = l.all; once = l.once } in
    let a : BufferedLog = in_parts g.N.Nand.state c.args.device.now c.args.blocks.now c.args.index.now c.args.buffer.now in
    let b : BufferedLog = in_parts g.N.Nand.state c.write_group.new.device c.write_group.new.blocks c.args.index.now c.args.buffer.now in
    let xs : List FreshPage = c.pages-pages.result.now in
    let newest : d.honest ≡ true → KeepsNewest d.flash e.flash = λ honest. newest_written d e t xs o c.requires.can_write honest (w.group.writes honest).grows (Err groups.Failed) (w.group.groups honest o opened) in
    let found : d.honest ≡ true → KeepsFound t d e = λ honest. found_same t d e o (length xs) (fresh_name xs t.next_group) (fresh_bytes xs) c.requires.can_write opened honest w.lasts.geometry (w.group.writes honest) (w.numbers.truth.summaries honest) (w.group.groups honest o opened) in
    let erased = erased_written d e t o (length xs) (fresh_name xs t.next_group) (fresh_bytes xs) c.requires.can_write opened w.lasts w.group.writes u (Err groups.Failed) (λ honest. w.group.groups honest o opened) w.group.table in
    let step = keeps_written spare d e t u x xs o lists consistent c.requires.number w.group.table w.lasts w.can_write w.numbers newest found erased in
    (leaves_committed_pages spare a b step refl c.requires.buffers, (record { step = step; pages = refl; power = w.group.ends.1 }, was_open o d e t u c.requires.can_write opened w.lasts ((same_closed t u w.group.table).bad o)))

pub returns-in-Err-Lost-clause-bad : goal.returns-in-Err-Lost-clause-bad
returns-in-Err-Lost-clause-bad g c = let w = rw c.in-Err-Lost.field-0-is at c.in-Err-Lost.ensures in bad_closed (table c.args.blocks.now) (table c.write_group.new.blocks) w.group.table

pub returns-in-Err-Lost-clause-pays : goal.returns-in-Err-Lost-clause-pays
returns-in-Err-Lost-clause-pays g c =
    let d : Device = g.N.Nand.state c.args.device.now in
    let e : Device = g.N.Nand.state c.write_group.new.device in
    let t : Table = table c.args.blocks.now in
    let u : Table = table c.write_group.new.blocks in
    let w = rw c.in-Err-Lost.field-0-is at c.in-Err-Lost.ensures in
    let many : length c.pages-pages.result.now ≡ length (contents c.args.buffer.now) = ap length c.pages-pages.ensures in
    let changes = w.group.ends.1 in
    attempt_short (length (contents c.args.buffer.now)) (log_of d t) (log_of e u) rooms.Lost (bad_closed t u w.group.table) w.lasts.failures (omega (arith, changes, many)) w.group.reads

pub returns-in-Err-Lost-clause-attempts : goal.returns-in-Err-Lost-clause-attempts
returns-in-Err-Lost-clause-attempts g c = λ spare consistent free.
    let d : Device = g.N.Nand.state c.args.device.now in
    let e : Device = g.N.Nand.state c.write_group.new.device in
    let t : Table = table c.args.blocks.now in
    let u : Table = table c.write_group.new.blocks in
    let x : Index = c.args.index.now in
    let o : ℕ = c.in-Some.block in
    let opened : t.open_block ≡ Some o = sym c.in-Some.ensures in
    let w = rw c.in-Err-Lost.field-0-is at c.in-Err-Lost.ensures in
    let lists : ListsAreWhole = let l = c.the_list_of_a_block_is_whole.ensures in record { committed = l.committed; here = l.here; count = l.count; all = l.all; once = l.once } in
    let a : BufferedLog = in_parts g.N.Nand.state c.args.device.now c.args.blocks.now c.args.index.now c.args.buffer.now in
    let b : BufferedLog = in_parts g.N.Nand.state c.write_group.new.device c.write_group.new.blocks c.args.index.now c.args.buffer.now in
    let xs : List FreshPage = c.pages-pages.result.now in
    let newest : d.honest ≡ true → KeepsNewest d.flash e.flash = λ honest. newest_written d e t xs o c.requires.can_write honest (w.group.writes honest).grows (Err groups.Lost) (w.group.groups honest o opened) in
    let found : d.honest ≡ true → KeepsFound t d e = λ honest. found_same t d e o (length xs) (fresh_name xs t.next_group) (fresh_bytes xs) c.requires.can_write opened honest w.lasts.geometry (w.group.writes honest) (w.numbers.truth.summaries honest) (w.group.groups honest o opened) in
    let erased = erased_written d e t o (length xs) (fresh_name xs t.next_group) (fresh_bytes xs) c.requires.can_write opened w.lasts w.group.writes u (Err groups.Lost) (λ honest. w.group.groups honest o opened) w.group.table in
    let step = keeps_written spare d e t u x xs o lists consistent c.requires.number w.group.table w.lasts w.can_write w.numbers newest found erased in
    (leaves_committed_pages spare a b step refl c.requires.buffers, w.lasts.honest ∙ w.group.ends.0)

pub returns-in-Err-Gone-clause-bad : goal.returns-in-Err-Gone-clause-bad
returns-in-Err-Gone-clause-bad g c = let w = rw c.in-Err-Gone.field-0-is at c.in-Err-Gone.ensures in bad_closed (table c.args.blocks.now) (table c.write_group.new.blocks) w.group.table

pub returns-in-Err-Gone-clause-pays : goal.returns-in-Err-Gone-clause-pays
returns-in-Err-Gone-clause-pays g c =
    let d : Device = g.N.Nand.state c.args.device.now in
    let e : Device = g.N.Nand.state c.write_group.new.device in
    let t : Table = table c.args.blocks.now in
    let u : Table = table c.write_group.new.blocks in
    let w = rw c.in-Err-Gone.field-0-is at c.in-Err-Gone.ensures in
    let many : length c.pages-pages.result.now ≡ length (contents c.args.buffer.now) = ap length c.pages-pages.ensures in
    let changes = w.group.ends.1 in
    attempt_short (length (contents c.args.buffer.now)) (log_of d t) (log_of e u) rooms.Gone (bad_closed t u w.group.table) w.lasts.failures (omega (arith, changes, many)) w.group.reads

pub returns-in-Err-Gone-clause-attempts : goal.returns-in-Err-Gone-clause-attempts
returns-in-Err-Gone-clause-attempts g c = λ spare consistent free.
    let d : Device = g.N.Nand.state c.args.device.now in
    let e : Device = g.N.Nand.state c.write_group.new.device in
    let t : Table = table c.args.blocks.now in
    let u : Table = table c.write_group.new.blocks in
    let x : Index = c.args.index.now in
    let o : ℕ = c.in-Some.block in
    let opened : t.open_block ≡ Some o = sym c.in-Some.ensures in
    let w = rw c.in-Err-Gone.field-0-is at c.in-Err-Gone.ensures in
    let lists : ListsAreWhole = let l = c.the_list_of_a_block_is_whole.ensures in record { committed = l.committed; here = l.here; count = l.count; all = l.all; once = l.once } in
    let a : BufferedLog = in_parts g.N.Nand.state c.args.device.now c.args.blocks.now c.args.index.now c.args.buffer.now in
    let b : BufferedLog = in_parts g.N.Nand.state c.write_group.new.device c.write_group.new.blocks c.args.index.now c.args.buffer.now in
    let pages : List FreshPage = contents c.args.buffer.now in (
      leaves_gone spare d e t u x pages o lists consistent free c.requires.number opened c.requires.buffers c.requires.pages c.requires.can_write w.group.table w.lasts w.can_write w.numbers w.group.ends.0 w.group.writes
          (subst (λ (xs : List FreshPage). d.honest ≡ true → GroupsAfter (next_group t (length xs) o) (fresh_name xs t.next_group) (fresh_bytes xs) d.flash e.flash (Err groups.Gone)) c.pages-pages.ensures (λ honest. w.group.groups honest o opened))
          a.last,
      w.group.ends.0,
    )

pub returns-else-placed-clause-keeps_open : goal.returns-else-placed-clause-keeps_open
returns-else-placed-clause-keeps_open g c =
    let t : Table = table c.args.blocks.now in
    let u : Table = table c.write_group.new.blocks in
    let same : c.pages-pages.result.now ≡ contents c.args.buffer.now = c.pages-pages.ensures in
    let trusted : OkTable false (length c.pages-pages.result.now) t u = subst (λ s. OkTable s (length c.pages-pages.result.now) t u) c.if-placed.false c.in-Ok.ensures.group.table in
    let takes : OkTable false (length (contents c.args.buffer.now)) t u = subst (λ (xs : List FreshPage). OkTable false (length xs) t u) same trusted in
    stays_open (length (contents c.args.buffer.now)) c.in-Some.block t u (table c.settle.new.blocks) _ _ (sym c.in-Some.ensures) c.requires.fits takes c.settle.ensures.counts

pub returns-then-placed-clause-mountable : goal.returns-then-placed-clause-mountable
returns-then-placed-clause-mountable g c =
    let d : Device = g.N.Nand.state c.args.device.now in
    let e : Device = g.N.Nand.state c.write_group.new.device in
    let t : Table = table c.args.blocks.now in
    let u : Table = table c.write_group.new.blocks in
    let pages : List FreshPage = contents c.args.buffer.now in
    let same : c.pages-pages.result.now ≡ pages = c.pages-pages.ensures in
    let o : ℕ = c.in-Some.block in
    let opened : t.open_block ≡ Some o = sym c.in-Some.ensures in
    let lists : ListsAreWhole = let l = c.the_list_of_a_block_is_whole.ensures in record { committed = l.committed; here = l.here; count = l.count; all = l.all; once = l.once } in
    let w = c.in-Ok.ensures in
    let ok = subst (λ (xs : List FreshPage). OkTable c.in-Ok.placed.suspect (length xs) t u) same w.group.table in
    let reports = subst (λ (xs : List FreshPage). ReportsGroup (next_group t (length xs) o) c.in-Ok.placed) same (w.group.placed o opened) in
    let adds = subst (λ (xs : List FreshPage). d.honest ≡ true → AddsPages (next_group t (length xs) o) (fresh_name xs t.next_group) (fresh_bytes xs) d.flash e.flash) same (λ honest. w.group.groups honest o opened) in
    mountable_whole d e t u c.args.index.now pages o c.requires.can_write opened c.requires.buffers c.requires.pages w.lasts w.numbers w.group.writes c.in-Ok.placed adds lists (table c.settle.new.blocks) c.settle.new.index _ reports.block
    c.settle.ensures.settles c.requires.consistent.1.tables.counts c.settle.ensures.agree c.settle.ensures.counts ok

pub returns-else-placed-clause-mountable : goal.returns-else-placed-clause-mountable
returns-else-placed-clause-mountable g c =
    let d : Device = g.N.Nand.state c.args.device.now in
    let e : Device = g.N.Nand.state c.write_group.new.device in
    let t : Table = table c.args.blocks.now in
    let u : Table = table c.write_group.new.blocks in
    let pages : List FreshPage = contents c.args.buffer.now in
    let same : c.pages-pages.result.now ≡ pages = c.pages-pages.ensures in
    let o : ℕ = c.in-Some.block in
    let opened : t.open_block ≡ Some o = sym c.in-Some.ensures in
    let lists : ListsAreWhole = let l = c.the_list_of_a_block_is_whole.ensures in record { committed = l.committed; here = l.here; count = l.count; all = l.all; once = l.once } in
    let w = c.in-Ok.ensures in
    let ok = subst (λ (xs : List FreshPage). OkTable c.in-Ok.placed.suspect (length xs) t u) same w.group.table in
    let reports = subst (λ (xs : List FreshPage). ReportsGroup (next_group t (length xs) o) c.in-Ok.placed) same (w.group.placed o opened) in
    let adds = subst (λ (xs : List FreshPage). d.honest ≡ true → AddsPages (next_group t (length xs) o) (fresh_name xs t.next_group) (fresh_bytes xs) d.flash e.flash) same (λ honest. w.group.groups honest o opened) in
    mountable_whole d e t u c.args.index.now pages o c.requires.can_write opened c.requires.buffers c.requires.pages w.lasts w.numbers w.group.writes c.in-Ok.placed adds lists (table c.settle.new.blocks) c.settle.new.index _ reports.block
    c.settle.ensures.settles c.requires.consistent.1.tables.counts c.settle.ensures.agree c.settle.ensures.counts ok

pub returns-in-Err-Failed-clause-mountable : goal.returns-in-Err-Failed-clause-mountable
returns-in-Err-Failed-clause-mountable g c =
    let d : Device = g.N.Nand.state c.args.device.now in
    let e : Device = g.N.Nand.state c.write_group.new.device in
    let t : Table = table c.args.blocks.now in
    let u : Table = table c.write_group.new.blocks in
    let o : ℕ = c.in-Some.block in
    let opened : t.open_block ≡ Some o = sym c.in-Some.ensures in
    let w = rw c.in-Err-Failed.field-0-is at c.in-Err-Failed.ensures in
    let after = subst (λ (xs : List FreshPage). d.honest ≡ true → GroupsAfter (next_group t (length xs) o) (fresh_name xs t.next_group) (fresh_bytes xs) d.flash e.flash (Err groups.Failed)) c.pages-pages.ensures (λ honest. w.group.groups honest o opened) in
    mountable_short d e t u c.args.index.now (contents c.args.buffer.now) o c.requires.can_write opened c.requires.buffers c.requires.pages w.lasts w.numbers w.group.writes groups.Failed after w.group.table

pub returns-in-Err-Lost-clause-mountable : goal.returns-in-Err-Lost-clause-mountable
returns-in-Err-Lost-clause-mountable g c =
    let d : Device = g.N.Nand.state c.args.device.now in
    let e : Device = g.N.Nand.state c.write_group.new.device in
    let t : Table = table c.args.blocks.now in
    let u : Table = table c.write_group.new.blocks in
    let o : ℕ = c.in-Some.block in
    let opened : t.open_block ≡ Some o = sym c.in-Some.ensures in
    let w = rw c.in-Err-Lost.field-0-is at c.in-Err-Lost.ensures in
    let after = subst (λ (xs : List FreshPage). d.honest ≡ true → GroupsAfter (next_group t (length xs) o) (fresh_name xs t.next_group) (fresh_bytes xs) d.flash e.flash (Err groups.Lost)) c.pages-pages.ensures (λ honest. w.group.groups honest o opened) in
    mountable_short d e t u c.args.index.now (contents c.args.buffer.now) o c.requires.can_write opened c.requires.buffers c.requires.pages w.lasts w.numbers w.group.writes groups.Lost after w.group.table

pub returns-in-Err-Gone-clause-mountable : goal.returns-in-Err-Gone-clause-mountable
returns-in-Err-Gone-clause-mountable g c =
    let d : Device = g.N.Nand.state c.args.device.now in
    let e : Device = g.N.Nand.state c.write_group.new.device in
    let t : Table = table c.args.blocks.now in
    let u : Table = table c.write_group.new.blocks in
    let o : ℕ = c.in-Some.block in
    let opened : t.open_block ≡ Some o = sym c.in-Some.ensures in
    let w = rw c.in-Err-Gone.field-0-is at c.in-Err-Gone.ensures in
    let after = subst (λ (xs : List FreshPage). d.honest ≡ true → GroupsAfter (next_group t (length xs) o) (fresh_name xs t.next_group) (fresh_bytes xs) d.flash e.flash (Err groups.Gone)) c.pages-pages.ensures (λ honest. w.group.groups honest o opened) in
    mountable_short d e t u c.args.index.now (contents c.args.buffer.now) o c.requires.can_write opened c.requires.buffers c.requires.pages w.lasts w.numbers w.group.writes groups.Gone after w.group.table
