use Rattle.std.proofs.Common.{◌≡◌, ◌≤◌, ◌/◌, ◌∙◌, ap, subst, rules}
use Rattle.nand_model.specs.Calls.{Device}
use Rattle.flash_tree.specs.Places.{numbers_of}
use Rattle.block_state.specs.Committed.{bad_count}
use Rattle.block_state.specs.TableOf.{table}
use Rattle.flash_log.specs.Consistency.{IsConsistentLog, HasFreeBlocks}
use Rattle.page_store.specs.BufferOf.{contents}
use Rattle.page_store.specs.Shown.{present_data}
use Rattle.page_store.specs.StoreOf.{committed_data_map}
use Rattle.page_store.specs.StateOf.{lent_by, state_of}
use Rattle.tree_walk.specs.Trees.{keeps_key}
use Rattle.mounting.proofs.Mountable.{mountable_since, store_finds, store_remembers}
use Rattle.mounting.proofs.PagesMade.{can_write, consistent, within_limit, free, store_pages}
use Rattle.mounting.proofs.Noting.{ok_map}
use Rattle.mounting.proofs.making.store_pages.Goals as goal

pub new-requires : goal.new-requires
new-requires g c = λ κs within.
    let on = c.args.on in
    let d = g.N.Nand.state on.device in
    let same : on.spare ≡ c.from.result = search rules in
    let read = c.requires.read.tables in
    let can = c.requires.can.can in (
      within,
      (
        can_write (keeps_key on.tree) d (table on.blocks) on.index (numbers_of on.numbers) on.spare read c.requires.fitting c.requires.room can,
        (
          subst (λ s. IsConsistentLog s d (table on.blocks) on.index) same (consistent (keeps_key on.tree) d (table on.blocks) on.index (numbers_of on.numbers) on.spare read c.requires.fitting c.requires.room can c.requires.ordinary),
          mountable_since d (table on.blocks) on.index (g.met.N.Nand.within on.device) c.requires.can.mountable,
        ),
      ),
    )

pub new-requires-2-clause-within_limit : goal.new-requires-2-clause-within_limit
new-requires-2-clause-within_limit g c =
    let on = c.args.on in
    let d = g.N.Nand.state on.device in
    let same : on.spare ≡ c.from.result = search rules in
    rw (c.in-Ok.ensures.tables.0, c.in-Ok.ensures.spare) (subst (λ s. bad_count (table on.blocks) ≤ s) same (within_limit (keeps_key on.tree) d (table on.blocks) on.index (numbers_of on.numbers) on.spare c.requires.read.tables c.requires.fitting c.requires.room c.requires.can.can))

pub new-requires-2-clause-free : goal.new-requires-2-clause-free
new-requires-2-clause-free g c =
    let on = c.args.on in
    let d = g.N.Nand.state on.device in
    let same : on.spare ≡ c.from.result = search rules in
    rw (c.in-Ok.ensures.tables.0, c.in-Ok.ensures.spare) (subst (λ s. HasFreeBlocks (table on.blocks) s) same (free (keeps_key on.tree) d (table on.blocks) on.index (numbers_of on.numbers) on.spare c.requires.read.tables c.requires.fitting c.requires.room c.requires.can.can))

pub new-requires-2-clause-committed : goal.new-requires-2-clause-committed
new-requires-2-clause-committed g c = rw (c.in-Ok.ensures.device, c.in-Ok.ensures.tables.1) c.requires.read.tables.tables.newest

pub returns-in-Ok-new-clause-made : goal.returns-in-Ok-new-clause-made
returns-in-Ok-new-clause-made g c =
    let on = c.args.on in
    let d = g.N.Nand.state on.device in
    let s = c.in-Ok-new.store in
    let log = c.in-Ok.log in
    let logged = c.in-Ok.ensures in
    let stored = c.in-Ok-new.ensures in
    let same : c.from.result ≡ on.spare = search rules in
    let device : g.N.Nand.state log.device ≡ d = ap g.N.Nand.state logged.device in
    let device_is = ap (λ l. g.N.Nand.state l.device) stored.log ∙ device in
    let table_is = ap (λ l. table l.blocks) stored.log ∙ ap table logged.tables.0 in
    let first = ap (λ l. l.origin.first) stored.log ∙ logged.origin in
    let within = g.met.N.Nand.within on.device in
    let mountable = c.requires.can.mountable in
    ok_map c.boxed_store.result (λ boxed is. rw is (store_pages (keeps_key on.tree) d (table on.blocks) on.index (numbers_of on.numbers) on.spare c.requires.read.tables c.requires.fitting c.requires.room c.requires.can.can (c.the_counts_are_of_the_keys.ensures.none on.index)
    (state_of s) (lent_by s) device_is (table_is, ap (λ l. l.spare) stored.log ∙ logged.spare ∙ same) stored.whole
    (stored.most ∙ ap (λ (e : Device). e.geometry.pages / 4) device)
    (λ o k. ap (λ l. committed_data_map (g.N.Nand.state l.device) l.index o k) stored.log ∙ ap (λ (e : Device). committed_data_map e log.index o k) device ∙ ap (λ x. committed_data_map d x o k) logged.tables.1)
    (λ o k. ap (λ l. present_data l.index (contents s.buffer) d.flash o k) stored.log ∙ ap (λ x. present_data x (contents s.buffer) d.flash o k) logged.tables.1 ∙ (rw (device, logged.tables.1) at stored.pages o k))
    (store_finds d (table on.blocks) on.index within mountable (state_of s) (lent_by s) device_is table_is first) (store_remembers d (table on.blocks) on.index within mountable (state_of s) (lent_by s) device_is table_is first)))
    c.boxed_store.ensures.store
