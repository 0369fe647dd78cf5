use Rattle.std.specs.Prelude.{◌≡◌, ◌≤◌, ◌/◌, true, false}
use Rattle.std.proofs.Common.{refl, ◌∙◌, sym, ap, subst, arith}
use Rattle.nand_model.specs.Calls.{Device, Lasts}
use Rattle.nand_model.specs.declared.geometry.Geometry.{Geometry}
use Rattle.nand_model.specs.laws.Calls.{lasts_here}
use Rattle.block_state.specs.TableOf.{table}
use Rattle.pages.specs.State.{PagesState}
use Rattle.pages.specs.Stores.{HasNumbersLeft}
use Rattle.transactions.specs.Checking.{LogState}
use Rattle.page_store.specs.declared.counts.StoreCounts.{StoreCounts}
use Rattle.page_store.specs.StoreOf.{committed_data_map, next_numbers}
use Rattle.page_store.specs.StoreState.{seen_of}
use Rattle.page_store.specs.StateOf.{lent_by, state_of}
use Rattle.page_store.proofs.Carried.{store_carries}
use Rattle.page_store.specs.laws.Sound.{sound_whole}
use Rattle.page_store.proofs.ReadOnly.{sound_honest}
use Rattle.page_store.proofs.Steps.{hands_still}
use Rattle.page_store.proofs.Reported.{cut_stopped, cut_takes_none, cut_reported, failed_stays, finds_now, hands_none, committed_as, marks_none, stays_mountable}
use Rattle.page_store.proofs.store_trait.StorePageStore.cut.Goals as goal

pub returns-clause-goes_on : goal.returns-clause-goes_on
returns-clause-goes_on g c =
    let self = c.args.self.now in
    let new = c.cut_away.new.self in
    let same = c.cut_away.ensures.same in
    let old = g.N.Nand.state self.log.device in
    let now = g.N.Nand.state new.log.device in
    let still : now ≡ old = ap (λ (l : LogState). l.device) same.log in
    let tables : table new.log.blocks ≡ table self.log.blocks = ap (λ (l : LogState). l.table) same.log in
    let lasts : Lasts old now = subst (λ (k : Device). Lasts old k) (sym still) (lasts_here old) in
    record {
      page_bytes = ap (λ (k : Geometry). k.bytes) lasts.geometry;
      most = new.most ∙ ap (λ (k : Geometry). k.pages / 4) lasts.geometry ∙ sym self.most;
      spare = same.spare;
      worn = refl;
      refused = subst (λ (k : StoreCounts). self.counts.refused.total ≤ k.refused.total) (sym same.counts) (omega arith);
      commits = subst (λ (k : StoreCounts). self.counts.commits.total ≤ k.commits.total) (sym same.counts) (omega arith);
      failed = failed_stays old now self.broken new.broken lasts (λ is. same.broken ∙ is);
      device = lasts;
      numbers = hands_none old now (table self.log.blocks) (table new.log.blocks) still tables;
      marks = marks_none old now (table self.log.blocks) (table new.log.blocks) still tables;
      limits = λ _ left. subst (λ (k : Device). HasNumbersLeft k.flash) (sym still) left;
      truth = (hands_still old now (table self.log.blocks) (table new.log.blocks) still tables).truth;
      mountable = stays_mountable (state_of self) (state_of new) (lent_by self) (lent_by new) lasts same.first new.log.mountable;
    }

pub returns-clause-present : goal.returns-clause-present
returns-clause-present g c = λ sound. let self = c.args.self.now in c.cut_away.ensures.current (sound_honest (g.N.Nand.state self.log.device).honest self.broken sound)

pub returns-clause-committed : goal.returns-clause-committed
returns-clause-committed g c = λ sound.
    let self = c.args.self.now in
    let new = c.cut_away.new.self in
    let e = c.cut_away.ensures in
    let old = g.N.Nand.state self.log.device in
    let now = g.N.Nand.state new.log.device in
    let honest : now.honest ≡ true = ap (λ (l : LogState). l.device.honest) e.same.log ∙ sound_honest old.honest self.broken sound in
    let whole : new.broken ≡ false = e.same.broken ∙ sound_whole old.honest self.broken sound in
    let q : PagesState = seen_of (state_of new) (lent_by new) in
    committed_as q (committed_data_map old self.log.index) e.committed_map (record {
      carried = store_carries new.log.spare now (table new.log.blocks) new.log.index c.the_counts_are_of_the_keys.ensures.none new.log.can_write new.log.consistent.tables (new.newest whole honest);
      found = finds_now (state_of new) (lent_by new) new.log.mountable;
    })

pub returns-clause-stops : goal.returns-clause-stops
returns-clause-stops g c =
    let self = c.args.self.now in
    let new = c.cut_away.new.self in
    cut_stopped c.cut_away.result (g.N.Nand.state new.log.device).honest self.broken new.broken c.cut_away.ensures.same.broken c.cut_away.ensures.fault

pub returns-clause-fault : goal.returns-clause-fault
returns-clause-fault g c = λ sound.
    let self = c.args.self.now in
    let new = c.cut_away.new.self in
    cut_reported c.cut_away.result (seen_of (state_of self) (lent_by self))
    (seen_of (state_of new) (lent_by new)) self.broken
    (sound_whole (g.N.Nand.state self.log.device).honest self.broken sound) c.cut_away.ensures.fault

pub returns-clause-device : goal.returns-clause-device
returns-clause-device g c = ap (λ (l : LogState). l.device) c.cut_away.ensures.same.log

pub returns-clause-next : goal.returns-clause-next
returns-clause-next g c = ap (λ (l : LogState). next_numbers l.table) c.cut_away.ensures.same.log

pub returns-clause-memory : goal.returns-clause-memory
returns-clause-memory g c = λ none. cut_takes_none c.cut_away.result c.args.self.now.broken c.cut_away.ensures.fault none
