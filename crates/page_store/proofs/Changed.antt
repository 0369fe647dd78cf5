-- What a change leaves of a store, by what its three steps do: the making of room in memory, that in the buffer, and the change itself.
use Rattle.std.specs.Prelude.{◌≡◌, ◌⊎◌, ◌<◌, ℕ, ◌+◌, ◌*◌, true, length, Result, Ok, Err}
use Rattle.std.proofs.Common.{refl, sym, ◌∙◌, ap, subst, inl, inr, arith}
use Rattle.nand_model.specs.Calls.{Device, Lasts}
use Rattle.nand_model.specs.laws.Calls.{lasts_here}
use Rattle.nand_model.specs.Counts.{ReadsFew, ReadsFor, unfinished}
use Rattle.flash_log.specs.laws.Bills.{pays_none}
use Rattle.page_store.specs.Committing.{KeepsOpen, PaysCommit, PaysUpTo}
use Rattle.page_store.specs.BufferOf.{contents}
use Rattle.page_store.specs.declared.buffer.Buffer.{Buffer}
use Rattle.pages.specs.Stores.{SamePages}
use Rattle.transactions.specs.Checking.{LogState}
use Rattle.transactions.specs.Handing.{HandsOut}
use Rattle.transactions.specs.laws.Handing.{hands_nothing}
use Rattle.volume_terms.specs.declared.fault.StoreFault.{StoreFault}
use Rattle.volume_terms.specs.declared.fault.StoreFault.TheVariants as faults
use Rattle.chunk_index.specs.Maps.{SameCommitted}
use Rattle.pages.specs.declared.change.Change.{Change}
use Rattle.page_store.specs.Changing.{ChangeEnds, CommitsEither, CommitsNone, SamePlaces, IsBroken, HasNothingLeft, IsCommitFault, Prepares, SameBeside, StaysCarried, StaysOrKeepsOpen, StaysWhole, StoreLasts}
use Rattle.page_store.specs.Counts.{IsRefused}
use Rattle.page_store.specs.StoreState.{StoreState, committed_in, current_in, waiting}
use Rattle.page_store.specs.declared.counts.StoreCounts.{StoreCounts}
use Rattle.page_store.specs.Carrying.{CarriesFound}
use Rattle.flash_log.specs.Mountable.{IsMountable}
use Rattle.page_store.proofs.Carried.{either_same}
use Rattle.page_store.proofs.Findable.{mountable_committed}
use Rattle.page_store.proofs.Steps.{same_back, same_on, committed_map_same, present_map_same}

-- nothing is done
pub pays_here : {T E : Type 0} (count spare : ℕ) (a : LogState) (result : Result T E) → PaysUpTo count spare a a result
pays_here count spare a result = record { pays = pays_none (count + a.device.geometry.pages + 1) (3 * a.device.geometry.pages + 3) a result; takes_none = λ _ _. omega arith; takes_one = λ _ _. omega arith }

-- a commit is one at most
pub pays_commit : {T E : Type 0} (count spare : ℕ) (a b : LogState) (result : Result T E) → PaysCommit count spare a b result → PaysUpTo count spare a b result
pays_commit count spare a b result pays = record {
  pays = record { costs = pays.costs; marks = pays.marks; answers = pays.answers; reads = within_limit result pays.reads };
  takes_none = pays.takes_none;
  takes_one = pays.takes_one;
}
  where
    within_limit : {T E : Type 0} (r : Result T E) → ReadsFor count a.device b.device r → ReadsFew (unfinished r) a.device b.device
    within_limit (Ok done) reads = omega (arith, reads)
    within_limit (Err fault) reads = reads

-- the same cost, by how a call ended
pub pays_done : {S T E F : Type 0} (count spare : ℕ) (a b : LogState) (s : S) (t : T) → PaysUpTo {E = E} count spare a b (Ok s) → PaysUpTo {E = F} count spare a b (Ok t)
pays_done count spare a b s t is = record {
  pays = record { costs = is.pays.costs; marks = is.pays.marks; answers = is.pays.answers; reads = is.pays.reads };
  takes_none = is.takes_none;
  takes_one = is.takes_one;
}

pub pays_failed : {S T E F : Type 0} (count spare : ℕ) (a b : LogState) (e : E) (f : F) → PaysUpTo {T = S} count spare a b (Err e) → PaysUpTo {T = T} count spare a b (Err f)
pays_failed count spare a b e f is = record {
  pays = record { costs = is.pays.costs; marks = is.pays.marks; answers = tt; reads = is.pays.reads };
  takes_none = is.takes_none;
  takes_one = is.takes_one;
}

-- the table stays, or its open block does
abbrev StaysOrOpen : LogState → LogState → ℕ → Type 0
StaysOrOpen old new count = (new.table ≡ old.table) ⊎ KeepsOpen count old new

-- what nothing was done to lasts
pub lasts_still : (a : StoreState) → StoreLasts a a
lasts_still a = record { device = lasts_here a.log.device; numbers = hands_nothing a.log.device a.log.table; spare = refl; first = refl; counts = record { refused = omega arith; commits = omega arith } }

pub same_here : (a : StoreState) → SameBeside a a
same_here a = record { log = refl; spare = refl; first = refl; broken = refl; counts = refl }

-- A store before all, with room in its tables, with room in its buffer, and after all.
module _ (a b c d : StoreState) (before : Prepares a b) (after : SameBeside c d) where
  still : b.log.device ≡ a.log.device
  still = ap (λ (l : LogState). l.device) before.log.log

  pub still_after : d.log.device ≡ c.log.device
  still_after = ap (λ (l : LogState). l.device) after.log

  long : waiting b ≡ waiting a
  long = ap (λ (x : Buffer). length (contents x)) before.buffer

  commits_after : d.counts.commits.total ≡ c.counts.commits.total
  commits_after = ap (λ (k : StoreCounts). k.commits.total) after.counts

  refused_after : d.counts.refused.total ≡ c.counts.refused.total
  refused_after = ap (λ (k : StoreCounts). k.refused.total) after.counts

  committed_before : SamePages (committed_in b) (committed_in a)
  committed_before = committed_map_same a.log.device b.log.device a.index b.index still before.committed_map

  pub current_before : SamePages (current_in b) (current_in a)
  current_before = present_map_same a.log.device b.log.device a.index b.index a.buffer b.buffer still before.current before.buffer

  pub lasts_made : StoreLasts b c → StoreLasts a d
  lasts_made lasts = record {
    device = subst (λ (k : Device). Lasts a.log.device k) (sym still_after) (subst (λ (k : Device). Lasts k c.log.device) still lasts.device);
    numbers = subst (λ (l : LogState). HandsOut a.log.device l.device a.log.table l.table) (sym after.log) (subst (λ (l : LogState). HandsOut l.device c.log.device l.table c.log.table) before.log.log lasts.numbers);
    spare = after.spare ∙ lasts.spare ∙ before.log.spare;
    first = after.first ∙ lasts.first ∙ before.log.first;
    counts = record {
      refused = let one = before.counts.refused in let two = lasts.counts.refused in let three = refused_after in omega (arith, one, two, three);
      commits = let one = before.counts.commits in let two = lasts.counts.commits in let three = commits_after in omega (arith, one, two, three);
    };
  }

  pub pays_made : {T E : Type 0} (result : Result T E) → PaysUpTo (waiting b) b.spare b.log c.log result → PaysUpTo (waiting a) a.spare a.log d.log result
  pays_made result pays =
      subst (λ (l : LogState). PaysUpTo (waiting a) a.spare a.log l result) (sym after.log)
      (subst (λ (l : LogState). PaysUpTo (waiting a) a.spare l c.log result) before.log.log
      (subst (λ n. PaysUpTo n a.spare b.log c.log result) long (subst (λ n. PaysUpTo (waiting b) n b.log c.log result) before.log.spare pays)))

  pub carried_made : StaysCarried b c → StaysCarried a d
  carried_made stays = λ whole honest.
      let reported : b.log.device.honest ≡ true = ap (λ (x : Device). x.honest) still ∙ honest in
      let mounts : IsMountable a.log a.index → IsMountable b.log b.index =
      λ was. mountable_committed b.log a.index b.index before.committed_map (subst (λ (l : LogState). IsMountable l a.index) (sym before.log.log) was) in
      subst (λ (k : Device). CarriesFound a.log a.index k a.spare (committed_in a) ⊎ CarriesFound a.log a.index k a.spare (current_in a)) (sym still_after)
      (either_same b.log a.log b.index a.index c.log.device a.spare (committed_in b) (current_in b) (committed_in a) (current_in a) mounts (same_back _ _ committed_before) (same_back _ _ current_before)
      (subst (λ n. CarriesFound b.log b.index c.log.device n (committed_in b) ⊎ CarriesFound b.log b.index c.log.device n (current_in b)) before.log.spare (stays (before.log.broken ∙ whole) reported)))

  pub whole_made : StaysWhole b c → StaysWhole a d
  whole_made whole = record {
    was = sym before.log.broken ∙ whole.was;
    is = after.broken ∙ whole.is;
    power = ap (λ (k : Device). k.gone) still_after ∙ whole.power ∙ ap (λ (k : Device). k.gone) still;
  }

  pub committed_made : SamePages (committed_in d) (committed_in c) → CommitsEither b c → CommitsEither a d
  committed_made same (inl committed) = inl (same_on _ _ _ same (same_on _ _ _ committed committed_before))
  committed_made same (inr all) = inr (same_on _ _ _ same (same_on _ _ _ all current_before))

  pub open_made : StaysOrKeepsOpen b c → StaysOrKeepsOpen a d
  open_made stays =
      subst (λ (l : LogState). StaysOrOpen a.log l (waiting a)) (sym after.log)
      (subst (λ (l : LogState). StaysOrOpen l c.log (waiting a)) before.log.log (subst (StaysOrOpen b.log c.log) long stays))

  -- why a commit failed
  cause_made : (fault : StoreFault) → IsCommitFault b c fault → IsCommitFault a d fault
  cause_made faults.NoMemory why = why
  cause_made faults.Device (inl gone) = inl (ap (λ (k : Device). k.gone) still_after ∙ gone)
  cause_made faults.Device (inr (inl lies)) = inr (inl (ap (λ (k : Device). k.honest) still_after ∙ lies))
  cause_made faults.Device (inr (inr broken)) = inr (inr (sym before.log.broken ∙ broken))
  cause_made faults.Worn why =
      subst (λ (l : LogState). HasNothingLeft a.spare (waiting a) l.device a.log.table l.table) (sym after.log)
      (subst (λ (l : LogState). HasNothingLeft a.spare (waiting a) c.log.device l.table c.log.table) before.log.log
      (subst (λ n. HasNothingLeft a.spare n c.log.device b.log.table c.log.table) long (subst (λ n. HasNothingLeft n (waiting b) c.log.device b.log.table c.log.table) before.log.spare why)))

  pub broken_made : (fault : StoreFault) → IsBroken b c fault → IsBroken a d fault
  broken_made fault is = record {
    is = after.broken ∙ is.is;
    begins = λ whole.
        let begun : b.counts.commits.total < c.counts.commits.total = is.begins (before.log.broken ∙ whole) in
        let was = before.log.commits in
        let now = commits_after in
        omega (arith, begun, was, now);
    cause = cause_made fault is.cause;
  }

-- Where memory is refused nothing changed but the room of tables.
module _ (a b : StoreState) (before : Prepares a b) where
  pub refused_made : (change : Change) (fault : StoreFault) → fault ≡ faults.NoMemory → IsRefused a.counts b.counts → ChangeEnds change a b (Err fault)
  refused_made change fault is refused = subst (λ (f : StoreFault). ChangeEnds change a b (Err f)) (sym is) (record {
    refused = refused;
    device = ap (λ (l : LogState). l.device) before.log.log;
    table = ap (λ (l : LogState). l.table) before.log.log;
    broken = before.log.broken;
    committed_map = committed_map_same a.log.device b.log.device a.index b.index (ap (λ (l : LogState). l.device) before.log.log) before.committed_map;
    current = present_map_same a.log.device b.log.device a.index b.index a.buffer b.buffer (ap (λ (l : LogState). l.device) before.log.log) before.current before.buffer;
  })

  pub commits_none : CommitsNone a b
  commits_none = record {
    device = ap (λ (l : LogState). l.device) before.log.log;
    table = ap (λ (l : LogState). l.table) before.log.log;
    committed_map = committed_map_same a.log.device b.log.device a.index b.index (ap (λ (l : LogState). l.device) before.log.log) before.committed_map;
    commits = before.log.commits;
  }

  -- the call that prepared is all that was done
  pub lasts_prepared : StoreLasts a b
  lasts_prepared = lasts_made a b b b before (same_here b) (lasts_still b)

-- Where the buffer had room for a change nothing was committed.
module _ (a b c : StoreState) (before : Prepares a b) (same : SamePlaces b c) where
  pub commits_not : CommitsNone a c
  commits_not = record {
    device = ap (λ (l : LogState). l.device) (same.log ∙ before.log.log);
    table = ap (λ (l : LogState). l.table) (same.log ∙ before.log.log);
    committed_map = committed_map_same a.log.device c.log.device a.index c.index (ap (λ (l : LogState). l.device) (same.log ∙ before.log.log)) (subst (SameCommitted a.index) (sym same.index) before.committed_map);
    commits = same.commits ∙ before.log.commits;
  }

-- so it stays where the pages alone change then
pub commits_not_after : (a c d : StoreState) → CommitsNone a c → SameBeside c d → SamePages (committed_in d) (committed_in c) → CommitsNone a d
commits_not_after a c d none after same = record {
  device = ap (λ (l : LogState). l.device) after.log ∙ none.device;
  table = ap (λ (l : LogState). l.table) after.log ∙ none.table;
  committed_map = same_on _ _ _ same none.committed_map;
  commits = ap (λ (k : StoreCounts). k.commits.total) after.counts ∙ none.commits;
}

-- a commit that failed in the making of room ends the change
pub broken_ends : (change : Change) (a d : StoreState) (fault : StoreFault) → IsBroken a d fault → ChangeEnds change a d (Err fault)
broken_ends change a d faults.NoMemory is = absurd is.cause
broken_ends change a d faults.Device is = is
broken_ends change a d faults.Worn is = is
