-- What a refresh leaves of a volume over pages.
use Rattle.std.specs.Prelude.{◌≡◌, ◌+◌, ◌*◌, ℕ, true, false, Result, Ok, Err}
use Rattle.std.proofs.Common.{refl, sym, ◌∙◌, ap, subst, inl, inr, arith}
use Rattle.std.proofs.lemmas.Bool.{true≢false}
use Rattle.name_index.specs.declared.index.NameIndex.{NameIndex}
use Rattle.object_store.specs.Reported.{table_sizes, Reports}
use Rattle.object_store.specs.declared.table.ObjectTable.{ObjectTable}
use Rattle.object_commands.specs.Volumes.{with_stop, with_store}
use Rattle.paged_objects.specs.Ending.{HasEndedAt}
use Rattle.paged_objects.specs.Naming.{HasNames}
use Rattle.paged_objects.specs.Representing.{Shown}
use Rattle.paged_objects.specs.declared.store.PagedObjects.{PagedObjects}
use Rattle.paged_objects.specs.laws.Going.{goes_here}
use Rattle.paged_objects.specs.laws.Lawful.{more_names}
use Rattle.paged_objects.specs.laws.Showing.{changed_represents, still_shown}
use Rattle.pages.specs.Refreshing.{CostsAMove, RefreshFailsBy, Refreshes}
use Rattle.pages.specs.Refreshing as refreshing
use Rattle.pages.specs.State.{PagesState}
use Rattle.posix_calls.specs.PageVolumes.{pages_of, table_of, names_of, is_read_only, is_stopped, IsVolumeOf}
use Rattle.posix_calls.specs.Refreshing.{IsRefreshed}
use Rattle.posix_calls.specs.declared.page_volume.PageVolume.{PageVolume}
use Rattle.posix_calls.proofs.Calls.{FewLaw}
use Rattle.posix_profile.specs.State.{Objects, State}
use Rattle.posix_profile.specs.declared.reply.Errno.{Errno}
use Rattle.posix_profile.specs.declared.reply.Errno.TheVariants as errors
use Rattle.volume_terms.specs.Sizes.{Sizes}
use Rattle.volume_terms.specs.declared.fault.StoreFault.{StoreFault}
use Rattle.volume_terms.specs.declared.fault.StoreFault.TheVariants as faults

-- nothing is done
costs_nothing : (p : PagesState) → CostsAMove p p
costs_nothing p =
    let each : ℕ = p.device.geometry.pages + 2 in
    let one : each * (p.device.failures + 0) ≡ each * p.device.failures = omega arith in
    omega (arith, one)

not_ok : (error : Errno) → ◌≡◌ {A = Result (Unit {0}) Errno} (Err error) (Ok tt) → ⊥
not_ok error is = cc

-- the volume stays as it is
module _ {P : Type 0} (state : P → PagesState) (block : ℕ) (v : PageVolume P) where
  pub stays_stopped : is_stopped v ≡ true → IsRefreshed state block v (Err errors.EIO) v
  stays_stopped stop = record {
    goes_on = goes_here (state (pages_of v));
    read_only = refl;
    sizes = refl;
    costs = costs_nothing (state (pages_of v));
    stopped = λ _. (refl, refl);
    refused = λ goes only. absurd (true≢false (sym stop ∙ goes));
    stops = λ goes written. absurd (true≢false (sym stop ∙ goes));
    power = λ is. absurd (not_ok errors.EIO is);
    represents = λ is z s at. absurd (not_ok errors.EIO is);
    leaves = λ is z s at. absurd (not_ok errors.EIO is);
    tree = λ z s at tree shown. shown;
    cause = λ goes z s at is. absurd (true≢false (sym stop ∙ goes));
  }

  pub stays_read_only : is_stopped v ≡ false → is_read_only v ≡ true → IsRefreshed state block v (Err errors.EROFS) v
  stays_read_only goes only = record {
    goes_on = goes_here (state (pages_of v));
    read_only = refl;
    sizes = refl;
    costs = costs_nothing (state (pages_of v));
    stopped = λ stop. absurd (true≢false (sym stop ∙ goes));
    refused = λ _ _. (refl, refl);
    stops = λ _ written. absurd (true≢false (sym only ∙ written));
    power = λ is. absurd (not_ok errors.EROFS is);
    represents = λ is z s at. absurd (not_ok errors.EROFS is);
    leaves = λ is z s at. absurd (not_ok errors.EROFS is);
    tree = λ z s at tree shown. shown;
    cause = λ _ z s at is. let two : errors.EROFS ≡ errors.EIO = cc in absurd cc;
  }

-- a fault of the pages has its cause
ended_by : (q : PagesState) (fault : StoreFault) → RefreshFailsBy q fault → HasEndedAt q
ended_by q faults.NoMemory why = absurd why
ended_by q faults.Device why = inl why
ended_by q faults.Worn why = inr why

-- The block of the pages was to be refreshed, and all else of the volume stays.
module _ {P : Type 0} (state : P → PagesState) (within_limit : FewLaw state) (block : ℕ) (a : PageVolume P) (store : PagedObjects P) (goes : is_stopped a ≡ false) (written : is_read_only a ≡ false) (table : store.table ≡ table_of a)
    (names : store.names ≡ names_of a) where
  abbrev p : PagesState
  p = state (pages_of a)

  abbrev q : PagesState
  q = state store.pages

  abbrev b : PageVolume P
  b = record { volume = with_store a.volume store }

  abbrev c : PageVolume P
  c = record { volume = with_stop (with_store a.volume store) }

  module _ (result : Result (Unit {0}) StoreFault) (refreshes : Refreshes block p q result) where
    -- a mount shows the tree that it did
    shown_still : (z : Sizes) (s : State) → IsVolumeOf state z s a → (tree : Objects) → Shown z p tree → Shown z q tree
    shown_still z s at tree shown = still_shown z p q tree refreshes.goes_on at.represents.sound (refreshes.ends at.represents.sound).committed shown

    -- the volume stands for the state that it stood for
    represents_still : (z : Sizes) (s : State) → IsVolumeOf state z s a → refreshing.IsRefreshed block p q → IsVolumeOf state z s b
    represents_still z s at done =
        let worn : q.worn ≡ is_read_only a = refreshes.goes_on.worn ∙ at.worn in
        record {
          numbers = at.numbers;
          sizes = ap table_sizes table ∙ at.sizes;
          represents = changed_represents z p q s.objects s.objects p.present refreshes.goes_on at.represents done.sound at.represents.holds done.present (λ tree shown. inl (shown_still z s at tree shown));
          reports = subst (λ (t : ObjectTable). Reports t s.objects) (sym table) at.reports;
          hashes = subst (λ (n : NameIndex). HasNames n z q.present s.objects) (sym names)
              (more_names z (names_of a) (names_of a) p.present q.present s.objects (λ d h t is. is) done.present at.hashes);
          handles = at.handles;
          sound = at.sound;
          worn = worn;
          within_limit = λ _. within_limit store.pages done.sound (worn ∙ written);
          reading = λ only. absurd (true≢false (sym only ∙ written));
          named = λ only. absurd (true≢false (sym only ∙ written));
          shown = λ only. absurd (true≢false (sym only ∙ written));
        }

  pub refreshed : Refreshes block p q (Ok tt) → IsRefreshed state block a (Ok tt) b
  refreshed refreshes = record {
    goes_on = refreshes.goes_on;
    read_only = refl;
    sizes = ap table_sizes table;
    costs = refreshes.costs;
    stopped = λ stop. absurd (true≢false (sym stop ∙ goes));
    refused = λ _ only. absurd (true≢false (sym only ∙ written));
    stops = λ _ _. inl (refl, goes);
    power = λ _. refreshes.power;
    represents = λ _ z s at. represents_still (Ok tt) refreshes z s at (refreshes.ends at.represents.sound).done;
    leaves = λ _ z s at. (refreshes.ends at.represents.sound).done.leaves;
    tree = λ z s at tree shown. shown_still (Ok tt) refreshes z s at tree shown;
    cause = λ _ z s at is. absurd (not_ok errors.EIO (sym is));
  }

  pub ended : (fault : StoreFault) → Refreshes block p q (Err fault) → IsRefreshed state block a (Err errors.EIO) c
  ended fault refreshes = record {
    goes_on = refreshes.goes_on;
    read_only = refl;
    sizes = ap table_sizes table;
    costs = refreshes.costs;
    stopped = λ stop. absurd (true≢false (sym stop ∙ goes));
    refused = λ _ only. absurd (true≢false (sym only ∙ written));
    stops = λ _ _. inr (refl, refl);
    power = λ is. absurd (not_ok errors.EIO is);
    represents = λ is z s at. absurd (not_ok errors.EIO is);
    leaves = λ is z s at. absurd (not_ok errors.EIO is);
    tree = λ z s at tree shown. shown_still (Err fault) refreshes z s at tree shown;
    cause = λ _ z s at is. ended_by q fault (refreshes.ends at.represents.sound).cause;
  }
