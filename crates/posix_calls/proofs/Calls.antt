-- What the commands promise of a store of objects, in the words of its pages.
use Rattle.std.specs.Prelude.{◌≡◌, ◌⊎◌, ◌≤◌, ℕ, zero, suc, Bool, true, false, not, List, Result, Ok, Err}
use Rattle.std.proofs.Common.{refl, sym, ◌∙◌, ap, subst, inl, inr}
use Rattle.std.proofs.lemmas.Bool.{not-true}
use Rattle.volume_terms.specs.Sizes.{Sizes}
use Rattle.nand_model.specs.Calls.{Device}
use Rattle.nand_model.specs.Changes.{OnlyReads}
use Rattle.nand_model.specs.laws.Changes.{only_reads_here, only_reads_on}
use Rattle.posix_profile.specs.Losses.{is_synced, PowerLossLeaves}
use Rattle.posix_profile.specs.Runs.{takes_no_memory}
use Rattle.posix_profile.specs.Steps.{step}
use Rattle.posix_profile.specs.State.{Objects, State}
use Rattle.posix_profile.specs.declared.command.Stamped.{Stamped}
use Rattle.posix_profile.specs.declared.reply.Reply.{Reply}
use Rattle.object_store.specs.Stores.{Meaning, Has, Commits, settled}
use Rattle.volume_terms.specs.declared.fault.StoreFault.{StoreFault}
use Rattle.volume_terms.specs.declared.fault.StoreFault.TheVariants as faults
use Rattle.object_commands.specs.Volumes.{store_of}
use Rattle.command_plans.specs.Classes.{class_of}
use Rattle.object_commands.specs.Endings.{IsAt, CommandEnds}
use Rattle.object_commands.specs.Running.{InTurn, ReadsInTurn, Ran, Runs}
use Rattle.object_commands.specs.laws.Steps.{One, one_ends, at_shown}
use Rattle.object_store.specs.Reported.{table_sizes}
use Rattle.paged_objects.specs.Naming.{HasNames}
use Rattle.paged_objects.specs.Meaning.{paged_meaning}
use Rattle.paged_objects.specs.Parts.{state_of}
use Rattle.paged_objects.specs.Representing.{PagesRepresent, Shown}
use Rattle.paged_objects.specs.Ending.{HasEnded}
use Rattle.paged_objects.specs.laws.Going.{ended_after}
use Rattle.paged_objects.specs.laws.Lawful.{paged_lawful}
use Rattle.paged_objects.specs.declared.store.PagedObjects.{PagedObjects}
use Rattle.pages.specs.State.{PagesState}
use Rattle.pages.specs.Stores.{bad_on}
use Rattle.posix_calls.specs.PageVolumes.{pages_of, table_of, names_of, is_read_only, IsVolumeOf}
use Rattle.posix_calls.specs.Running.{RanPages, RunsPages}
use Rattle.posix_calls.specs.declared.page_volume.PageVolume.{PageVolume}

-- what objects over such pages stand for
abbrev pub meaning_of : {P : Type 0} → (P → PagesState) → Meaning (PagedObjects P)
meaning_of state = paged_meaning (state_of state)

pub is_at : {P : Type 0} (state : P → PagesState) (z : Sizes) (s : State) (v : PageVolume P) → IsVolumeOf state z s v → IsAt (meaning_of state) z s v.volume
is_at state z s v is = record {
  has = record {
    numbers = is.numbers;
    sizes = is.sizes;
    represents = record {
      represents = subst (λ y. PagesRepresent y (state (pages_of v)) s.objects) (sym is.sizes) is.represents;
      reports = is.reports;
      named = subst (λ y. HasNames (names_of v) y (state (pages_of v)).present s.objects) (sym is.sizes) is.hashes;
    };
    forest = is.sound.well_formed.forest;
    fit = is.sound.fit;
  };
  handles = is.handles;
  sound = is.sound;
  only_read = λ only. record {
    handles = is.reading only;
    named = is.named only;
    shown = subst (λ y. Shown y (state (pages_of v)) s.objects) (sym is.sizes) (is.shown only);
  };
}

-- sound pages that can be written have few bad blocks
abbrev pub FewLaw : {P : Type 0} → (P → PagesState) → Type 0
FewLaw {P} state = (pages : P) → (state pages).sound ≡ true → (state pages).worn ≡ false → bad_on (state pages).device ≤ (state pages).spare

pub is_volume : {P : Type 0} (state : P → PagesState) (z : Sizes) (s : State) (v : PageVolume P) → FewLaw state → (state (pages_of v)).worn ≡ is_read_only v → IsAt (meaning_of state) z s v.volume
    → IsVolumeOf state z s v
is_volume state z s v law worn at = record {
  numbers = at.has.numbers;
  sizes = at.has.sizes;
  represents = subst (λ y. PagesRepresent y (state (pages_of v)) s.objects) at.has.sizes at.has.represents.represents;
  reports = at.has.represents.reports;
  hashes = subst (λ y. HasNames (names_of v) y (state (pages_of v)).present s.objects) at.has.sizes at.has.represents.named;
  handles = at.handles;
  sound = at.sound;
  worn = worn;
  within_limit = λ writes. law (pages_of v) at.has.represents.represents.sound (worn ∙ writes);
  reading = λ only. (at.only_read only).handles;
  named = λ only. (at.only_read only).named;
  shown = λ only. subst (λ y. Shown y (state (pages_of v)) s.objects) at.has.sizes (at.only_read only).shown;
}

-- the tree that a mount would show, by the sizes that the table reports
pub shown_to : {P : Type 0} (state : P → PagesState) (z : Sizes) (v : PageVolume P) (tree : Objects) → table_sizes (table_of v) ≡ z → Shown z (state (pages_of v)) tree → Shown (table_sizes (table_of v)) (state (pages_of v)) tree
shown_to state z v tree is shown = subst (λ y. Shown y (state (pages_of v)) tree) (sym is) shown

pub shown_from : {P : Type 0} (state : P → PagesState) (z : Sizes) (v : PageVolume P) (tree : Objects) → table_sizes (table_of v) ≡ z → Shown (table_sizes (table_of v)) (state (pages_of v)) tree → Shown z (state (pages_of v)) tree
shown_from state z v tree is shown = subst (λ y. Shown y (state (pages_of v)) tree) is shown

pub either_from : {P : Type 0} (state : P → PagesState) (z : Sizes) (v : PageVolume P) (tree other : Objects) → table_sizes (table_of v) ≡ z
    → Shown (table_sizes (table_of v)) (state (pages_of v)) tree ⊎ Shown (table_sizes (table_of v)) (state (pages_of v)) other → Shown z (state (pages_of v)) tree ⊎ Shown z (state (pages_of v)) other
either_from state z v tree other is (inl shown) = inl (shown_from state z v tree is shown)
either_from state z v tree other is (inr shown) = inr (shown_from state z v other is shown)

module _ {P : Type 0} (state : P → PagesState) where
  abbrev m : Meaning (PagedObjects P)
  m = meaning_of state

  -- one command
  pub one_call : (z : Sizes) (s : State) (stamped : Stamped) (r : Reply) (a b : PageVolume P) → IsVolumeOf state z s a → CommandEnds m z (class_of (is_read_only a) s stamped.command) (takes_no_memory stamped.command) s (step z (is_read_only a) s stamped) a.volume b.volume r
      → One m z (is_read_only a) s stamped r a.volume b.volume
  one_call z s stamped r a b is ends = one_ends m (paged_lawful (state_of state)) z (is_read_only a) s stamped r a.volume b.volume (at_shown m z s a.volume (is_at state z s a is)) ends

  -- a call that only reads, or leaves the device as it is
  pub reads_device : (a b : PagedObjects P) → m.reads a b ⊎ m.leaves a b → OnlyReads (state a.pages).device (state b.pages).device
  reads_device a b (inl reads) = reads.pages.device
  reads_device a b (inr leaves) = subst (λ (d : Device). OnlyReads (state a.pages).device d) (sym leaves) (only_reads_here (state a.pages).device)

  -- and such calls in turn
  reads_all : (n : ℕ) (a b : PagedObjects P) → ReadsInTurn m n a b → OnlyReads (state a.pages).device (state b.pages).device
  reads_all zero a b same = subst (λ (x : PagedObjects P). OnlyReads (state a.pages).device (state x.pages).device) (sym same) (only_reads_here (state a.pages).device)
  reads_all (suc n) a b more = only_reads_on _ _ _ (reads_all n a more.0 more.1) (reads_device more.0 b more.2)

  -- calls in turn that leave the device as it is
  leaves_all : (n : ℕ) (a b : PagedObjects P) → InTurn m.leaves n a b → (state b.pages).device ≡ (state a.pages).device
  leaves_all zero a b same = ap (λ (x : PagedObjects P). (state x.pages).device) same
  leaves_all (suc n) a b more = more.2 ∙ leaves_all n a more.0 more.1

  -- what a mount would show after it
  pub tree_after : (z : Sizes) (s : State) (read_only : Bool) (stamped : Stamped) (r : Reply) (a b : PageVolume P) → table_sizes (table_of a) ≡ z → table_sizes (table_of b) ≡ table_sizes (table_of a) → One m z read_only s stamped r a.volume b.volume
      → (tree : Objects) → Shown z (state (pages_of a)) tree → Shown z (state (pages_of b)) tree ⊎ Shown z (state (pages_of b)) (settled s.objects)
  tree_after z s read_only stamped r a b is same one tree shown = either_from state z b tree (settled s.objects) (same ∙ is) (one.power_loss tree (shown_to state z a tree is shown))

  pub synced_after : (z : Sizes) (s : State) (read_only : Bool) (stamped : Stamped) (r : Reply) (a b : PageVolume P) → table_sizes (table_of a) ≡ z → table_sizes (table_of b) ≡ table_sizes (table_of a) → One m z read_only s stamped r a.volume b.volume
      → is_synced stamped.command r ≡ true → Shown z (state (pages_of b)) (settled s.objects)
  synced_after z s read_only stamped r a b is same one synced = shown_from state z b (settled s.objects) (same ∙ is) (one.sync synced)

  -- a run
  ran_pages : (z : Sizes) (s : State) (commands : List Stamped) (answered : List Reply) (a b : PageVolume P) → table_sizes (table_of a) ≡ z → table_sizes (table_of b) ≡ table_sizes (table_of a)
      → FewLaw state → (state (pages_of b)).worn ≡ is_read_only b → Ran m z s commands answered a.volume b.volume → RanPages state z s commands answered a b
  ran_pages z s commands answered a b is same law worn ran = record {
    holds = ran.holds;
    power_losses = λ tree shown. losses_from (ran.power_losses tree (shown_to state z a tree is shown));
    cause = λ stop. let f = ran.failure stop in ended_after (state (pages_of a)) (state f.from.pages) (state (pages_of b)) f.lasts.0.commits f.fails.0.cause;
    state_is = λ goes. is_volume state z _ b law worn (ran.state goes);
    only_failed = λ only stop. (ran.unread only stop).1.1;
    power = λ refused. not-true _ (ran.power refused);
    reports = λ each. (ran.reports each).pages;
    only_reads = λ why. let reads = ran.only why in reads_all reads.0 a.volume.store b.volume.store reads.1;
  } where
    losses_from : {tree : Objects} → PowerLossLeaves (Shown (table_sizes (table_of b)) (state (pages_of b))) tree z (is_read_only a) s commands answered → PowerLossLeaves (Shown z (state (pages_of b))) tree z (is_read_only a) s commands answered
    losses_from {tree} left = subst (λ y. PowerLossLeaves (Shown y (state (pages_of b))) tree z (is_read_only a) s commands answered) (same ∙ is) left

  same_volume : (a b : PageVolume P) → b.volume ≡ a.volume → b ≡ a
  same_volume a b is = ap (λ v. record { volume = v }) is

  pub runs_pages : (commands : List Stamped) (n : ℕ) (before now : List Reply) (a b : PageVolume P) → table_sizes (table_of b) ≡ table_sizes (table_of a)
      → FewLaw state → (state (pages_of b)).worn ≡ (state (pages_of a)).worn → is_read_only b ≡ is_read_only a → Runs m commands n before now a.volume b.volume → RunsPages state commands n before now a b
  runs_pages commands n before now a b same law worn only runs = record {
    answered = runs.answered;
    count = runs.count;
    behind = runs.behind;
    stays = runs.stays;
    stops = runs.stops;
    stopped = λ stop. let was = runs.stopped stop in (was.0, same_volume a b was.1);
    leaves = λ all. leaves_all n a.volume.store b.volume.store (runs.leaves all);
    power = λ none was. not-true _ (runs.power none (ap not was));
    ran = λ goes z s is. ran_pages z s commands runs.answered a b is.sizes same law (worn ∙ is.worn ∙ sym only) (runs.ran goes z s (is_at state z s a is));
  }

module _ {P : Type 0} (state : P → PagesState) (z : Sizes) (objects : Objects) (a b : PagedObjects P) (has : Has (meaning_of state) z objects a) where
  by_sizes : {tree : Objects} {p : PagesState} → Shown (table_sizes a.table) p tree → Shown z p tree
  by_sizes {tree} {p} shown = subst (λ y. Shown y p tree) has.sizes shown

  to_sizes : {tree : Objects} {p : PagesState} → Shown z p tree → Shown (table_sizes a.table) p tree
  to_sizes {tree} {p} shown = subst (λ y. Shown y p tree) (sym has.sizes) shown

  -- a done commit settles the objects
  pub commit_done : (r : Result (Unit {0}) StoreFault) (done : Unit {0}) → r ≡ Ok done → Commits (meaning_of state) objects a b r → Shown z (state b.pages) (settled objects)
  commit_done r done is commits = let ends : Commits (meaning_of state) objects a b (Ok done) = subst (Commits (meaning_of state) objects a b) is commits in by_sizes ends.1.0.shown

  either : {tree : Objects} → Shown (table_sizes a.table) (state b.pages) tree ⊎ Shown (table_sizes a.table) (state b.pages) (settled objects) → Shown z (state b.pages) tree ⊎ Shown z (state b.pages) (settled objects)
  either (inl shown) = inl (by_sizes shown)
  either (inr shown) = inr (by_sizes shown)

  -- any commit leaves the tree or settles the objects
  pub commit_tree : (r : Result (Unit {0}) StoreFault) → (r ≡ Err faults.NoMemory → ⊥) → Commits (meaning_of state) objects a b r → (tree : Objects) → Shown z (state a.pages) tree
      → Shown z (state b.pages) tree ⊎ Shown z (state b.pages) (settled objects)
  commit_tree (Ok done) none commits tree shown = inr (by_sizes commits.1.0.shown)
  commit_tree (Err faults.NoMemory) none commits tree shown = absurd (none refl)
  commit_tree (Err faults.Device) none commits tree shown = either (commits.0.turns tree (to_sizes shown))
  commit_tree (Err faults.Worn) none commits tree shown = either (commits.0.turns tree (to_sizes shown))

  -- one that is not done has its cause
  pub commit_cause : (r : Result (Unit {0}) StoreFault) (fault : StoreFault) → r ≡ Err fault → (r ≡ Err faults.NoMemory → ⊥) → Commits (meaning_of state) objects a b r → HasEnded (state a.pages) (state b.pages)
  commit_cause r faults.NoMemory is none commits = absurd (none is)
  commit_cause r faults.Device is none commits = let ends : Commits (meaning_of state) objects a b (Err faults.Device) = subst (Commits (meaning_of state) objects a b) is commits in ends.0.cause
  commit_cause r faults.Worn is none commits = let ends : Commits (meaning_of state) objects a b (Err faults.Worn) = subst (Commits (meaning_of state) objects a b) is commits in ends.0.cause

-- the objects of a volume are what it stands for
pub has_of : {P : Type 0} (state : P → PagesState) (z : Sizes) (s : State) (v : PageVolume P) (a : PagedObjects P) → a ≡ store_of v.volume → IsVolumeOf state z s v → Has (meaning_of state) z s.objects a
has_of state z s v a same is = subst (Has (meaning_of state) z s.objects) (sym same) (is_at state z s v is).has
