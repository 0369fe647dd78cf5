-- What a volume stands for once descriptors are closed.
use Rattle.std.specs.Prelude.{◌≡◌, ◌⊎◌, ◌<◌, ◌+◌, ℕ, suc, Bool, true, false, ◌||◌, Option, Some, None, nat_eq}
use Rattle.std.specs.Cmp.{nat_cmp_total}
use Rattle.std.specs.Ordering.{nat_cmp}
use Rattle.std.specs.FinMap as map
use Rattle.std.proofs.Common.{refl, sym, ◌∙◌, ap, subst, inl, inr, arith}
use Rattle.std.proofs.lemmas.Bool.{cases_eq, or_cases, or_left, or_right, eqb-true, eq-eqb, cond-false, true≢false}
use Rattle.volume_terms.specs.Sizes.{Sizes, descriptors, root_number}
use Rattle.posix_profile.specs.State.{Name, Object, Objects, Handle, State}
use Rattle.posix_profile.specs.HandleSteps.{at_handle, close_step}
use Rattle.posix_profile.specs.Names.{Names, Reached, root, below, is_named, is_open, prune}
use Rattle.posix_profile.specs.Outcomes.{Outcome, answer}
use Rattle.posix_profile.specs.Runs.{Replies, after_one, is_no_memory, is_stop}
use Rattle.posix_profile.specs.Steps.{step, step_at}
use Rattle.posix_profile.specs.WellFormed.{IsForest, IsNamed, IsOpen, IsWellFormed}
use Rattle.posix_profile.specs.laws.Map.{retain_cases, retained, get_removed, removed_none}
use Rattle.posix_profile.specs.laws.Name.{named_from_test, test_from_named, open_from_test}
use Rattle.posix_profile.specs.laws.Prune.{no_handles, prune_same}
use Rattle.posix_profile.specs.declared.command.Command.TheVariants as commands
use Rattle.posix_profile.specs.declared.command.Stamped.{Stamped}
use Rattle.posix_profile.specs.declared.reply.Reply.{Reply}
use Rattle.posix_profile.specs.declared.reply.Reply.TheVariants as replies
use Rattle.object_store.specs.Stores.{settled}
use Rattle.pages.specs.State.{PagesState}
use Rattle.pages.specs.Stores.{GoesOn}
use Rattle.paged_objects.specs.Ending.{HasEnded}
use Rattle.paged_objects.specs.Representing.{Shown}
use Rattle.paged_objects.specs.laws.Going.{ended_after, goes_here, goes_on}
use Rattle.posix_calls.specs.Closing.{Closes, IsClosed}
use Rattle.posix_calls.specs.PageVolumes.{pages_of, is_read_only, is_stopped, IsVolumeOf}
use Rattle.posix_calls.specs.declared.page_volume.PageVolume.{PageVolume}

-- ---- what names keep

-- the object is the root or has a name
abbrev HasName : Objects → ℕ → Type 0
HasName objects o = (o ≡ root_number) ⊎ IsNamed objects o

abbrev keep_test : State → ℕ → Bool
keep_test s o = nat_eq o root_number || is_named s.objects o || is_open s o

test_named : (s : State) (o : ℕ) → HasName s.objects o → keep_test s o ≡ true
test_named s o (inl top) = or_left (nat_eq o root_number || is_named s.objects o) (is_open s o) (or_left (nat_eq o root_number) (is_named s.objects o) (eq-eqb o root_number top))
test_named s o (inr named) = or_left (nat_eq o root_number || is_named s.objects o) (is_open s o) (or_right (nat_eq o root_number) (is_named s.objects o) (test_from_named s.objects o named))

pruned_has : (s : State) (o : ℕ) (x : Object) → HasName s.objects o → map.get s.objects o ≡ Some x → map.get (prune s).objects o ≡ Some x
pruned_has s o x named is = retained nat_cmp_total map.nat_cmp-IsAntisymmetric s.objects (keep_test s) o x (test_named s o named) is

pruned_was : (s : State) (o : ℕ) (x : Object) → map.get (prune s).objects o ≡ Some x → (keep_test s o ≡ true) × (map.get s.objects o ≡ Some x)
pruned_was s o x is = retain_cases nat_cmp_total map.nat_cmp-IsAntisymmetric s.objects (keep_test s) o x is

abbrev bare : Objects → State
bare objects = record { objects = objects; handles = map.empty }

settled_was : (objects : Objects) (o : ℕ) (x : Object) → map.get (settled objects) o ≡ Some x → HasName objects o × (map.get objects o ≡ Some x)
settled_was objects o x is =
    let was = pruned_was (bare objects) o x is in (
      elim (or_cases (nat_eq o root_number || is_named objects o) (is_open (bare objects) o) was.0) [
        | inl f ↦ elim (or_cases (nat_eq o root_number) (is_named objects o) f) [
          | inl top ↦ inl (eqb-true o root_number top)
          | inr named ↦ inr (named_from_test objects o named)
        ]
        | inr open' ↦
            let at = open_from_test (bare objects) o open' in
            let two : None ≡ Some at.1 = sym (map.get-empty nat_cmp at.0) ∙ at.2 in absurd cc
      ],
      was.1,
    )

-- what is reached is the root or has a name
reached_named : (objects : Objects) (o : ℕ) → Reached objects o → HasName objects o
reached_named objects o root = inl refl
reached_named objects o (below {directory} {object} name up names) = inr (directory, name, names)

-- objects that are pruned settle to the same
module _ (z : Sizes) (s : State) (forest : IsForest z s.objects) where
  abbrev left : Objects
  left = (prune s).objects

  names_before : (d o : ℕ) (n : Name) → Names left d n o → Names s.objects d n o
  names_before d o n names = record { moment = names.moment; entries = names.entries; directory_is = (pruned_was s d _ names.directory_is).1; object_is = names.object_is }

  names_stay : (d o : ℕ) (n : Name) → Names s.objects d n o → Names left d n o
  names_stay d o n names = record {
    moment = names.moment;
    entries = names.entries;
    directory_is = pruned_has s d _ (reached_named s.objects d (forest.reached d o n names)) names.directory_is;
    object_is = names.object_is;
  }

  named_before : (o : ℕ) → HasName left o → HasName s.objects o
  named_before o (inl top) = inl top
  named_before o (inr named) = inr (named.0, named.1, names_before named.0 o named.1 named.2)

  named_stays : (o : ℕ) → HasName s.objects o → HasName left o
  named_stays o (inl top) = inl top
  named_stays o (inr named) = inr (named.0, named.1, names_stay named.0 o named.1 named.2)

  forth : (o : ℕ) (x : Object) → map.get (settled s.objects) o ≡ Some x → map.get (settled left) o ≡ Some x
  forth o x is =
      let was = settled_was s.objects o x is in
      pruned_has (bare left) o x (named_stays o was.0) (pruned_has s o x was.0 was.1)

  back : (o : ℕ) (x : Object) → map.get (settled left) o ≡ Some x → map.get (settled s.objects) o ≡ Some x
  back o x is =
      let was = settled_was left o x is in
      pruned_has (bare s.objects) o x (named_before o was.0) (pruned_was s o x was.1).1

  pub pruned_settles : settled left ≡ settled s.objects
  pruned_settles = map.same_map nat_cmp_total map.nat_cmp-IsAntisymmetric _ _ (λ o. go o (map.get (settled s.objects) o) (map.get (settled left) o) refl refl)
    where
      go : (o : ℕ) (x y : Option Object) → map.get (settled s.objects) o ≡ x → map.get (settled left) o ≡ y → map.get (settled left) o ≡ map.get (settled s.objects) o
      go o (Some x) y is there = forth o x is ∙ sym is
      go o None (Some y) is there = absurd (let two : None ≡ Some y = sym is ∙ back o y there in cc)
      go o None None is there = there ∙ sym is

-- where no descriptor is open each object has a name
pub all_named : (z : Sizes) (t : State) → IsWellFormed z t → ((fd : ℕ) → fd < descriptors → map.get t.handles fd ≡ None) → settled t.objects ≡ t.objects
all_named z t sound closed = ap (λ (s : State). s.objects) (prune_same z (bare t.objects) (record {
  forest = sound.forest;
  handles = no_handles t.objects;
  committed = λ o object is. go o (sound.committed o object is);
})) where
  go : (o : ℕ) → (o ≡ root_number) ⊎ IsNamed t.objects o ⊎ IsOpen t.handles o → (o ≡ root_number) ⊎ IsNamed t.objects o ⊎ IsOpen map.empty o
  go o (inl top) = inl top
  go o (inr (inl named)) = inr (inl named)
  go o (inr (inr open')) =
      let none : map.get t.handles open'.0 ≡ None = closed open'.0 (sound.handles open'.0 open'.1 open'.2).descriptor in
      let two : None ≡ Some open'.1 = sym none ∙ open'.2 in absurd cc

-- ---- one descriptor

-- A descriptor was closed, if it was open: no other is opened, and names keep the same objects. It takes no memory.
record IsLeft (s : State) (fd : ℕ) (o : Outcome) : Type 0 where
  here : map.get o.state.handles fd ≡ None
  others : (k : ℕ) → map.get s.handles k ≡ None → map.get o.state.handles k ≡ None
  settles : settled o.state.objects ≡ settled s.objects
  memory : is_no_memory o.reply ≡ false

handle_closed : (z : Sizes) (s : State) (fd : ℕ) → IsForest z s.objects → (h : Option Handle) → map.get s.handles fd ≡ h
    → IsLeft s fd (at_handle s h (λ handle. answer (prune (record s { handles = map.remove s.handles fd })) replies.Done))
unfolding at_handle
handle_closed z s fd forest None is = record { here = is; others = λ k none. none; settles = refl; memory = refl }
handle_closed z s fd forest (Some h) is = record {
  here = removed_none nat_cmp_total map.nat_cmp-IsAntisymmetric s.handles fd;
  others = λ k none. elim (cases_eq k fd) [
    | inl same ↦ ap (map.get (map.remove s.handles fd)) same ∙ removed_none nat_cmp_total map.nat_cmp-IsAntisymmetric s.handles fd
    | inr other ↦ get_removed nat_cmp_total map.nat_cmp-IsAntisymmetric s.handles fd k other ∙ none
  ];
  settles = pruned_settles z (record s { handles = map.remove s.handles fd }) forest;
  memory = refl;
}

closed_one : (z : Sizes) (s : State) (fd : ℕ) → IsForest z s.objects → IsLeft s fd (close_step s fd)
closed_one z s fd forest = handle_closed z s fd forest (map.get s.handles fd) refl

closing_is : (z : Sizes) (read_only : Bool) (s : State) (moment fd : ℕ) → step_at z read_only s moment (commands.Close fd) ≡ close_step s fd
unfolding step_at
closing_is z read_only s moment fd = refl

left_by_step : (z : Sizes) (read_only : Bool) (s : State) (moment fd : ℕ) → IsForest z s.objects → IsLeft s fd (step_at z read_only s moment (commands.Close fd))
left_by_step z read_only s moment fd forest = subst (IsLeft s fd) (sym (closing_is z read_only s moment fd)) (closed_one z s fd forest)

-- the state after the reply
after_is : (z : Sizes) (read_only : Bool) (s : State) (stamped : Stamped) (r : Reply) → is_no_memory r ≡ false → is_stop r ≡ false → after_one z read_only s stamped r ≡ (step z read_only s stamped).state
after_is z read_only s stamped r memory goes = cond-false _ _ _ memory ∙ cond-false _ _ _ goes

closed_after : (z : Sizes) (read_only : Bool) (s : State) (moment fd n : ℕ) (first : State) (r : Reply) → n ≡ fd → IsForest z s.objects → IsClosed n first s → is_stop r ≡ false
    → Replies z read_only s (record { moment = moment; command = commands.Close fd }) r → IsClosed (suc n) first (after_one z read_only s (record { moment = moment; command = commands.Close fd }) r)
closed_after z read_only s moment fd n first r at forest closed goes answers = elim answers [
  | inl step_is ↦
      let is_left = left_by_step z read_only s moment fd forest in
      let memory : is_no_memory r ≡ false = ap is_no_memory step_is ∙ is_left.memory in
      subst (IsClosed (suc n) first) (sym (after_is z read_only s (record { moment = moment; command = commands.Close fd }) r memory goes)) (record {
        closed = λ k lt. elim (cases_eq k fd) [
          | inl same ↦ ap (map.get (step_at z read_only s moment (commands.Close fd)).state.handles) same ∙ is_left.here
          | inr other ↦ is_left.others k (closed.closed k (omega (arith, lt, at, other)))
        ];
        settles = is_left.settles ∙ closed.settles;
      })
  | inr (inl lack) ↦ absurd (true≢false lack.1)
  | inr (inr stop) ↦ absurd (true≢false (sym stop ∙ goes))
]

-- ---- in turn

module _ {P : Type 0} (state : P → PagesState) where
  pub closes_none : (a : PageVolume P) → is_stopped a ≡ false → Closes state 0 a a
  closes_none a goes = record {
    goes_on = goes_here (state (pages_of a));
    read_only = refl;
    device = refl;
    represents = λ _ z s is. (s, is, record { closed = λ fd lt. absurd (omega (arith, lt)); settles = refl });
    tree = λ z s is tree shown. inl shown;
    cause = λ stop z s is. absurd (true≢false (sym stop ∙ goes));
  }

  pub closes_next : (n : ℕ) (a b : PageVolume P) → Closes state (suc n) a b → Closes state (n + 1) a b
  closes_next n a b = subst (λ k. Closes state k a b) (omega arith)

  module _ (n : ℕ) (a b c : PageVolume P) (so_far : Closes state n a b) where
    -- a volume that is stopped stays as it is
    pub closes_stopped : is_stopped b ≡ true → c ≡ b → Closes state (suc n) a c
    closes_stopped stop same = record {
      goes_on = subst (λ (v : PageVolume P). GoesOn (state (pages_of a)) (state (pages_of v))) (sym same) so_far.goes_on;
      read_only = ap is_read_only same ∙ so_far.read_only;
      device = ap (λ (v : PageVolume P). (state (pages_of v)).device) same ∙ so_far.device;
      represents = λ goes. absurd (true≢false (sym stop ∙ sym (ap is_stopped same) ∙ goes));
      tree = λ z s is tree shown. subst (λ (v : PageVolume P). Shown z (state (pages_of v)) tree ⊎ Shown z (state (pages_of v)) (settled s.objects)) (sym same) (so_far.tree z s is tree shown);
      cause = λ _ z s is. subst (λ (v : PageVolume P). HasEnded (state (pages_of a)) (state (pages_of v))) (sym same) (so_far.cause stop z s is);
    }

    -- another closes one more descriptor
    module _ (moment : ℕ) (r : Reply) (goes : GoesOn (state (pages_of b)) (state (pages_of c))) (keeps : is_read_only c ≡ is_read_only b) (left : (state (pages_of c)).device ≡ (state (pages_of b)).device) (runs : is_stopped b ≡ false) (stops : is_stopped c ≡ is_stop r)
        (answers : (z : Sizes) (s : State) → IsVolumeOf state z s b → Replies z (is_read_only b) s (record { moment = moment; command = commands.Close n }) r)
        (represents : (z : Sizes) (s : State) → IsVolumeOf state z s b → is_stop r ≡ false → IsVolumeOf state z (after_one z (is_read_only b) s (record { moment = moment; command = commands.Close n }) r) c)
        (tree : (z : Sizes) (s : State) → IsVolumeOf state z s b → (t : Objects) → Shown z (state (pages_of b)) t → Shown z (state (pages_of c)) t ⊎ Shown z (state (pages_of c)) (settled s.objects))
        (cause : (z : Sizes) (s : State) → IsVolumeOf state z s b → is_stop r ≡ true → HasEnded (state (pages_of b)) (state (pages_of c))) where
      shown_more : (z : Sizes) (s : State) → IsVolumeOf state z s a → (t : Objects) → Shown z (state (pages_of b)) t → Shown z (state (pages_of c)) t ⊎ Shown z (state (pages_of c)) (settled s.objects)
      shown_more z s is t shown =
          let at = so_far.represents runs z s is in
          elim (tree z at.0 at.1 t shown) [
            | inl same ↦ inl same
            | inr settles ↦ inr (subst (λ (objects : Objects). Shown z (state (pages_of c)) objects) at.2.settles settles)
          ]

      pub closes_more : Closes state (suc n) a c
      closes_more = record {
        goes_on = goes_on (state (pages_of a)) (state (pages_of b)) (state (pages_of c)) so_far.goes_on goes;
        read_only = keeps ∙ so_far.read_only;
        device = left ∙ so_far.device;
        represents = λ still z s is.
            let at = so_far.represents runs z s is in (
              after_one z (is_read_only b) at.0 (record { moment = moment; command = commands.Close n }) r,
              represents z at.0 at.1 (sym stops ∙ still),
              closed_after z (is_read_only b) at.0 moment n n s r refl at.1.sound.well_formed.forest at.2 (sym stops ∙ still) (answers z at.0 at.1),
            );
        tree = λ z s is t shown. elim (so_far.tree z s is t shown) [
          | inl same ↦ shown_more z s is t same
          | inr settles ↦ elim (shown_more z s is (settled s.objects) settles) [
            | inl same ↦ inr same
            | inr again ↦ inr again
          ]
        ];
        cause = λ stop z s is.
            let at = so_far.represents runs z s is in
            ended_after (state (pages_of a)) (state (pages_of b)) (state (pages_of c)) so_far.goes_on.commits (cause z at.0 at.1 (sym stops ∙ stop));
      }
