-- What a command leaves of a read-only volume, whose descriptors may not write.
use Rattle.std.specs.Prelude.{◌≡◌, ◌≢◌, ◌⊎◌, ℕ, Bool, true, false, not, ◌&&◌, ◌||◌, List, [], ◌∷◌, ◌++◌, Option, Some, None, Result, Ok, Err, cond, nat_eq, is_some, ℤ, pos, negsuc}
use Rattle.std.proofs.Common.{refl, sym, ◌∙◌, ap, subst, inl, inr}
use Rattle.std.proofs.lemmas.Bool.{eqb-true, or_cases, or_left, cond-true, cond-false, true≢false}
use Rattle.std.specs.Cmp.{nat_cmp_total}
use Rattle.std.specs.Ordering.{nat_cmp}
use Rattle.std.specs.FinMap as map
use Rattle.volume_terms.specs.Sizes.{Sizes, root_number}
use Rattle.posix_profile.specs.State.{Object, File, Dir, Objects, Handle, Handles, State}
use Rattle.posix_profile.specs.Changes.{with_handle}
use Rattle.posix_profile.specs.Charge.{fits}
use Rattle.posix_profile.specs.HandleSteps.{at_handle, at_file, at_descriptor, may_write, open_at, seek_to}
use Rattle.posix_profile.specs.NameSteps.{at_object, is_object, link_at, list_of, mkdir_at, stat_of}
use Rattle.posix_profile.specs.Names.{is_named, is_open, prune}
use Rattle.posix_profile.specs.Outcomes.{Outcome, answer, refuse, refuse_or, unless, change_to, at_place}
use Rattle.posix_profile.specs.Paths.{Place, first_error, resolve}
use Rattle.posix_profile.specs.Steps.{step_at, step}
use Rattle.posix_profile.specs.laws.Map.{get_retained, insert_cases, remove_cases, retain_cases}
use Rattle.posix_profile.specs.laws.Name.{named_from_test, open_from_test}
use Rattle.posix_profile.specs.declared.command.Command.{Command}
use Rattle.posix_profile.specs.declared.command.Command.TheVariants as commands
use Rattle.posix_profile.specs.declared.command.OpenFlags.{OpenFlags}
use Rattle.posix_profile.specs.declared.command.Stamped.{Stamped}
use Rattle.posix_profile.specs.declared.reply.Errno.{Errno}
use Rattle.posix_profile.specs.declared.reply.Errno.TheVariants as errors
use Rattle.posix_profile.specs.declared.reply.Reply.{Reply}
use Rattle.posix_profile.specs.WellFormed.{IsNamed}
use Rattle.object_store.specs.Stores.{settled}
use Rattle.object_store.specs.declared.change.ObjectChange.TheVariants as changes
use Rattle.command_plans.specs.Classes.{Reporting, Changing, class_of, is_error, is_one, is_there, lead_to_one, makes_no_call, reports_if}
use Rattle.command_plans.specs.Plans.{CanDo, does_nothing, leaves_device}
use Rattle.command_plans.specs.declared.plan.StoreWork.{StoreWork}
use Rattle.command_plans.specs.declared.plan.StoreWork.TheVariants as work
use Rattle.object_commands.specs.Endings.{AreReading, StaysReading}

-- a further descriptor that may not write
reading_with : (handles : Handles) (fd : ℕ) (handle : Handle) → AreReading handles → may_write handle.flags.access ≡ false → AreReading (map.insert handles fd handle)
reading_with handles fd handle reading new k other is = elim (insert_cases nat_cmp_total map.nat_cmp-IsAntisymmetric handles fd handle k other is) [
  | inl here ↦ ap (λ (h : Handle). may_write h.flags.access) here.1 ∙ new
  | inr there ↦ reading k other there.1
]

reading_without : (handles : Handles) (fd : ℕ) → AreReading handles → AreReading (map.remove handles fd)
reading_without handles fd reading k handle is = reading k handle (remove_cases nat_cmp_total map.nat_cmp-IsAntisymmetric handles fd k handle is).1

-- whether an object of a state is committed
abbrev keep_test : State → ℕ → Bool
keep_test s o = nat_eq o root_number || is_named s.objects o || is_open s o

-- where each object has a name none goes with a descriptor
named_stay : (objects : Objects) (handles : Handles) → settled objects ≡ objects → (prune (record { objects = objects; handles = handles })).objects ≡ objects
named_stay objects handles named = map.same_map nat_cmp_total map.nat_cmp-IsAntisymmetric _ _ (λ o. go o (map.get objects o) refl)
  where
    bare : State
    bare = record { objects = objects; handles = map.empty }

    s : State
    s = record { objects = objects; handles = handles }

    committed : (o : ℕ) → keep_test bare o ≡ true → keep_test s o ≡ true
    committed o is = elim (or_cases (nat_eq o root_number || is_named objects o) (is_open bare o) is) [
      | inl has ↦ or_left (nat_eq o root_number || is_named objects o) (is_open s o) has
      | inr open' ↦ let at = open_from_test bare o open' in let two : None ≡ Some at.1 = sym (map.get-empty nat_cmp at.0) ∙ at.2 in absurd cc
    ]

    go : (o : ℕ) (found : Option Object) → map.get objects o ≡ found → map.get (prune s).objects o ≡ map.get objects o
    go o None is = get_retained nat_cmp_total map.nat_cmp-IsAntisymmetric objects (keep_test s) o ∙ none (keep_test s o) (map.get objects o) is
      where
        none : (b : Bool) (x : Option Object) → x ≡ None → cond b x None ≡ x
        none true x e = refl
        none false x e = sym e
    go o (Some object) is =
        let there : map.get (settled objects) o ≡ Some object = ap (λ (x : Objects). map.get x o) named ∙ is in
        get_retained nat_cmp_total map.nat_cmp-IsAntisymmetric objects (keep_test s) o
        ∙ cond-true _ _ _ (committed o (retain_cases nat_cmp_total map.nat_cmp-IsAntisymmetric objects (keep_test bare) o object there).0)

-- nor can one be forgotten
unforgotten : (objects : Objects) → settled objects ≡ objects → (o : ℕ) → (o ≢ root_number) × (IsNamed objects o → ⊥) × ((object : Object) × (map.get objects o ≡ Some object)) → ⊥
unforgotten objects named o can = elim (or_cases (nat_eq o root_number || is_named objects o) (is_open bare o) committed) [
  | inl has ↦ elim (or_cases (nat_eq o root_number) (is_named objects o) has) [
    | inl top ↦ can.0 (eqb-true o root_number top)
    | inr names ↦ can.1 (named_from_test objects o names)
  ]
  | inr open' ↦ let at = open_from_test bare o open' in let two : None ≡ Some at.1 = sym (map.get-empty nat_cmp at.0) ∙ at.2 in absurd cc
]
  where
    bare : State
    bare = record { objects = objects; handles = map.empty }

    committed : keep_test bare o ≡ true
    committed = (retain_cases nat_cmp_total map.nat_cmp-IsAntisymmetric objects (keep_test bare) o can.2.0 (ap (λ (x : Objects). map.get x o) named ∙ can.2.1)).0

-- An outcome of a command, of which something is reported or which is an error: the objects stay, and no descriptor may write.
pub record Leaves (s : State) (reported : Type 0) (o : Outcome) : Type 0 where
  pub stays : StaysReading s o.state
  pub answers : reported ⊎ (is_error o.reply ≡ true)

module _ (s : State) (reading : AreReading s.handles) where
  module _ (reported : Type 0) where
    leaves_error : (e : Errno) → Leaves s reported (refuse s e)
    leaves_error e = record { stays = record { objects = refl; handles = reading }; answers = inr refl }

    leaves_reported : (reply : Reply) → reported → Leaves s reported (answer s reply)
    leaves_reported reply reports = record { stays = record { objects = refl; handles = reading }; answers = inl reports }

    leaves_or : (e : Option Errno) (o : Outcome) → Leaves s reported o → Leaves s reported (refuse_or s e o)
    leaves_or None o rest = rest
    leaves_or (Some error) o rest = leaves_error error

    leaves_unless : (tests : List (Bool × Errno)) (o : Outcome) → Leaves s reported o → Leaves s reported (unless s tests o)
    unfolding unless
    leaves_unless tests o rest = leaves_or (first_error tests) o rest

    -- where the last test holds
    leaves_last : (tests : List (Bool × Errno)) (e : Errno) (o : Outcome) → Leaves s reported (unless s (tests ++ (true, e) ∷ []) o)
    unfolding unless
    leaves_last tests e o = go tests
      where
        choose : (b : Bool) (x : Errno) (rest : Option Errno) → Leaves s reported (refuse_or s rest o) → Leaves s reported (refuse_or s (cond b (Some x) rest) o)
        choose true x rest left = leaves_error x
        choose false x rest left = left

        go : (tests : List (Bool × Errno)) → Leaves s reported (refuse_or s (first_error (tests ++ (true, e) ∷ [])) o)
        go [] = leaves_error e
        go (test ∷ more) = choose test.0 test.1 (first_error (more ++ (true, e) ∷ [])) (go more)

    -- where it is known that the test does not hold
    leaves_given : (b : Bool) (e : Errno) (o : Outcome) → (b ≡ false → Leaves s reported o) → Leaves s reported (unless s ((b, e) ∷ []) o)
    unfolding unless
    leaves_given true e o rest = leaves_error e
    leaves_given false e o rest = rest refl

    leaves_holding : (b : Bool) (e : Errno) (o : Outcome) → b ≡ true → Leaves s reported (unless s ((b, e) ∷ []) o)
    leaves_holding b e o is = leaves_given b e o (λ no'. absurd (true≢false (sym is ∙ no')))

    leaves_place : (r : Result Place Errno) (act : Place → Outcome) → ((place : Place) → r ≡ Ok place → Leaves s reported (act place)) → Leaves s reported (at_place s r act)
    unfolding at_place
    leaves_place (Ok place) act rest = rest place refl
    leaves_place (Err error) act rest = leaves_error error

    leaves_handle : (h : Option Handle) (act : Handle → Outcome) → ((handle : Handle) → h ≡ Some handle → Leaves s reported (act handle)) → Leaves s reported (at_handle s h act)
    unfolding at_handle
    leaves_handle None act rest = leaves_error errors.EBADF
    leaves_handle (Some handle) act rest = rest handle refl

    leaves_file : (x : Option Object) (e : Errno) (act : List ℕ → Outcome) → ((bytes : List ℕ) → Leaves s reported (act bytes)) → Leaves s reported (at_file s x e act)
    unfolding at_file
    leaves_file None e act rest = leaves_error errors.EBADF
    leaves_file (Some (File moment bytes)) e act rest = rest bytes
    leaves_file (Some (Dir moment entries)) e act rest = leaves_error e

    leaves_descriptor : (fd : Option ℕ) (act : ℕ → Outcome) → ((n : ℕ) → Leaves s reported (act n)) → Leaves s reported (at_descriptor s fd act)
    unfolding at_descriptor
    leaves_descriptor None act rest = leaves_error errors.EMFILE
    leaves_descriptor (Some n) act rest = rest n

    leaves_object : (o : Option ℕ) (act : ℕ → Outcome) → ((n : ℕ) → o ≡ Some n → Leaves s reported (act n)) → Leaves s reported (at_object s o act)
    unfolding at_object
    leaves_object None act rest = leaves_error errors.ENOENT
    leaves_object (Some n) act rest = rest n refl

    leaves_change : (z : Sizes) (new : State) (reply : Reply) → Leaves s reported (answer new reply) → Leaves s reported (change_to z s new reply)
    unfolding change_to
    leaves_change z new reply rest = go (fits z new.objects)
      where
        go : (b : Bool) → Leaves s reported (cond b (answer new reply) (refuse s errors.ENOSPC))
        go true = rest
        go false = leaves_error errors.ENOSPC

    leaves_if : (b : Bool) (x y : Outcome) → (b ≡ true → Leaves s reported x) → Leaves s reported y → Leaves s reported (cond b x y)
    leaves_if true x y then' else' = then' refl
    leaves_if false x y then' else' = else'

    -- a descriptor that gets another offset
    leaves_moved : (fd offset : ℕ) (handle : Handle) (reply : Reply) → map.get s.handles fd ≡ Some handle → reported → Leaves s reported (answer (with_handle s fd (record handle { offset = offset })) reply)
    leaves_moved fd offset handle reply is reports = record {
      stays = record { objects = refl; handles = reading_with s.handles fd (record handle { offset = offset }) reading (reading fd handle is) };
      answers = inl reports;
    }

  -- what is cut may be written
  not_cut : (cut write : Bool) → (cut && not write) ≡ false → write ≡ false → cut ≡ false
  not_cut true write given none = let two : true ≡ false = ap not (sym none) ∙ given in absurd cc
  not_cut false write given none = refl

  module _ (z : Sizes) (moment : ℕ) where
    opens : (path : List ℕ) (flags : OpenFlags) → Leaves s (reports_if (is_there (resolve s.objects path) && not flags.trunc) Changing ≡ Reporting) (step_at z true s moment (commands.Open path flags))
    unfolding step_at
    opens path flags = leaves_given reported (flags.trunc && not (may_write flags.access)) errors.EINVAL _ (λ given. leaves_place reported (resolve s.objects path) _ (λ place leads. at given place leads place.object refl))
      where
        reported : Type 0
        reported = reports_if (is_there (resolve s.objects path) && not flags.trunc) Changing ≡ Reporting

        at : (flags.trunc && not (may_write flags.access)) ≡ false → (place : Place) → resolve s.objects path ≡ Ok place → (o : Option ℕ) → place.object ≡ o → Leaves s reported (open_at z true moment s flags place o)
        at given place leads None is = leaves_unless reported _ _ (leaves_descriptor reported _ _ (λ fd. leaves_last reported [] errors.EROFS _))
        at given place leads (Some o) is = leaves_unless reported _ _ (leaves_descriptor reported _ _ (λ fd. leaves_given reported (may_write flags.access) errors.EROFS _ (λ none.
            let whole = not_cut flags.trunc (may_write flags.access) given none in
            leaves_change reported z _ _ (record {
              stays = record { objects = cond-false _ _ _ whole; handles = reading_with s.handles fd (record { object = o; flags = flags; offset = 0 }) reading none };
              answers = inl (
                  ap (λ (r : Result Place Errno). reports_if (is_there r && not flags.trunc) Changing) leads
                  ∙ ap (λ (x : Option ℕ). reports_if (is_some x && not flags.trunc) Changing) is
                  ∙ ap (λ (b : Bool). reports_if (not b) Changing) whole
                  );
            }))))

    renames : (old new : List ℕ) → Leaves s (reports_if (lead_to_one (resolve s.objects old) (resolve s.objects new)) Changing ≡ Reporting) (step_at z true s moment (commands.Rename old new))
    unfolding step_at
    renames old new = leaves_place reported (resolve s.objects old) _ (λ from leads. leaves_place reported (resolve s.objects new) _ (λ to leads_too.
        leaves_unless reported _ _ (leaves_object reported from.object _ (λ o is. leaves_if reported (is_object o to.object) _ _ (λ same.
        leaves_reported reported _ (
        ap (λ (r : Result Place Errno). reports_if (lead_to_one r (resolve s.objects new)) Changing) leads
        ∙ ap (λ (r : Result Place Errno). reports_if (lead_to_one (Ok from) r) Changing) leads_too
        ∙ ap (λ (x : Option ℕ). reports_if (is_one x to.object) Changing) is
        ∙ ap (λ (b : Bool). reports_if b Changing) same
        ))
        (leaves_unless reported _ _ (leaves_unless reported _ _ (leaves_last reported [] errors.EROFS _)))))))
      where
        reported : Type 0
        reported = reports_if (lead_to_one (resolve s.objects old) (resolve s.objects new)) Changing ≡ Reporting

    module _ (reported : Type 0) where
      mkdirs : (place : Place) (o : Option ℕ) → Leaves s reported (mkdir_at z true moment s place o)
      mkdirs place (Some o) = leaves_error reported errors.EEXIST
      mkdirs place None = leaves_last reported [] errors.EROFS _

      links_at : (o : ℕ) (place : Place) (there : Option ℕ) → Leaves s reported (link_at z true moment s o place there)
      links_at o place (Some there) = leaves_error reported errors.EEXIST
      links_at o place None = leaves_last reported ((place.slash_follows, errors.ENOENT) ∷ []) errors.EROFS _

      stats : (o : ℕ) (x : Option Object) → reported → Leaves s reported (stat_of s o x)
      stats o None reports = leaves_error reported errors.ENOENT
      stats o (Some x) reports = leaves_reported reported _ reports

      lists : (x : Option Object) → reported → Leaves s reported (list_of s x)
      lists None reports = leaves_error reported errors.ENOENT
      lists (Some (File moment bytes)) reports = leaves_error reported errors.ENOTDIR
      lists (Some (Dir moment entries)) reports = leaves_reported reported _ reports

      seeks : (fd : ℕ) (handle : Handle) (offset : ℤ) → map.get s.handles fd ≡ Some handle → reported → Leaves s reported (seek_to s fd handle offset)
      seeks fd handle (negsuc n) is reports = leaves_error reported errors.EINVAL
      seeks fd handle (pos n) is reports = leaves_unless reported _ _ (leaves_moved reported fd n handle _ is reports)

    abbrev Reports : Command → Type 0
    Reports c = (class_of true s c ≡ Reporting) ⊎ (makes_no_call c ≡ true)

    wider : (reported more : Type 0) (o : Outcome) → (reported → more) → Leaves s reported o → Leaves s more o
    wider reported more o is left = record { stays = left.stays; answers = elim left.answers [ inl reports ↦ inl (is reports) | inr error ↦ inr error ] }

    leaves : settled s.objects ≡ s.objects → (c : Command) → Leaves s (Reports c) (step_at z true s moment c)
    unfolding step_at
    leaves named (commands.Open path flags) = wider _ _ _ (λ reports. inl reports) (opens path flags)
    leaves named (commands.Close fd) = leaves_handle _ (map.get s.handles fd) _ (λ handle is. record {
      stays = record { objects = named_stay s.objects (map.remove s.handles fd) named; handles = reading_without s.handles fd reading };
      answers = inl (inr refl);
    })
    leaves named (commands.Read fd count) = leaves_handle _ (map.get s.handles fd) _ (λ handle is. leaves_unless _ _ _ (leaves_file _ _ _ _ (λ bytes. leaves_moved _ fd _ handle _ is (inl refl))))
    leaves named (commands.Write fd bytes) = leaves_handle _ (map.get s.handles fd) _ (λ handle is. leaves_holding _ _ _ _ (ap not (reading fd handle is)))
    leaves named (commands.Seek fd offset whence) = leaves_handle _ (map.get s.handles fd) _ (λ handle is. leaves_file _ _ _ _ (λ bytes. seeks _ fd handle _ is (inl refl)))
    leaves named (commands.Truncate fd length) = leaves_handle _ (map.get s.handles fd) _ (λ handle is. leaves_holding _ _ _ _ (ap not (reading fd handle is)))
    leaves named (commands.Fsync fd) = leaves_handle _ (map.get s.handles fd) _ (λ handle is. leaves_reported _ _ (inl refl))
    leaves named commands.Sync = leaves_reported _ _ (inl refl)
    leaves named (commands.Stat path) = leaves_place _ (resolve s.objects path) _ (λ place leads. leaves_object _ place.object _ (λ o is. stats _ o _ (inl refl)))
    leaves named (commands.Mkdir path) = leaves_place _ (resolve s.objects path) _ (λ place leads. mkdirs _ place place.object)
    leaves named (commands.Rmdir path) = leaves_place _ (resolve s.objects path) _ (λ place leads. leaves_unless _ _ _ (leaves_object _ place.object _ (λ o is. leaves_last _ (_ ∷ _ ∷ []) errors.EROFS _)))
    leaves named (commands.Link old new) =
        leaves_place _ (resolve s.objects old) _ (λ from leads. leaves_object _ from.object _ (λ o is. leaves_unless _ _ _ (leaves_place _ (resolve s.objects new) _ (λ to leads_too. links_at _ o to to.object))))
    leaves named (commands.Unlink path) = leaves_place _ (resolve s.objects path) _ (λ place leads. leaves_object _ place.object _ (λ o is. leaves_last _ (_ ∷ []) errors.EROFS _))
    leaves named (commands.Rename old new) = wider _ _ _ (λ reports. inl reports) (renames old new)
    leaves named (commands.List path) = leaves_place _ (resolve s.objects path) _ (λ place leads. leaves_object _ place.object _ (λ o is. lists _ (map.get s.objects o) (inl refl)))
    leaves named commands.Space = leaves_reported _ _ (inl refl)

-- A command of a read-only volume leaves the objects, and no descriptor may write.
pub read_only_stays : (z : Sizes) (s : State) (c : Stamped) (read_only : Bool) → read_only ≡ true → AreReading s.handles → settled s.objects ≡ s.objects → StaysReading s (step z read_only s c).state
read_only_stays z s c read_only only reading named = subst (λ b. StaysReading s (step z b s c).state) (sym only) (leaves s reading z c.moment named c.command).stays

-- It reports, makes no call, or is answered by an error.
pub read_only_answers : (z : Sizes) (s : State) (c : Stamped) (read_only : Bool) → read_only ≡ true → AreReading s.handles → settled s.objects ≡ s.objects
    → (makes_no_call c.command ≡ true) ⊎ ((class_of read_only s c.command ≡ Reporting) ⊎ (is_error (step z read_only s c).reply ≡ true))
read_only_answers z s c read_only only reading named =
    subst (λ b. (makes_no_call c.command ≡ true) ⊎ ((class_of b s c.command ≡ Reporting) ⊎ (is_error (step z b s c).reply ≡ true))) (sym only) (elim (leaves s reading z c.moment named c.command).answers [
      | inl (inl reports) ↦ inr (inl reports)
      | inl (inr none) ↦ inl none
      | inr error ↦ inr (inr error)
    ])

-- Where each object has a name none can be forgotten: what can be done, and leaves the device, is nothing.
pub forgets_none : (z : Sizes) (objects : Objects) → settled objects ≡ objects → (w : StoreWork) → CanDo z objects w → leaves_device w ≡ true → does_nothing w ≡ true
forgets_none z objects named work.Nothing can leaves = refl
forgets_none z objects named (work.Change (changes.Forget number)) can leaves = absurd (unforgotten objects named number can.sensible)
forgets_none z objects named (work.Change change) can leaves = let two : false ≡ true = leaves in absurd cc
forgets_none z objects named work.Commit can leaves = let two : false ≡ true = leaves in absurd cc
