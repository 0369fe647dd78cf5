-- What the steps of commands that read tell.
use Rattle.std.specs.Prelude.{◌≡◌, ◌+◌, ℕ, Bool, false, List, length, take, drop, Option, Some, None, Ok}
use Rattle.std.specs.FinMap as map
use Rattle.std.specs.Cmp.{nat_cmp_total}
use Rattle.std.proofs.Common.{refl, sym, ◌∙◌, ap, subst, inl, inr}
use Rattle.std.proofs.lemmas.Bool.{true≢false}
use Rattle.posix_profile.specs.HandleSteps.{open_at, open_step, read_step, close_step}
use Rattle.posix_profile.specs.NameSteps.{info, stat_of, stat_step, list_of, list_step}
use Rattle.posix_profile.specs.Names.{prune}
use Rattle.posix_profile.specs.Outcomes.{Outcome}
use Rattle.posix_profile.specs.Paths.{Place, resolve}
use Rattle.posix_profile.specs.State.{Name, Object, File, Dir, Objects, Handle, State}
use Rattle.posix_profile.specs.Steps.{step_at}
use Rattle.posix_profile.specs.WellFormed.{IsWellFormed}
use Rattle.posix_profile.specs.declared.command.Access.TheVariants as accesses
use Rattle.posix_profile.specs.declared.command.Command.TheVariants as commands
use Rattle.posix_profile.specs.declared.command.OpenFlags.{OpenFlags}
use Rattle.posix_profile.specs.declared.reply.Errno.{Errno}
use Rattle.posix_profile.specs.declared.reply.Info.{Info}
use Rattle.posix_profile.specs.declared.reply.Reply.TheVariants as replies
use Rattle.posix_profile.specs.laws.Map.{get_here, get_there, get_removed, removed_none, cases_key}
use Rattle.posix_profile.specs.laws.Number.{free_descriptor_is}
use Rattle.posix_profile.specs.laws.Outcome.{by_unless, by_place, by_handle, by_file, by_descriptor, by_object, by_change}
use Rattle.posix_profile.specs.laws.Prune.{prune_same}
use Rattle.volume_terms.specs.Sizes.{Sizes}
use Rattle.plain_volume.specs.Items.{IsInfo, AreNames}
use Rattle.plain_volume.specs.Reading.{IsStated, HasOpen, Opens}

module _ (s : State) (path : List ℕ) where
  -- Stat
  pub stat_says : (i : Info) → (stat_step s path).reply ≡ replies.Info i → IsInfo s.objects path i × ((stat_step s path).state ≡ s)
  stat_says i = by_place P s refused (resolve s.objects path) _ (λ place leads. by_object P s refused place.object _ (λ o is. at place o leads is (map.get s.objects o) refl))
    where
      P : Outcome → Type 0
      P out = out.reply ≡ replies.Info i → IsInfo s.objects path i × (out.state ≡ s)

      refused : (error : Errno) → P (record { reply = replies.Error error; state = s })
      refused error e = absurd cc

      at : (place : Place) (o : ℕ) → resolve s.objects path ≡ Ok place → place.object ≡ Some o → (found : Option Object) → map.get s.objects o ≡ found → P (stat_of s o found)
      at place o leads is None there e = absurd cc
      at place o leads is (Some x) there e =
          let same : info s.objects o x ≡ i = cc in
          ((o, x, record { place = place; leads = leads; object_is = is; there = there }, sym same), refl)

  -- List
  pub list_says : (names : List Name) → (list_step s path).reply ≡ replies.Names names → AreNames s.objects path names × ((list_step s path).state ≡ s)
  list_says names = by_place P s refused (resolve s.objects path) _ (λ place leads. by_object P s refused place.object _ (λ o is. at place o leads is (map.get s.objects o) refl))
    where
      P : Outcome → Type 0
      P out = out.reply ≡ replies.Names names → AreNames s.objects path names × (out.state ≡ s)

      refused : (error : Errno) → P (record { reply = replies.Error error; state = s })
      refused error e = absurd cc

      at : (place : Place) (o : ℕ) → resolve s.objects path ≡ Ok place → place.object ≡ Some o → (found : Option Object) → map.get s.objects o ≡ found → P (list_of s found)
      at place o leads is None there e = absurd cc
      at place o leads is (Some (File moment bytes)) there e = absurd cc
      at place o leads is (Some (Dir moment entries)) there e =
          let same : map.keys entries ≡ names = cc in
          ((o, moment, entries, record { place = place; leads = leads; object_is = is; there = there }, sym same), refl)

-- how a path is opened for reading
abbrev pub to_read : OpenFlags
to_read = record { access = accesses.Read; create = false; excl = false; trunc = false; append = false }

module _ (z : Sizes) (read_only : Bool) (s : State) (path : List ℕ) where
  -- Open
  pub open_says : (fd : ℕ) → (open_step z read_only 0 s path to_read).reply ≡ replies.Fd fd → Opens s path fd (open_step z read_only 0 s path to_read).state
  open_says fd = by_unless P s refused _ _ (λ _. by_place P s refused (resolve s.objects path) _ (λ place leads. at place leads place.object refl))
    where
      P : Outcome → Type 0
      P out = out.reply ≡ replies.Fd fd → Opens s path fd out.state

      refused : (error : Errno) → P (record { reply = replies.Error error; state = s })
      refused error e = absurd cc

      made : (place : Place) → resolve s.objects path ≡ Ok place → (o n : ℕ) → place.object ≡ Some o → map.get s.handles n ≡ None → n ≡ fd
          → Opens s path fd (record { objects = s.objects; handles = map.insert s.handles n (record { object = o; flags = to_read; offset = 0 }) })
      made place leads o n is free same = record {
        number = o;
        opened = record {
          objects = refl;
          handle = record { object = o; flags = to_read; offset = 0 };
          is = subst (λ k. map.get (map.insert s.handles n (record { object = o; flags = to_read; offset = 0 })) k ≡ Some (record { object = o; flags = to_read; offset = 0 })) same
              (get_here nat_cmp_total map.nat_cmp-IsAntisymmetric s.handles n _);
          object_is = refl;
          offset_is = refl;
          others = λ q ne. get_there nat_cmp_total map.nat_cmp-IsAntisymmetric s.handles n _ q (λ e. ne (e ∙ same));
        };
        free = subst (λ k. map.get s.handles k ≡ None) same free;
        found = λ object there. record { place = place; leads = leads; object_is = is; there = there };
      }

      at : (place : Place) → resolve s.objects path ≡ Ok place → (found : Option ℕ) → place.object ≡ found → P (open_at z read_only 0 s to_read place found)
      at place leads None is = by_unless P s refused _ _ (λ passed. absurd (true≢false passed.0))
      at place leads (Some o) is = by_unless P s refused _ _ (λ _. by_descriptor P s refused _ _ (λ n free. by_unless P s refused _ _ (λ _. by_change P s refused z _ _ (λ _ e.
          let same : n ≡ fd = cc in
          made place leads o n is (free_descriptor_is s.handles n free).free same))))

-- the bytes of a part of a file, and the descriptor after them
pub record IsPart (s : State) (fd o offset count : ℕ) (part : List ℕ) (t : State) : Type 0 where
  pub moment : ℕ
  pub bytes : List ℕ
  pub file : map.get s.objects o ≡ Some (File moment bytes)
  pub part_is : part ≡ take count (drop offset bytes)
  pub opened : HasOpen s fd o (offset + length part) t

module _ (s t : State) (fd o offset : ℕ) (opened : HasOpen s fd o offset t) where
  -- Read
  pub read_says : (count : ℕ) (part : List ℕ) → (read_step t fd count).reply ≡ replies.Data part → IsPart s fd o offset count part (read_step t fd count).state
  read_says count part = by_handle P t refused (map.get t.handles fd) _ (λ h is. by_unless P t refused _ _ (λ _. by_file P t refused (map.get t.objects h.object) _ _ (λ moment bytes file e.
      let same : h ≡ opened.handle = (let two : Some h ≡ Some opened.handle = sym is ∙ opened.is in cc) in
      let object_is : h.object ≡ o = ap (λ (k : Handle). k.object) same ∙ opened.object_is in
      let offset_is : h.offset ≡ offset = ap (λ (k : Handle). k.offset) same ∙ opened.offset_is in
      let there : take count (drop h.offset bytes) ≡ part = cc in
      let next : h.offset + length (take count (drop h.offset bytes)) ≡ offset + length part = (λ i. offset_is i + length (there i)) in
      record {
        moment = moment;
        bytes = bytes;
        file = ap (λ k. map.get s.objects k) (sym object_is) ∙ ap (λ (m : Objects). map.get m h.object) (sym opened.objects) ∙ file;
        part_is = sym there ∙ ap (λ k. take count (drop k bytes)) offset_is;
        opened = record {
          objects = opened.objects;
          handle = record h { offset = h.offset + length (take count (drop h.offset bytes)) };
          is = get_here nat_cmp_total map.nat_cmp-IsAntisymmetric t.handles fd _;
          object_is = object_is;
          offset_is = next;
          others = λ q ne. get_there nat_cmp_total map.nat_cmp-IsAntisymmetric t.handles fd _ q ne ∙ opened.others q ne;
        };
      })))
    where
      P : Outcome → Type 0
      P out = out.reply ≡ replies.Data part → IsPart s fd o offset count part out.state

      refused : (error : Errno) → P (record { reply = replies.Error error; state = t })
      refused error e = absurd cc

  -- Close
  pub close_says : (z : Sizes) → IsWellFormed z s → map.get s.handles fd ≡ None → (close_step t fd).reply ≡ replies.Done → (close_step t fd).state ≡ s
  close_says z sound free = by_handle P t refused (map.get t.handles fd) _ (λ h is _. ap prune closed ∙ prune_same z s sound)
    where
      P : Outcome → Type 0
      P out = out.reply ≡ replies.Done → out.state ≡ s

      refused : (error : Errno) → P (record { reply = replies.Error error; state = t })
      refused error e = absurd cc

      handles : map.remove t.handles fd ≡ s.handles
      handles = map.same_map nat_cmp_total map.nat_cmp-IsAntisymmetric _ _ (λ q. elim (cases_key nat_cmp_total map.nat_cmp-IsAntisymmetric q fd) [
        | inl same ↦ ap (λ k. map.get (map.remove t.handles fd) k) same ∙ removed_none nat_cmp_total map.nat_cmp-IsAntisymmetric t.handles fd ∙ sym free ∙ ap (λ k. map.get s.handles k) (sym same)
        | inr ne ↦ get_removed nat_cmp_total map.nat_cmp-IsAntisymmetric t.handles fd q ne ∙ opened.others q ne
      ])

      closed : record t { handles = map.remove t.handles fd } ≡ s
      closed = λ i. record { objects = opened.objects i; handles = handles i }

-- the same of what is reported
module _ {V : Type 0} (shows : V → Sizes → Bool → State → Type 0) (z : Sizes) (read_only : Bool) (s : State) (new : V) where
  pub stat_reported : (path : List ℕ) (i : Info) → IsStated shows z read_only s (record { moment = 0; command = commands.Stat path }) (replies.Info i) new → IsInfo s.objects path i × shows new z read_only s
  unfolding step_at
  stat_reported path i is = let says = stat_says s path i (sym is.reply_is) in (says.0, subst (shows new z read_only) says.1 is.shown)

  pub list_reported : (path : List ℕ) (names : List Name) → IsStated shows z read_only s (record { moment = 0; command = commands.List path }) (replies.Names names) new → AreNames s.objects path names × shows new z read_only s
  unfolding step_at
  list_reported path names is = let says = list_says s path names (sym is.reply_is) in (says.0, subst (shows new z read_only) says.1 is.shown)

  pub open_reported : (path : List ℕ) (fd : ℕ) → IsStated shows z read_only s (record { moment = 0; command = commands.Open path to_read }) (replies.Fd fd) new → (t : State) × Opens s path fd t × shows new z read_only t
  unfolding step_at
  open_reported path fd is = ((open_step z read_only 0 s path to_read).state, open_says z read_only s path fd (sym is.reply_is), is.shown)

  pub read_reported : (first : State) (fd o offset count : ℕ) (part : List ℕ) → HasOpen first fd o offset s → IsStated shows z read_only s (record { moment = 0; command = commands.Read fd count }) (replies.Data part) new
      → (t : State) × IsPart first fd o offset count part t × shows new z read_only t
  unfolding step_at
  read_reported first fd o offset count part opened is = ((read_step s fd count).state, read_says first s fd o offset opened count part (sym is.reply_is), is.shown)

  pub close_reported : (first : State) (fd o offset : ℕ) → HasOpen first fd o offset s → IsWellFormed z first → map.get first.handles fd ≡ None
      → IsStated shows z read_only s (record { moment = 0; command = commands.Close fd }) replies.Done new → shows new z read_only first
  unfolding step_at
  close_reported first fd o offset opened sound free is = subst (shows new z read_only) (close_says first s fd o offset opened z sound free (sym is.reply_is)) is.shown
