-- Plans that make a change, and the names that they change.
use Rattle.std.specs.Prelude.{◌≡◌, ◌≢◌, ◌⊎◌, ◌<◌, ℕ, Bool, true, false, ◌&&◌, ◌||◌, if◌then◌else◌, [], ◌∷◌, length, Option, Some, None, is_none, nat_lt, not}
use Rattle.std.proofs.Common.{refl, sym, ◌∙◌, ap, subst, inl, inr, arith}
use Rattle.std.specs.Cmp.Lexicographic.{nat_list_cmp_total}
use Rattle.std.specs.FinMap as map
use Rattle.volume_terms.specs.Sizes.{Sizes, root_number}
use Rattle.posix_profile.specs.State.{Name, Object, File, Dir, Objects, State, IsDirectory, IsFile, is_directory, is_file, entries_of}
use Rattle.posix_profile.specs.Names.{Names, Reached, root, below}
use Rattle.posix_profile.specs.NameSteps.{rename_tests_onto}
use Rattle.posix_profile.specs.laws.Map.{keys_fit}
use Rattle.posix_profile.specs.laws.Name.{name_same, entry_named, named_entry, namer_directory, not_both}
use Rattle.std.proofs.lemmas.Bool.{cases_eq, or_right, false≢true, lt-ltb, or_parts}
use Rattle.posix_profile.specs.Charge.{fits}
use Rattle.posix_profile.specs.laws.Charge.{fits_less, insert_less}
use Rattle.posix_profile.specs.Changes.{with_bytes}
use Rattle.posix_profile.specs.HandleSteps.{open_on}
use Rattle.posix_profile.specs.declared.command.OpenFlags.{OpenFlags}
use Rattle.posix_profile.specs.declared.reply.Errno.TheVariants as errors
use Rattle.posix_profile.specs.declared.reply.Reply.TheVariants as replies
use Rattle.posix_profile.specs.Outcomes.{Outcome, answer}
use Rattle.posix_profile.specs.Paths.{Component, Dot, DotDot, Named, Place, first_error, last_name, is_dot, is_dot_dot}
use Rattle.posix_profile.specs.laws.Path.{IsPlace, Ends}
use Rattle.posix_profile.specs.laws.Place.{absent_name, found_name}
use Rattle.posix_profile.specs.WellFormed.{IsForest, IsNamed}
use Rattle.volume_terms.specs.Names.{IsName}
use Rattle.volume_terms.specs.laws.Rounding.{ceiling_le}
use Rattle.posix_profile.specs.declared.reply.Reply.{Reply}
use Rattle.object_store.specs.Changes.{made, CanMake, IsAbsent, LeadsTo, NamesNothing}
use Rattle.object_store.specs.declared.change.DirectoryEntry.{DirectoryEntry}
use Rattle.object_store.specs.declared.change.ObjectChange.{ObjectChange}
use Rattle.command_plans.specs.Classes.{Class, Changing, reports_if, is_error}
use Rattle.object_commands.specs.Names.{LeadsHere, EndsInName}
use Rattle.object_commands.specs.Opens.{cut_by, opened}
use Rattle.command_plans.specs.Plans.{IsPlan, CanDo, Suits, worked}
use Rattle.command_plans.specs.declared.plan.StoreWork.{StoreWork}
use Rattle.command_plans.specs.declared.plan.HandleChange.TheVariants as handle_changes
use Rattle.command_plans.specs.declared.plan.StoreWork.TheVariants as work
use Rattle.command_plans.specs.declared.plan.Plan.{Plan}

-- a change of objects alone
pub plan_changed : (z : Sizes) (s : State) (reply : Reply) (change : ObjectChange) (meant : Outcome) (plan : Plan) → plan ≡ record { reply = reply; handles = handle_changes.Nothing; work = work.Change change }
    → is_error reply ≡ false → CanMake z s.objects change → answer (record { objects = made s.objects change; handles = s.handles }) reply ≡ meant → IsPlan z Changing s meant plan
plan_changed z s reply change meant plan is goes can means = subst (IsPlan z Changing s meant) (sym is) (record { means = means; can = can; range = tt; suits = goes })

-- what goes where nothing does
pub none_dropped : (objects : Objects) (o : ℕ) → ◌≡◌ {A = Option ℕ} None (Some o) → NamesNothing objects o
none_dropped objects o is = absurd cc

-- what goes where only this object may
pub dropped_empty : (objects : Objects) (dropped : Option ℕ) (o : ℕ) → (dropped ≡ None) ⊎ (dropped ≡ Some o) → NamesNothing objects o → (k : ℕ) → dropped ≡ Some k → NamesNothing objects k
dropped_empty objects dropped o (inl none) empty k is = let two : None ≡ Some k = sym none ∙ is in absurd cc
dropped_empty objects dropped o (inr some) empty k is = let two : Some o ≡ Some k = sym some ∙ is in let same : o ≡ k = cc in subst (NamesNothing objects) same empty

-- a file names nothing
pub file_names_nothing : (objects : Objects) (o : ℕ) → IsFile objects o → NamesNothing objects o
file_names_nothing objects o file child name names = not_both objects o file (namer_directory objects o child name names)

-- nor does a directory without entries
pub empty_names_nothing : (objects : Objects) (o : ℕ) → map.len (entries_of (map.get objects o)) ≡ 0 → NamesNothing objects o
empty_names_nothing objects o none child name names =
    let some = keys_fit nat_list_cmp_total name_same 1 (λ i. name) (entries_of (map.get objects o)) (λ i lt. (child, named_entry objects o child name names)) (λ i j lt le is. omega arith) in absurd (omega (arith, some, none))

-- nor a directory that is not the root and has no name
pub unnamed_names_nothing : (z : Sizes) (objects : Objects) → IsForest z objects → (o : ℕ) → o ≢ root_number → (IsNamed objects o → ⊥) → NamesNothing objects o
unnamed_names_nothing z objects forest o low unnamed child name names = go o (forest.reached o child name names) low unnamed
  where
    go : (k : ℕ) → Reached objects k → k ≢ root_number → (IsNamed objects k → ⊥) → ⊥
    go k root low unnamed = low refl
    go k (below {directory} {object} name up names) low unnamed = unnamed (directory, name, names)

-- nor does a directory that a rename may replace
replaced_empty : (f d : Bool) (n : ℕ) → (f || d) ≡ true → None ≡ first_error ((f && true, errors.EISDIR) ∷ (d && false, errors.ENOTDIR) ∷ (d && nat_lt 0 n, errors.ENOTEMPTY) ∷ []) → n ≡ 0
replaced_empty true d n some none = absurd cc
replaced_empty false false n some none = absurd (false≢true some)
replaced_empty false true n some none = elim (cases_eq n 0) [
  | inl is ↦ is
  | inr ne ↦
      let test : nat_lt 0 n ≡ true = lt-ltb 0 n (omega arith) in
      let two : None ≡ Some errors.ENOTEMPTY = none ∙ ap (λ b. first_error ((b, errors.ENOTEMPTY) ∷ [])) test in absurd cc
]

file_or_directory : (x : Object) → (is_file (Some x) || is_directory (Some x)) ≡ true
file_or_directory (File moment bytes) = refl
file_or_directory (Dir moment entries) = refl

pub replaced_names_nothing : (s : State) (o there : ℕ) (to : Place) (x y : Object) → map.get s.objects o ≡ Some x → map.get s.objects there ≡ Some y
    → None ≡ first_error (rename_tests_onto s o to (Some there)) → NamesNothing s.objects there
replaced_names_nothing s o there to x (File moment bytes) is was none = file_names_nothing s.objects there (moment, bytes, was)
replaced_names_nothing s o there to x (Dir moment entries) is was none =
    empty_names_nothing s.objects there
    (replaced_empty (is_file (map.get s.objects o)) (is_directory (map.get s.objects o)) (map.len (entries_of (map.get s.objects there)))
    (ap (λ (v : Option Object). is_file v || is_directory v) is ∙ file_or_directory x)
    (none ∙ ap (λ (v : Option Object). first_error ((is_file (map.get s.objects o) && is_directory v, errors.EISDIR) ∷ (is_directory (map.get s.objects o) && is_file v, errors.ENOTDIR)
    ∷ (is_directory (map.get s.objects o) && nat_lt 0 (map.len (entries_of (map.get s.objects there))), errors.ENOTEMPTY) ∷ [])) was))

-- an entry that is reported by its parts
pub entry_is : {A : Type 0} (f : ℕ → Name → A) (e : DirectoryEntry) (d : ℕ) (name : Name) → e.directory ≡ d → e.name.now ≡ name → f e.directory e.name.now ≡ f d name
entry_is f e d name is same = ap (λ d. f d e.name.now) is ∙ ap (f d) same

pub absent_at : (objects : Objects) (place : Place) (e : DirectoryEntry) → IsPlace objects place → place.object ≡ None → e.directory ≡ place.directory → e.name.now ≡ last_name place.last → IsAbsent objects e
absent_at objects place e is none at same =
    let name = absent_name objects place.directory place.last place.object none is.ends in
    record {
      directory = subst (IsDirectory objects) (sym at) is.directory;
      name = subst IsName (sym same) name.0;
      absent = entry_is (λ d n. map.get (entries_of (map.get objects d)) n) e place.directory (last_name place.last) at same ∙ name.1;
    }

pub leads_at : (objects : Objects) (place : Place) (e : DirectoryEntry) (o : ℕ) → LeadsHere objects place o → e.directory ≡ place.directory → e.name.now ≡ last_name place.last → LeadsTo objects e o
leads_at objects place e o leads at same =
    subst (λ d. Names objects d e.name.now o) (sym at) (subst (λ n. Names objects place.directory n o) (sym same) leads)

-- a file at a place has the name that the path ends in
pub file_leads : (objects : Objects) (place : Place) (o : ℕ) → IsPlace objects place → place.object ≡ Some o → IsFile objects o → LeadsHere objects place o
file_leads objects place o is object file = elim (found_name objects place.directory o place.last place.object is.directory object is.ends) [
  | inl dir ↦ absurd (not_both objects o file dir.0)
  | inr named ↦ named.1
]

-- what the path's last name leads to has that name
pub name_leads : (objects : Objects) (place : Place) (o : ℕ) → EndsInName objects place → place.object ≡ Some o → LeadsHere objects place o
name_leads objects place o ends object = go place.last refl
  where
    go : (last : Option Component) → place.last ≡ last → LeadsHere objects place o
    go None is = let two : true ≡ false = sym (ap is_none is) ∙ ends.some in absurd cc
    go (Some Dot) is = let two : true ≡ false = sym (ap is_dot is) ∙ ends.no_dot in absurd cc
    go (Some DotDot) is = let two : true ≡ false = sym (ap is_dot_dot is) ∙ ends.no_dot_dot in absurd cc
    go (Some (Named name)) is =
        let reported = subst (λ last. Ends objects place.directory last place.object) is ends.place.ends in
        let names = entry_named objects place.directory o name ends.place.directory (sym reported.1 ∙ object) in
        subst (λ n. Names objects place.directory n o) (sym (ap last_name is)) names

-- an open descriptor
pub opened_plan : (z : Sizes) (class : Class) (s : State) (fd object : ℕ) (flags : OpenFlags) (w : StoreWork) (meant : Outcome) (plan : Plan) → plan ≡ opened fd object flags w → fd < 64
    → CanDo z s.objects w → Suits class (replies.Fd fd) w → answer (open_on (worked s.objects w) s fd object flags) (replies.Fd fd) ≡ meant → IsPlan z class s meant plan
opened_plan z class s fd object flags w meant plan is small can suits means = subst (IsPlan z class s meant) (sym is) (record { means = means; can = can; range = small; suits = suits })

-- a file cut to no bytes
pub cut_made : (objects : Objects) (o moment : ℕ) (b : Bool) → worked objects (cut_by b o moment) ≡ (if b then with_bytes objects moment o [] else objects)
cut_made objects o moment true = refl
cut_made objects o moment false = refl

pub cut_suits : (fd o moment : ℕ) (b : Bool) → Suits (reports_if (not b) Changing) (replies.Fd fd) (cut_by b o moment)
cut_suits fd o moment true = refl
cut_suits fd o moment false = tt

cut_less : (z : Sizes) (objects : Objects) (o moment : ℕ) → fits z objects ≡ true → IsFile objects o → fits z (with_bytes objects moment o []) ≡ true
cut_less z objects o moment fit file =
    fits_less z objects (with_bytes objects moment o []) (insert_less z objects o (File file.0 file.1) (File moment []) file.2 (omega (arith, ceiling_le 0 (length file.1) z.page_bytes (omega arith)))) fit

pub cut_fits : (z : Sizes) (objects : Objects) (o moment : ℕ) (b : Bool) → fits z objects ≡ true → (b ≡ true → IsFile objects o) → fits z (if b then with_bytes objects moment o [] else objects) ≡ true
cut_fits z objects o moment true fit file = cut_less z objects o moment fit (file refl)
cut_fits z objects o moment false fit file = fit

pub cut_can : (z : Sizes) (objects : Objects) (o moment : ℕ) (b : Bool) → fits z objects ≡ true → (b ≡ true → IsFile objects o) → CanDo z objects (cut_by b o moment)
cut_can z objects o moment true fit file = record { sensible = (file refl, omega arith); takes = tt; empty = none_dropped objects; fits = cut_less z objects o moment fit (file refl) }
cut_can z objects o moment false fit file = tt

-- an object that is to be cut is a file
pub cut_file : (objects : Objects) (o : ℕ) (x : Object) (create writes trunc : Bool) → map.get objects o ≡ Some x → (is_directory (map.get objects o) && (create || writes || trunc)) ≡ false → trunc ≡ true → IsFile objects o
cut_file objects o (File moment bytes) create writes trunc is no' yes' = (moment, bytes, is)
cut_file objects o (Dir moment entries) create writes trunc is no' yes' =
    let two : true ≡ false = sym (or_right (create || writes) trunc yes') ∙ ap (λ b. b && (create || writes || trunc)) (sym (ap is_directory is)) ∙ no' in absurd cc

-- paths that end in names
pub both_end : (objects : Objects) (from to : Place) → IsPlace objects from → IsPlace objects to → (is_dot from.last || is_dot_dot from.last || is_dot to.last || is_dot_dot to.last) ≡ false → (is_none from.last || is_none to.last) ≡ false
    → EndsInName objects from × EndsInName objects to
both_end objects from to old new dots names =
    let a = or_parts _ (is_dot_dot to.last) dots in
    let b = or_parts _ (is_dot to.last) a.0 in
    let c = or_parts (is_dot from.last) (is_dot_dot from.last) b.0 in
    let n = or_parts (is_none from.last) (is_none to.last) names in (
      record { place = old; no_dot = c.0; no_dot_dot = c.1; some = n.0 },
      record { place = new; no_dot = b.1; no_dot_dot = a.1; some = n.1 },
    )
