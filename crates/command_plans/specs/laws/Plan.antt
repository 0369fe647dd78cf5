-- What a plan is for, and what the definition says.
use Rattle.std.specs.Prelude.{◌≡◌, ℕ, Bool, true, false, not, List, [], ◌∷◌, Option, Some, None, Result, Ok, Err, if◌then◌else◌}
use Rattle.std.proofs.Common.{refl, sym, ◌∙◌, ap, subst}
use Rattle.volume_terms.specs.Sizes.{Sizes}
use Rattle.std.specs.FinMap as map
use Rattle.posix_profile.specs.State.{Name, State, Object, File, Dir, Objects, Handle, IsFile, is_file, is_directory, entries_of}
use Rattle.posix_profile.specs.HandleSteps.{at_handle, at_file, at_descriptor}
use Rattle.posix_profile.specs.Charge.{fits}
use Rattle.posix_profile.specs.Paths.{Place, first_error, resolve}
use Rattle.posix_profile.specs.laws.Path.{resolve_place}
use Rattle.posix_profile.specs.laws.Place.{found_there}
use Rattle.posix_profile.specs.WellFormed.{IsForest}
use Rattle.volume_terms.specs.Names.{AreBytes}
use Rattle.posix_profile.specs.NameSteps.{at_object, stat_of, list_of}
use Rattle.posix_profile.specs.Outcomes.{Outcome, answer, refuse, refuse_or, unless, change_to, at_place}
use Rattle.posix_profile.specs.declared.reply.Errno.{Errno}
use Rattle.posix_profile.specs.declared.reply.Errno.TheVariants as errors
use Rattle.posix_profile.specs.declared.reply.Info.{Info}
use Rattle.posix_profile.specs.declared.reply.Reply.{Reply}
use Rattle.posix_profile.specs.declared.reply.Reply.TheVariants as replies
use Rattle.object_store.specs.Facts.{bytes_of, info_of}
use Rattle.object_store.specs.Stores.{Meaning, IsLawful, ReadFaults, KeepsPower}
use Rattle.object_store.specs.laws.Store.{has_on, reports_on}
use Rattle.volume_terms.specs.declared.fault.StoreFault.{StoreFault}
use Rattle.object_store.specs.declared.refusal.Refusal.{Refusal}
use Rattle.object_store.specs.declared.refusal.Refusal.TheVariants as refusals
use Rattle.command_plans.specs.Paths.{place_of, Leads}
use Rattle.command_plans.specs.declared.path.parts.PathPlace.{PathPlace}
use Rattle.command_plans.specs.Classes.{Class, Changing, reports_if}
use Rattle.command_plans.specs.Places.{AtPlace, FindsPlace, AtObject, NoObject, FindsObject}
use Rattle.command_plans.specs.Plans.{Holds, IsPlan, Plans, Tries, handed, Suits}
use Rattle.command_plans.specs.declared.plan.Plan.{Plan}
use Rattle.command_plans.specs.declared.plan.HandleChange.TheVariants as handle_changes
use Rattle.command_plans.specs.declared.plan.StoreWork.TheVariants as work
use Rattle.command_plans.specs.laws.Fact.{some_same}

-- the store goes on to represent the state
pub holds_on : {S : Type 0} (m : Meaning S) (law : IsLawful m) (z : Sizes) (s : State) (a b : S) → m.reads a b → Holds m z s a → Holds m z s b
holds_on m law z s a b reads h = record { has = has_on m law z s.objects a b reads h.has; sound = h.sound }

-- what is meant in other words, after calls that read
pub plans_same : {S : Type 0} (m : Meaning S) (law : IsLawful m) (z : Sizes) (class : Class) (s : State) (meant all : Outcome) (a b c : S) → m.reads a b → meant ≡ all
    → (r : Result Plan Refusal) → Plans m z class s meant b c r → Plans m z class s all a c r
plans_same m law z class s meant all a b c reads is r reported =
    subst (λ o. Plans m z class s o a c r) is (reports_on m law a b c (IsPlan z class s meant) (λ e. refuse s e ≡ meant) reads r reported)

-- the same where nothing was read
pub plans_is : {S : Type 0} (m : Meaning S) (z : Sizes) (class : Class) (s : State) (meant all : Outcome) (a b : S) → meant ≡ all → (r : Result Plan Refusal) → Plans m z class s meant a b r → Plans m z class s all a b r
plans_is m z class s meant all a b is r reported = subst (λ o. Plans m z class s o a b r) is reported

-- an error handed on
pub plans_err : {S : Type 0} (m : Meaning S) (z : Sizes) (class : Class) (s : State) (meant : Outcome) (a b : S) (r : Result Plan Refusal) (x y : Refusal) → r ≡ Err x → x ≡ y → Plans m z class s meant a b (Err y) → Plans m z class s meant a b r
plans_err m z class s meant a b r x y is same reported = subst (λ r. Plans m z class s meant a b r) (sym is) (subst (λ x. Plans m z class s meant a b (Err x)) (sym same) reported)

-- a fault of a call that read
pub plans_fault : {S : Type 0} (m : Meaning S) (law : IsLawful m) (z : Sizes) (class : Class) (s : State) (meant : Outcome) (a b c : S) (r : Result Plan Refusal) (x : Refusal) (fault : StoreFault) → r ≡ Err x → x ≡ refusals.Fault fault
    → m.reads a b → ReadFaults m b c fault → Plans m z class s meant a c r
plans_fault m law z class s meant a b c r x fault is same reads left =
    plans_err m z class s meant a c r x (refusals.Fault fault) is same (reports_on {A = Plan} m law a b c (IsPlan z class s meant) (λ e. refuse s e ≡ meant) reads (Err (refusals.Fault fault)) left)

-- a path that leads nowhere
pub plans_nowhere : {S : Type 0} (m : Meaning S) (z : Sizes) (class : Class) (s : State) (p : Result Place Errno) (act : Place → Outcome) (a b : S) (r : Result Plan Refusal) (x y : Refusal)
    → r ≡ Err x → x ≡ y → FindsPlace m s p a b (Err y) → Plans m z class s (at_place s p act) a b r
plans_nowhere m z class s p act a b r x y is same reported = plans_err m z class s (at_place s p act) a b r x y is same (go y reported)
  where
    go : (y : Refusal) → FindsPlace m s p a b (Err y) → Plans m z class s (at_place s p act) a b (Err y)
    go (refusals.Fault fault) t = t
    go (refusals.Error e) t = t act

-- a path that leads to no object
pub plans_nothing : {S : Type 0} (m : Meaning S) (z : Sizes) (class : Class) (s : State) (p : Result Place Errno) (act : Place → ℕ → Outcome) (a b : S) (r : Result Plan Refusal) (x y : Refusal)
    → r ≡ Err x → x ≡ y → FindsObject m s p a b (Err y) → Plans m z class s (at_place s p (λ place. at_object s place.object (act place))) a b r
plans_nothing m z class s p act a b r x y is same reported = plans_err m z class s (at_place s p (λ place. at_object s place.object (act place))) a b r x y is same (go y reported)
  where
    go : (y : Refusal) → FindsObject m s p a b (Err y) → Plans m z class s (at_place s p (λ place. at_object s place.object (act place))) a b (Err y)
    go (refusals.Fault fault) t = t
    go (refusals.Error e) t = t act

pub change_fits : (z : Sizes) (s new : State) (reply : Reply) → fits z new.objects ≡ true → answer new reply ≡ change_to z s new reply
unfolding change_to
change_fits z s new reply is = ap (λ b. if b then answer new reply else refuse s errors.ENOSPC) (sym is)

pub change_full : (z : Sizes) (s new : State) (reply : Reply) → fits z new.objects ≡ false → refuse s errors.ENOSPC ≡ change_to z s new reply
unfolding change_to
change_full z s new reply is = ap (λ b. if b then answer new reply else refuse s errors.ENOSPC) (sym is)

-- an error of the path
pub no_place : (s : State) (r : Result Place Errno) (act : Place → Outcome) (e : Errno) → Err e ≡ r → refuse s e ≡ at_place s r act
unfolding at_place
no_place s r act e is = ap (λ r. at_place s r act) is

-- a path that leads to a place
pub this_place : (s : State) (r : Result Place Errno) (act : Place → Outcome) (p : Place) → Ok p ≡ r → act p ≡ at_place s r act
unfolding at_place
this_place s r act p is = ap (λ r. at_place s r act) is

-- the error of a test that holds
pub refused : (s : State) (b : Bool) (e : Errno) (tests : List (Bool × Errno)) (o : Outcome) → b ≡ true → refuse s e ≡ unless s ((b, e) ∷ tests) o
unfolding unless
refused s b e tests o is = ap (λ b. refuse_or s (if b then Some e else first_error tests) o) (sym is)

-- a test that does not hold
pub passed : (s : State) (b : Bool) (e : Errno) (tests : List (Bool × Errno)) (o : Outcome) → b ≡ false → unless s tests o ≡ unless s ((b, e) ∷ tests) o
unfolding unless
passed s b e tests o is = ap (λ b. refuse_or s (if b then Some e else first_error tests) o) (sym is)

-- no test
pub passed_all : (s : State) (o : Outcome) → o ≡ unless s [] o
unfolding unless
passed_all s o = refl

-- the first error of tests
pub first_refused : (s : State) (tests : List (Bool × Errno)) (e : Errno) (o : Outcome) → Some e ≡ first_error tests → refuse s e ≡ unless s tests o
unfolding unless
first_refused s tests e o is = ap (λ r. refuse_or s r o) is

-- no error of tests
pub none_refused : (s : State) (tests : List (Bool × Errno)) (o : Outcome) → None ≡ first_error tests → o ≡ unless s tests o
unfolding unless
none_refused s tests o is = ap (λ r. refuse_or s r o) is

-- where no object is
pub no_object : (s : State) (r : Option ℕ) (act : ℕ → Outcome) → r ≡ None → refuse s errors.ENOENT ≡ at_object s r act
unfolding at_object
no_object s r act is = ap (λ r. at_object s r act) (sym is)

-- what to do with the object that is there
pub this_object : (s : State) (r : Option ℕ) (act : ℕ → Outcome) (o : ℕ) → r ≡ Some o → act o ≡ at_object s r act
unfolding at_object
this_object s r act o is = ap (λ r. at_object s r act) (sym is)

-- a descriptor that is not open
pub no_handle : (s : State) (r : Option Handle) (act : Handle → Outcome) → None ≡ r → refuse s errors.EBADF ≡ at_handle s r act
unfolding at_handle
no_handle s r act is = ap (λ r. at_handle s r act) is

-- what the descriptor refers to
pub this_handle : (s : State) (r : Option Handle) (act : Handle → Outcome) (h : Handle) → Some h ≡ r → act h ≡ at_handle s r act
unfolding at_handle
this_handle s r act h is = ap (λ r. at_handle s r act) is

-- the outcome that a test chooses
pub then_is : (b : Bool) (x y : Outcome) → b ≡ true → x ≡ (if b then x else y)
then_is b x y is = ap (λ b. if b then x else y) (sym is)

pub else_is : (b : Bool) (x y : Outcome) → b ≡ false → y ≡ (if b then x else y)
else_is b x y is = ap (λ b. if b then x else y) (sym is)

-- what to do with the bytes of a file
pub this_file : (s : State) (e : Errno) (act : List ℕ → Outcome) (o : ℕ) (file : IsFile s.objects o) (r : Option Object) → r ≡ Some (File file.0 file.1) → act (bytes_of r) ≡ at_file s r e act
unfolding at_file
this_file s e act o file r is = ap (λ r. act (bytes_of r)) is ∙ ap (λ r. at_file s r e act) (sym is)

-- a directory has no bytes
pub no_file : (s : State) (e : Errno) (act : List ℕ → Outcome) (r : Option Object) (x : Object) → r ≡ Some x → is_file r ≡ false → refuse s e ≡ at_file s r e act
unfolding at_file
no_file s e act r x is no' = go x is
  where
    go : (x : Object) → r ≡ Some x → refuse s e ≡ at_file s r e act
    go (File moment bytes) is = let two : true ≡ false = sym (ap is_file is) ∙ no' in absurd cc
    go (Dir moment entries) is = ap (λ r. at_file s r e act) (sym is)

-- no descriptor is free
pub no_descriptor : (s : State) (r : Option ℕ) (act : ℕ → Outcome) → None ≡ r → refuse s errors.EMFILE ≡ at_descriptor s r act
unfolding at_descriptor
no_descriptor s r act is = ap (λ r. at_descriptor s r act) is

-- what to do with the free descriptor
pub this_descriptor : (s : State) (r : Option ℕ) (act : ℕ → Outcome) (fd : ℕ) → Some fd ≡ r → act fd ≡ at_descriptor s r act
unfolding at_descriptor
this_descriptor s r act fd is = ap (λ r. at_descriptor s r act) is

-- what is there is a directory or a file
pub directory_unless : (r : Option Object) (x : Object) → r ≡ Some x → is_directory r ≡ not (is_file r)
directory_unless r x is = ap is_directory is ∙ go x ∙ ap (λ r. not (is_file r)) (sym is)
  where
    go : (x : Object) → is_directory (Some x) ≡ not (is_file (Some x))
    go (File moment bytes) = refl
    go (Dir moment entries) = refl

-- a path, and the place to which it leads
pub finds_place : {S : Type 0} (m : Meaning S) (z : Sizes) (s : State) (path : List ℕ) (a b : S) → IsForest z s.objects → AreBytes path
    → (r : Result PathPlace Refusal) → Leads m (resolve s.objects path) a b r → FindsPlace m s (resolve s.objects path) a b r
finds_place m z s path a b forest are (Ok p) reported = record {
  place = resolve_place z s.objects forest path (place_of p) are (sym reported);
  leads = sym reported;
  act = λ act. this_place s (resolve s.objects path) act (place_of p) reported;
}
finds_place m z s path a b forest are (Err (refusals.Fault fault)) reported = reported
finds_place m z s path a b forest are (Err (refusals.Error e)) reported = λ act. no_place s (resolve s.objects path) act e reported

-- the object at a place
pub finds_object : (z : Sizes) (s : State) (r : Result Place Errno) (p : Place) (o : ℕ) → IsForest z s.objects → AtPlace s r p → p.object ≡ Some o → AtObject s r p o
finds_object z s r p o forest at is = record {
  place = at.place;
  object = is;
  there = found_there z s.objects forest p.directory o p.last p.object at.place.directory is at.place.ends;
  act = λ act. this_object s p.object (act p) o is ∙ at.act (λ place. at_object s place.object (act place));
}

pub finds_none : (s : State) (r : Result Place Errno) (p : Place) → AtPlace s r p → p.object ≡ None → NoObject s r errors.ENOENT
finds_none s r p at is = λ act. no_object s p.object (act p) is ∙ at.act (λ place. at_object s place.object (act place))

-- a plan or an error that is handed on
pub plans_of : {S : Type 0} (m : Meaning S) (z : Sizes) (class : Class) (s : State) (meant all : Outcome) (a b : S) → meant ≡ all → (t : Result Plan Errno) (r : Result Plan Refusal) → r ≡ handed t
    → Tries z class s meant t → Plans m z class s all a b r
plans_of m z class s meant all a b is t r from tried = subst (λ o. Plans m z class s o a b r) is (subst (λ r. Plans m z class s meant a b r) (sym from) (go t tried))
  where
    go : (t : Result Plan Errno) → Tries z class s meant t → Plans m z class s meant a b (handed t)
    go (Ok plan) reported = reported
    go (Err error) reported = reported

-- the power is held too
pub power_of : {S : Type 0} (m : Meaning S) (a b : S) → m.has_power b ≡ m.has_power a → (t : Result Plan Errno) (r : Result Plan Refusal) → r ≡ handed t → KeepsPower m a b r
power_of m a b same t r from = subst (KeepsPower m a b) (sym from) (go t)
  where
    go : (t : Result Plan Errno) → KeepsPower m a b (handed t)
    go (Ok plan) = same
    go (Err error) = same

pub tries_same : (z : Sizes) (class : Class) (s : State) (meant all : Outcome) → meant ≡ all → (t : Result Plan Errno) → Tries z class s meant t → Tries z class s all t
tries_same z class s meant all is t reported = subst (λ o. Tries z class s o t) is reported

-- a plan for a command of a kind that is the same
pub tries_kind : (z : Sizes) (class same : Class) (s : State) (meant : Outcome) → class ≡ same → (t : Result Plan Errno) → Tries z class s meant t → Tries z same s meant t
tries_kind z class same s meant is t reported = subst (λ k. Tries z k s meant t) is reported

-- what changes nothing suits a command that reports and one that may change
pub nothing_suits : (reports : Bool) (reply : Reply) → Suits (reports_if reports Changing) reply work.Nothing
nothing_suits true reply = tt
nothing_suits false reply = tt

-- what is reported of an object that is there
pub stat_reported : (s : State) (o : ℕ) (info : Info) (x : Option Object) → Some info ≡ info_of s.objects o x → answer s (replies.Info info) ≡ stat_of s o x
stat_reported s o info None is = absurd cc
stat_reported s o info (Some x) is = ap (λ (i : Info). answer s (replies.Info i)) (some_same info _ is)

-- the names of what is no file
pub list_reported : (s : State) (r : Option Object) (x : Object) (names : List Name) → r ≡ Some x → is_file r ≡ false → names ≡ map.keys (entries_of r) → answer s (replies.Names names) ≡ list_of s r
list_reported s r x names is no' reported = go x is
  where
    go : (x : Object) → r ≡ Some x → answer s (replies.Names names) ≡ list_of s r
    go (File moment bytes) is = let two : true ≡ false = sym (ap is_file is) ∙ no' in absurd cc
    go (Dir moment entries) is = ap (λ (n : List Name). answer s (replies.Names n)) (reported ∙ ap (λ (r : Option Object). map.keys (entries_of r)) is) ∙ ap (list_of s) (sym is)

pub list_file : (s : State) (r : Option Object) (x : Object) → r ≡ Some x → is_file r ≡ true → refuse s errors.ENOTDIR ≡ list_of s r
list_file s r x is yes' = go x is
  where
    go : (x : Object) → r ≡ Some x → refuse s errors.ENOTDIR ≡ list_of s r
    go (File moment bytes) is = ap (list_of s) (sym is)
    go (Dir moment entries) is = let two : false ≡ true = sym (ap is_file is) ∙ yes' in absurd cc

-- what is a file, and what is none
pub file_of : (objects : Objects) (o : ℕ) (x : Object) → map.get objects o ≡ Some x → is_file (map.get objects o) ≡ true → IsFile objects o
file_of objects o (File moment bytes) is yes' = (moment, bytes, is)
file_of objects o (Dir moment entries) is yes' = let two : false ≡ true = sym (ap is_file is) ∙ yes' in absurd cc

-- a reply that changes nothing
pub plan_reported : (z : Sizes) (class : Class) (s : State) (reply : Reply) (meant : Outcome) (plan : Plan) → plan ≡ record { reply = reply; handles = handle_changes.Nothing; work = work.Nothing }
    → Suits class reply work.Nothing → answer s reply ≡ meant → IsPlan z class s meant plan
plan_reported z class s reply meant plan is suits reported = subst (IsPlan z class s meant) (sym is) (record { means = reported; can = tt; range = tt; suits = suits })

pub stat_none : (s : State) (o : ℕ) (x : Option Object) → x ≡ None → refuse s errors.ENOENT ≡ stat_of s o x
stat_none s o x is = ap (stat_of s o) (sym is)

pub plan_same : (z : Sizes) (class : Class) (s : State) (meant all : Outcome) → meant ≡ all → (plan : Plan) → IsPlan z class s meant plan → IsPlan z class s all plan
plan_same z class s meant all is plan reported = subst (λ o. IsPlan z class s o plan) is reported
