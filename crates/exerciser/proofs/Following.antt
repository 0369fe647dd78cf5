-- The trees after the first commands of a session, one by one.
use Rattle.std.proofs.Common.{◌≡◌, ◌≤◌, ◌<◌, ℕ, ◌+◌, zero, suc, Bool, true, false, List, [], ◌∷◌, length, take, map as list_map, Option, Some, None, IfSome, Result, Ok, Err, IfOk, slice_get, inl, inr, subst, arith, ap, sym, ◌∙◌}
use native.Mathlib.Numerals.{unary_clauses}
use Rattle.std.proofs.lemmas.Bool.{cases_eq, cases_lt}
use Rattle.volume_terms.specs.Sizes.{Sizes}
use Rattle.plain_volume.specs.Views.{PlainView}
use Rattle.posix_profile.specs.Losses.{Covers}
use Rattle.posix_profile.specs.State.{Objects, State}
use Rattle.posix_profile.specs.WellFormed.{IsTree}
use Rattle.posix_profile.specs.declared.command.Stamped.{Stamped}
use Rattle.posix_profile.specs.declared.reply.Reply.{Reply}
use Rattle.plain_volume.specs.Items.{item_of}
use Rattle.plain_volume.specs.Lists.{IsMadeOf, Lists, ListsShown, shown_of}
use Rattle.plain_volume.specs.declared.list.TreeList.{TreeList}
use Rattle.plain_volume.specs.laws.Sameness.{same_read, state_tree}
use Rattle.posix_profile.specs.Names.{prune, settle}
use Rattle.posix_profile.specs.laws.Prune.{prune_same}
use Rattle.posix_profile.specs.laws.Sound.{IsSound}
use Rattle.std.specs.FinMap as map
use Rattle.exerciser.specs.Keeping.{after_reported, after_all_reported, shown_after, Leaves, IsLeast, IsDurable, IsTreeShown}

after_suc : (z : Sizes) (read_only : Bool) (s : State) (commands : List Stamped) (replies : List Reply) (k : ℕ) (command : Stamped) (reply : Reply)
    → slice_get commands k ≡ Some command → slice_get replies k ≡ Some reply
    → after_all_reported z read_only s commands (take (suc k) replies) ≡ after_reported z read_only (after_all_reported z read_only s commands (take k replies)) command reply
after_suc z read_only s [] [] k command reply issued reported = cc
after_suc z read_only s [] (r ∷ replies) k command reply issued reported = cc
after_suc z read_only s (c ∷ commands) [] k command reply issued reported = cc
after_suc z read_only s (c ∷ commands) (r ∷ replies) zero command reply issued reported =
    let command_is : c ≡ command = cc in
    let reply_is : r ≡ reply = cc in
    λ i. after_reported z read_only s (command_is i) (reply_is i)
after_suc z read_only s (c ∷ commands) (r ∷ replies) (suc k) command reply issued reported = after_suc z read_only (after_reported z read_only s c r) commands replies k command reply issued reported

pub not_both : (b : Bool) → b ≡ false → b ≡ true → ⊥
not_both b off on = cc

-- one command more
pub after_next : (z : Sizes) (read_only : Bool) (s : State) (commands : List Stamped) (replies : List Reply) (k : ℕ) (command : Stamped) (reply : Reply)
    → slice_get commands k ≡ Some command → slice_get replies k ≡ Some reply
    → after_all_reported z read_only s commands (take (k + 1) replies) ≡ after_reported z read_only (after_all_reported z read_only s commands (take k replies)) command reply
after_next z read_only s commands replies k command reply issued reported = simp unary_clauses (after_suc z read_only s commands replies k command reply issued reported)

module _ (before : PlainView) (commands : List Stamped) (replies : List Reply) (IsSuch : Objects → Type 0) where
  -- it may not leave what is such after fewer commands
  abbrev pub NoneBelow : ℕ → Type 0
  NoneBelow n = (k : ℕ) → k < n → Leaves before commands replies IsSuch k → ⊥

  pub none_next : (n : ℕ) → (IsSuch (shown_after before commands replies n) → ⊥) → NoneBelow n → NoneBelow (n + 1)
  none_next n other none k within_limit leaves = elim (cases_eq k n) [
    | inl is ↦ other (subst (λ j. IsSuch (shown_after before commands replies j)) is leaves.such)
    | inr not ↦ none k (omega (arith, within_limit, not)) leaves
  ]

  pub least_found : (n : ℕ) → Leaves before commands replies IsSuch n → NoneBelow n → IsLeast before commands replies IsSuch (Some n)
  least_found n leaves none = (
    leaves,
    λ j also. elim (cases_lt j n) [
      | inl less ↦ absurd (none j less also)
      | inr not ↦ omega (arith, not)
    ],
  )

  pub none_found : (n : ℕ) → ((k : ℕ) → k ≤ length commands → k ≤ length replies → k < n) → NoneBelow n → IsLeast before commands replies IsSuch None
  none_found n all none k leaves = none k (all k leaves.issued leaves.answered) leaves

-- what a mount shows of a sound state without descriptors is its objects
pub bare_settled : (z : Sizes) (s : State) → IsSound z s → s.handles ≡ map.empty → (settle s).objects ≡ s.objects
bare_settled z s sound bare = ap (λ (t : State). t.objects) (ap prune (λ i. record { objects = s.objects; handles = sym bare i }) ∙ prune_same z s sound.well_formed)

module _ (before : PlainView) (commands : List Stamped) (replies : List Reply) (list : TreeList) (z : Sizes) (objects : Objects) (tree : IsTree z objects) (listed : Lists list objects) where
  -- what leaves the objects leaves what is listed of them
  leaves_listed : (k : ℕ) → Leaves before commands replies (λ x. x ≡ objects) k → Leaves before commands replies (Lists list) k
  leaves_listed k leaves = record { covers = leaves.covers; issued = leaves.issued; answered = leaves.answered; such = subst (Lists list) (sym leaves.such) listed }

  -- what is the least for a list is the least for the tree that it is read of
  pub least_listed : (found : Option ℕ) → IsLeast before commands replies (Lists list) found → IfSome found (λ k. IsTree before.sizes (shown_after before commands replies k))
      → IsLeast before commands replies (λ x. x ≡ objects) found
  least_listed (Some k) least shows = (
    record {
      covers = least.0.covers;
      issued = least.0.issued;
      answered = least.0.answered;
      such = same_read before.sizes z (shown_after before commands replies k) objects shows tree (list_map item_of list.entries.items) least.0.such listed;
    },
    λ j also. least.1 j (leaves_listed j also),
  )
  least_listed None none shows = λ k leaves. none k (leaves_listed k leaves)

module _ {V : Type 0} (shows : V → Sizes → Bool → State → Type 0) (sound : (v : V) (z : Sizes) (read_only : Bool) (s : State) → shows v z read_only s → IsSound z s)
    (old : V) (list : TreeList) (listed : ListsShown shows old list) where
  -- so it is for each state that is shown
  pub committed_listed : (before : PlainView) (commands : List Stamped) (replies : List Reply) (found : Option ℕ) → IsLeast before commands replies (Lists list) found
      → IfSome found (λ k. IsTree before.sizes (shown_after before commands replies k)) → IsDurable shows old before commands replies found
  committed_listed before commands replies found least trees = λ z read_only s shown bare.
      subst (λ objects. IsLeast before commands replies (λ x. x ≡ objects) found) (sym (bare_settled z s (sound old z read_only s shown) bare))
      (least_listed before commands replies list z s.objects (state_tree z s (sound old z read_only s shown) bare) (listed z read_only s shown) found least trees)

  -- the tree that is made of the list is the one that is shown
  pub made_shown : (tree : PlainView) → IsMadeOf list tree → IsTreeShown shows old tree
  made_shown tree made z read_only s shown bare =
      same_read tree.sizes z (shown_of tree) s.objects made.shows (state_tree z s (sound old z read_only s shown) bare) (list_map item_of list.entries.items) made.listed (listed z read_only s shown)
      ∙ sym (bare_settled z s (sound old z read_only s shown) bare)

-- what follows of a result that is Ok, of two things
pub ok_of : {A E : Type 0} (P Q R : A → Type 0) (r : Result A E) → ((x : A) → P x → Q x → R x) → IfOk r P → IfOk r Q → IfOk r R
ok_of P Q R (Ok x) on one other = on x one other
ok_of P Q R (Err e) on one other = one

pub ok_of_all : {A E : Type 0} (P Q R S : A → Type 0) (r : Result A E) → ((x : A) → P x → Q x → R x → S x) → IfOk r P → IfOk r Q → IfOk r R → IfOk r S
ok_of_all P Q R S (Ok x) on one other third = on x one other third
ok_of_all P Q R S (Err e) on one other third = one

pub ok_then : {A E : Type 0} (P Q : A → Type 0) (r : Result A E) → ((x : A) → P x → Q x) → IfOk r P → IfOk r Q
ok_then P Q (Ok x) on is = on x is
ok_then P Q (Err e) on is = is

-- what follows of what there is
pub some_then : {A : Type 0} (P Q : A → Type 0) (found : Option A) → ((x : A) → P x → Q x) → IfSome found P → IfSome found Q
some_then P Q (Some x) on is = on x is
some_then P Q None on is = is
