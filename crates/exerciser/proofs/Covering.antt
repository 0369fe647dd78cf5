-- Which commands a done sync covers, one by one.
use Rattle.std.proofs.Common.{◌≡◌, ◌≤◌, ◌<◌, ℕ, ◌+◌, true, false, List, length, Some, slice_get, sym, ap, ◌∙◌, inl, inr, arith}
use Rattle.std.proofs.lemmas.Bool.{cases_eq}
use Rattle.std.proofs.lemmas.Option.{slice_get_within}
use Rattle.posix_profile.specs.Losses.{is_synced, IsSyncDone, Covers}
use Rattle.posix_profile.specs.declared.command.Stamped.{Stamped}
use Rattle.posix_profile.specs.declared.reply.Reply.{Reply}

-- of the first so many commands, all up to a done sync are among the first k
abbrev pub CoversFirst : List Stamped → List Reply → (first k : ℕ) → Type 0
CoversFirst commands replies first k = (i : ℕ) → i < first → IsSyncDone commands replies i → i < k

-- one command more, which is none
pub covers_other : (commands : List Stamped) (replies : List Reply) (first k : ℕ) (command : Stamped) (reply : Reply) → CoversFirst commands replies first k
    → slice_get commands first ≡ Some command → slice_get replies first ≡ Some reply → is_synced command.command reply ≡ false → CoversFirst commands replies (first + 1) k
covers_other commands replies first k command reply so_far issued reported other i within_limit sync = elim (cases_eq i first) [
  | inl is ↦
      let c : Some sync.0 ≡ Some command = sym sync.2 ∙ ap (λ n. slice_get commands n) is ∙ issued in
      let r : Some sync.1 ≡ Some reply = sym sync.3 ∙ ap (λ n. slice_get replies n) is ∙ reported in
      let both : is_synced sync.0.command sync.1 ≡ is_synced command.command reply = ap (λ x. is_synced x.command sync.1) (same c) ∙ ap (λ x. is_synced command.command x) (same r) in
      absurd (differ (sym sync.4 ∙ both ∙ other))
  | inr not ↦ so_far i (omega (arith, within_limit, not)) sync
]
  where
    same : {A : Type 0} {x y : A} → Some x ≡ Some y → x ≡ y
    same e = cc

    differ : true ≡ false → ⊥
    differ e = cc

-- where all commands that were answered are looked at, what is covered is covered
pub covers_all : (commands : List Stamped) (replies : List Reply) (first k : ℕ) → ((i : ℕ) → i < length commands → i < length replies → i < first) → CoversFirst commands replies first k
    → Covers commands replies k
covers_all commands replies first k all so_far i sync = so_far i (all i (slice_get_within commands i sync.0 sync.2) (slice_get_within replies i sync.1 sync.3)) sync

-- more commands cover no less
pub covers_more : (commands : List Stamped) (replies : List Reply) (k more : ℕ) → k ≤ more → Covers commands replies k → Covers commands replies more
covers_more commands replies k more within_limit covers i sync = omega (arith, within_limit, covers i sync)
