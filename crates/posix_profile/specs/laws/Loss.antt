-- What a loss leaves of a run that goes on by one command.
use Rattle.std.specs.Prelude.{◌≡◌, ◌⊎◌, ◌<◌, ℕ, ◌+◌, Bool, true, false, List, [], ◌∷◌, ◌++◌, length, take, Some, slice_get}
use Rattle.std.proofs.Common.{sym, ◌∙◌, ap, subst, inl, inr, arith}
use Rattle.std.proofs.lemmas.Bool.{cases_Bool}
use Rattle.std.proofs.lemmas.List.{take-append-le, take_all, length_push}
use Rattle.std.proofs.lemmas.Option.{slice_get_within}
use Rattle.volume_terms.specs.laws.List.{get_push}
use Rattle.volume_terms.specs.Sizes.{Sizes}
use Rattle.posix_profile.specs.State.{Objects, State}
use Rattle.posix_profile.specs.Names.{settle}
use Rattle.posix_profile.specs.Runs.{after}
use Rattle.posix_profile.specs.Losses.{is_synced, IsSyncDone, Covers, settled_after, PowerLossLeaves}
use Rattle.posix_profile.specs.laws.Run.{after_more, synced_keeps}
use Rattle.posix_profile.specs.declared.command.Stamped.{Stamped}
use Rattle.posix_profile.specs.declared.reply.Reply.{Reply}

-- after one reply more a done sync is one of before, or the last command is one
sync_cases : (cs : List Stamped) (rs : List Reply) (c : Stamped) (r : Reply) → slice_get cs (length rs) ≡ Some c → (i : ℕ) → IsSyncDone cs (rs ++ r ∷ []) i
    → IsSyncDone cs rs i ⊎ ((i ≡ length rs) × (is_synced c.command r ≡ true))
sync_cases cs rs c r at i (command, reply, there, reported, done) = elim (get_push rs r i reply reported) [
  | inl before ↦ inl (command, reply, there, before.1, done)
  | inr last ↦
      let one : Some command ≡ Some c = sym there ∙ ap (slice_get cs) last.0 ∙ at in
      let same : command ≡ c = cc in
      inr (last.0, sym (ap (λ (v : Stamped). is_synced v.command r) same) ∙ ap (is_synced command.command) (sym last.1) ∙ done)
]

-- a sync that is done has its reply
sync_within : (cs : List Stamped) (rs : List Reply) (i : ℕ) → IsSyncDone cs rs i → i < length rs
sync_within cs rs i (command, reply, there, reported, done) = slice_get_within rs i reply reported

-- a command that is no done sync leaves as many covered
covers_more : (cs : List Stamped) (rs : List Reply) (c : Stamped) (r : Reply) → slice_get cs (length rs) ≡ Some c → is_synced c.command r ≡ false
    → (k : ℕ) → Covers cs rs k → Covers cs (rs ++ r ∷ []) k
covers_more cs rs c r at not k covers i done = elim (sync_cases cs rs c r at i done) [
  | inl before ↦ covers i before
  | inr last ↦ let two : true ≡ false = sym last.1 ∙ not in absurd cc
]

-- Whatever tree there was stays or is that of the state before the command, which is there after a done sync: then the loss leaves a tree of the longer run.
module _ (old new : Objects → Type 0) (first : Objects) (z : Sizes) (read_only : Bool) (s : State) (cs : List Stamped) (rs : List Reply) (c : Stamped) (r : Reply)
    (at : slice_get cs (length rs) ≡ Some c)
    (power_loss : (t : Objects) → old t → new t ⊎ new (settle (after z read_only s cs rs)).objects)
    (sync : is_synced c.command r ≡ true → new (settle (after z read_only s cs rs)).objects) where
  -- the state before the command is that after all replies so far
  here : Covers cs (rs ++ r ∷ []) (length rs) → new (settle (after z read_only s cs rs)).objects → PowerLossLeaves new first z read_only s cs (rs ++ r ∷ [])
  here le is =
      let front : take (length rs) (rs ++ r ∷ []) ≡ rs = take-append-le (length rs) rs (r ∷ []) (omega arith) ∙ take_all (length rs) rs (omega arith) in
      inl (length rs, le, omega (arith, length_push rs r), subst new (ap (λ (x : List Reply). (settle (after z read_only s cs x)).objects) (sym front)) is)

  pub loss_more : PowerLossLeaves old first z read_only s cs rs → PowerLossLeaves new first z read_only s cs (rs ++ r ∷ [])
  loss_more so_far = elim (cases_Bool (is_synced c.command r)) [
    | inl done ↦
        let all : take (length rs + 1) (rs ++ r ∷ []) ≡ rs ++ r ∷ [] = take_all (length rs + 1) (rs ++ r ∷ []) (omega (arith, length_push rs r)) in
        let state : after z read_only s cs (rs ++ r ∷ []) ≡ after z read_only s cs rs = after_more z read_only s cs rs c r at ∙ synced_keeps z read_only (after z read_only s cs rs) c r done in
        inl (
          length rs + 1,
          λ i synced. omega (arith, sync_within cs (rs ++ r ∷ []) i synced, length_push rs r),
          omega (arith, length_push rs r),
          subst new (ap (λ (x : State). (settle x).objects) (sym state) ∙ ap (λ (x : List Reply). (settle (after z read_only s cs x)).objects) (sym all)) (sync done),
        )
    | inr not ↦ elim so_far [
      | inl some ↦ elim (power_loss (settled_after z read_only s cs rs some.0) some.3) [
        | inl same ↦
            let front : take some.0 (rs ++ r ∷ []) ≡ take some.0 rs = take-append-le some.0 rs (r ∷ []) some.2 in
            inl (
              some.0,
              covers_more cs rs c r at not some.0 some.1,
              omega (arith, some.2, length_push rs r),
              subst new (ap (λ (x : List Reply). (settle (after z read_only s cs x)).objects) (sym front)) same,
            )
        | inr is ↦ here (λ i synced. omega (arith, covers_more cs rs c r at not some.0 some.1 i synced, some.2)) is
      ]
      | inr none ↦ elim (power_loss first none.1) [
        | inl same ↦ inr (covers_more cs rs c r at not 0 none.0, same)
        | inr is ↦ here (λ i synced. absurd (omega (arith, covers_more cs rs c r at not 0 none.0 i synced))) is
      ]
    ]
  ]
