-- A store with a fuse is lawful where the one inside is.
use Rattle.std.specs.Prelude.{◌⊎◌, ℕ}
use Rattle.std.proofs.Common.{refl, ◌∙◌, inl, inr, arith}
use Rattle.posix_profile.specs.State.{Objects}
use Rattle.object_store.specs.Stores.{Meaning, IsLawful, KeepsOrSettles}
use Rattle.command_tests.specs.Fuses.{LeftBy, IsLost, IsUnread, Spends, fused_meaning}

spends_on : {T F : Type 0} (calls : T → ℕ) (last : T → F) (a b c : T) → Spends calls last a b → Spends calls last b c → Spends calls last a c
spends_on calls last a b c x y = record { calls_fall = omega (arith, x.calls_fall, y.calls_fall); fate = y.fate ∙ x.fate }

left_on : {S : Type 0} (m : Meaning S) (law : IsLawful m) (a b c : S) (done : Type 0) (old now : Objects) → m.reads a b → LeftBy m done old now b c → LeftBy m done old now a c
left_on m law a b c done old now reads (inl more) = inl (law.reads_on a b c reads more)
left_on m law a b c done old now reads (inr (is, inl made)) = inr (is, inl (law.changes_on a b c old now reads made))
left_on m law a b c done old now reads (inr (is, inr commits)) = inr (is, inr (law.commits_on a b c old reads commits))

lost_on : {S : Type 0} (m : Meaning S) (law : IsLawful m) (calls : ℕ) (done : Type 0) (a b c : S) (old new : Objects) → m.reads a b → IsLost m calls done old new b c → IsLost m calls done old new a c
lost_on m law calls done a b c old new reads lost = record { spent = lost.spent; now = lost.now; either = lost.either; left = left_on m law a b c done old lost.now reads lost.left }

unread_on : {S : Type 0} (m : Meaning S) (law : IsLawful m) (calls : ℕ) (a b c : S) → m.reads a b → IsUnread m calls b c → IsUnread m calls a c
unread_on m law calls a b c reads cut = record {
  reads = law.reads_on a b c reads cut.reads;
  failed = elim cut.failed [
    | inl spent ↦ inl spent
    | inr failed ↦ inr (law.unread_on a b c reads failed)
  ];
}

-- a read that failed has lost the last call, or failed inside
unread_lost : {S : Type 0} (m : Meaning S) (law : IsLawful m) (calls : ℕ) (done : Type 0) (a b : S) (old new : Objects) → IsUnread m calls a b → IsLost m calls done old new a b ⊎ m.fails old new a b
unread_lost m law calls done a b old new cut = elim cut.failed [
  | inl spent ↦ inl (record { spent = spent; now = old; either = inl refl; left = inl cut.reads })
  | inr failed ↦ inr (law.unread_fails a b old new failed)
]

left_shows : {S : Type 0} (m : Meaning S) (law : IsLawful m) (a b : S) (done : Type 0) (old now : Objects) → LeftBy m done old now a b → KeepsOrSettles m old a b
left_shows m law a b done old now (inl reads) = λ tree shown. inl (law.reads_shows a b tree reads shown)
left_shows m law a b done old now (inr (is, inl made)) = law.changes_shows a b old now made
left_shows m law a b done old now (inr (is, inr commits)) = λ tree shown. inr (law.commits_shows a b old commits)

pub fused_lawful : {S T F : Type 0} (m : Meaning S) (law : IsLawful m) (inner : T → S) (calls : T → ℕ) (last : T → F) (is_done : F → Type 0) → IsLawful (fused_meaning m inner calls last is_done)
fused_lawful m law inner calls last is_done = record {
  leaves_nothing = λ a. law.leaves_nothing (inner a);
  reads_nothing = λ a. (law.reads_nothing (inner a), record { calls_fall = omega arith; fate = refl });
  reads_on = λ a b c x y. (law.reads_on (inner a) (inner b) (inner c) x.0 y.0, spends_on calls last a b c x.1 y.1);
  reads_lasts = λ a b x. (law.reads_lasts (inner a) (inner b) x.0, x.1);
  lasts_on = λ a b c x y. (law.lasts_on (inner a) (inner b) (inner c) x.0 y.0, spends_on calls last a b c x.1 y.1);
  lasts_sizes = λ a b x. law.lasts_sizes (inner a) (inner b) x.0;
  reads_represent = λ a b objects x. law.reads_represent (inner a) (inner b) objects x.0;
  reads_shows = λ a b tree x. law.reads_shows (inner a) (inner b) tree x.0;
  changes_on = λ a b c old new x y. (law.changes_on (inner a) (inner b) (inner c) old new x.0 y.0, omega (arith, x.1.calls_fall, y.1));
  changes_shows = λ a b old new x. law.changes_shows (inner a) (inner b) old new x.0;
  fails_on = λ a b c old new x fails. elim fails [
    | inl lost ↦ inl (lost_on m law (calls c) (is_done (last c)) (inner a) (inner b) (inner c) old new x.0 lost)
    | inr more ↦ inr (law.fails_on (inner a) (inner b) (inner c) old new x.0 more)
  ];
  unread_on = λ a b c x y. (unread_on m law (calls c) (inner a) (inner b) (inner c) x.0 y.0, spends_on calls last a b c x.1 y.1);
  unread_reads = λ a b x. (x.0.reads, x.1);
  unread_fails = λ a b old new x. unread_lost m law (calls b) (is_done (last b)) (inner a) (inner b) old new x.0;
  powerless_unread = λ a b x lost. (record { reads = x.0; failed = inr (law.powerless_unread (inner a) (inner b) x.0 lost) }, x.1);
  fails_shows = λ a b old new fails. elim fails [
    | inl lost ↦ left_shows m law (inner a) (inner b) (is_done (last b)) old lost.now lost.left
    | inr more ↦ law.fails_shows (inner a) (inner b) old new more
  ];
  commits_on = λ a b c objects x y. (law.commits_on (inner a) (inner b) (inner c) objects x.0 y.0, omega (arith, x.1.calls_fall, y.1));
  commits_shows = λ a b objects x. law.commits_shows (inner a) (inner b) objects x.0;
}
