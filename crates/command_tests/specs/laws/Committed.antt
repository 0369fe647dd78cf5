-- The maps that keep a copy are a lawful store.
use Rattle.std.proofs.Common.{refl, ◌∙◌, inl}
use Rattle.std.specs.Prelude.{◌≡◌, true, false}
use Rattle.object_store.specs.Stores.{IsLawful}
use Rattle.plain_volume.specs.declared.objects.store.PlainObjects.{PlainObjects}
use Rattle.command_tests.specs.Committed.{committed_meaning}

pub committed_lawful : {T : Type 0} (inner shown : T → PlainObjects) → IsLawful (committed_meaning inner shown)
committed_lawful inner shown = record {
  leaves_nothing = λ a. refl;
  reads_nothing = λ a. (refl, refl);
  reads_on = λ a b c first then'. (then'.0 ∙ first.0, then'.1 ∙ first.1);
  reads_lasts = λ a b reads. reads.1;
  lasts_on = λ a b c first then'. then' ∙ first;
  lasts_sizes = λ a b lasts. lasts;
  reads_represent = λ a b objects reads is. reads.0 ∙ is;
  reads_shows = λ a b tree reads is. tt;
  changes_on = λ a b c old new reads changes. tt;
  changes_shows = λ a b old new changes tree is. inl tt;
  fails_on = λ a b c old new reads fails. tt;
  unread_on = λ a b c reads failed. failed;
  unread_reads = λ a b failed. absurd failed;
  unread_fails = λ a b old new failed. tt;
  powerless_unread = λ a b reads lost. let two : true ≡ false = lost in absurd cc;
  fails_shows = λ a b old new fails tree is. inl tt;
  commits_on = λ a b c objects reads commits. tt;
  commits_shows = λ a b objects commits. tt;
}
