-- The store of maps is lawful.
use Rattle.std.proofs.Common.{refl, ◌∙◌, inl}
use Rattle.std.specs.Prelude.{◌≡◌, true, false}
use Rattle.object_store.specs.Stores.{IsLawful}
use Rattle.plain_volume.specs.PlainMeaning.{plain_meaning}

pub plain_lawful : IsLawful plain_meaning
plain_lawful = record {
  leaves_nothing = λ a. tt;
  reads_nothing = λ a. (refl, refl);
  reads_on = λ a b c first then'. (then'.0 ∙ first.0, then'.1 ∙ first.1);
  reads_lasts = λ a b reads. reads.1;
  lasts_on = λ a b c first then'. then' ∙ first;
  lasts_sizes = λ a b lasts. lasts;
  reads_represent = λ a b objects reads is. reads.0 ∙ is;
  reads_shows = λ a b tree reads shown. tt;
  changes_on = λ a b c old new reads changes. tt;
  changes_shows = λ a b old new changes tree shown. inl tt;
  fails_on = λ a b c old new reads fails. fails;
  unread_on = λ a b c reads failed. failed;
  unread_reads = λ a b failed. absurd failed;
  unread_fails = λ a b old new failed. failed;
  powerless_unread = λ a b reads lost. let two : true ≡ false = lost in absurd cc;
  fails_shows = λ a b old new fails tree shown. absurd fails;
  commits_on = λ a b c objects reads commits. tt;
  commits_shows = λ a b objects commits. tt;
}
