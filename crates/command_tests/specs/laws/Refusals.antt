-- A store that refuses memory is lawful where the one inside is.
use Rattle.object_store.specs.Stores.{Meaning, IsLawful}
use Rattle.command_tests.specs.Refusals.{refusing_meaning}

pub refusing_lawful : {S T : Type 0} (m : Meaning S) (law : IsLawful m) (inner : T → S) → IsLawful (refusing_meaning m inner)
refusing_lawful m law inner = record {
  leaves_nothing = λ a. law.leaves_nothing (inner a);
  reads_nothing = λ a. law.reads_nothing (inner a);
  reads_on = λ a b c. law.reads_on (inner a) (inner b) (inner c);
  reads_lasts = λ a b. law.reads_lasts (inner a) (inner b);
  lasts_on = λ a b c. law.lasts_on (inner a) (inner b) (inner c);
  lasts_sizes = λ a b. law.lasts_sizes (inner a) (inner b);
  reads_represent = λ a b objects. law.reads_represent (inner a) (inner b) objects;
  reads_shows = λ a b tree. law.reads_shows (inner a) (inner b) tree;
  changes_on = λ a b c old new. law.changes_on (inner a) (inner b) (inner c) old new;
  changes_shows = λ a b old new. law.changes_shows (inner a) (inner b) old new;
  fails_on = λ a b c old new. law.fails_on (inner a) (inner b) (inner c) old new;
  unread_on = λ a b c. law.unread_on (inner a) (inner b) (inner c);
  unread_reads = λ a b. law.unread_reads (inner a) (inner b);
  unread_fails = λ a b old new. law.unread_fails (inner a) (inner b) old new;
  powerless_unread = λ a b. law.powerless_unread (inner a) (inner b);
  fails_shows = λ a b old new. law.fails_shows (inner a) (inner b) old new;
  commits_on = λ a b c objects. law.commits_on (inner a) (inner b) (inner c) objects;
  commits_shows = λ a b objects. law.commits_shows (inner a) (inner b) objects;
}
