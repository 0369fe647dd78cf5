-- What a store that refuses memory represents.
use Rattle.object_store.specs.Stores.{Meaning}

-- as the store inside: a call that is refused leaves it as it was, as one that only reads does
abbrev pub refusing_meaning : {S T : Type 0} (m : Meaning S) (inner : T → S) → Meaning T
refusing_meaning m inner = record {
  sizes = λ a. m.sizes (inner a);
  represents = λ a objects. m.represents (inner a) objects;
  shows = λ a tree. m.shows (inner a) tree;
  has_power = λ a. m.has_power (inner a);
  lasts = λ a b. m.lasts (inner a) (inner b);
  leaves = λ a b. m.leaves (inner a) (inner b);
  reads = λ a b. m.reads (inner a) (inner b);
  unread = λ a b. m.unread (inner a) (inner b);
  changes = λ old new a b. m.changes old new (inner a) (inner b);
  fails = λ old new a b. m.fails old new (inner a) (inner b);
  commits = λ objects a b. m.commits objects (inner a) (inner b);
}
