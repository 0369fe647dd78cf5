-- What the tables of a mount know of the first pages of blocks.
use Rattle.std.specs.Prelude.{◌≡◌, ◌&&◌, ◌≤◌, ℕ, Bool, true, false, Option}
use Rattle.std.proofs.Common.{sym, ◌∙◌, ap, subst, inl, inr, arith}
use Rattle.nand_model.specs.Flash.{Flash}
use Rattle.nand_model.specs.Calls.{Device}
use Rattle.nand_model.specs.Changes.{OnlyReads}
use Rattle.nand_model.specs.Trusting.{trusted_as}
use Rattle.nand_model.specs.laws.Trusted.{honest_of}
use Rattle.flash_tree.specs.Checkpoints.{Checkpoint}
use Rattle.flash_tree.specs.Newest.{Numbers}
use Rattle.flash_tree.specs.Places.{numbers_of}
use Rattle.flash_tree.specs.laws.Place.{same_flash}
use Rattle.block_state.specs.Table.{Table}
use Rattle.block_state.specs.TableOf.{table}
use Rattle.chunk_index.specs.Counts.{Recounts}
use Rattle.chunk_index.specs.declared.index.Index.{Index}
use Rattle.page_store.specs.Checked.{IsTrustedFor, KnowsFirstsBy}
use Rattle.page_store.specs.KnownFirsts.{AreUnwritten, IsUnwrittenOf, KnowsFirsts}
use Rattle.page_store.specs.Opened.{IsOpened}
use Rattle.page_store.specs.declared.opening.Opened.{Opened}
use Rattle.page_store.specs.laws.KnownFirsts.{known_counted}
use Rattle.tree_walk.specs.declared.tree.Tree.{Tree}
use Rattle.mounting.specs.Going.{NotesFree}
use Rattle.mounting.specs.Mounted.{IsTreeRead}
use Rattle.mounting.specs.Tables.{KnowsFirstsOf, KnowsScanned}

-- what is noted in the table that a scan found
pub scan_knows : (d : Device) (t t' : Table) (x : Index) (n : Numbers) → (IsUnwrittenOf d t → KnowsFirsts d.flash t') → AreUnwritten t → IsOpened d t x n → KnowsScanned d t' n
scan_knows d t t' x n knows unwritten opened honest left some = knows (record {
  honest = honest;
  geometry = opened.tables.geometry;
  unwritten = unwritten;
  handed = (opened.tables.can_write left).below honest;
  some = let next = opened.tables.seq left in omega (arith, next, some);
})

-- it is known still once the device was read, and committed pages were in the count anew
flash_after : (a b : Device) → OnlyReads a b → (honest : b.honest ≡ true) → (t : Table) → KnowsFirsts a.flash t → KnowsFirsts b.flash t
flash_after a b reads honest t known = subst (λ (f : Flash). KnowsFirsts f t) (sym (same_flash a b reads (sym reads.lasts.honest ∙ honest))) known

pub scan_after : (a b : Device) (before after : ℕ → ℕ) (t u : Table) (n : Numbers) → OnlyReads a b → Recounts before after t u → KnowsScanned a t n → KnowsScanned b u n
scan_after a b before after t u n reads recounts known honest left some =
    flash_after a b reads honest u (known_counted a.flash before after t u recounts (known (sym reads.lasts.honest ∙ honest) left some))

pub known_after : (a b : Device) (before after : ℕ → ℕ) (t u : Table) (n : Numbers) → OnlyReads a b → Recounts before after t u → KnowsFirstsOf a t n → KnowsFirstsOf b u n
known_after a b before after t u n reads recounts known honest left =
    flash_after a b reads honest u (known_counted a.flash before after t u recounts (known (sym reads.lasts.honest ∙ honest) left))

-- a device with a tree has a tag, whose number was handed out
pub some_number : (d : Device) (t : Table) (x : Index) (n : Numbers) (spare : ℕ) (tree : Tree) → d.honest ≡ true → IsTreeRead d t x n spare tree → 1 ≤ n.seq
some_number d t x n spare tree honest read =
    let on = read.tree_on honest in
    let volume = on.through.volume in
    let has = ((on.newest _ 0 _).0 volume.has.0).0 in
    let s = has.spot in
    let held = has.newest.holds in
    let valid = held.has.valid.seq in
    let good : d.flash.bad s.block ≡ false = ap d.flash.bad held.block ∙ held.whole.good in
    let most = ((read.tables.tables.numbers honest).above s.block s.page s.tag good held.has).2 in
    omega (arith, valid, most)

pub tree_knows : (d : Device) (t : Table) (x : Index) (n : Numbers) (spare : ℕ) (tree : Tree) → IsTreeRead d t x n spare tree → KnowsScanned d t n → KnowsFirstsOf d t n
tree_knows d t x n spare tree read known honest left = known honest left (some_number d t x n spare tree honest read)

-- where the block of a checkpoint is noted
pub known_noted : (d : Device) (at : Option ℕ) (t u : Table) (n : Numbers) → NotesFree at t u → KnowsFirstsOf d t n → KnowsFirstsOf d u n
known_noted d at t u n notes known = elim notes.is [
  | inl same ↦ subst (λ (k : Table). KnowsFirstsOf d k n) (sym same) known
  | inr (b, is, empty, noted) ↦ subst (λ (k : Table). KnowsFirstsOf d k n) (sym noted) (λ honest left.
      let was = known honest left in
      record { erased = was.erased; written = was.written; tagged = was.tagged; aged = was.aged })
]

reported_of : (honest reported : Bool) → (honest && reported) ≡ true → reported ≡ true
reported_of true reported is = is
reported_of false reported is = absurd cc

-- the table of a checkpoint, of a device as it is trusted
pub known_trusted : (reported : Bool) (d : Device) (c : Checkpoint) (opened : Opened) → IsTrustedFor c reported d → KnowsFirstsBy d c opened → KnowsFirstsOf (trusted_as reported d) (table opened.blocks) (numbers_of opened.numbers)
known_trusted reported d c opened trusted known both left = known (honest_of d.honest reported both) (trusted (reported_of d.honest reported both) (honest_of d.honest reported both)).above left
