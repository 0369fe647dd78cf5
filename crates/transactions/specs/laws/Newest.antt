-- The newest pages after a group.
use Rattle.std.specs.Prelude.{◌<◌, ℕ, List, Result, Ok, Err}
use Rattle.std.proofs.Common.{◌∙◌, ap, inl, inr, arith}
use Rattle.nand_model.specs.Flash.{Flash}
use Rattle.nand_model.specs.Changes.{Grows}
use Rattle.flash_tree.specs.Groups.{Group}
use Rattle.flash_tree.specs.Newest.{Spot, Holds}
use Rattle.flash_tree.specs.laws.Newest.{same_groups_keep}
use Rattle.flash_tree.specs.laws.Added.{newest_this, newest_other}
use Rattle.transactions.specs.declared.source.PageName.{PageName}
use Rattle.transactions.specs.declared.group.Placed.{Placed}
use Rattle.transactions.specs.declared.group.GroupFault.{GroupFault}
use Rattle.transactions.specs.declared.group.GroupFault.TheVariants as faults
use Rattle.flash_tree.specs.Numbering.{AreBelow}
use Rattle.transactions.specs.Written.{tag_in}
use Rattle.transactions.specs.Groups.{AddsPages, GroupsAfter}
use Rattle.transactions.specs.Newest.{ComesLast, IsCommit, IsOfCopies, ShowsGroup, NewestAfter}

-- a page that counts is below the next numbers
held_below : (f : Flash) (number seq o c : ℕ) (t : Spot) → AreBelow f number seq → Holds f o c t → (t.tag.version < number) × (t.tag.group < number) × (t.tag.seq < seq)
held_below f number seq o c t below held =
    below t.block t.page t.tag (ap (λ b. f.bad b) held.block ∙ held.whole.good) held.has

module _ (g : Group) (name : ℕ → PageName) where
  -- new pages are above all in their version
  pub commit_comes_last : (f : Flash) → IsCommit g name f → ComesLast g name f
  commit_comes_last f commit o c i names t held after =
      let lower = held_below f g.number commit.seq o c t commit.below held in
      let version = commit.versions i names.within in
      elim after [
        | inl lt ↦ absurd (omega (arith, lower, lt, version))
        | inr same ↦ absurd (omega (arith, lower, same.0, version))
      ]

  -- copies are in the greatest version, and above all others of it in the number of their block
  pub copies_come_last : (f : Flash) → IsOfCopies g name f → ComesLast g name f
  copies_come_last f copies o c i names t held after =
      let lower = copies.older o c i names t held in
      let newest = copies.versions o c i names in
      elim after [
        | inl lt ↦ let later : newest.0.tag.version < t.tag.version = omega (arith, lt, newest.2) in absurd (newest.1.last t held (inl later))
        | inr (v, inl lt) ↦ absurd (omega (arith, lower, lt))
        | inr (v, inr seqs) ↦ absurd (omega (arith, lower, seqs.0))
      ]

  module _ (bytes : ℕ → List ℕ) (old new : Flash) (grows : Grows old new) (last : ComesLast g name old) where
    -- a group that counts is shown
    pub added_shows : AddsPages g name bytes old new → ShowsGroup g name bytes old new
    added_shows adds = record {
      named = λ o c i names.
          newest_this g (tag_in g name) bytes old new adds.group grows adds.pages o c i names.within names.named.object names.named.chunk
          (λ k lt object chunk. names.once k lt (record { object = object; chunk = chunk }))
          (last o c i names);
      others = λ o c s apart newest.
          newest_other g (tag_in g name) bytes old new adds.group grows adds.pages o c s (λ i lt object chunk. apart i lt (record { object = object; chunk = chunk })) newest;
    }

    -- however the writing of the group ended
    pub newest_after : (result : Result Placed GroupFault) → GroupsAfter g name bytes old new result → NewestAfter g name bytes old new result
    newest_after (Ok placed) adds = added_shows adds
    newest_after (Err faults.NoRoom) same = same_groups_keep old new same grows
    newest_after (Err faults.Failed) same = same_groups_keep old new same grows
    newest_after (Err faults.Lost) same = same_groups_keep old new same grows
    newest_after (Err faults.Gone) (inl same) = inl (same_groups_keep old new same grows)
    newest_after (Err faults.Gone) (inr adds) = inr (added_shows adds)
