-- The tables once some keys are forgotten.
use Rattle.std.specs.Prelude.{◌≡◌, ◌<◌, ◌≤◌, ℕ, Bool, Some, None}
use Rattle.std.proofs.Common.{sym, ◌∙◌, subst, inl, inr}
use Rattle.std.proofs.lemmas.Bool.{cases_Bool}
use Rattle.nand_model.specs.Calls.{Device}
use Rattle.nand_model.specs.declared.geometry.Geometry.{Geometry}
use Rattle.flash_tree.specs.Newest.{Numbers}
use Rattle.flash_tree.specs.Numbering.{AreBelow}
use Rattle.block_state.specs.Table.{Table}
use Rattle.chunk_index.specs.Counts.{Recounts}
use Rattle.chunk_index.specs.Maps.{committed_pages, count_committed_in, present, CountsAgree, Retains}
use Rattle.chunk_index.specs.declared.form.CommittedPage.{CommittedPage}
use Rattle.chunk_index.specs.declared.form.Present.TheVariants as presents
use Rattle.chunk_index.specs.declared.index.Index.{Index}
use Rattle.transactions.specs.Ready.{IsReady}
use Rattle.flash_log.specs.Consistency.{MayLie}
use Rattle.page_store.specs.Opened.{IsOpened, AreLeft}
use Rattle.test_devices.specs.Keeping.{KeepsNewest}

module _ (keeps : ℕ → ℕ → Bool) (d : Device) (t u : Table) (x y : Index) (n : Numbers) (opened : IsOpened d t x n) (retains : Retains keeps x y)
    (counts : CountsAgree u y) (recounts : Recounts (count_committed_in x) (count_committed_in y) t u) where
  -- what is committed was committed before
  was_committed : (o c : ℕ) (p : CommittedPage) → committed_pages y o c ≡ Some p → committed_pages x o c ≡ Some p
  was_committed o c p is = elim (cases_Bool (keeps o c)) [
    | inl stays ↦ sym (retains.committed o c stays) ∙ is
    | inr goes ↦ let two : None ≡ Some p = sym (retains.committed_no_more o c goes) ∙ is in absurd cc
  ]

  unbuffered : (o c i : ℕ) → present y o c ≡ presents.InBuffer i → ⊥
  unbuffered o c i is = elim (cases_Bool (keeps o c)) [
    | inl stays ↦ opened.tables.unbuffered o c i (sym (retains.present o c stays) ∙ is)
    | inr goes ↦ let two : presents.Absent ≡ presents.InBuffer i = sym (retains.present_no_more o c goes) ∙ is in absurd cc
  ]

  closed : u.open_block ≡ None
  closed = recounts.open_block ∙ opened.tables.closed

  checkpoint : u.checkpoint ≡ None
  checkpoint = recounts.checkpoint ∙ opened.tables.noted

  can_write : AreLeft n → IsReady d u
  can_write left =
      let was = opened.tables.can_write left in
      record {
        geometry = recounts.geometry ∙ was.geometry;
        marks = λ k. recounts.bad k ∙ was.marks k;
        open_block = λ o is. absurd (let two : None ≡ Some o = sym closed ∙ is in cc);
        waits = λ c is. absurd (let two : None ≡ Some c = sym checkpoint ∙ is in cc);
        numbers = (subst (λ k. 1 ≤ k) (sym recounts.next_group) was.numbers.0, subst (λ k. 1 ≤ k) (sym recounts.next_seq) was.numbers.1);
        below = λ honest. subst (λ k. AreBelow d.flash k u.next_seq) (sym recounts.next_group) (subst (λ k. AreBelow d.flash t.next_group k) (sym recounts.next_seq) (was.below honest));
      }

  lie : AreLeft n → (o c : ℕ) (p : CommittedPage) → committed_pages y o c ≡ Some p → MayLie u o c p
  lie left o c p is =
      let was = opened.tables.lie left o c p (was_committed o c p is) in
      record {
        block = subst (λ (g : Geometry). p.block < g.blocks) (sym recounts.geometry) was.block;
        page = subst (λ (g : Geometry). p.page < g.pages) (sym recounts.geometry) was.page;
        name = record {
          object = was.name.object;
          chunk = was.name.chunk;
          version = (was.name.version.0, subst (λ m. p.version ≤ m) (sym recounts.next_group) was.name.version.1);
        };
      }

  -- the pages that are committed still are the newest ones
  pub forgotten : KeepsNewest d u y n
  forgotten = record {
    counts = counts;
    closed = closed;
    checkpoint = checkpoint;
    unbuffered = unbuffered;
    newest = λ honest o c p is. opened.tables.newest honest o c p (was_committed o c p is);
    can_write = can_write;
    lie = lie;
  }
