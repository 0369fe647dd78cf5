-- The tables once some keys are forgotten, and once a free block is noted for a checkpoint.
use Rattle.std.specs.Prelude.{◌≡◌, ◌<◌, ◌≤◌, ℕ, Bool, true, false, not, ◌&&◌, Some, None}
use Rattle.std.proofs.Common.{refl, sym, ◌∙◌, subst, inl, inr, arith}
use Rattle.std.proofs.lemmas.Bool.{cases_Bool}
use Rattle.nand_model.specs.Calls.{Device}
use Rattle.nand_model.specs.declared.geometry.Geometry.{Geometry}
use Rattle.block_state.specs.Table.{Table, is_free}
use Rattle.chunk_index.specs.Counts.{Recounts}
use Rattle.chunk_index.specs.Maps.{committed_pages, count_committed_in, CountsAgree, Retains}
use Rattle.chunk_index.specs.declared.form.CommittedPage.{CommittedPage}
use Rattle.chunk_index.specs.declared.index.Index.{Index}
use Rattle.transactions.specs.Ready.{IsReady, IsWaiting}
use Rattle.flash_log.specs.Consistency.{MayLie, IsConsistentLog}
use Rattle.test_devices.proofs.Mounting.{ready_counted}
use Rattle.test_devices.specs.Scanned.{IsScanned}

module _ (keeps : ℕ → ℕ → Bool) (d : Device) (t u : Table) (x y : Index) (is : IsScanned d t x) (retains : Retains keeps x y)
    (counts : CountsAgree u y) (recounts : Recounts (count_committed_in x) (count_committed_in y) t u) where
  -- what is committed was committed before
  was_committed : (o c : ℕ) (p : CommittedPage) → committed_pages y o c ≡ Some p → committed_pages x o c ≡ Some p
  was_committed o c p at = elim (cases_Bool (keeps o c)) [
    | inl stays ↦ sym (retains.committed o c stays) ∙ at
    | inr goes ↦ let two : None ≡ Some p = sym (retains.committed_no_more o c goes) ∙ at in absurd cc
  ]

  lies : (o c : ℕ) (p : CommittedPage) → MayLie t o c p → MayLie u o c p
  lies o c p was = record {
    block = subst (λ (g : Geometry). p.block < g.blocks) (sym recounts.geometry) was.block;
    page = subst (λ (g : Geometry). p.page < g.pages) (sym recounts.geometry) was.page;
    name = record {
      object = was.name.object;
      chunk = was.name.chunk;
      version = (was.name.version.0, subst (λ m. p.version ≤ m) (sym recounts.next_group) was.name.version.1);
    };
  }

  -- it is as after a scan
  pub scanned_still : IsScanned d u y
  scanned_still = record {
    can_write = ready_counted d (count_committed_in x) (count_committed_in y) t u recounts is.can_write;
    counts = counts;
    closed = recounts.open_block ∙ is.closed;
    newest = λ o c p at. is.newest o c p (was_committed o c p at);
    lie = λ o c p at. lies o c p (is.lie o c p (was_committed o c p at));
    limits = (omega (arith, is.limits, recounts.next_group), omega (arith, is.limits, recounts.next_seq));
  }

-- a free block is good
good : (t : Table) (c : ℕ) → is_free t c ≡ true → (t.entry c).bad ≡ false
good t c free = left (t.entry c).bad _ free where
  left : (x y : Bool) → (not x && y) ≡ true → x ≡ false
  left false y is = refl
  left true y is = let two : false ≡ true = is in absurd cc

-- and has no committed page
uncommitted : (t : Table) (c : ℕ) → is_free t c ≡ true → (t.entry c).committed ≡ 0
uncommitted t c free = grind (arith, free)

module _ (d : Device) (t : Table) (c : ℕ) (closed : t.open_block ≡ None) (free : is_free t c ≡ true) where
  -- the table in which the block is noted is ready
  pub ready_noted : IsReady d t → c < t.geometry.blocks → (u : Table) → u ≡ record t { checkpoint = Some c } → IsReady d u
  ready_noted can_write within u is = subst (IsReady d) (sym is) (record {
    geometry = can_write.geometry;
    marks = can_write.marks;
    open_block = λ o is. let two : None ≡ Some o = sym closed ∙ is in absurd cc;
    waits = λ b noted.
        let same : c ≡ b = cc in
        subst (λ k. IsWaiting d (record t { checkpoint = Some c }) k) same (record {
          within = subst (λ (g : Geometry). c < g.blocks) can_write.geometry within;
          good = sym (can_write.marks c) ∙ good t c free;
          closed = closed;
        });
    numbers = can_write.numbers;
    below = can_write.below;
  })

  -- and stands
  pub consistent_noted : (spare : ℕ) (x : Index) → IsConsistentLog spare d t x → (u : Table) → u ≡ record t { checkpoint = Some c } → IsConsistentLog spare d u x
  consistent_noted spare x consistent u is = subst (λ (v : Table). IsConsistentLog spare d v x) (sym is) (record {
    tables = record {
      counts = record { counts = consistent.tables.counts.counts; within = consistent.tables.counts.within };
      within = λ o k p at. let was = consistent.tables.within o k p at in record { block = was.block; page = was.page; name = was.name };
      fits = consistent.tables.fits;
      written = consistent.tables.written;
      uncommitted = consistent.tables.uncommitted;
      apart = λ b noted. let same : c ≡ b = cc in subst (λ k. (t.entry k).committed ≡ 0) same (uncommitted t c free);
    };
    newest = consistent.newest;
    ordinary = consistent.ordinary;
    limits = consistent.limits;
  })
