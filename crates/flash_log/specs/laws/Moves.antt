-- What is where no page was moved.
use Rattle.std.proofs.Common.{◌≡◌, ◌<◌, ◌≤◌, ℕ, true, false, Option, Some, None, refl, sym, ap, subst, ◌∙◌, arith, inl, inr}
use Rattle.std.proofs.lemmas.Bool.{cases_Bool, cases_eq}
use Rattle.nand_model.specs.Calls.{Device}
use Rattle.nand_model.specs.declared.geometry.Geometry.{Geometry}
use Rattle.block_state.specs.Counting.{sum_below}
use Rattle.block_state.specs.Committed.{committed_count}
use Rattle.block_state.specs.Table.{Table}
use Rattle.block_state.specs.laws.Counting.{sum_below-same}
use Rattle.chunk_index.specs.declared.form.CommittedPage.{CommittedPage}
use Rattle.chunk_index.specs.declared.entry.KeyEntry.{KeyEntry}
use Rattle.chunk_index.specs.declared.entry.State.{State}
use Rattle.chunk_index.specs.declared.entry.State.TheVariants as states
use Rattle.chunk_index.specs.declared.index.Index.{Index}
use Rattle.chunk_index.specs.Entries.{committed_of, as_committed, present_of, present_by}
use Rattle.chunk_index.specs.Committed.{HoldsNone}
use Rattle.chunk_index.specs.Maps.{committed_pages, count_committed_in, moved_to, CountsAgree}
use Rattle.chunk_index.specs.Shelves.{look}
use Rattle.flash_log.specs.Copying.{KeepsCounts, KeepsCommittedAt, KeepsDataAt}
use Rattle.flash_log.specs.Moving.{MovesOut}
use Rattle.flash_log.specs.Taking.{LiesApart}
use Rattle.flash_log.specs.Consistency.{SameData, HasVersion, MayLie, AreHeld, IsConsistentLog}
use Rattle.flash_tree.specs.laws.Place.{had_power}

-- ---- the index

-- what is present is what is committed, where it is on the flash
pub follows_here : (m : Option KeyEntry) (p : CommittedPage) → committed_of m ≡ Some p → present_of m ≡ moved_to p (present_of m)
follows_here None p is = absurd cc
follows_here (Some e) p is = go e.state where
  go : (s : State) → present_by e.committed s ≡ moved_to p (present_by e.committed s)
  go states.Same = ap as_committed is ∙ sym (ap (λ k. moved_to p (as_committed k)) is)
  go (states.Buffered i) = refl
  go states.Dropped = refl
  go states.Vacant = refl

-- no page was moved
pub moves_out_none : (v : ℕ) (x : Index) → MovesOut v x x
moves_out_none v x = record {
  moved = λ o c p is here. record { at = p; is = is; version = refl; present = follows_here (look x.shelf.objects o c) p is };
  committed = λ o c none. refl;
  present = λ o c none. refl;
  prepared = λ o c is. is;
  can_write = λ o c is. is;
}

-- ---- counts

pub same_committed_sum : (t u : Table) → u.geometry ≡ t.geometry → ((b : ℕ) → (u.entry b).committed ≡ (t.entry b).committed) → committed_count u ≡ committed_count t
same_committed_sum t u geometry committed =
    ap (λ (g : Geometry). sum_below (λ b. (u.entry b).committed) g.blocks) geometry
    ∙ sum_below-same (λ b. (u.entry b).committed) (λ b. (t.entry b).committed) t.geometry.blocks (λ b lt. committed b)

-- ---- where the index stays

pub are_held : (t : Table) (x : Index) → ((b : ℕ) → count_committed_in x b ≡ 0 → HoldsNone (committed_pages x) b) → CountsAgree t x → AreHeld t x
are_held t x none agree o c p is = elim (cases_eq (t.entry p.block).committed 0) [
  | inr some ↦ omega (arith, some)
  | inl zero_there ↦ absurd (none p.block (sym (agree.counts p.block) ∙ zero_there) o c p is refl)
]

-- no committed page lies in the block that may have a checkpoint, where no other block was noted and committed counts stay
pub lies_apart : (t u : Table) → ((c : ℕ) → u.checkpoint ≡ Some c → t.checkpoint ≡ Some c) → ((b : ℕ) → (u.entry b).committed ≡ (t.entry b).committed) → LiesApart t → LiesApart u
lies_apart t u noted committed apart c is = committed c ∙ apart c (noted c is)

pub may_lie_later : (t u : Table) (o c : ℕ) (p : CommittedPage) → u.geometry ≡ t.geometry → t.next_group ≤ u.next_group → MayLie t o c p → MayLie u o c p
may_lie_later t u o c p geometry rises may = record {
  block = subst (λ (g : Geometry). p.block < g.blocks) (sym geometry) may.block;
  page = subst (λ (g : Geometry). p.page < g.pages) (sym geometry) may.page;
  name = record { object = may.name.object; chunk = may.name.chunk; version = (may.name.version.0, omega (arith, may.name.version.1, rises)) };
}

module _ (spare : ℕ) (d0 d1 : Device) (t0 t1 : Table) (x : Index) (held : AreHeld t0 x) (keeps : KeepsCounts d0 d1 t0 t1) (consistent : IsConsistentLog spare d0 t0 x) where
  -- the data of what is committed
  pub same_data : (d0.honest ≡ true → KeepsDataAt t0 d0.flash d1.flash) → d0.honest ≡ true → SameData (committed_pages x) d0.flash d1.flash
  same_data stays honest o c p bytes is has = elim (cases_Bool d0.gone) [
    | inl gone ↦ subst (λ (d : Device). HasVersion d.flash o c p.version bytes) (sym (keeps.lasts.gone gone)) has
    | inr power ↦ stays honest o c p bytes (held o c p is) (consistent.newest honest power o c p is) has
  ]

  -- what is where no page was moved
  pub consistent_still : ((o : ℕ) → t1.open_block ≡ Some o → (t1.entry o).committed ≤ (t1.entry o).next) → (d0.honest ≡ true → d1.gone ≡ false → KeepsCommittedAt t0 d0.flash d1.flash) → IsConsistentLog spare d1 t1 x
  consistent_still written stays = record {
    tables = record {
      counts = record {
        counts = λ b. keeps.committed b ∙ consistent.tables.counts.counts b;
        within = λ b le. consistent.tables.counts.within b (subst (λ (g : Geometry). g.blocks ≤ b) keeps.geometry le);
      };
      within = λ o c p is. may_lie_later t0 t1 o c p keeps.geometry keeps.numbers.numbers.groups_rise (consistent.tables.within o c p is);
      fits = λ b. let same = keeps.committed b in let was = consistent.tables.fits b in
          subst (λ (g : Geometry). (t1.entry b).committed ≤ g.pages) (sym keeps.geometry) (omega (arith, same, was));
      written = written;
      uncommitted = omega (arith, keeps.uncommitted, consistent.tables.uncommitted);
      apart = lies_apart t0 t1 keeps.numbers.truth.noted keeps.committed consistent.tables.apart;
    };
    newest = λ honest power o c p is.
        let was : d0.honest ≡ true = sym keeps.lasts.honest ∙ honest in
        stays was power o c p (held o c p is) (consistent.newest was (had_power d0 d1 keeps.lasts power) o c p is);
    ordinary = λ honest. consistent.ordinary (sym keeps.lasts.honest ∙ honest);
    limits = keeps.limits consistent.limits;
  }

  -- and no block is open
  pub consistent_committed : t1.open_block ≡ None → (d0.honest ≡ true → d1.gone ≡ false → KeepsCommittedAt t0 d0.flash d1.flash) → IsConsistentLog spare d1 t1 x
  consistent_committed closed = consistent_still (λ o is. let two : None ≡ Some o = sym closed ∙ is in absurd cc)
