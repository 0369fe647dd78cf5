-- What holds of moves in turn.
use Rattle.std.proofs.Common.{◌≡◌, ℕ, Some, None, refl, sym, ap, subst, ◌∙◌, inl, inr}
use Rattle.std.proofs.lemmas.Bool.{cases_eq}
use Rattle.nand_model.specs.Calls.{Device}
use Rattle.block_state.specs.Table.{Table}
use Rattle.chunk_index.specs.declared.form.CommittedPage.{CommittedPage}
use Rattle.chunk_index.specs.declared.form.Present.{Present}
use Rattle.chunk_index.specs.declared.form.Present.TheVariants as presents
use Rattle.chunk_index.specs.declared.index.Index.{Index}
use Rattle.chunk_index.specs.Committed.{HoldsNone}
use Rattle.chunk_index.specs.Maps.{committed_pages, present, moved_to}
use Rattle.flash_log.specs.Moving.{MovesOut, IsCommittedPageIn}
use Rattle.flash_log.specs.Consistency.{IsConsistentLog}

pub moved_twice : (q r : CommittedPage) (p : Present) → moved_to r (moved_to q p) ≡ moved_to r p
moved_twice q r presents.Absent = refl
moved_twice q r (presents.OnFlash k) = refl
moved_twice q r (presents.InBuffer i) = refl

-- pages that were moved out of a block, into one that held none, and then out of that
pub moves_out_on : (v w : ℕ) (x y z : Index) → HoldsNone (committed_pages x) w → MovesOut v x y → MovesOut w y z → MovesOut v x z
moves_out_on v w x y z none first second = record {
  moved = λ o c p is here.
      let f = first.moved o c p is here in
      elim (cases_eq f.at.block w) [
        | inl inside ↦
            let s = second.moved o c f.at f.is inside in
            record { at = s.at; is = s.is; version = s.version ∙ f.version; present = s.present ∙ ap (moved_to s.at) f.present ∙ moved_twice f.at s.at (present x o c) }
        | inr ne ↦
            let out : IsCommittedPageIn w y o c → ⊥ = λ (q, at, inside).
            let both : Some f.at ≡ Some q = sym f.is ∙ at in
            let same : f.at ≡ q = cc in
            ne (ap (λ (k : CommittedPage). k.block) same ∙ inside) in
            record { at = f.at; is = second.committed o c out ∙ f.is; version = f.version; present = second.present o c out ∙ f.present }
      ];
  committed = λ o c out. second.committed o c (λ (q, at, inside). none o c q (sym (first.committed o c out) ∙ at) inside) ∙ first.committed o c out;
  present = λ o c out. second.present o c (λ (q, at, inside). none o c q (sym (first.committed o c out) ∙ at) inside) ∙ first.present o c out;
  prepared = λ o c is. second.prepared o c (first.prepared o c is);
  can_write = λ o c is. second.can_write o c (first.can_write o c is);
}

-- a table that is closed besides
pub consistent_closed : (spare : ℕ) (d : Device) (t u : Table) (x : Index) → u ≡ record t { open_block = None } → IsConsistentLog spare d t x → IsConsistentLog spare d u x
consistent_closed spare d t u x is consistent = subst (λ (s : Table). IsConsistentLog spare d s x) (sym is) (record {
  tables = record {
    counts = record { counts = consistent.tables.counts.counts; within = consistent.tables.counts.within };
    within = λ o c p at. let may = consistent.tables.within o c p at in record { block = may.block; page = may.page; name = may.name };
    fits = consistent.tables.fits;
    written = λ o at. let two : None ≡ Some o = at in absurd cc;
    uncommitted = consistent.tables.uncommitted;
    apart = consistent.tables.apart;
  };
  newest = consistent.newest;
  ordinary = consistent.ordinary;
  limits = consistent.limits;
})
