-- What keeps a table whole.
use Rattle.std.specs.Prelude.{◌≡◌, ◌<◌, ◌≤◌, ℕ, false, Option, Some, List, length, set}
use Rattle.std.proofs.Common.{sym, ap, subst, ◌∙◌, arith, inl, inr}
use Rattle.std.proofs.lemmas.Bool.{cases_eq}
use Rattle.std.proofs.lemmas.List.{get_or-set_same, get_or-set_other, length-set}
use Rattle.nand_model.specs.declared.geometry.Geometry.{Geometry}
use Rattle.block_state.specs.declared.blocks.BlockEntry.{BlockEntry}
use Rattle.block_state.specs.Table.{blank, entry_at, IsWhole}

-- Another entry for a block keeps it whole, if its seq was handed out and it may be open where its block is.
pub whole_set : (g : Geometry) (xs : List BlockEntry) (opened : Option ℕ) (n b : ℕ) (e : BlockEntry) → IsWhole g xs opened n → b < g.blocks
    → e.seq < n → (opened ≡ Some b → (e.bad ≡ false) × (e.next ≤ g.pages)) → IsWhole g (set xs b e) opened n
whole_set g xs opened n b e whole lt seq may =
    let within : b < length xs = omega (arith, lt, whole.count) in
    let same : entry_at (set xs b e) b ≡ e = get_or-set_same xs b e blank within in
    record {
      count = length-set xs b e ∙ whole.count;
      open_block = λ o is. elim (cases_eq o b) [
        | inl at ↦
            let ok = may (is ∙ ap Some at) in
            let here : entry_at (set xs b e) o ≡ e = ap (entry_at (set xs b e)) at ∙ same in
            record {
              within = omega (arith, at, lt);
              good = ap (λ (x : BlockEntry). x.bad) here ∙ ok.0;
              next = subst (λ (x : BlockEntry). x.next ≤ g.pages) (sym here) ok.1;
            }
        | inr ne ↦
            let was = whole.open_block o is in
            let there : entry_at (set xs b e) o ≡ entry_at xs o = get_or-set_other xs b o e blank ne in
            record {
              within = was.within;
              good = ap (λ (x : BlockEntry). x.bad) there ∙ was.good;
              next = subst (λ (x : BlockEntry). x.next ≤ g.pages) (sym there) was.next;
            }
      ];
      seqs = λ k. elim (cases_eq k b) [
        | inl at ↦ subst (λ (x : BlockEntry). x.seq < n) (sym (ap (entry_at (set xs b e)) at ∙ same)) seq
        | inr ne ↦ subst (λ (x : BlockEntry). x.seq < n) (sym (get_or-set_other xs b k e blank ne)) (whole.seqs k)
      ];
    }
