-- Many keys that can be found.
use Rattle.std.specs.Prelude.{ℕ}
use Rattle.std.proofs.Common.{sym, subst}
use Rattle.nand_model.specs.Flash.{Flash}
use Rattle.nand_model.specs.declared.geometry.Geometry.{Geometry}
use Rattle.flash_tree.specs.Summaries.{AreFindable}
use Rattle.mount_scan.specs.Summarized.{IsKey}

-- of keys that can be found each can
one_findable : (g : Geometry) (flash : Flash) (keys : ℕ → ℕ → Type 0) (o c : ℕ) → AreFindable g flash keys → keys o c → AreFindable g flash (IsKey o c)
one_findable g flash keys o c are key = record {
  ordinary = λ k l is. are.ordinary k l (moved k l is);
  there = λ k l is. are.there k l (moved k l is);
  listed = λ s k l p whole matches is. are.listed s k l p whole matches (moved k l is);
  latest = λ s e p whole matches has is. are.latest s e p whole matches has (moved e.object e.chunk is);
  in_order = λ k l i p is. are.in_order k l i p (moved k l is);
} where
  moved : (k l : ℕ) → IsKey o c k l → keys k l
  moved k l is = subst (λ n. keys k n) (sym is.1) (subst (λ n. keys n c) (sym is.0) key)
