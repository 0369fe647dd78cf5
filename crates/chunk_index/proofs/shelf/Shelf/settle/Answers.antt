use Rattle.std.proofs.Common.{◌⊎◌, inl, inr, subst}
use Rattle.block_state.specs.TableOf.{table}
use Rattle.chunk_index.specs.Shelves.{IsListed}
use Rattle.chunk_index.specs.Settled.{SettlesWhere}
use Rattle.chunk_index.specs.Noted.{IsCut}
use Rattle.chunk_index.proofs.Noting.{where_then, where_all, one_noted}
use Rattle.chunk_index.proofs.shelf.Shelf.settle.Goals as goal

pub returns-clause-looks : goal.returns-clause-looks
returns-clause-looks c =
    let g = c.args.group in
    let keys = c.args.changes.now.keys.items in
    let cuts = c.args.changes.now.cuts.items in
    let old = c.args.self.now.objects in
    let mid = c.settle_keys.new.self.objects in
    let new = c.settle_cuts.new.self.objects in
    let t = table c.args.blocks.now in
    let u = table c.settle_keys.new.blocks in
    let v = table c.settle_cuts.new.blocks in
    let one = subst (λ ks. SettlesWhere g (IsListed ks) old mid t u) c.deref.ensures.value c.settle_keys.ensures in
    let two = subst (λ ks. SettlesWhere g (IsCut ks) mid new u v) c.deref-2.ensures.value c.settle_cuts.ensures in
    let both = where_then g (IsListed keys) (IsCut cuts) (λ o l. IsListed keys o l ⊎ IsCut cuts o l) old mid new t u v one two (λ o l is. elim is [ inl k ↦ inl k | inr k ↦ inr (inl k) ]) in
    where_all g (λ o l. IsListed keys o l ⊎ IsCut cuts o l) old new t v both (λ o l not. one_noted keys cuts c.args.changes.now.has_all o l c.if-changes.false (c.requires.noted o l not))
