use Rattle.std.proofs.Common.{◌≡◌, ◌+◌, ◌<◌, get_or, length, arith, ap, subst, ◌∙◌}
use Rattle.std.proofs.lemmas.List.{get_or_default}
use Rattle.block_state.specs.TableOf.{table}
use Rattle.flash_tree.specs.declared.place.Key.{Key}
use Rattle.chunk_index.specs.Settled.{SettlesChunks, IsChunkIn}
use Rattle.chunk_index.proofs.SettlingKeys.{chunk_may, chunks_then, in_more, object_more}
use Rattle.chunk_index.proofs.object.ObjectEntries.settle_run.Goals as goal

pub settle_chunk-requires : goal.settle_chunk-requires
settle_chunk-requires c =
    let d : Key = record { object = 0; chunk = 0 } in
    record {
      may = chunk_may c.args.group (IsChunkIn c.args.keys.now c.args.from c.loop-at.at) c.args.self.now.entries.items c.loop-at.self.entries.items (table c.args.blocks.now) (table c.loop-at.blocks) c.requires.may c.loop-at.invariant.settles
          (get_or c.args.keys.now c.loop-at.at d).chunk;
    }

pub loop-at-preserved : goal.loop-at-preserved
loop-at-preserved c =
    let keys = c.args.keys.now in
    let from = c.args.from in
    let n = c.loop-at.at in
    let d : Key = record { object = 0; chunk = 0 } in
    let k = get_or keys n d in
    let lt : n < length keys = omega (arith, c.loop-at-test.true) in
    let same = λ (e : Key). get_or_default keys n e d lt in
    record {
      settles = chunks_then c.args.group (IsChunkIn keys from n) (IsChunkIn keys from (n + 1)) _ _ _ _ _ _ c.loop-at.invariant.settles k.chunk c.settle_chunk.ensures.alters c.settle_chunk.ensures.counts (in_more keys from n k same);
      object = object_more keys from n c.args.object c.loop-at.invariant.object (λ e. ap (λ (x : Key). x.object) (same e) ∙ c.if-keys-at.false);
    }

pub returns-clause-settles : goal.returns-clause-settles
returns-clause-settles c =
    let keys = c.args.keys.now in
    let all : c.loop-at.at ≡ length keys = omega (arith, c.loop-at-test.false, c.loop-at.auto.at-end, c.requires.from) in
    subst (λ q. SettlesChunks c.args.group (IsChunkIn keys c.args.from q) c.args.self.now.entries.items c.loop-at.self.entries.items (table c.args.blocks.now) (table c.loop-at.blocks)) all c.loop-at.invariant.settles
