use Rattle.std.proofs.Common.{refl}
use Rattle.chunk_index.specs.declared.form.CommittedKey.{CommittedKey}
use Rattle.chunk_index.proofs.Following.{passed_none, passed_more, beyond_found, beyond_none}
use Rattle.chunk_index.proofs.index.Index.next_beyond.Goals as goal

pub loop-object-init : goal.loop-object-init
loop-object-init c = passed_none c.args.self.now c.args.after

pub returns-in-Some-next_chunk : goal.returns-in-Some-next_chunk
returns-in-Some-next_chunk c =
    let found : CommittedKey = record { key = record { object = c.in-Some.object; chunk = c.in-Some-next_chunk.chunk }; at = c.in-Some-next_chunk.at } in
    beyond_found c.args.self.now c.args.after c.loop-object.last c.in-Some.object c.loop-object.invariant c.in-Some.ensures found refl c.in-Some-next_chunk.ensures

pub loop-object-preserved : goal.loop-object-preserved
loop-object-preserved c = passed_more c.args.self.now c.args.after c.loop-object.last c.in-Some.object c.loop-object.invariant c.in-Some.ensures c.in_default-next_chunk.ensures

pub returns : goal.returns
returns c = beyond_none c.args.self.now c.args.after c.loop-object.last c.loop-object.invariant c.in_default.ensures
