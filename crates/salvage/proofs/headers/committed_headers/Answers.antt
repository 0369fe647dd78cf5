use Rattle.std.proofs.Common.{◌<◌, ◌^◌, None, refl, sym, subst, arith}
use Rattle.chunk_index.specs.Maps.{committed_pages}
use Rattle.salvage.specs.Headers.{ListsUpTo}
use Rattle.salvage.proofs.Committed.{fewer, lists_all, lists_more, lists_none}
use Rattle.salvage.proofs.headers.committed_headers.Goals as goal

pub loop-found-init : goal.loop-found-init
loop-found-init c = record { lists = subst (ListsUpTo (committed_pages c.args.index.now) None) (sym c.new-headers.ensures.items) (lists_none (committed_pages c.args.index.now)); last = tt }

pub loop-found-preserved : goal.loop-found-preserved
loop-found-preserved c =
    let found = c.in-Some.found in
    let within_limit : found.key.chunk < 2 ^ 64 = omega arith in
    record {
      lists = lists_more (committed_pages c.args.index.now) c.loop-found.last c.loop-found.headers.items found c.put_header.new.headers.items c.loop-found.invariant.last within_limit c.loop-found.invariant.lists
          c.in-Some.ensures c.in_ok-put_header.ensures 18446744073709551615;
      last = refl;
    }

pub loop-found-smaller : goal.loop-found-smaller
loop-found-smaller c =
    let found = c.in-Some.found in
    fewer c.loop-found.last found.key 18446744073709551615 c.loop-found.invariant.last (omega arith) (omega arith) c.in-Some.ensures.1

pub returns : goal.returns
returns c = lists_all (committed_pages c.args.index.now) c.loop-found.last c.loop-found.headers.items c.loop-found.invariant.lists c.in_default.ensures
