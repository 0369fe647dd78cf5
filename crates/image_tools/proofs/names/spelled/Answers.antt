use Rattle.std.proofs.Common.{◌<◌, All, get_or, sym, subst, refl, arith, rules}
use Rattle.std.proofs.lemmas.List.Elements.{All-append}
use Rattle.image_tools.specs.HostNames.{IsSafe, spelled_byte}
use Rattle.image_tools.specs.declared.names.Spelling.{Spelling}
use Rattle.image_tools.proofs.Escapes.{IsLow, more_read, all_read, safe_byte, low_byte, ascii_from_low}
use Rattle.image_tools.proofs.names.spelled.Goals as goal

pub loop-byte-preserved : goal.loop-byte-preserved
loop-byte-preserved c =
    let byte = get_or c.args.name.now c.loop-byte.byte-index 0 in
    let small : byte < 256 = search rules in
    record {
      safe = subst (All IsSafe) (sym c.in_ok-push_byte.ensures) (All-append IsSafe c.loop-byte.host.items (spelled_byte c.args.spelling byte) c.loop-byte.invariant.safe (safe_byte c.args.spelling byte));
      reads = more_read c.args.spelling c.loop-byte.host.items c.args.name.now c.push_byte.new.host.items c.loop-byte.byte-index byte c.loop-byte-test.true refl small c.in_ok-push_byte.ensures c.loop-byte.invariant.reads;
      ascii = λ is. subst (All IsLow) (sym c.in_ok-push_byte.ensures) (All-append IsLow c.loop-byte.host.items (spelled_byte c.args.spelling byte) (c.loop-byte.invariant.ascii is)
          (subst (λ (k : Spelling). All IsLow (spelled_byte k byte)) (sym is) (low_byte byte small)));
    }

pub returns-clause-reads_back : goal.returns-clause-reads_back
returns-clause-reads_back c = all_read c.loop-byte.host.items c.args.name.now c.loop-byte.byte-index (omega (arith, c.loop-byte-test.false, c.loop-byte.auto.byte-index-end)) c.loop-byte.invariant.reads

pub returns-clause-ascii : goal.returns-clause-ascii
returns-clause-ascii c = λ is. ascii_from_low c.loop-byte.host.items (c.loop-byte.invariant.ascii is)
