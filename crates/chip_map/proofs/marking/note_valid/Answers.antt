use Rattle.std.proofs.Common.{◌≡◌, length, subst, arith}
use Rattle.chip_map.specs.Valid.{Notes}
use Rattle.chip_map.proofs.Noted.{all_noted, none_noted}
use Rattle.chip_map.proofs.marking.note_valid.Goals as goal

pub note_at-requires-clause-within : goal.note_at-requires-clause-within
note_at-requires-clause-within c = λ k f at. let is = c.requires.within k f at in (is.0, omega (arith, is.1, c.loop-i.auto.pages))

pub loop-i-init : goal.loop-i-init
loop-i-init c = λ flash valid each noted. none_noted flash _ _ _ noted

pub loop-i-preserved : goal.loop-i-preserved
loop-i-preserved c = λ flash valid each noted. c.note_at.ensures flash valid each (c.loop-i.invariant flash valid each noted)

pub returns : goal.returns
returns c = λ flash valid each noted.
    let end : c.loop-i.i ≡ length c.args.valid.now = omega (arith, c.loop-i-test.false, c.loop-i.auto.i-end) in
    all_noted flash c.args.valid.now valid c.args.block_pages c.loop-i.pages (subst (λ n. Notes flash c.args.block_pages c.args.valid.now n c.loop-i.pages) end (c.loop-i.invariant flash valid each noted))
