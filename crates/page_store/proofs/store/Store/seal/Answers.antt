use Rattle.std.proofs.Common.{refl, arith}
use Rattle.block_state.specs.TableOf.{table}
use Rattle.page_store.specs.StateOf.{lent_by, state_of}
use Rattle.page_store.proofs.Sealed.{sealed_broken, sealed_done, sealed_failed}
use Rattle.page_store.proofs.store.Store.seal.Goals as goal

pub returns-then-self-clause-seals : goal.returns-then-self-clause-seals
returns-then-self-clause-seals g c =
    let s = c.args.self in
    sealed_broken (state_of s) (lent_by s) _ _ refl c.if-self.true

pub returns-in-Ok-clause-seals : goal.returns-in-Ok-clause-seals
returns-in-Ok-clause-seals g c =
    let s = c.args.self in
    let e = c.seal.ensures in
    sealed_done (state_of s) (lent_by s)
    (g.N.Nand.state c.seal.new.self.device) (table c.seal.new.self.blocks) s.log.can_write s.log.consistent c.if-self.false s.newest c.the_counts_are_of_the_keys.ensures.none e.seals e.marks s.log.mountable (λ before. let reserve = c.in-Ok.ensures.within_limit before in let same = e.terms.spare in omega (arith, reserve, same)) c.in-Ok.ensures.ends

pub returns-clause-seals : goal.returns-clause-seals
returns-clause-seals g c =
    let s = c.args.self in
    let e = c.seal.ensures in
    sealed_failed (state_of s) (lent_by s)
    (g.N.Nand.state c.seal.new.self.device) (table c.seal.new.self.blocks) s.log.can_write s.log.consistent c.if-self.false s.newest c.the_counts_are_of_the_keys.ensures.none e.seals e.marks s.log.mountable c.in-Err.fault _ c.store_fault.ensures c.in-Err.ensures.ends
