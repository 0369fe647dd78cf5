use Rattle.std.proofs.Common.{◌≡◌, ◌+◌, ℕ, None, min, subst, arith, rules}
use Rattle.pages.specs.laws.Faults.{says_more}
use Rattle.pages.specs.State.{PagesState}
use Rattle.directories.specs.Directories.{HasBeside}
use Rattle.directories.specs.Stores.{ObjectIn}
use Rattle.directories.specs.Writes.{WritesIn, WritesPages}
use Rattle.directories.specs.declared.head.DirectoryHead.{DirectoryHead}
use Rattle.directories.specs.declared.writing.Writing.{Writing}
use Rattle.directories.proofs.Results.{on_done, on_err, on_ok}
use Rattle.directories.proofs.addition.push_slot.Goals as goal

pub returns-clause-writes : goal.returns-clause-writes
returns-clause-writes g c = λ sound z size.
    let old : PagesState = g.P.Pages.state c.args.pages.now in
    let it : ObjectIn = record { sizes = z; pages = old.present; object = c.args.directory } in
    let totaled : c.in-Some.length ≡ c.args.head.length + 1 = search rules in
    let by : ℕ → DirectoryHead = λ k. record { spare = c.args.head.spare; length = k; moment = c.args.moment } in
    let writing : ℕ → Writing = λ k. record { first = record { number = c.args.head.length; slot = c.args.slot.now }; second = None; before = c.args.head.length; afterwards = k } in
    on_ok _ _ c.write.result (λ change w. subst (λ k. WritesIn it (writing k) (by k) change) totaled w) (c.write.ensures.writes sound z size)

pub returns-clause-pages : goal.returns-clause-pages
returns-clause-pages g c = λ sound z size.
    let old : PagesState = g.P.Pages.state c.args.pages.now in
    let it : ObjectIn = record { sizes = z; pages = old.present; object = c.args.directory } in
    let totaled : c.in-Some.length ≡ c.args.head.length + 1 = search rules in
    let writing : ℕ → Writing = λ k. record { first = record { number = c.args.head.length; slot = c.args.slot.now }; second = None; before = c.args.head.length; afterwards = k } in
    on_ok _ _ c.write.result (λ change w. subst (λ k. WritesPages it (writing k) change) totaled w) (c.write.ensures.pages sound z size)

pub returns-clause-beside : goal.returns-clause-beside
returns-clause-beside g c = λ sound z size.
    let old : PagesState = g.P.Pages.state c.args.pages.now in
    let n : ℕ = c.args.head.length in
    let totaled : c.in-Some.length ≡ n + 1 = search rules in
    let count : min n c.in-Some.length ≡ n = grind (arith, totaled) in
    on_done _ _ c.write.result (λ is. subst (λ k. HasBeside z old.present c.args.directory k n) count is) (c.write.ensures.beside sound z size)

pub returns-clause-fault : goal.returns-clause-fault
returns-clause-fault g c = λ sound z size are.
    on_err _ _ c.write.result (λ fault is. says_more _ _ _ _ _ _ (g.P.Pages.state c.write.new.pages) fault (λ x. x) (λ x. x) (λ x. absurd x) is) (c.write.ensures.fault sound z size are)
