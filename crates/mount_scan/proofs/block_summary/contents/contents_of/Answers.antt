use Rattle.std.proofs.Common.{◌≡◌, ◌+◌, ◌*◌, ℕ, List, length, drop, replicate, sym, subst, ◌∙◌, arith}
use Rattle.std.proofs.lemmas.Bool.{false≢true}
use Rattle.std.proofs.lemmas.List.{take_rest}
use Rattle.page_tags.specs.declared.summary_head.SummaryHead.{SummaryHead}
use Rattle.mount_scan.specs.SummaryContents.{AreListed, entries_in}
use Rattle.mount_scan.proofs.SummaryBytes.{one_begin, head_said, entries_said, zeros_said, says_so}
use Rattle.mount_scan.proofs.block_summary.contents.contents_of.Goals as goal

pub returns-in_default-clause-none : goal.returns-in_default-clause-none
returns-in_default-clause-none c head es says = c.in_default.ensures.none head (head_said c.args.geometry.now c.args.count c.args.bytes.now c.requires.size head es says)

pub returns-then-not-branch-clause-none : goal.returns-then-not-branch-clause-none
returns-then-not-branch-clause-none c head es says =
    let begins = head_said c.args.geometry.now c.args.count c.args.bytes.now c.requires.size head es says in
    let same : head ≡ c.in-Some.head = one_begin c.args.geometry.now c.args.count c.args.bytes.now head c.in-Some.head begins c.in-Some.ensures.found in
    let all = entries_said c.args.geometry.now c.args.count c.args.bytes.now c.requires.size head es says in
    c.in_ok-take_entries.ensures.no c.if-not-branch.true
    (subst (λ (h : SummaryHead). AreListed c.args.geometry.now h (entries_in c.args.bytes.now h.entries)) same (subst (AreListed c.args.geometry.now head) all says.listed))

pub returns-then-not-are_zero-clause-none : goal.returns-then-not-are_zero-clause-none
returns-then-not-are_zero-clause-none c head es says =
    let bytes : List ℕ = c.args.bytes.now in
    let begins = head_said c.args.geometry.now c.args.count bytes c.requires.size head es says in
    let same : head ≡ c.in-Some.head = one_begin c.args.geometry.now c.args.count bytes head c.in-Some.head begins c.in-Some.ensures.found in
    let zeros = subst (λ (h : SummaryHead). drop (32 * (1 + h.entries)) bytes ≡ replicate (length (drop (32 * (1 + h.entries)) bytes)) 0) same (zeros_said c.args.geometry.now c.args.count bytes c.requires.size head es says) in
    false≢true (sym c.if-not-are_zero.true ∙ c.are_zero.ensures.1 (subst (λ xs. xs ≡ replicate (length xs) 0) (sym (take_rest bytes (32 * (1 + c.in-Some.head.entries)))) zeros))

pub returns-clause-found : goal.returns-clause-found
returns-clause-found c =
    let bytes : List ℕ = c.args.bytes.now in
    let zeros = subst (λ xs. xs ≡ replicate (length xs) 0) (take_rest bytes (32 * (1 + c.in-Some.head.entries))) (c.are_zero.ensures.0 c.if-not-are_zero.false) in
    says_so c.args.geometry.now c.args.count bytes c.in-Some.head c.take_entries.new.entries.items c.requires.size (λ i. let byte = c.type_inv.bytes i in omega arith) c.in-Some.ensures.found
    (c.in_ok-take_entries.ensures.is c.if-not-branch.false) (c.in_ok-take_entries.ensures.yes c.if-not-branch.false) zeros
