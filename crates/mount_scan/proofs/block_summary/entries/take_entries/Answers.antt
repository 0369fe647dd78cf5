use Rattle.std.proofs.Common.{◌≡◌, ◌+◌, ◌-◌, ◌*◌, ◌∷◌, ◌++◌, [], ℕ, List, take, drop, sym, ap, subst, ◌∙◌, arith}
use Rattle.page_tags.specs.Checks.{check_entry_in}
use Rattle.page_tags.specs.declared.check.CheckEntry.{CheckEntry}
use Rattle.mount_scan.specs.SummaryContents.{AreListed, entries_in}
use Rattle.mount_scan.proofs.SummaryEntries.{entries_more, front_listed}
use Rattle.mount_scan.proofs.block_summary.entries.take_entries.Goals as goal

-- the entries so far and the one that is cut out next
next_entries : (bytes : List ℕ) (k : ℕ) (es : List CheckEntry) → es ≡ entries_in bytes k → es ++ check_entry_in (take (32 * (1 + k) + 32 - 32 * (1 + k)) (drop (32 * (1 + k)) bytes)) ∷ [] ≡ entries_in bytes (k + 1)
next_entries bytes k es is =
    let size : 32 * (1 + k) + 32 - 32 * (1 + k) ≡ 32 = omega arith in
    ap (λ xs. xs ++ check_entry_in (take (32 * (1 + k) + 32 - 32 * (1 + k)) (drop (32 * (1 + k)) bytes)) ∷ []) is
    ∙ ap (λ n. entries_in bytes k ++ check_entry_in (take n (drop (32 * (1 + k)) bytes)) ∷ []) size ∙ sym (entries_more bytes k)

pub returns-then-not-branch-clause-no : goal.returns-then-not-branch-clause-no
returns-then-not-branch-clause-no c is are =
    let next = next_entries c.args.bytes.now c.loop-k.k c.loop-k.entries.items c.loop-k.invariant.is in
    let front = front_listed c.args.geometry.now c.args.head.now c.args.bytes.now (c.loop-k.k + 1) c.args.head.now.entries (omega (arith, c.loop-k-test.true)) are in
    c.in_ok-take_entry.ensures.no c.if-not-branch.true (subst (AreListed c.args.geometry.now c.args.head.now) (sym next) front)

pub loop-k-preserved : goal.loop-k-preserved
loop-k-preserved c = record {
  is = c.in_ok-take_entry.ensures.is c.if-not-branch.false ∙ next_entries c.args.bytes.now c.loop-k.k c.loop-k.entries.items c.loop-k.invariant.is;
  listed = c.in_ok-take_entry.ensures.yes c.if-not-branch.false;
}
