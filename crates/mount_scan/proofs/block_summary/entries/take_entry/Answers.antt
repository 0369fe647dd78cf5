use Rattle.std.proofs.Common.{◌∷◌, ◌++◌, [], List, sym, subst, ◌∙◌}
use Rattle.std.proofs.lemmas.Bool.{false≢true}
use Rattle.page_tags.specs.declared.check.CheckEntry.{CheckEntry}
use Rattle.mount_scan.specs.SummaryContents.{AreListed, MayCome}
use Rattle.mount_scan.proofs.SummaryEntries.{listed_push, push_listed}
use Rattle.mount_scan.proofs.block_summary.entries.take_entry.Goals as goal

pub returns-then-not-may_come-clause-no : goal.returns-then-not-may_come-clause-no
returns-then-not-may_come-clause-no c is are =
    let e : CheckEntry = c.decode_check_entry-entry.result in
    let es : List CheckEntry = c.args.entries.now.items in
    let are' : AreListed c.args.geometry.now c.args.head.now (es ++ e ∷ []) = subst (λ x. AreListed c.args.geometry.now c.args.head.now (es ++ x ∷ [])) (sym c.decode_check_entry-entry.ensures.is) are in
    let may : MayCome c.args.geometry.now c.args.head.now es e = push_listed c.args.geometry.now c.args.head.now es e are' in
    false≢true (sym c.if-not-may_come.true ∙ c.may_come.ensures.1 (subst (λ xs. MayCome c.args.geometry.now c.args.head.now xs e) (sym c.deref.ensures.value) may))

pub returns-clause-yes : goal.returns-clause-yes
returns-clause-yes c is =
    let e : CheckEntry = c.decode_check_entry-entry.result in
    let es : List CheckEntry = c.args.entries.now.items in
    let may : MayCome c.args.geometry.now c.args.head.now es e = subst (λ xs. MayCome c.args.geometry.now c.args.head.now xs e) c.deref.ensures.value (c.may_come.ensures.0 c.if-not-may_come.false) in
    subst (AreListed c.args.geometry.now c.args.head.now) (sym c.in_ok-push.ensures.items) (listed_push c.args.geometry.now c.args.head.now es e c.requires.so_far c.decode_check_entry-entry.ensures.valid may)
