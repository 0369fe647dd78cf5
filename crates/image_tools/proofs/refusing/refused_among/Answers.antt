use Rattle.std.proofs.Common.{◌≡◌, ◌+◌, ◌↔◌, [], All, Some, None, refl, take, sym, subst}
use Rattle.std.proofs.lemmas.List.{take_all}
use Rattle.image_tools.specs.Folders.{entry_of}
use Rattle.image_tools.specs.Refusing.{CanHave}
use Rattle.image_tools.specs.declared.folder.FolderEntry.{FolderEntry}
use Rattle.image_tools.proofs.Lists.{refused_one, refused_none}
use Rattle.image_tools.proofs.refusing.refused_among.Goals as goal
use Rattle.image_tools.proofs.refusing.refused_among.Goals.{in-Some+in_ok-path-in-Some+in_ok-push-in-Some, in-None}

pub loop-entry-preserved : goal.loop-entry-preserved
loop-entry-preserved c =
    let P = λ (entry : FolderEntry). CanHave c.args.greatest (entry_of entry) in
    elim c.match-entry_cause.branch [
      | in-Some+in_ok-path-in-Some+in_ok-push-in-Some w ↦ subst (λ r. (r.items ≡ []) ↔ All P (take (c.loop-entry.entry-index + 1) c.args.entries.now)) (sym w.refused-is)
          (refused_one P c.args.entries.now c.loop-entry.entry-index c.entry-item.result c.loop-entry-test.true c.entry-item.is c.loop-entry.refused.items w.push.new.self.items _ w.in_ok-push-in-Some.ensures.items
          (λ can. let bad : Some w.in-Some.cause ≡ None = w.in-Some.ensures.1 can in cc))
      | in-None w ↦ subst (λ r. (r.items ≡ []) ↔ All P (take (c.loop-entry.entry-index + 1) c.args.entries.now)) (sym w.refused-is)
          (refused_none P c.args.entries.now c.loop-entry.entry-index c.entry-item.result c.loop-entry-test.true c.entry-item.is c.loop-entry.refused.items c.loop-entry.invariant (w.in-None.ensures.0 refl))
    ]

pub returns : goal.returns
returns c = subst (λ entries. (c.loop-entry.refused.items ≡ []) ↔ All (λ (entry : FolderEntry). CanHave c.args.greatest (entry_of entry)) entries) (take_all c.loop-entry.entry-index c.args.entries.now c.loop-entry-test.false) c.loop-entry.invariant
