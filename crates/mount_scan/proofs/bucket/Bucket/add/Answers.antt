use Rattle.std.proofs.Common.{◌∷◌, [], Contains, inl, inr, subst, sym, arith}
use Rattle.mount_scan.specs.Keys.{Thins}
use Rattle.mount_scan.proofs.Thinning.{thins_push, thins_on, among_old, one_or_none}
use Rattle.mount_scan.proofs.bucket.Bucket.add.Goals as goal

pub returns-in_err-make_room-clause-among : goal.returns-in_err-make_room-clause-among
returns-in_err-make_room-clause-among c f has = inl (among_old _ _ c.make_room.ensures f has)

pub returns-in_err-push-clause-among : goal.returns-in_err-push-clause-among
returns-in_err-push-clause-among c f has = inl (among_old _ _ c.make_room.ensures f (subst (λ xs. Contains xs f) c.in_err-push.ensures.items has))

pub returns-clause-among : goal.returns-clause-among
returns-clause-among c f has = one_or_none _ _ c.args.found c.make_room.ensures f (subst (λ xs. Contains xs f) c.in_ok-push.ensures.items has)

pub returns-clause-added : goal.returns-clause-added
returns-clause-added c =
    subst (Thins _ _) (sym c.in_ok-push.ensures.items) (thins_on [] (c.args.found ∷ []) (c.args.found ∷ []) _ _ _ (λ f has. inr has)
    (λ f has. elim has [ inl none ↦ absurd (omega (arith, none.1)) | inr is ↦ is ])
    c.make_room.ensures (thins_push _ c.args.found))
