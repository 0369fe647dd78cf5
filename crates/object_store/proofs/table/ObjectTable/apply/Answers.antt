use Rattle.std.proofs.Common.{◌≡◌, ◌∙◌, ◌-◌, ℕ, true, Some, None, length, replicate, ◌++◌, refl, sym, subst, inl, inr, arith}
use Rattle.std.proofs.lemmas.List.{length-take, length-append, length-replicate}
use Rattle.std.specs.FinMap as map
use Rattle.volume_terms.specs.Sizes.{Sizes}
use Rattle.posix_profile.specs.Changes.{with_name, without_name, with_bytes, written, resized}
use Rattle.posix_profile.specs.Charge.{fits}
use Rattle.posix_profile.specs.WellFormed.{IsNamed}
use Rattle.posix_profile.specs.State.{File}
use Rattle.posix_profile.specs.laws.Name.{namer_directory, named_entry, not_both}
use Rattle.posix_profile.specs.laws.Number.{greatest_length_few}
use Rattle.object_store.specs.Changes.{made, without, NamesNothing, CanMake}
use Rattle.object_store.specs.Facts.{bytes_of}
use Rattle.object_store.specs.Totaled.{Counts, CanGo, GetsName, LosesName}
use Rattle.object_store.specs.Reported.{table_sizes}
use Rattle.object_store.proofs.Applying.{fits_countable, can_count, remove_ready, left_goes, dropped_is, move_absent, same_moved, clear_ready, move_cleared, replaced_goes}
use Rattle.object_store.proofs.table.ObjectTable.apply.Goals as goal

pub returns-in-Create-clause-reports : goal.returns-in-Create-clause-reports
returns-in-Create-clause-reports c = λ objects reports can makes.
    let make = subst (CanMake (table_sizes c.args.self.now) objects) c.in-Create.is makes in
    subst (λ change. Counts c.create.new.self.totaled (made objects change)) (sym c.in-Create.is)
    (c.create.ensures.reports objects c.in-Create.entry.name.now reports can (record { directory_is = make.sensible.directory; absent = make.sensible.absent; fits = make.fits }))

pub returns-in-Name-clause-reports : goal.returns-in-Name-clause-reports
returns-in-Name-clause-reports c = λ objects reports can makes.
    let make = subst (CanMake (table_sizes c.args.self.now) objects) c.in-Name.is makes in
    subst (λ change. Counts c.add_name.new.self.totaled (made objects change)) (sym c.in-Name.is)
    (c.add_name.ensures.reports objects c.in-Name.entry.name.now reports (record {
      directory_is = make.sensible.0.directory;
      absent = make.sensible.0.absent;
      there = (File make.sensible.1.0 make.sensible.1.1, make.sensible.1.2);
      unnamed = λ dir _. not_both objects c.in-Name.number make.sensible.1 dir;
      before = can_count (table_sizes c.args.self.now) objects can;
      after = fits_countable (table_sizes c.args.self.now) (with_name objects c.in-Name.moment c.in-Name.entry.directory c.in-Name.entry.name.now c.in-Name.number) can.numbers make.fits;
    }))

pub returns-in-Remove-clause-reports : goal.returns-in-Remove-clause-reports
returns-in-Remove-clause-reports c = λ objects reports can makes.
    let make = subst (CanMake (table_sizes c.args.self.now) objects) c.in-Remove.is makes in
    let was = make.takes in
    let mid = c.remove_name.ensures.unnamed objects c.in-Remove.entry.name.now make.sensible.0 (was ∙ named_entry objects c.in-Remove.entry.directory make.sensible.0 c.in-Remove.entry.name.now make.sensible.1) reports
    (remove_ready (table_sizes c.args.self.now) objects can c.in-Remove.moment c.in-Remove.entry.directory make.sensible.0 c.in-Remove.entry.name.now make.sensible.1) in
    subst (λ change. Counts c.forget.new.self.totaled (made objects change)) (sym c.in-Remove.is)
    (c.forget.ensures.reports (without_name objects c.in-Remove.moment c.in-Remove.entry.directory c.in-Remove.entry.name.now) mid
    (λ k is.
    let same = dropped_is c.in-Remove.dropped make.sensible.0 make.sensible.2 k is in
    subst (λ (s : Sizes). CanGo s (without_name objects c.in-Remove.moment c.in-Remove.entry.directory c.in-Remove.entry.name.now) k) (sym c.remove_name.ensures.size)
    (subst (CanGo (table_sizes c.args.self.now) (without_name objects c.in-Remove.moment c.in-Remove.entry.directory c.in-Remove.entry.name.now)) same
    (left_goes (table_sizes c.args.self.now) objects can c.in-Remove.moment c.in-Remove.entry.directory make.sensible.0 c.in-Remove.entry.name.now make.sensible.1 (subst (NamesNothing objects) (sym same) (make.empty k is))))))

pub returns-in-Move-clause-reports : goal.returns-in-Move-clause-reports
returns-in-Move-clause-reports c = λ objects reports can makes.
    let make = subst (CanMake (table_sizes c.args.self.now) objects) c.in-Move.is makes in
    let was = make.takes in
    let first = c.remove_name-in-Move.ensures.unnamed objects c.in-Move.from.name.now c.in-Move.number refl reports
    (remove_ready (table_sizes c.args.self.now) objects can c.in-Move.moment c.in-Move.from.directory c.in-Move.number c.in-Move.from.name.now make.sensible.0) in
    let s1 = c.remove_name-in-Move.ensures.size in
    let s2 = c.remove_name-in-Move-2.ensures.size ∙ s1 in
    let s3 = c.add_name-in-Move.ensures.size ∙ s2 in
    subst (λ change. Counts c.forget-in-Move.new.self.totaled (made objects change)) (sym c.in-Move.is)
    (elim make.sensible.1 [
      | inl fresh ↦
          let second = c.remove_name-in-Move-2.ensures.none (without_name objects c.in-Move.moment c.in-Move.from.directory c.in-Move.from.name.now) (was ∙ fresh.0.absent) first in
          let third = c.add_name-in-Move.ensures.reports (without_name objects c.in-Move.moment c.in-Move.from.directory c.in-Move.from.name.now) c.in-Move.to.name.now second
          (subst (λ (s : Sizes). GetsName s (without_name objects c.in-Move.moment c.in-Move.from.directory c.in-Move.from.name.now) c.in-Move.moment c.in-Move.to.directory c.in-Move.to.name.now c.in-Move.number) (sym s2)
          (move_absent (table_sizes c.args.self.now) objects can c.in-Move.moment c.in-Move.from.directory c.in-Move.to.directory c.in-Move.number c.in-Move.from.name.now c.in-Move.to.name.now make.sensible.0 fresh.0.directory fresh.0.absent (subst (λ dropped. fits (table_sizes c.args.self.now) (without dropped (with_name (without_name objects c.in-Move.moment c.in-Move.from.directory c.in-Move.from.name.now) c.in-Move.moment c.in-Move.to.directory c.in-Move.to.name.now c.in-Move.number)) ≡ true) fresh.1 make.fits))) in
          c.forget-in-Move.ensures.reports (with_name (without_name objects c.in-Move.moment c.in-Move.from.directory c.in-Move.from.name.now) c.in-Move.moment c.in-Move.to.directory c.in-Move.to.name.now c.in-Move.number) third (λ k is. let two : None ≡ Some k = sym fresh.1 ∙ is in absurd cc)
      | inr other ↦
          let to = namer_directory objects c.in-Move.to.directory other.0 c.in-Move.to.name.now other.1 in
          let second = c.remove_name-in-Move-2.ensures.unnamed (without_name objects c.in-Move.moment c.in-Move.from.directory c.in-Move.from.name.now) c.in-Move.to.name.now other.0
          (was ∙ named_entry objects c.in-Move.to.directory other.0 c.in-Move.to.name.now other.1) first
          (subst (λ (s : Sizes). LosesName s (without_name objects c.in-Move.moment c.in-Move.from.directory c.in-Move.from.name.now) c.in-Move.to.directory c.in-Move.to.name.now other.0) (sym s1) (clear_ready (table_sizes c.args.self.now) objects can c.in-Move.moment c.in-Move.from.directory c.in-Move.to.directory c.in-Move.number c.in-Move.from.name.now c.in-Move.to.name.now make.sensible.0 to other.0 other.1 other.2)) in
          let third = c.add_name-in-Move.ensures.reports (without_name (without_name objects c.in-Move.moment c.in-Move.from.directory c.in-Move.from.name.now) c.in-Move.moment c.in-Move.to.directory c.in-Move.to.name.now) c.in-Move.to.name.now second
          (subst (λ (s : Sizes). GetsName s (without_name (without_name objects c.in-Move.moment c.in-Move.from.directory c.in-Move.from.name.now) c.in-Move.moment c.in-Move.to.directory c.in-Move.to.name.now) c.in-Move.moment c.in-Move.to.directory c.in-Move.to.name.now c.in-Move.number) (sym s2) (move_cleared (table_sizes c.args.self.now) objects can c.in-Move.moment c.in-Move.from.directory c.in-Move.to.directory c.in-Move.number c.in-Move.from.name.now c.in-Move.to.name.now make.sensible.0 to other.0 other.1 other.2)) in
          let now = subst (Counts c.add_name-in-Move.new.self.totaled) (same_moved (table_sizes c.args.self.now) objects can c.in-Move.moment c.in-Move.from.directory c.in-Move.to.directory c.in-Move.number c.in-Move.from.name.now c.in-Move.to.name.now make.sensible.0 to other.0 other.1 other.2) third in
          c.forget-in-Move.ensures.reports (with_name (without_name objects c.in-Move.moment c.in-Move.from.directory c.in-Move.from.name.now) c.in-Move.moment c.in-Move.to.directory c.in-Move.to.name.now c.in-Move.number) now
          (λ k is.
          let same = dropped_is c.in-Move.dropped other.0 other.3 k is in
          subst (λ (s : Sizes). CanGo s (with_name (without_name objects c.in-Move.moment c.in-Move.from.directory c.in-Move.from.name.now) c.in-Move.moment c.in-Move.to.directory c.in-Move.to.name.now c.in-Move.number) k) (sym s3)
          (subst (CanGo (table_sizes c.args.self.now) (with_name (without_name objects c.in-Move.moment c.in-Move.from.directory c.in-Move.from.name.now) c.in-Move.moment c.in-Move.to.directory c.in-Move.to.name.now c.in-Move.number)) same (replaced_goes (table_sizes c.args.self.now) objects can c.in-Move.moment c.in-Move.from.directory c.in-Move.to.directory c.in-Move.number c.in-Move.from.name.now c.in-Move.to.name.now make.sensible.0 to other.0 other.1 other.2 (subst (NamesNothing objects) (sym same) (make.empty k is)))))
    ])

pub returns-in-Write-clause-reports : goal.returns-in-Write-clause-reports
returns-in-Write-clause-reports c = λ objects reports can makes.
    let make = subst (CanMake (table_sizes c.args.self.now) objects) c.in-Write.is makes in
    let far = make.sensible.1 in
    let within_limit = greatest_length_few (table_sizes c.args.self.now) can.numbers in
    subst (λ change. Counts c.write.new.self.totaled (made objects change)) (sym c.in-Write.is)
    (c.write.ensures.reports objects c.in-Write.bytes.now reports make.sensible.0 (omega arith) (omega (arith, far, within_limit)) (can_count (table_sizes c.args.self.now) objects can)
    (fits_countable (table_sizes c.args.self.now) (with_bytes objects c.in-Write.moment c.in-Write.number (written (bytes_of (map.get objects c.in-Write.number)) c.in-Write.offset c.in-Write.bytes.now)) can.numbers make.fits))

pub returns-in-Resize-clause-reports : goal.returns-in-Resize-clause-reports
returns-in-Resize-clause-reports c = λ objects reports can makes.
    let make = subst (CanMake (table_sizes c.args.self.now) objects) c.in-Resize.is makes in
    let long : length (resized (bytes_of (map.get objects c.in-Resize.number)) c.in-Resize.length) ≡ c.in-Resize.length =
    omega (
      arith,
      length-take c.in-Resize.length (bytes_of (map.get objects c.in-Resize.number) ++ replicate (c.in-Resize.length - length (bytes_of (map.get objects c.in-Resize.number))) 0),
      length-append (bytes_of (map.get objects c.in-Resize.number)) (replicate (c.in-Resize.length - length (bytes_of (map.get objects c.in-Resize.number))) 0),
      length-replicate {A = ℕ} (c.in-Resize.length - length (bytes_of (map.get objects c.in-Resize.number))) 0,
    ) in
    subst (λ change. Counts c.set_length.new.self.totaled (made objects change)) (sym c.in-Resize.is)
    (c.set_length.ensures.reports objects (resized (bytes_of (map.get objects c.in-Resize.number)) c.in-Resize.length) reports make.sensible.0 long (can_count (table_sizes c.args.self.now) objects can)
    (fits_countable (table_sizes c.args.self.now) (with_bytes objects c.in-Resize.moment c.in-Resize.number (resized (bytes_of (map.get objects c.in-Resize.number)) c.in-Resize.length)) can.numbers make.fits))

pub returns-in-Forget-clause-reports : goal.returns-in-Forget-clause-reports
returns-in-Forget-clause-reports c = λ objects reports can makes.
    let make = subst (CanMake (table_sizes c.args.self.now) objects) c.in-Forget.is makes in
    subst (λ change. Counts c.forget-in-Forget.new.self.totaled (made objects change)) (sym c.in-Forget.is)
    (c.forget-in-Forget.ensures.reports objects reports
    (λ k is. record {
      blank = make.empty k is;
      unnamed = λ dir named. make.sensible.1 (let same : c.in-Forget.number ≡ k = cc in subst (IsNamed objects) (sym same) named);
      countable = can_count (table_sizes c.args.self.now) objects can;
    }))
