use Rattle.std.proofs.Common.{◌≡◌, ◌≤◌, ◌<◌, ◌∙◌, ◌+◌, ◌-◌, List, ℕ, length, take, min, refl, sym, ap, subst, inl, inr, arith}
use Rattle.std.specs.Prelude.{true}
use Rattle.std.specs.FinMap as map
use Rattle.std.proofs.lemmas.Bool.{le-leb, lt-leb, eq-eqb, ne_eqb}
use Rattle.volume_terms.specs.Sizes.{greatest_length, most_written}
use Rattle.posix_profile.specs.Charge.{fits}
use Rattle.posix_profile.specs.Outcomes.{Outcome, answer}
use Rattle.posix_profile.specs.Changes.{with_bytes, with_offset, written}
use Rattle.posix_profile.specs.HandleSteps.{write_offset, write_count, objects_written}
use Rattle.posix_profile.specs.laws.Number.{greatest_cases}
use Rattle.posix_profile.specs.declared.reply.Reply.TheVariants as replies
use Rattle.command_plans.specs.Tables.{handle_of}
use Rattle.object_store.specs.Facts.{bytes_of}
use Rattle.command_plans.specs.laws.Plan.{refused, passed, passed_all}
use Rattle.object_commands.proofs.Making.{none_dropped}
use Rattle.object_commands.proofs.writing.write_file.Goals as goal

pub returns-then-greatest_length-offset : goal.returns-then-greatest_length-offset
returns-then-greatest_length-offset g c z s holds file small =
    let bytes = bytes_of (map.get s.objects c.args.description.object) in
    let off : c.write_offset-offset.result ≡ write_offset (handle_of c.args.description) bytes = c.write_offset-offset.ensures bytes (c.length-size.ensures z s.objects holds.has) in
    let most : c.greatest_length.result ≡ greatest_length z = c.greatest_length.ensures.value ∙ ap greatest_length (c.sizes.ensures ∙ holds.has.sizes) in
    let le : greatest_length z ≤ write_offset (handle_of c.args.description) bytes = omega (arith, c.if-greatest_length-offset.true) in
    refused s _ _ _ _ (le-leb _ _ le)

pub returns-then-count-eq0 : goal.returns-then-count-eq0
returns-then-count-eq0 g c z s holds file small =
    let bytes = bytes_of (map.get s.objects c.args.description.object) in
    let off : c.write_offset-offset.result ≡ write_offset (handle_of c.args.description) bytes = c.write_offset-offset.ensures bytes (c.length-size.ensures z s.objects holds.has) in
    let most : c.greatest_length.result ≡ greatest_length z = c.greatest_length.ensures.value ∙ ap greatest_length (c.sizes.ensures ∙ holds.has.sizes) in
    let lt : write_offset (handle_of c.args.description) bytes < greatest_length z = omega (arith, c.if-greatest_length-offset.false) in
    refused s _ _ _ _ (eq-eqb _ _ (sym (c.write_count-count.ensures.count z s holds file (c.length-size.ensures z s.objects holds.has) c.args.moment c.args.new.now refl) ∙ c.if-count-eq0.true))
    ∙ passed s _ _ _ _ (lt-leb _ _ lt)

pub returns : goal.returns
returns g c z s holds file small =
    let h = handle_of c.args.description in
    let bytes = bytes_of (map.get s.objects c.args.description.object) in
    let o = write_offset h bytes in
    let off : c.write_offset-offset.result ≡ write_offset h bytes = c.write_offset-offset.ensures bytes (c.length-size.ensures z s.objects holds.has) in
    let most : c.greatest_length.result ≡ greatest_length z = c.greatest_length.ensures.value ∙ ap greatest_length (c.sizes.ensures ∙ holds.has.sizes) in
    let lt : write_offset h bytes < greatest_length z = omega (arith, c.if-greatest_length-offset.false) in
    let count : c.write_count-count.result ≡ write_count z c.args.moment s h bytes c.args.new.now = c.write_count-count.ensures.count z s holds file (c.length-size.ensures z s.objects holds.has) c.args.moment c.args.new.now refl in
    let some = λ (none : write_count z c.args.moment s h bytes c.args.new.now ≡ 0). c.if-count-eq0.false (count ∙ none) in
    let end : c.saturating_add.result ≡ write_offset h bytes + c.write_count-count.result = omega (arith, c.saturating_add.ensures, c.greatest_length.ensures.small, c.write_count-count.ensures.small) in
    let out : ℕ → List ℕ → ℕ → ℕ → Outcome = λ off part end n. answer (with_offset (record { objects = with_bytes s.objects c.args.moment c.args.description.object (written bytes off part); handles = s.handles }) c.args.fd h end) (replies.Wrote n) in
    let fit : fits z (objects_written c.args.moment s h bytes c.args.new.now (write_count z c.args.moment s h bytes c.args.new.now)) ≡ true =
    elim (greatest_cases (λ k. fits z (objects_written c.args.moment s h bytes c.args.new.now k)) (min (length c.args.new.now) (min (most_written z) (greatest_length z - o)))).1 [
      | inl none ↦ absurd (some none)
      | inr yes' ↦ yes'
    ] in
    let part : c.split_at.result.0.now ≡ take (write_count z c.args.moment s h bytes c.args.new.now) c.args.new.now = c.split_at.ensures.front ∙ ap (λ k. take k c.args.new.now) count in
    let part_few : length c.split_at.result.0.now ≡ c.write_count-count.result = omega (arith, c.split_at.ensures) in
    let far : c.write_offset-offset.result + length c.split_at.result.0.now ≤ greatest_length z = omega (arith, part_few, count, off, (greatest_cases (λ k. fits z (objects_written c.args.moment s h bytes c.args.new.now k)) (min (length c.args.new.now) (min (most_written z) (greatest_length z - o)))).0) in
    let short : length c.split_at.result.0.now ≤ most_written z = omega (arith, part_few, count, (greatest_cases (λ k. fits z (objects_written c.args.moment s h bytes c.args.new.now k)) (min (length c.args.new.now) (min (most_written z) (greatest_length z - o)))).0) in
    record {
      means =
          ap (λ off. out off c.split_at.result.0.now c.saturating_add.result c.write_count-count.result) off
          ∙ ap (λ part. out o part c.saturating_add.result c.write_count-count.result) part
          ∙ ap (λ e. out o (take (write_count z c.args.moment s h bytes c.args.new.now) c.args.new.now) e c.write_count-count.result) end
          ∙ ap (λ k. out o (take (write_count z c.args.moment s h bytes c.args.new.now) c.args.new.now) (o + k) k) count
          ∙ passed_all s _ ∙ passed s _ _ _ _ (ne_eqb _ _ some) ∙ passed s _ _ _ _ (lt-leb _ _ lt);
      range = small;
      can = record {
        sensible = (file, far, short);
        takes = tt;
        empty = none_dropped s.objects;
        fits = subst (λ off. fits z (with_bytes s.objects c.args.moment c.args.description.object (written bytes off c.split_at.result.0.now)) ≡ true) (sym off)
            (subst (λ part. fits z (with_bytes s.objects c.args.moment c.args.description.object (written bytes o part)) ≡ true) (sym part) fit);
      };
      suits = refl;
    }
