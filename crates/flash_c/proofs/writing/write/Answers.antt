use Rattle.std.proofs.Common.{◌∙◌, arith, inl, inr, w64}
use Rattle.std.proofs.lemmas.Int.{to_z-of_z}
use Rattle.flash_c.specs.Sessions.{Writing, none}
use Rattle.flash_c.specs.Serving.{serves}
use Rattle.flash_c.proofs.Writes.{one_more, handed_in}
use Rattle.flash_c.proofs.writing.write.Goals as goal

pub writes-init : goal.writes-init
writes-init c = record { written = none; within = omega arith }

pub writes-preserved : goal.writes-preserved
writes-preserved c = let issued : Writing = record { moment = c.args.moment; fd = c.args.fd; bytes = c.args.bytes.now } in record {
  written = one_more serves issued c.args.session.now c.writes.session c.serve-reply.new.self c.writes.done c.in-Some.count c.serve-reply.result
      c.writes.invariant.written (handed_in serves issued c.writes.done c.writes.session c.serve-reply.result c.serve-reply.new.self c.serve-reply.ensures)
      c.in-Some.ensures.wrote.0;
  within = omega (arith, c.in-Some.ensures.wrote.2, c.writes.invariant.within);
}

pub returns-in-None : goal.returns-in-None
returns-in-None c = let issued : Writing = record { moment = c.args.moment; fd = c.args.fd; bytes = c.args.bytes.now } in record {
  done = c.writes.done;
  mid = c.writes.session;
  reply = c.serve-reply.result;
  before = c.writes.invariant.written;
  last = handed_in serves issued c.writes.done c.writes.session c.serve-reply.result c.serve-reply.new.self c.serve-reply.ensures;
  result_is = to_z-of_z w64 c.write_number.result (search (c.write_number.type_inv)) ∙ c.write_number.ensures;
  ends = λ count is. elim (c.in-None.ensures.none count is) [
    | inl nothing ↦ inl nothing
    | inr le ↦ inr (omega (arith, le, c.writes.invariant.within))
  ];
}
