use Rattle.std.proofs.Common.{◌≡◌, drop}
use Rattle.resolve_reply.specs.Marks.{keys_of, text_of}
use Rattle.resolve_reply.proofs.marks.issuer_of_id.Given as goal

abbrev pub invariant-loop-issuer : goal.invariant-loop-issuer
invariant-loop-issuer l = record {
  keys : keys_of l.found l.id ≡ keys_of (drop l.issuer-index l.found) l.id;
  text : text_of l.found l.id ≡ text_of (drop l.issuer-index l.found) l.id;
}
