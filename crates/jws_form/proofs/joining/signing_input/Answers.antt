use Rattle.std.proofs.Common.{arith, subst, sym}
use Rattle.jws_form.specs.Header.{IsHeaderText}
use Rattle.jws_form.proofs.Headers.{IsHeaderText-written}
use Rattle.jws_form.proofs.Laws.{IsSigningInput-written}
use Rattle.jws_form.proofs.joining.signing_input.Goals as goal

pub returns-clause-reads : goal.returns-clause-reads
returns-clause-reads c = λ alg typ kid says shallow.
    let header = IsHeaderText-written c.in_ok-header.header c.args.header.now alg typ kid c.requires (c.in_ok-header.ensures.reads_back shallow) says in
    IsSigningInput-written c.encoded_parts.result _ c.args.payload.now alg typ kid c.encoded_parts.ensures (λ i. let fits = c.type_inv.payload i in omega arith)
    (subst (λ bytes. IsHeaderText bytes alg typ kid) (sym c.as_slice.ensures) header)
