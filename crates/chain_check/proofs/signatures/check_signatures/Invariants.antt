use Rattle.fed_base.specs.Places.{HoldsBelow}
use Rattle.fed_base.specs.Counts.{CountsAtMost}
use Rattle.chain_check.specs.Counts.{CountsSigned}
use Rattle.chain_check.specs.Signatures.{NamesOneKey, SignedAt}
use Rattle.chain_check.specs.Reading.{claims_in, texts_in}
use Rattle.chain_check.proofs.SignatureLaws.{most_at}
use Rattle.chain_check.proofs.signatures.check_signatures.Given as goal

abbrev pub invariant-loop-j : goal.invariant-loop-j
invariant-loop-j g l =
    HoldsBelow (SignedAt (texts_in l.entries) (claims_in l.entries) l.keys.keys) l.j
    × CountsAtMost (most_at l.j) (g.L.Ledger.count l.fn.steps.ledger) (g.L.Ledger.count l.steps.ledger)
    × CountsSigned l.j (NamesOneKey (texts_in l.entries) (claims_in l.entries) l.keys.keys) (g.L.Ledger.count l.fn.steps.ledger) (g.L.Ledger.count l.steps.ledger)
