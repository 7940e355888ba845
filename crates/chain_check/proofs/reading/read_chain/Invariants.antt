use Rattle.std.specs.Prelude.{map}
use Rattle.chain_check.proofs.ReadChains.{ReadUpTo}
use Rattle.chain_check.proofs.reading.read_chain.Given as goal

abbrev pub invariant-loop-j : goal.invariant-loop-j
invariant-loop-j g l = ReadUpTo (map g.T.HoldsText.text_of l.texts) l.entries l.j
