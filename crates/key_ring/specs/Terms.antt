-- What is told of a ring's keys, and nothing of their seeds (OpenID Federation 1.0 section 8.7).
use Rattle.key_ring.specs.declared.key.RingKey.{RingKey}
use Rattle.key_ring.specs.declared.term.KeyTerm.{KeyTerm}
use Rattle.key_ring.specs.Rings.{kid_of, pair_in}

-- a key without its seeds: its name, its algorithm, its moments and its state
abbrev pub term_of : RingKey → KeyTerm
term_of key = record { kid = kid_of key; alg = (pair_in key).alg; iat = key.iat; exp = key.exp; state = key.state }
