-- What `keygen` makes of the algorithm and the seeds of a key (FIPS 205 Algorithm 18) and the moments that it is for.
use Rattle.std.specs.Prelude.{ℕ, List, [], ◌∷◌, ◌++◌, codes, Option, Some, None, Result, Ok, Err}
use Rattle.std.specs.Result.{result_ok}
use Rattle.hex.specs.Hex.{decode_sized}
use Rattle.fed_base.specs.declared.algorithm.Alg.{Alg}
use Rattle.fed_json.specs.Compact.{compact}
use Rattle.jwk_set.specs.Trees.{own_tree}
use Rattle.sealed.specs.Sealing.{signer_key, signer_name}
use Rattle.slh_dsa.specs.Keys.{Keys}
use Rattle.cli_rings.specs.Replies.{bad_input, refused}
use Rattle.key_ring.specs.Files.{first_text}
use Rattle.key_ring.specs.Rings.{ring_pair}
use Rattle.key_ring.specs.declared.fault.RingFault.{RingFault}
use Rattle.cli_rings.specs.declared.reply.Reply.{Reply}

-- the public key as a JWK whose name is its thumbprint (RFC 7517 section 4, RFC 7638), on its own line
unfoldable pub public_line : Keys → List ℕ
public_line keys = compact (own_tree (signer_name keys) keys.alg (signer_key keys)) ++ 10 ∷ []

-- the key is kept in a ring of its own, where its moments are in their order
abbrev pub made : Alg → List ℕ → Result (List ℕ) RingFault → Reply
made alg seeds (Ok file) = record { status = 0; text = public_line (ring_pair alg seeds); kept = Some file }
made alg seeds (Err fault) = refused (codes "Order")

-- the same of the seeds, where the input has them
abbrev pub of_seeds : Alg → ℕ → ℕ → Option (List ℕ) → Reply
of_seeds alg at exp None = bad_input
of_seeds alg at exp (Some seeds) = made alg seeds (first_text alg seeds at exp)

-- the input is 96 hexadecimal digits of either case
unfoldable pub keygen_reply : Alg → ℕ → ℕ → List ℕ → Reply
keygen_reply alg at exp input = of_seeds alg at exp (result_ok (decode_sized input 48))
