-- What `rotate` makes of a ring (OpenID Federation 1.0 section 8.7).
use Rattle.std.specs.Prelude.{◌≡◌, ℕ, List, [], ◌∷◌, ◌++◌, codes, Option, Some, None}
use Rattle.std.specs.Result.{result_ok}
use Rattle.hex.specs.Hex.{decode_sized}
use Rattle.fed_base.specs.declared.algorithm.Alg.{Alg}
use Rattle.key_ring.specs.Changes.{Change, add_key, after, fault_of, kid_added}
use Rattle.key_ring.specs.Files.{ring_text}
use Rattle.key_ring.specs.Rings.{Ring}
use Rattle.key_ring.specs.declared.fault.RingFault.{RingFault}
use Rattle.key_ring.specs.declared.fault.RingFault.TheVariants.{Known, Unknown, Order}
use Rattle.cli_rings.specs.Replies.{bad_input, refused}
use Rattle.cli_rings.specs.declared.reply.Reply.{Reply}

-- a change is refused by the name of its first fault: Known, Unknown or Order; no change has another
abbrev pub refused_as : RingFault → Reply
refused_as (Known kid) = refused (codes "Known")
refused_as (Unknown kid) = refused (codes "Unknown")
refused_as (Order fault) = refused (codes "Order")
refused_as fault = bad_input

-- the reply is that refusal
abbrev pub IsRefusedAs : RingFault → Reply → Type 0
IsRefusedAs (Known kid) reply = reply ≡ refused (codes "Known")
IsRefusedAs (Unknown kid) reply = reply ≡ refused (codes "Unknown")
IsRefusedAs (Order fault) reply = reply ≡ refused (codes "Order")
IsRefusedAs fault reply = ⊥

-- a change without a fault is made: the line is written, and the ring after the change is kept
abbrev pub by_fault : Option RingFault → Ring → List ℕ → Reply
by_fault (Some fault) changed line = refused_as fault
by_fault None changed line = record { status = 0; text = line ++ 10 ∷ []; kept = Some (ring_text changed) }

-- the reply of a change of a ring, with the line that tells that it was made
unfoldable pub change_reply : Ring → Change → List ℕ → Reply
change_reply ring change line = by_fault (fault_of ring change) (after ring change) line

-- a new key of that algorithm and these seeds, where the input has them; the line is its name (RFC 7638)
abbrev pub of_new_seeds : Ring → Alg → ℕ → ℕ → Option (List ℕ) → Reply
of_new_seeds ring alg at exp None = bad_input
of_new_seeds ring alg at exp (Some seeds) = change_reply ring (add_key alg seeds at exp) (kid_added alg seeds)

-- the input is 96 hexadecimal digits of either case
unfoldable pub add_reply : Ring → Alg → ℕ → ℕ → List ℕ → Reply
add_reply ring alg at exp input = of_new_seeds ring alg at exp (result_ok (decode_sized input 48))
