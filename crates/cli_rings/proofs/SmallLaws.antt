-- What is made of a ring is answered with a status up to 2.
use Rattle.std.proofs.Common.{◌≤◌, ℕ, List, codes, cond, not, lit≤, Bool, true, false}
use Rattle.std.specs.Prelude.{Option, Some, None, Result, Ok, Err}
use Rattle.std.specs.Result.{result_ok}
use Rattle.hex.specs.Hex.{decode_sized}
use Rattle.fed_base.specs.declared.algorithm.Alg.{Alg}
use Rattle.fed_json.specs.declared.tree.Json.{Json}
use Rattle.fed_json.specs.Forms.{whole}
use Rattle.fed_json.specs.Reading.{tree_in}
use Rattle.cli_words.specs.declared.text_type.TextType.{TextType}
use Rattle.key_ring.specs.Changes.{Change, add_key, after, fault_of, kid_added}
use Rattle.key_ring.specs.Files.{first_text}
use Rattle.key_ring.specs.Rings.{Ring}
use Rattle.slh_dsa.specs.Keys.{Keys}
use Rattle.key_ring.specs.declared.fault.RingFault.{RingFault}
use Rattle.key_ring.specs.declared.fault.RingFault.TheVariants.{Shape, Known, Unknown, Order, StoreFault, Memory}
use Rattle.cli_rings.specs.Issues.{issue_reply, of_tree, of_object, sealed_reply}
use Rattle.cli_rings.specs.Keygens.{keygen_reply, of_seeds, made}
use Rattle.cli_rings.specs.Replies.{plain, bad_input, refused}
use Rattle.cli_rings.specs.Rotations.{add_reply, by_fault, change_reply, of_new_seeds}
use Rattle.cli_rings.specs.declared.reply.Reply.{Reply}

pub keygen_small : (alg : Alg) (at exp : ℕ) (text : List ℕ) → (keygen_reply alg at exp text).status ≤ 2
unfolding keygen_reply
keygen_small alg at exp text = of_digits (result_ok (decode_sized text 48))
  where
    of_file : (seeds : List ℕ) (file : Result (List ℕ) RingFault) → (made alg seeds file).status ≤ 2
    of_file seeds (Ok file) = lit≤ tt
    of_file seeds (Err fault) = lit≤ tt

    of_digits : (seeds : Option (List ℕ)) → (of_seeds alg at exp seeds).status ≤ 2
    of_digits None = lit≤ tt
    of_digits (Some seeds) = of_file seeds (first_text alg seeds at exp)

pub change_small : (ring : Ring) (change : Change) (line : List ℕ) → (change_reply ring change line).status ≤ 2
unfolding change_reply
change_small ring change line = of_fault (fault_of ring change)
  where
    of_fault : (fault : Option RingFault) → (by_fault fault (after ring change) line).status ≤ 2
    of_fault None = lit≤ tt
    of_fault (Some Shape) = lit≤ tt
    of_fault (Some (Known kid)) = lit≤ tt
    of_fault (Some (Unknown kid)) = lit≤ tt
    of_fault (Some (Order fault)) = lit≤ tt
    of_fault (Some StoreFault) = lit≤ tt
    of_fault (Some Memory) = lit≤ tt

pub add_small : (ring : Ring) (alg : Alg) (at exp : ℕ) (text : List ℕ) → (add_reply ring alg at exp text).status ≤ 2
unfolding add_reply
add_small ring alg at exp text = of_digits (result_ok (decode_sized text 48))
  where
    of_digits : (seeds : Option (List ℕ)) → (of_new_seeds ring alg at exp seeds).status ≤ 2
    of_digits None = lit≤ tt
    of_digits (Some seeds) = change_small ring (add_key alg seeds at exp) (kid_added alg seeds)

pub issue_small : (keys : Keys) (typ : TextType) (text : List ℕ) → (issue_reply keys typ text).status ≤ 2
unfolding issue_reply of_tree of_object sealed_reply
issue_small keys typ text = of_reading (tree_in text)
  where
    of_tests : (a b c : Bool) (sealed : List ℕ) → (cond a (refused (codes "Form")) (cond b (refused (codes "TooLong")) (cond c (refused (codes "Form")) (plain 0 sealed)))).status ≤ 2
    of_tests true b c sealed = lit≤ tt
    of_tests false true c sealed = lit≤ tt
    of_tests false false true sealed = lit≤ tt
    of_tests false false false sealed = lit≤ tt

    of_objects : (b : Bool) (r : Reply) → r.status ≤ 2 → (cond b r bad_input).status ≤ 2
    of_objects true r small = small
    of_objects false r small = lit≤ tt

    of_reading : (tree : Option Json) → (of_tree keys typ tree).status ≤ 2
    of_reading None = lit≤ tt
    of_reading (Some tree) = of_objects _ (of_object keys typ tree) (of_tests (not (whole tree)) _ _ _)
