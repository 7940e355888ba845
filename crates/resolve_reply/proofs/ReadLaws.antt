-- What a reader of a reply's text gets.
use Rattle.std.proofs.Common.{◌≡◌, ◌≤◌, ℕ, List, length, Some, Result, Ok, Err, subst}
use Rattle.std.specs.Prelude.{IfOk}
use Rattle.fed_base.specs.declared.faults.Memory.{Memory}
use Rattle.fed_json.specs.declared.tree.Json.{Json}
use Rattle.fed_json.specs.Compact.{compact}
use Rattle.fed_json.specs.Forms.{nesting}
use Rattle.fed_json.specs.Reading.{tree_in}
use Rattle.jws_form.specs.Compact.{max_bytes}
use Rattle.sealed.specs.Sealing.{HasParts}
use Rattle.slh_dsa.specs.Keys.{Keys}
use Rattle.resolve_reply.specs.Replies.{ReadsBack, reply_type}

pub reads-back : (keys : Keys) (typ payload : List ℕ) (claims : Json) (result : Result (List ℕ) Memory) → typ ≡ reply_type → payload ≡ compact claims
    → IfOk result (λ text. length text ≤ max_bytes → HasParts keys typ payload text) → (nesting claims ≤ 127 → tree_in (compact claims) ≡ Some claims) → IfOk result (ReadsBack keys claims)
reads-back keys typ payload claims (Err e) is says splits back = tt
reads-back keys typ payload claims (Ok text) is says splits back = record {
  splits = λ short. subst (λ p. HasParts keys reply_type p text) says (subst (λ t. HasParts keys t payload text) is (splits short));
  reads_back = back;
}
