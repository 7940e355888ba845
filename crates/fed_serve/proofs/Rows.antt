-- Which answer of a resolver tells which cause.
use Rattle.std.proofs.Common.{◌≡◌, ℕ, zero, suc, List, [], ◌∷◌, Some, Result, Ok, Err, refl, ap, subst, arith}
use Rattle.std.specs.Prelude.{codes, IfSome}
use Rattle.http_messages.specs.declared.response.Response.{Response}
use Rattle.statement_shelf.specs.declared.calls.BookReply.{BookReply}
use Rattle.statement_shelf.specs.declared.calls.BookReply.TheVariants as book
use Rattle.resolve_reply.specs.declared.reply.Reply.{Reply}
use Rattle.fed_resolver.specs.declared.outcome.Refusal.{Refusal}
use Rattle.fed_resolver.specs.declared.outcome.Refusal.TheVariants.{NoAnchor, NotFound, PolicyOnly, NoChain, Unavailable, Budget, Worn, Memory}
use Rattle.fed_serve.specs.ResolverResponses.{resolve_response, rotate_response}
use Rattle.fed_serve.specs.Rotations.{Dealing, asked, stranger, untested, worn}
use Rattle.fed_serve.specs.Responses.{dealt_response}
use Rattle.fed_serve.specs.Rows.{KeyRows, ResolveRows}

-- ---- responses that differ

pub never : {X : Type 0} → ⊥ → X
never none = absurd none

pub other_status : {X : Type 0} (r s : Response) → (r.status ≡ s.status → ⊥) → r ≡ s → X
other_status r s other is = absurd (other (ap (λ (x : Response). x.status) is))

-- the byte in which the errors of one status differ
abbrev pub byte_at : ℕ → List ℕ → ℕ
byte_at n [] = 0
byte_at zero (x ∷ xs) = x
byte_at (suc n) (x ∷ xs) = byte_at n xs

abbrev pub sign : Response → ℕ
sign r = byte_at 18 r.body

pub other_sign : {X : Type 0} (r s : Response) → (sign r ≡ sign s → ⊥) → r ≡ s → X
other_sign r s other is = absurd (other (ap sign is))

-- ---- the rows of a result, of the response that it has

of_result : (result : Result Reply Refusal) → IfSome (resolve_response result) (ResolveRows result)
of_result (Ok reply) = record {
  replied = (λ is. (reply, refl), λ is. refl);
  no_anchor = (λ is. other_status _ _ (λ e. omega (arith, e)) is.1, λ is. cc is);
  not_found = (λ is. other_status _ _ (λ e. omega (arith, e)) is.1, λ is. cc is);
  policy = (λ is. other_status _ _ (λ e. omega (arith, e)) is.1, λ is. cc is);
  no_chain = (λ is. other_status _ _ (λ e. omega (arith, e)) is.1, λ is. cc is);
  unavailable = (λ is. other_status _ _ (λ e. omega (arith, e)) is.1, λ is. cc is);
  budget = (λ is. other_status _ _ (λ e. omega (arith, e)) is.1, λ is. cc is.2);
}
of_result (Err NoAnchor) = record {
  replied = (λ is. never (omega (arith, is)), λ is. cc is.1);
  no_anchor = (λ is. refl, λ is. (codes "no such trust anchor", refl));
  not_found = (λ is. other_sign _ _ (λ e. omega (arith, e)) is.1, λ is. cc is);
  policy = (λ is. other_status _ _ (λ e. omega (arith, e)) is.1, λ is. cc is);
  no_chain = (λ is. other_status _ _ (λ e. omega (arith, e)) is.1, λ is. cc is);
  unavailable = (λ is. other_status _ _ (λ e. omega (arith, e)) is.1, λ is. cc is);
  budget = (λ is. other_status _ _ (λ e. omega (arith, e)) is.1, λ is. cc is.2);
}
of_result (Err NotFound) = record {
  replied = (λ is. never (omega (arith, is)), λ is. cc is.1);
  no_anchor = (λ is. other_sign _ _ (λ e. omega (arith, e)) is.1, λ is. cc is);
  not_found = (λ is. refl, λ is. (codes "no such entity", refl));
  policy = (λ is. other_status _ _ (λ e. omega (arith, e)) is.1, λ is. cc is);
  no_chain = (λ is. other_status _ _ (λ e. omega (arith, e)) is.1, λ is. cc is);
  unavailable = (λ is. other_status _ _ (λ e. omega (arith, e)) is.1, λ is. cc is);
  budget = (λ is. other_status _ _ (λ e. omega (arith, e)) is.1, λ is. cc is.2);
}
of_result (Err PolicyOnly) = record {
  replied = (λ is. never (omega (arith, is)), λ is. cc is.1);
  no_anchor = (λ is. other_status _ _ (λ e. omega (arith, e)) is.1, λ is. cc is);
  not_found = (λ is. other_status _ _ (λ e. omega (arith, e)) is.1, λ is. cc is);
  policy = (λ is. refl, λ is. (codes "policies refuse the metadata", refl));
  no_chain = (λ is. other_sign _ _ (λ e. omega (arith, e)) is.1, λ is. cc is);
  unavailable = (λ is. other_status _ _ (λ e. omega (arith, e)) is.1, λ is. cc is);
  budget = (λ is. other_status _ _ (λ e. omega (arith, e)) is.1, λ is. cc is.2);
}
of_result (Err NoChain) = record {
  replied = (λ is. never (omega (arith, is)), λ is. cc is.1);
  no_anchor = (λ is. other_status _ _ (λ e. omega (arith, e)) is.1, λ is. cc is);
  not_found = (λ is. other_status _ _ (λ e. omega (arith, e)) is.1, λ is. cc is);
  policy = (λ is. other_sign _ _ (λ e. omega (arith, e)) is.1, λ is. cc is);
  no_chain = (λ is. refl, λ is. (codes "no valid trust chain", refl));
  unavailable = (λ is. other_status _ _ (λ e. omega (arith, e)) is.1, λ is. cc is);
  budget = (λ is. other_status _ _ (λ e. omega (arith, e)) is.1, λ is. cc is.2);
}
of_result (Err Unavailable) = record {
  replied = (λ is. never (omega (arith, is)), λ is. cc is.1);
  no_anchor = (λ is. other_status _ _ (λ e. omega (arith, e)) is.1, λ is. cc is);
  not_found = (λ is. other_status _ _ (λ e. omega (arith, e)) is.1, λ is. cc is);
  policy = (λ is. other_status _ _ (λ e. omega (arith, e)) is.1, λ is. cc is);
  no_chain = (λ is. other_status _ _ (λ e. omega (arith, e)) is.1, λ is. cc is);
  unavailable = (λ is. refl, λ is. (codes "a fetch failed", refl));
  budget = (λ is. other_status _ _ (λ e. omega (arith, e)) is.1, λ is. cc is.2);
}
of_result (Err (Budget calls paths)) = record {
  replied = (λ is. never (omega (arith, is)), λ is. cc is.1);
  no_anchor = (λ is. other_status _ _ (λ e. omega (arith, e)) is.1, λ is. cc is);
  not_found = (λ is. other_status _ _ (λ e. omega (arith, e)) is.1, λ is. cc is);
  policy = (λ is. other_status _ _ (λ e. omega (arith, e)) is.1, λ is. cc is);
  no_chain = (λ is. other_status _ _ (λ e. omega (arith, e)) is.1, λ is. cc is);
  unavailable = (λ is. other_status _ _ (λ e. omega (arith, e)) is.1, λ is. cc is);
  budget = (λ is. (calls, paths, refl), λ is. (codes "search budget ended", refl));
}
of_result (Err (Worn count)) = tt
of_result (Err Memory) = tt

pub resolve_rows : (result : Result Reply Refusal) (response : Response) → resolve_response result ≡ Some response → ResolveRows result response
resolve_rows result response is = subst (λ o. IfSome o (ResolveRows result)) is (of_result result)

-- ---- and of a dealing

of_reply : (reply : BookReply) → IfSome (rotate_response reply) (KeyRows (asked reply))
of_reply (book.Rotated epoch) = record {
  changed = (λ is. (epoch, refl, refl), λ is. refl);
  stranger = (λ is. other_status _ _ (λ e. omega (arith, e)) is.1, λ is. cc is);
  no_anchor = (λ is. other_status _ _ (λ e. omega (arith, e)) is.1, λ is. cc is);
  another = (λ is. never (omega (arith, is)), λ is. cc is.1);
}
of_reply (book.Behind epoch) = record {
  changed = (λ is. never (omega (arith, is)), λ is. cc is.1);
  stranger = (λ is. other_status _ _ (λ e. omega (arith, e)) is.1, λ is. cc is);
  no_anchor = (λ is. other_status _ _ (λ e. omega (arith, e)) is.1, λ is. cc is);
  another = (λ is. (epoch, refl, refl), λ is. refl);
}
of_reply book.NoAnchor = record {
  changed = (λ is. never (omega (arith, is)), λ is. cc is.1);
  stranger = (λ is. other_status _ _ (λ e. omega (arith, e)) is.1, λ is. cc is);
  no_anchor = (λ is. refl, λ is. (codes "no such trust anchor", refl));
  another = (λ is. never (omega (arith, is)), λ is. cc is.1);
}
of_reply (book.Keys epoch keys) = tt
of_reply (book.At epoch) = tt
of_reply book.Memory = tt

of_dealing : (dealing : Dealing) → IfSome (dealt_response dealing) (KeyRows dealing)
of_dealing stranger = record {
  changed = (λ is. never (omega (arith, is)), λ is. cc is.1);
  stranger = (λ is. refl, λ is. (codes "not sealed by a control key", refl));
  no_anchor = (λ is. other_status _ _ (λ e. omega (arith, e)) is.1, λ is. cc is);
  another = (λ is. never (omega (arith, is)), λ is. cc is.1);
}
of_dealing (asked reply) = of_reply reply
of_dealing worn = tt
of_dealing untested = tt

pub key_rows : (dealing : Dealing) (response : Response) → dealt_response dealing ≡ Some response → KeyRows dealing response
key_rows dealing response is = subst (λ o. IfSome o (KeyRows dealing)) is (of_dealing dealing)
