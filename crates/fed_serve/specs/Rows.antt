-- When each answer of a resolver comes: a field for each (OpenID Federation 1.0 sections 8.3.2 and 8.9).
use Rattle.std.specs.Prelude.{◌≡◌, ◌↔◌, ℕ, List, codes, Result, Ok, Err}
use Rattle.http_messages.specs.declared.response.Response.{Response}
use Rattle.statement_shelf.specs.declared.calls.BookReply.TheVariants as book
use Rattle.resolve_reply.specs.declared.reply.Reply.{Reply}
use Rattle.fed_resolver.specs.declared.outcome.Refusal.{Refusal}
use Rattle.fed_resolver.specs.declared.outcome.Refusal.TheVariants.{NoAnchor, NotFound, PolicyOnly, NoChain, Unavailable, Budget}
use Rattle.fed_serve.specs.ResolverResponses.{another_epoch, changed, refusal}
use Rattle.fed_serve.specs.Rotations.{Dealing, asked, stranger}

-- a refusal of this status with this error, whatever its description
abbrev pub Refuses : ℕ → List ℕ → Response → Type 0
Refuses status error response = (description : List ℕ) × (response ≡ refusal status error description)

-- what a request for an entity's metadata is answered with, by the one result of its call
pub record ResolveRows (result : Result Reply Refusal) (response : Response) : Type 0 where
  pub replied : (response.status ≡ 200) ↔ ((reply : Reply) × (result ≡ Ok reply))
  pub no_anchor : Refuses 404 (codes "invalid_trust_anchor") response ↔ (result ≡ Err NoAnchor)
  pub not_found : Refuses 404 (codes "not_found") response ↔ (result ≡ Err NotFound)
  pub policy : Refuses 400 (codes "invalid_metadata") response ↔ (result ≡ Err PolicyOnly)
  pub no_chain : Refuses 400 (codes "invalid_trust_chain") response ↔ (result ≡ Err NoChain)
  pub unavailable : Refuses 503 (codes "temporarily_unavailable") response ↔ (result ≡ Err Unavailable)
  pub budget : Refuses 500 (codes "server_error") response ↔ ((calls paths : ℕ) × (result ≡ Err (Budget calls paths)))

-- what other keys for a trust anchor are answered with, by how they were dealt with
pub record KeyRows (dealing : Dealing) (response : Response) : Type 0 where
  -- the book took them, and this is its epoch
  pub changed : (response.status ≡ 200) ↔ ((epoch : ℕ) × (dealing ≡ asked (book.Rotated epoch)) × (response ≡ changed epoch))
  pub stranger : Refuses 403 (codes "invalid_client") response ↔ (dealing ≡ stranger)
  pub no_anchor : Refuses 404 (codes "invalid_trust_anchor") response ↔ (dealing ≡ asked book.NoAnchor)
  -- the book has this epoch, which isn't the change's
  pub another : (response.status ≡ 409) ↔ ((epoch : ℕ) × (dealing ≡ asked (book.Behind epoch)) × (response ≡ another_epoch epoch))
