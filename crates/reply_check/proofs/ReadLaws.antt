-- The metadata of each reply that is read can be written as JSON.
use Rattle.std.proofs.Common.{◌≡◌, ℕ, List, codes, Bool, true, false, cond, Option, Some, None, refl, subst}
use Rattle.std.specs.Result.{result_ok}
use Rattle.fed_base.specs.Values.{◌>>=◌}
use Rattle.fed_json.specs.declared.tree.Json.{Json}
use Rattle.fed_json.specs.declared.tree.Member.{Member}
use Rattle.fed_json.specs.Forms.{IsWhole, whole}
use Rattle.fed_json.specs.Metadata.{is_metadata}
use Rattle.fed_json.specs.Reading.{tree_in}
use Rattle.fed_json.specs.Trees.{as_object, find}
use Rattle.fed_json.proofs.Booleans.{left_true}
use Rattle.fed_json.proofs.Options.{and_then_some}
use Rattle.jws_form.specs.declared.compact.Compact.{Compact}
use Rattle.jws_form.specs.Splitting.{long_splitting}
use Rattle.trust_mark.specs.Claims.{has_type}
use Rattle.entity_statement.specs.Claims.{Identifier}
use Rattle.entity_statement.specs.Forms.{metadata_of}
use Rattle.resolve_reply.specs.declared.said.Said.{Said}
use Rattle.resolve_reply.specs.Replies.{reply_type}
use Rattle.reply_check.specs.declared.claimed.Claimed.{Claimed}
use Rattle.reply_check.specs.Readings.{chain_at, claimed_in, claims_of, identifier_at, marks_at, metadata_at, moment_at, reply_of, said_in, said_of}

metadata-by : (tree m : Json) (b : Bool) → is_metadata tree ≡ b → cond b (Some tree) None ≡ Some m → IsWhole m
metadata-by tree m true is some = let same : tree ≡ m = cc some in subst IsWhole same (left_true (whole tree) _ is)
metadata-by tree m false is some = cc some

metadata-whole : (tree m : Json) → metadata_of tree ≡ Some m → IsWhole m
unfolding metadata_of
metadata-whole tree m is = metadata-by tree m (is_metadata tree) refl is

said-whole : (sub : Identifier) (iat exp : ℕ) (members : List Member) (said : Said) → said_of sub iat exp members ≡ Some said → IsWhole said.metadata
unfolding said_of metadata_at
said-whole sub iat exp members said is =
    let metadata = and_then_some _ (metadata_at members) said is in
    let tree = and_then_some metadata_of (find (codes "metadata") members) metadata.0 metadata.1 in
    let chain = and_then_some _ (chain_at members) said metadata.2 in
    let marks = and_then_some _ (marks_at members) said chain.2 in
    let same : metadata.0 ≡ said.metadata = cc marks.2 in
    subst IsWhole same (metadata-whole tree.0 metadata.0 tree.2)

in-whole : (members : List Member) (said : Said) → said_in members ≡ Some said → IsWhole said.metadata
unfolding said_in
in-whole members said is =
    let iat = and_then_some _ (moment_at (codes "iat") members) said is in
    let exp = and_then_some _ (moment_at (codes "exp") members) said iat.2 in
    let sub = and_then_some _ (identifier_at (codes "sub") members) said exp.2 in
    said-whole sub.0 iat.0 exp.0 members said sub.2

claimed-whole : (members : List Member) (c : Claimed) → claimed_in members ≡ Some c → IsWhole c.said.metadata
unfolding claimed_in
claimed-whole members c is =
    let iss = and_then_some _ (identifier_at (codes "iss") members) c is in
    let said = and_then_some _ (said_in members) c iss.2 in
    let same : said.0 ≡ c.said = cc said.2 in
    subst (λ (s : Said). IsWhole s.metadata) same (in-whole members said.0 said.1)

typed-whole : (o : Option (List Member)) (c : Claimed) (b : Bool) → cond b (o >>= claimed_in) None ≡ Some c → IsWhole c.said.metadata
typed-whole o c true is = let members = and_then_some claimed_in o c is in claimed-whole members.0 c members.2
typed-whole o c false is = cc is

compact-whole : (compact : Compact) (c : Claimed) → claims_of compact ≡ Some c → IsWhole c.said.metadata
unfolding claims_of
compact-whole compact c is = typed-whole (tree_in compact.payload >>= as_object) c (has_type reply_type compact.typ) is

pub reply-whole : (text : List ℕ) (c : Claimed) → reply_of text ≡ Some c → IsWhole c.said.metadata
unfolding reply_of
reply-whole text c is = let compact = and_then_some claims_of (result_ok (long_splitting text)) c is in compact-whole compact.0 c compact.2
