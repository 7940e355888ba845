-- What a reply on a chain that was found says.
use Rattle.std.specs.Prelude.{◌≡◌, ℕ, List, IsTrue}
use Rattle.std.specs.List.{list_all}
use Rattle.std.specs.Str.{is_utf8}
use Rattle.fed_json.specs.declared.tree.Json.{Json}
use Rattle.fed_json.specs.Forms.{IsWhole}
use Rattle.entity_statement.specs.Claims.{Claims, Identifier}
use Rattle.entity_statement.specs.declared.marks.MarkEntry.{MarkEntry}
use Rattle.chain_check.specs.declared.tried.Tried.{Tried}
use Rattle.chain_check.specs.declared.verdict.Resolved.{Resolved}
use Rattle.chain_check.specs.Judging.{texts_of}
use Rattle.resolve_reply.specs.declared.issuers.Issuer.{Issuer}
use Rattle.resolve_reply.specs.declared.issuers.MarkIssuers.{MarkIssuers}
use Rattle.resolve_reply.specs.declared.marks.GoodMarks.{GoodMarks}
use Rattle.resolve_reply.specs.declared.reply.Reply.{Reply}
use Rattle.resolve_reply.specs.declared.said.Said.{Said}
use Rattle.resolve_reply.specs.declared.signer.Signer.{Signer}
use Rattle.resolve_reply.specs.Marks.{AreConfigs, AreGood, IssuerTexts, Judging, issuers_by_mark, judging_by, looked_at, searched_issuers, text_of}
use Rattle.resolve_reply.specs.Replies.{IsReplyOf, cut_to}
use Rattle.resolve_round.specs.declared.request.ResolveRequest.{ResolveRequest}
use Rattle.resolve_round.specs.declared.trace.Trace.{Trace}
use Rattle.resolve_round.specs.declared.aim.Aim.{Aim}
use Rattle.resolve_search.specs.declared.round.FoundChain.{FoundChain}
use Rattle.fed_resolver.specs.Going.{HasIssuers}

-- what is said of a chain with this metadata, until when it holds, and with these marks
abbrev pub said_with : ResolveRequest → ℕ → List Tried → Json → ℕ → List MarkEntry → Said
said_with request t texts metadata exp marks = record {
  sub = request.sub;
  iat = t;
  exp = exp;
  metadata = cut_to request.types metadata;
  chain = texts_of texts;
  marks = marks;
}

-- the same of a chain with these good marks
abbrev pub said_on : ResolveRequest → ℕ → List Tried → Resolved → GoodMarks → Said
said_on request t texts resolved good = said_with request t texts resolved.metadata good.exp good.entries

-- what the chain says can be written as JSON
abbrev pub CanSay : FoundChain → Type 0
CanSay chain = IsWhole chain.resolved.metadata × IsTrue (list_all is_utf8 (texts_of chain.texts))

-- by what a leaf's marks are judged, and the configurations of their issuers
pub record Marking : Type 0 where
  pub judging : Judging
  pub texts : IssuerTexts

abbrev pub marking_by : Identifier → Claims → List Issuer → ℕ → Marking
marking_by leaf anchor found t = record { judging = judging_by leaf anchor found t; texts = text_of found }

-- the reply says this of the chain and the good ones of these marks, and has beside it the end of the chain and the configurations of their
-- issuers
pub record IsMarked (here : Marking) (marks : List MarkEntry) (request : ResolveRequest) (signer : Signer) (chain : FoundChain) (reply : Reply) : Type 0 where
  pub good : GoodMarks
  pub are_good : AreGood here.judging (looked_at marks) chain.resolved.exp good
  pub says : IsReplyOf signer (said_on request here.judging.moment chain.texts chain.resolved good) reply
  pub chain_exp : reply.chain_exp ≡ chain.resolved.exp
  pub configs : AreConfigs here.texts good.entries reply.configs

-- the issuers of a leaf's marks, of whom those whose chain was found are kept
pub record IsSearched (aim : Aim) (leaf anchor : Claims) (old new : Trace) (issuers : MarkIssuers) : Type 0 where
  pub by_mark : issuers.by_mark ≡ issuers_by_mark leaf.marks anchor
  pub searched : HasIssuers aim (searched_issuers leaf.marks anchor) old new issuers.found
