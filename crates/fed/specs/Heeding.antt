-- What `resolve --heed yes` does: the outside before and after, and the status.
use Rattle.std.specs.Prelude.{◌≡◌, ◌⊎◌, ℕ, Option, Some, None, Result, Ok, Err}
use Rattle.resolve_reply.specs.declared.reply.Reply.{Reply}
use Rattle.fed_resolver.specs.declared.outcome.Refusal.{Refusal}
use Rattle.node_files.specs.declared.fault.NodeFault.{NodeFault}
use Rattle.resolve_call.specs.Calls.{Question}
use Rattle.heeded_reply.specs.declared.reply.HeededReply.{HeededReply}
use Rattle.heeded_reply.specs.declared.reply.Heard.{Heard}
use Rattle.heeded_reply.specs.Calls.{HeedsOnce}
use Rattle.heeded_reply.specs.Lines.{reply_lines}
use Rattle.fed.specs.Authorities.{Outside}
use Rattle.fed.specs.Resolving.{IsSilent, IsTold, IsToldBy, Writes, Written, listening_in, seen_by_call, written_in}

-- the reply's text was written on a line, and then a line for each of its marks; or memory was wanting for these, or to ask about the marks
abbrev pub AreLinesTold : Option HeededReply → Written → Written → ℕ → Type 0
AreLinesTold (Some heeded) before now status = Writes 0 (reply_lines heeded) before now status ⊎ IsSilent 5 before now status
AreLinesTold None before now status = IsSilent 5 before now status

-- what is written, and the status, by what the call answered; a refusal is told as without `--heed`
abbrev pub IsHeardBy : Result Reply Refusal → Option HeededReply → Written → Written → ℕ → Type 0
IsHeardBy (Ok reply) heeded before now status = AreLinesTold heeded before now status
IsHeardBy (Err refusal) heeded before now status = IsToldBy (Err refusal) before now status

-- the same where there may be no node
abbrev pub IsHeard : Result Heard NodeFault → Written → Written → ℕ → Type 0
IsHeard (Ok heard) before now status = IsHeardBy heard.outcome.result heard.reply before now status
IsHeard (Err fault) before now status = IsTold (Err fault) before now status

-- one call of the node was made, and the marks of its reply were asked about once it was over; or there is no such node. What came of it is
-- written and told by the status; the network listens as before, and nobody was accepted or settled
pub record RunsHeed {P : Type 0} (question : Question) (before now : Outside P) (status : ℕ) : Type 0 where
  pub result : Result Heard NodeFault
  pub heeds : HeedsOnce question (seen_by_call before) (seen_by_call now) result
  pub told : IsHeard result (written_in before) (written_in now) status
  pub still : listening_in now ≡ listening_in before
