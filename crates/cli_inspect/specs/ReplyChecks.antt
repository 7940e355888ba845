-- What is told of a resolver's reply in the input (OpenID Federation 1.0 section 8.3).
use Rattle.std.specs.Prelude.{◌≡◌, ◌≤◌, ℕ, List, length, nat_lt, Option, Some, None, unwrap_or, if◌then◌else◌}
use Rattle.jwk_set.specs.declared.jwk.Jwk.{Jwk}
use Rattle.fed_ports.specs.Inputs.{AtEnd}
use Rattle.fed_ports.specs.Stores.{Files, IsFile, file_limit}
use Rattle.cli_commands.specs.Answers.{MayBe, text_of}
use Rattle.cli_commands.specs.Checks.{keys_in}
use Rattle.cli_words.specs.declared.inspection.ReplyAsked.{ReplyAsked}
use Rattle.reply_check.specs.Verdicts.{Case, case_of}
use Rattle.cli_inspect.specs.Reports.{IsReport}
use Rattle.cli_rings.specs.Replies.{bad_input}
use Rattle.cli_rings.specs.declared.reply.Reply.{Reply}

-- the keys of a file that is there, isn't too long, and is a key set (RFC 7517 section 5)
abbrev pub keys_of_file : Option (List ℕ) → Option (List Jwk)
keys_of_file None = None
keys_of_file (Some bytes) = if nat_lt file_limit (length bytes) then None else keys_in bytes

-- those of the file of that name
pub record IsKeysOf (files : Option Files) (name : List ℕ) (keys : Option (List Jwk)) : Type 0 where
  pub bytes : Option (List ℕ)
  pub is_file : IsFile files name bytes
  pub are : keys ≡ keys_of_file bytes

-- an input without its line end is checked as a reply; or it is too long
abbrev pub IsTextReport : (List ℕ → Case) → Option (List ℕ) → Reply → Type 0
IsTextReport case (Some text) reply = IsReport (case text) reply
IsTextReport case None reply = reply ≡ bad_input

-- the input was read, to its end unless it is too long
pub record IsInputReport (case : List ℕ → Case) (left left' : Option (List ℕ)) (reply : Reply) : Type 0 where
  pub input : List ℕ
  pub is_input : MayBe left input
  pub ended : length input ≤ file_limit → AtEnd left'
  pub is_report : IsTextReport case (text_of input) reply

-- by the keys of the resolver and of the trust anchor; where a file has none, the input isn't read
abbrev pub IsReportBy : ReplyAsked → ℕ → Option (List Jwk) → Option (List Jwk) → Option (List ℕ) → Option (List ℕ) → Reply → Type 0
IsReportBy asked moment (Some resolver) (Some keys) left left' reply = IsInputReport (λ text. case_of text resolver asked.anchor keys moment) left left' reply
IsReportBy asked moment (Some resolver) None left left' reply = reply ≡ bad_input
IsReportBy asked moment None keys left left' reply = reply ≡ bad_input

-- what is told at a moment, in seconds since 1970
pub record IsReplyReport (files : Option Files) (asked : ReplyAsked) (moment : ℕ) (left left' : Option (List ℕ)) (reply : Reply) : Type 0 where
  pub resolver : Option (List Jwk)
  pub is_resolver : IsKeysOf files asked.keys_file resolver
  pub keys : Option (List Jwk)
  pub is_keys : IsKeysOf files asked.anchor_keys_file keys
  pub is_report : IsReportBy asked moment resolver keys left left' reply
