-- What is shown of the input.
use Rattle.std.specs.Prelude.{◌≡◌, ◌≤◌, ℕ, List, length, Bool, true, false, Option, Some, None, if◌then◌else◌}
use Rattle.fed_ports.specs.Inputs.{AtEnd}
use Rattle.fed_ports.specs.Stores.{file_limit}
use Rattle.cli_show.specs.Claims.{claims_view}
use Rattle.cli_show.specs.Views.{view_of}
use Rattle.cli_show.specs.declared.view.View.{View}
use Rattle.cli_commands.specs.Answers.{MayBe, text_of}
use Rattle.cli_rings.specs.Replies.{bad_input, plain}
use Rattle.cli_rings.specs.declared.reply.Reply.{Reply}

-- 0 where it is what it says
abbrev pub status_of : Bool → ℕ
status_of true = 1
status_of false = 0

abbrev pub view_reply : Option View → Reply
view_reply (Some view) = plain (status_of view.refused) view.text
view_reply None = bad_input

-- the claims alone of a signed text, or all that is shown of any text
abbrev pub view_by : Bool → List ℕ → Option View
view_by claims text = if claims then Some (claims_view text) else view_of text

-- an input without its line end, or one that is too long
abbrev pub show_reply : Bool → Option (List ℕ) → Reply
show_reply claims (Some text) = view_reply (view_by claims text)
show_reply claims None = bad_input

-- the input was read, to its end unless it is too long
pub record IsShowReply (claims : Bool) (left left' : Option (List ℕ)) (reply : Reply) : Type 0 where
  pub input : List ℕ
  pub is_input : MayBe left input
  pub ended : length input ≤ file_limit → AtEnd left'
  pub is_reply : reply ≡ show_reply claims (text_of input)
