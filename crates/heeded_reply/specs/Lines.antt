-- What is written of a reply whose marks were asked about.
use Rattle.std.specs.Prelude.{ℕ, List, [], ◌∷◌, ◌+◌, ◌++◌, codes, decimal}
use Rattle.mark_status.specs.declared.tell.Tell.{Tell}
use Rattle.mark_status.specs.declared.tell.Tell.TheVariants.{Active, Unasked, Refused, Useless, Fault}
use Rattle.heeded_reply.specs.declared.reply.HeededReply.{HeededReply}

-- what is told of a mark, in a word
abbrev pub word_of : Tell → List ℕ
word_of Active = codes "active"
word_of Unasked = codes "unasked"
word_of (Refused status) = codes "refused"
word_of Useless = codes "useless"
word_of Fault = codes "fault"

-- a mark's place among the marks of the reply, from 0 on, and its word
abbrev pub mark_line : ℕ → Tell → List ℕ
mark_line place tell = codes "mark " ++ (decimal place ++ (codes " " ++ (word_of tell ++ 10 ∷ [])))

-- a line for each mark, in order
abbrev pub mark_lines : ℕ → List Tell → List ℕ
mark_lines place [] = []
mark_lines place (tell ∷ tells) = mark_line place tell ++ mark_lines (place + 1) tells

-- the reply's text on a line, and then those of its marks
unfoldable pub reply_lines : HeededReply → List ℕ
reply_lines heeded = (heeded.text ++ 10 ∷ []) ++ mark_lines 0 heeded.tells
