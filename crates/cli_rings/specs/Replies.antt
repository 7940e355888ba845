-- What a command answers.
use Rattle.std.specs.Prelude.{ℕ, List, [], ◌∷◌, ◌++◌, codes, None}
use Rattle.cli_rings.specs.declared.reply.Reply.{Reply}

-- a status and a text, and nothing to keep
abbrev pub plain : ℕ → List ℕ → Reply
plain status text = record { status = status; text = text; kept = None }

-- the input or a named file isn't of its form, is too long, or isn't there
abbrev pub bad_input : Reply
bad_input = plain 2 (codes "input" ++ 10 ∷ [])

-- a refusal with its reason
abbrev pub refused : List ℕ → Reply
refused reason = plain 1 (codes "refused " ++ (reason ++ 10 ∷ []))
