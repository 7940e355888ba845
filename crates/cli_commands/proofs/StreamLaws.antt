-- What was read is the input.
use Rattle.std.proofs.Common.{◌≡◌, ◌≤◌, ℕ, List, ◌++◌, length, Some, None, refl, arith}
use Rattle.std.specs.Prelude.{Option}
use Rattle.std.proofs.lemmas.Grind.{common_steps}
use Rattle.cli_commands.specs.Answers.{MayBe}
use Rattle.fed_ports.specs.Inputs.{AtEnd}
use Rattle.fed_ports.specs.Lists.{Gave}

-- an input that begins with the bytes
pub begins : (old new : Option (List ℕ)) (bytes : List ℕ) → Gave old bytes new → (input : List ℕ) × MayBe old input × (length bytes ≤ length input)
begins None new bytes gave = (bytes, tt, omega arith)
begins (Some left) None bytes gave = absurd (cc gave)
begins (Some left) (Some rest) bytes gave =
    let is : left ≡ bytes ++ rest = cc gave in
    (left, refl, grind (arith, common_steps, is))

-- the input is the bytes, where nothing is left
pub is_input : (old new : Option (List ℕ)) (bytes : List ℕ) → Gave old bytes new → AtEnd new → MayBe old bytes
is_input None new bytes gave ended = tt
is_input (Some left) None bytes gave ended = absurd (cc gave)
is_input (Some left) (Some rest) bytes gave ended =
    let is : left ≡ bytes ++ rest = cc gave in
    grind (arith, common_steps, is, ended)
