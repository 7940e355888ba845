-- What `register` does: the outside before and after, with the input, and the status.
use Rattle.std.specs.Prelude.{◌≡◌, ◌⊎◌, ℕ, List, [], ◌∷◌, ◌++◌, codes, Option, Some, None, Result, Ok, Err}
use Rattle.chain_check.specs.declared.verdict.Verdict.TheVariants.{Refused}
use Rattle.client_register.specs.declared.fault.RegisterFault.{RegisterFault}
use Rattle.client_register.specs.declared.fault.RegisterFault.TheVariants.{Form, Chain, NoType, NoChain, Spent, Fault, Memory}
use Rattle.client_register.specs.declared.registered.Registered.{Registered}
use Rattle.cli_commands.specs.Checks.{lines_of}
use Rattle.node_files.specs.Moments.{at_moment}
use Rattle.resolve_call.specs.Ports.{around as around_call}
use Rattle.register_once.specs.declared.registering.RegisterOutcome.{RegisterOutcome}
use Rattle.register_once.specs.declared.stop.RegisterStop.{RegisterStop}
use Rattle.register_once.specs.declared.stop.RegisterStop.TheVariants as stop
use Rattle.register_once.specs.Registering.{At, RegistersOnce, Wanted, around}
use Rattle.fed.specs.Authorities.{Outside, input_line}
use Rattle.fed.specs.Resolving.{IsSilent, Writes, Written, line_of, listening_in, written_in}

-- ---- what is written

-- why nothing is registered
abbrev pub refused_line : List ℕ → List ℕ
refused_line reason = codes "refused " ++ (reason ++ 10 ∷ [])

-- a line was written, or memory was wanting for it
abbrev pub IsTextTold : ℕ → List ℕ → Written → Written → ℕ → Type 0
IsTextTold status line before now result = Writes status line before now result ⊎ IsSilent 5 before now result

-- what is written, and the status, by what was answered: the registration, or why there is none, where a chain isn't valid as `check` does
abbrev pub IsAnswerTold : Result Registered RegisterFault → Written → Written → ℕ → Type 0
IsAnswerTold (Ok registered) before now status = IsTextTold 0 (line_of registered.text) before now status
IsAnswerTold (Err Form) before now status = Writes 1 (refused_line (codes "Form")) before now status
IsAnswerTold (Err (Chain place reason)) before now status = IsTextTold 1 (lines_of (Refused place reason)) before now status
IsAnswerTold (Err NoType) before now status = Writes 1 (refused_line (codes "NoType")) before now status
IsAnswerTold (Err NoChain) before now status = Writes 1 (refused_line (codes "NoChain")) before now status
IsAnswerTold (Err Spent) before now status = IsSilent 9 before now status
IsAnswerTold (Err Fault) before now status = IsSilent 7 before now status
IsAnswerTold (Err Memory) before now status = IsSilent 5 before now status

-- a worn object, whatever was answered
abbrev pub IsOutcomeTold : {W : Type 0} → Option W → Result Registered RegisterFault → Written → Written → ℕ → Type 0
IsOutcomeTold (Some pass) answer before now status = IsSilent 8 before now status
IsOutcomeTold None answer before now status = IsAnswerTold answer before now status

-- the same where what was posted may not be looked at
abbrev pub IsTold : Result RegisterOutcome RegisterStop → Written → Written → ℕ → Type 0
IsTold (Ok outcome) before now status = IsOutcomeTold outcome.worn outcome.result before now status
IsTold (Err stop.Input) before now status = Writes 2 input_line before now status
IsTold (Err stop.NoAnchor) before now status = Writes 1 (refused_line (codes "NoAnchor")) before now status
IsTold (Err stop.Source) before now status = IsSilent 3 before now status
IsTold (Err stop.Store) before now status = IsSilent 6 before now status
IsTold (Err stop.Memory) before now status = IsSilent 5 before now status

-- ---- the outside

-- the outside with the input: what is left of it, where it is told, and how often it failed
pub record WithInput (P : Type 0) : Type 0 where
  pub left : Option (List ℕ)
  pub read_faults : ℕ
  pub outside : Outside P

-- the outside as a registration sees it
abbrev pub seen_by_registration : {P : Type 0} → WithInput P → At
seen_by_registration o =
    at_moment o.outside.node.files o.outside.node.store_faults
    (around o.left o.read_faults (around_call o.outside.node.around.service.clock o.outside.exchanges o.outside.node.around.faults))

-- one registration was made, or what was posted wasn't looked at, and the result is written and told by the status; the network listens as
-- before, and nobody was accepted or settled
pub record RunsRegistration {P : Type 0} (w : Wanted) (before now : WithInput P) (status : ℕ) : Type 0 where
  pub result : Result RegisterOutcome RegisterStop
  pub registers : RegistersOnce w (seen_by_registration before) (seen_by_registration now) result
  pub told : IsTold result (written_in before.outside) (written_in now.outside) status
  pub still : listening_in now.outside ≡ listening_in before.outside
