-- A file or an input that is too long.
use Rattle.std.proofs.Common.{◌≡◌, ◌<◌, ℕ, List, length, Some, None, cond, refl, ap, subst, arith}
use Rattle.std.specs.Prelude.{Option, Result, Err, IfOk, IfSome}
use Rattle.std.proofs.lemmas.Bool.{lt-ltb}
use Rattle.fed_ports.specs.Stores.{Files, IsFile, Loads, Counted, file_limit}
use Rattle.fed_ports.specs.declared.store.StoreFault.{StoreFault}
use Rattle.fed_ports.specs.declared.store.StoreFault.TheVariants.{TooLong}
use Rattle.cli_commands.specs.Answers.{named, IsNamed, IsTextRead}
use Rattle.cli_rings.specs.RingFiles.{IsFileOf}
use Rattle.cli_commands.specs.declared.answer.Stop.{Stop}
use Rattle.cli_rings.specs.declared.ring_file.File.{File}
use Rattle.fed_ports.specs.Inputs.{EndsAs}
use Rattle.cli_commands.specs.Streams.{without_line_end}
use Rattle.cli_words.specs.declared.command.Command.{Command}
use Rattle.fed_ports.specs.declared.input.ReadEnd.TheVariants as end
use Rattle.cli_commands.proofs.StreamLaws.{begins}

-- the file of that name is too long
pub long_file : (files : Option Files) (name : List ℕ) (fault : StoreFault) → fault ≡ TooLong → Loads files name (Err fault)
    → (x : Option (List ℕ)) × IsFile files name x × ((bytes : List ℕ) × (x ≡ Some bytes) × (file_limit < length bytes))
long_file files name fault is loads =
    let found : Loads files name (Err TooLong) = subst (λ f. Loads files name (Err f)) is loads in
    (Some found.0, found.1, (found.0, refl, found.2))

-- the file of a name is that of the command that names it
pub named_file : (c : Command) (files : Option Files) (name : List ℕ) (result : Result File Stop) → Some name ≡ named c
    → IfOk result (λ file. (bytes : Option (List ℕ)) × IsFile files name bytes × IsFileOf file bytes) → IfOk result (λ file. (bytes : Option (List ℕ)) × IsNamed c files bytes × IsFileOf file bytes)
named_file c files name result same found =
    subst (λ n. IfOk result (λ file. (bytes : Option (List ℕ)) × IfSome n (λ m. IsFile files m bytes) × IsFileOf file bytes)) same found

-- and no call failed for that
pub steady_file : (before now : ℕ) (fault : StoreFault) → fault ≡ TooLong → Counted {T = Option (List ℕ)} before now (Err fault) → now ≡ before
steady_file before now fault is counted = subst (λ f. Counted {T = Option (List ℕ)} before now (Err f)) is counted

-- an input is too long
pub long_input : (old new : Option (List ℕ)) (before now : ℕ) → EndsAs old new before now end.TooLong → IsTextRead old new before now None
long_input old new before now ends =
    let whole = begins old new ends.1.0 ends.1.1 in
    let most = ends.1.2 in
    let least = whole.2 in
    let longer : file_limit < length whole.0 = omega (arith, most, least) in
    record {
      steady = ends.0;
      input = whole.0;
      is_input = whole.1;
      is_text = ap (λ b. cond b None (Some (without_line_end whole.0))) (lt-ltb file_limit (length whole.0) longer);
      ended = λ short. absurd (omega (arith, longer, short));
    }
