use Rattle.std.proofs.Common.{◌≡◌, drop}
use Rattle.std.specs.Option.{option_copied}
use Rattle.fed_ports.specs.NamedFiles.{file_of, first_of}
use Rattle.fed_ports.proofs.named_file.last_of.Given as goal

abbrev pub invariant-files : goal.invariant-files
invariant-files l = first_of (file_of (drop l.file-index l.files) l.name) (option_copied l.found) ≡ file_of l.files l.name
