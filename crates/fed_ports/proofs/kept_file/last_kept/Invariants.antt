use Rattle.std.proofs.Common.{◌≡◌, drop}
use Rattle.std.specs.Option.{option_copied}
use Rattle.fed_ports.specs.KeptFiles.{kept_of}
use Rattle.fed_ports.specs.NamedFiles.{first_of}
use Rattle.fed_ports.proofs.kept_file.last_kept.Given as goal

abbrev pub invariant-files : goal.invariant-files
invariant-files l = first_of (kept_of (drop l.file-index l.kept) l.rest l.name) (option_copied l.found) ≡ kept_of l.kept l.bytes l.name
