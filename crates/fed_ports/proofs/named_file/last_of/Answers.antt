use Rattle.std.proofs.Common.{◌≡◌, ◌+◌, true, false, drop, sym, ap, ◌∙◌, subst, cond, Some, None, bytes_eq}
use Rattle.std.specs.Option.{option_copied}
use Rattle.fed_ports.specs.NamedFiles.{file_of, first_of}
use Rattle.fed_ports.proofs.FileLaws.{looked_on, looked_at_all, looked_at_none}
use Rattle.fed_ports.proofs.named_file.last_of.Goals.{then-eq, else-eq}
use Rattle.fed_ports.proofs.named_file.last_of.Goals as goal

pub files-init : goal.files-init
files-init c = looked_at_none c.args.files.now c.args.name.now

pub files-preserved : goal.files-preserved
files-preserved c =
    let fs = c.args.files.now in
    let i = c.files.file-index in
    let f = c.file-item.result in
    let name = c.args.name.now in
    let next = looked_on fs i f name (option_copied c.files.found) c.files-test.true c.file-item.is c.files.invariant in
    let same = c.eq.ensures ∙ ap (λ n. bytes_eq n name) c.as_slice.ensures in
    let found : (b : _) → b ≡ bytes_eq f.name name → first_of (file_of (drop (i + 1) fs) name) (first_of (cond b (Some f.bytes) None) (option_copied c.files.found)) ≡ file_of fs name = λ b e. subst (λ x. first_of (file_of (drop (i + 1) fs) name) (first_of (cond x (Some f.bytes) None) (option_copied c.files.found)) ≡ file_of fs name) (sym e) next in
    elim c.if-eq.branch [
      | then-eq w ↦ ap (λ x. first_of (file_of (drop (i + 1) fs) name) (option_copied x)) w.found-is ∙ found true (sym w.if-eq.true ∙ same)
      | else-eq w ↦ ap (λ x. first_of (file_of (drop (i + 1) fs) name) (option_copied x)) w.found-is ∙ found false (sym w.if-eq.false ∙ same)
    ]

pub returns : goal.returns
returns c = looked_at_all c.args.files.now c.files.file-index c.args.name.now _ c.files-test.false c.files.invariant
