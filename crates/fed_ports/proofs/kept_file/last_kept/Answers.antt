use Rattle.std.proofs.Common.{◌≡◌, ◌+◌, true, false, drop, get_or, refl, sym, ap₂, ◌∙◌, cond, Some, None, bytes_eq}
use Rattle.std.specs.Option.{option_copied}
use Rattle.fed_ports.specs.KeptFiles.{kept_of}
use Rattle.fed_ports.specs.NamedFiles.{first_of}
use Rattle.fed_ports.proofs.KeptLaws.{kept_next, kept_at_all}
use Rattle.fed_ports.proofs.kept_file.last_kept.Goals.{then-eq, else-eq}
use Rattle.fed_ports.proofs.kept_file.last_kept.Goals as goal

pub files-preserved : goal.files-preserved
files-preserved c =
    let fs = c.args.kept.now in
    let i = c.files.file-index in
    let name = c.args.name.now in
    let old = option_copied c.files.found in
    let next : (b : _) → b ≡ bytes_eq c.cut.result.0.now name → first_of (kept_of (drop (i + 1) fs) c.cut-in-files.result.1.now name) (first_of (cond b (Some c.cut-in-files.result.0.now) None) old) ≡ kept_of fs c.args.bytes.now name =
    λ b test. kept_next fs i (record { name = 0; bytes = 0 }) (get_or fs i (record { name = 0; bytes = 0 })) c.files.rest.now name old _ _ c.cut.result.1.now _ _ b c.files-test.true refl c.cut.ensures.front c.cut.ensures.behind c.cut-in-files.ensures.front c.cut-in-files.ensures.behind test c.files.invariant in
    elim c.if-eq.branch [
      | then-eq w ↦ ap₂ (λ r x. first_of (kept_of (drop (i + 1) fs) r.now name) (option_copied x)) w.rest-is w.found-is ∙ next true (sym w.if-eq.true ∙ c.eq.ensures)
      | else-eq w ↦ ap₂ (λ r x. first_of (kept_of (drop (i + 1) fs) r.now name) (option_copied x)) w.rest-is w.found-is ∙ next false (sym w.if-eq.false ∙ c.eq.ensures)
    ]

pub returns : goal.returns
returns c = kept_at_all c.args.kept.now c.files.file-index c.files.rest.now c.args.name.now _ _ c.files-test.false c.files.invariant
