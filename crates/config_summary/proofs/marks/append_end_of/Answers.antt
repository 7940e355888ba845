use Rattle.std.proofs.Common.{rules, ◌≡◌, ◌++◌, codes, sym, ap, ◌∙◌}
use Rattle.config_summary.specs.Ends.{end_line}
use Rattle.config_summary.specs.Summaries.{mark_end_at, mark_words}
use Rattle.config_summary.proofs.LineLaws.{same-piece}
use Rattle.config_summary.proofs.marks.append_end_of.Goals as goal

pub returns : goal.returns
returns c =
    let name : c.as_slice.result.now ≡ codes "mark " ++ mark_words c.args.entry.now c.args.mark.now = search rules in
    same-piece c.append_end.result c.args.out.now c.append_end.new.out _ _ c.append_end.ensures
    (ap (λ n. end_line c.args.moment n c.in-Some.exp) name ∙ sym (ap (mark_end_at c.args.moment c.args.entry.now c.args.mark.now) c.in-Some.is))
