use Rattle.std.proofs.Common.{◌≡◌, take}
use Rattle.entity_statement.specs.Told.{told}
use Rattle.resolve_reply.specs.Marks.{AreConfigs, AreGood, judging_by, looked_at, tests_of_marks, text_of}
use Rattle.resolve_reply.proofs.marks.good_marks.Given as goal
use Rattle.fed_base.specs.Counts.{counted}

abbrev pub invariant-loop-place : goal.invariant-loop-place
invariant-loop-place g l = record {
  good : AreGood (judging_by l.leaf.sub (told l.anchor) l.issuers.found l.t) (take l.place (looked_at l.leaf.marks)) l.exp l.good;
  configs : AreConfigs (text_of l.issuers.found) l.good.entries l.good.configs;
  counted : g.L.Ledger.count l.steps.ledger ≡ counted (tests_of_marks (judging_by l.leaf.sub (told l.anchor) l.issuers.found l.t) (take l.place (looked_at l.leaf.marks))) (g.L.Ledger.count l.fn.steps.ledger);
}
