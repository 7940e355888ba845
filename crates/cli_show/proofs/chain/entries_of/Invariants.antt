use Rattle.std.proofs.Common.{◌≡◌, take}
use Rattle.cli_show.specs.Views.{any_refused, entries}
use Rattle.cli_show.proofs.chain.entries_of.Given as goal

abbrev pub invariant-loop-text : goal.invariant-loop-text
invariant-loop-text l = record {
  shown : l.out ≡ entries 0 (take l.text-index l.texts);
  refused : l.any ≡ any_refused (take l.text-index l.texts);
  counted : l.place ≡ l.text-index;
}
