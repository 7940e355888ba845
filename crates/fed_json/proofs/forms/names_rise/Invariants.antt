use Rattle.std.proofs.Common.{◌≡◌, ◌∷◌, drop}
use Rattle.fed_json.specs.Forms.{rising}
use Rattle.fed_json.proofs.Names.{names}
use Rattle.fed_json.proofs.forms.names_rise.Given as goal

abbrev pub invariant-loop-member : goal.invariant-loop-member
invariant-loop-member l = rising (names l.members) ≡ rising (l.before ∷ names (drop l.member-index l.others))
