-- The names of faults, as they are told: of a signed text, of its claims, and of key sets.
use Rattle.std.specs.Prelude.{ℕ, List, [], ◌++◌, codes, decimal}
use Rattle.jwk_set.specs.declared.fault.SetFault.{SetFault}
use Rattle.jwk_set.specs.declared.fault.SetFault.TheVariants as set
use Rattle.jws_form.specs.declared.fault.FormFault.{FormFault}
use Rattle.jws_form.specs.declared.fault.FormFault.TheVariants as form
use Rattle.entity_statement.specs.declared.fault.StatementFault.{StatementFault}
use Rattle.entity_statement.specs.declared.fault.StatementFault.TheVariants as statement
use Rattle.trust_mark.specs.declared.fault.MarkFault.{MarkFault}
use Rattle.trust_mark.specs.declared.fault.MarkFault.TheVariants as mark
use Rattle.plain_notes.specs.Strings.{string}

-- why a text isn't in compact form; parts are counted from 0 (RFC 7515 section 7.1)
abbrev pub form_reason : FormFault → List ℕ
form_reason form.TooLong = codes "TooLong"
form_reason form.Parts = codes "Parts"
form_reason (form.Base64 part) = codes "Base64 " ++ decimal part
form_reason form.Header = codes "Header"
form_reason form.Crit = codes "Crit"
form_reason form.Algorithm = codes "Algorithm"
form_reason form.Memory = []

-- why a tree isn't a key set; keys are counted from 0 (RFC 7517 section 5)
abbrev pub set_reason : SetFault → List ℕ
set_reason set.NotSet = codes "NotSet"
set_reason (set.Shape place) = codes "Shape " ++ decimal place
set_reason (set.DoubleKid place) = codes "DoubleKid " ++ decimal place
set_reason set.Memory = []

-- why claims aren't those of an entity statement, with the claim that is at fault (OpenID Federation 1.0 section 3.1)
abbrev pub statement_reason : StatementFault → List ℕ
statement_reason statement.Typ = codes "Typ"
statement_reason statement.Tree = codes "Tree"
statement_reason (statement.Missing claim) = codes "Missing " ++ claim
statement_reason (statement.Shape claim) = codes "Shape " ++ claim
statement_reason (statement.Keys fault) = codes "Keys " ++ set_reason fault
statement_reason (statement.Misplaced claim) = codes "Misplaced " ++ claim
statement_reason (statement.Critical name) = codes "Critical " ++ string name
statement_reason statement.Memory = []

-- why claims aren't those of a trust mark, a delegation or a status (OpenID Federation 1.0 sections 7 and 8.4)
abbrev pub mark_reason : MarkFault → List ℕ
mark_reason mark.Typ = codes "Typ"
mark_reason mark.Tree = codes "Tree"
mark_reason (mark.Missing claim) = codes "Missing " ++ claim
mark_reason (mark.Shape claim) = codes "Shape " ++ claim
mark_reason mark.Memory = []
