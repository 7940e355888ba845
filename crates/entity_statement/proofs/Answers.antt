-- What stands behind an answer that is `Ok`.
use Rattle.std.proofs.Common.{◌≡◌, Option, Some, None, Result, Ok, Err, refl, ap, subst}
use Rattle.std.specs.Option.{ok_or}
use Rattle.fed_base.specs.Answers.{◌>>=◌}
use Rattle.fed_json.specs.declared.tree.Json.{Json}
use Rattle.entity_statement.specs.declared.fault.StatementFault.{StatementFault}
use Rattle.entity_statement.specs.Table.{said}

-- a value, and what is made of a value
pub ok_or-ok : {X E : Type 0} (o : Option X) (fault : E) (x : X) → ok_or o fault ≡ Ok x → o ≡ Some x
ok_or-ok None fault x e = cc e
ok_or-ok (Some y) fault x e = let same : y ≡ x = cc e in ap Some same

pub then-ok : {X Y E : Type 0} (m : Result X E) (f : X → Result Y E) (y : Y) → (m >>= f) ≡ Ok y → (x : X) × (m ≡ Ok x) × (f x ≡ Ok y)
then-ok (Ok x) f y e = (x, refl, e)
then-ok (Err fault) f y e = cc e

-- a fact of a claim that may be absent: it holds of the empty one, and of each that is there
pub said-fact : {X : Type 0} (P : X → Type 0) (empty : X) (says : Json → Result X StatementFault) (o : Option Json) (x : X)
    → P empty → ((tree : Json) → o ≡ Some tree → says tree ≡ Ok x → P x) → said empty says o ≡ Ok x → P x
said-fact P empty says None x is each e = let same : empty ≡ x = cc e in subst P same is
said-fact P empty says (Some tree) x is each e = each tree refl e
