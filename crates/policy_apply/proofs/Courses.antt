-- The seven actions, one by one.
use Rattle.std.proofs.Common.{◌≡◌, Option, Ok, Err, Bool, true, false, refl, sym, ap, ◌∙◌}
use Rattle.std.specs.Option.{option_map_or, option_or}
use Rattle.fed_base.specs.Answers.{◌>>=◌}
use Rattle.fed_json.specs.declared.tree.Json.{Json}
use Rattle.policy_merge.specs.declared.operator.Operator.{Operator}
use Rattle.policy_merge.specs.declared.operator.Operator.TheVariants.{OneOf, SupersetOf, Essential}
use Rattle.policy_merge.specs.declared.operators.Operators.{Operators}
use Rattle.fed_json.specs.Tables.{Name}
use Rattle.policy_merge.specs.Shapes.{as_default}
use Rattle.policy_apply.specs.Acting.{Outcome, if_passes, by_value, by_add, by_default, by_one_of, by_subset_of, by_superset_of, by_essential, is_one_of, is_superset_of, is_enough, acted}

-- the value that the parameter starts with
abbrev pub set_first : Operators → Option Json → Option Json
set_first o x = option_map_or as_default o.value x

-- what each action found, where none refused
pub record Course (p : Name) (o : Operators) (x y : Option Json) : Type 0 where
  pub added : Option Json
  pub add : by_add p o (set_first o x) ≡ Ok added
  pub one_of : is_one_of o.one_of (option_or added o.default) ≡ true
  pub subset_of : by_subset_of p o (option_or added o.default) ≡ Ok y
  pub superset_of : is_superset_of p o.superset_of y ≡ true
  pub essential : is_enough o.essential y ≡ true

chain-ok : (r : Outcome) (act : Option Json → Outcome) (y : Option Json) → (r >>= act) ≡ Ok y → (x : Option Json) × (r ≡ Ok x) × (act x ≡ Ok y)
chain-ok (Ok x) act y e = (x, refl, e)
chain-ok (Err operator) act y e = absurd (cc)

passes-ok : (b : Bool) (operator : Operator) (x y : Option Json) → if_passes b operator x ≡ Ok y → (b ≡ true) × (x ≡ y)
passes-ok true operator x y e = (refl, (cc))
passes-ok false operator x y e = absurd (cc)

pub course : (p : Name) (o : Operators) (x y : Option Json) → acted p o x ≡ Ok y → Course p o x y
unfolding acted by_value by_default by_one_of by_superset_of by_essential
course p o x y e =
    let a = chain-ok _ (by_essential o) y e in
    let b = chain-ok _ (by_superset_of p o) a.0 a.1 in
    let c = chain-ok _ (by_subset_of p o) b.0 b.1 in
    let d = chain-ok _ (by_one_of o) c.0 c.1 in
    let f = chain-ok (by_add p o (set_first o x)) (by_default o) d.0 d.1 in
    let defaulted : option_or f.0 o.default ≡ d.0 = (cc) in
    let one = passes-ok (is_one_of o.one_of d.0) OneOf d.0 c.0 d.2 in
    let superset = passes-ok (is_superset_of p o.superset_of b.0) SupersetOf b.0 a.0 b.2 in
    let enough = passes-ok (is_enough o.essential a.0) Essential a.0 y a.2 in
    let same : b.0 ≡ y = superset.1 ∙ enough.1 in
    record {
      added = f.0;
      add = f.1;
      one_of = ap (is_one_of o.one_of) defaulted ∙ one.0;
      subset_of = ap (by_subset_of p o) (defaulted ∙ one.1) ∙ c.2 ∙ ap Ok same;
      superset_of = ap (is_superset_of p o.superset_of) (sym same) ∙ superset.0;
      essential = ap (is_enough o.essential) (sym enough.1) ∙ enough.0;
    }

pub acted-course : (p : Name) (o : Operators) (x y : Option Json) → Course p o x y → acted p o x ≡ Ok y
unfolding acted by_value by_default by_one_of by_superset_of by_essential
acted-course p o x y c =
    ap (λ (r : Outcome). r >>= by_default o >>= by_one_of o >>= by_subset_of p o >>= by_superset_of p o >>= by_essential o) c.add
    ∙ ap (λ b. if_passes b OneOf (option_or c.added o.default) >>= by_subset_of p o >>= by_superset_of p o >>= by_essential o) c.one_of
    ∙ ap (λ (r : Outcome). r >>= by_superset_of p o >>= by_essential o) c.subset_of
    ∙ ap (λ b. if_passes b SupersetOf y >>= by_essential o) c.superset_of
    ∙ ap (λ b. if_passes b Essential y) c.essential
