-- What a tree that is read as a policy gives.
use Rattle.std.proofs.Common.{◌≡◌, List, [], ◌∷◌, Option, Some, None, option_map, Bool, true, false, ◌&&◌, not, map, refl, sym, ap, ap₂, ◌∙◌, subst, true≢false, bytes_eq, cond, Err}
use Rattle.std.specs.Option.{option_and_then}
use Rattle.std.specs.List.{list_all}
use Rattle.std.specs.Str.{is_utf8}
use Rattle.fed_json.specs.declared.tree.Json.{Json}
use Rattle.fed_json.specs.declared.tree.Member.{Member}
use Rattle.fed_json.specs.Forms.{rising, whole, well_formed, has_odd}
use Rattle.fed_json.specs.Trees.{as_list, as_object, find, optional}
use Rattle.policy_merge.specs.declared.operator.Operator.{Operator}
use Rattle.policy_merge.specs.declared.operator.Operator.TheVariants.{Value, Add, Default, OneOf, SubsetOf, SupersetOf, Essential}
use Rattle.policy_merge.specs.declared.operators.Operators.{Operators}
use Rattle.fed_json.specs.declared.named.Named.{Named}
use Rattle.fed_json.specs.Tables.{Name}
use Rattle.policy_merge.specs.Names.{operator_name}
use Rattle.policy_merge.specs.Policies.{Types, named, operators_formed, table_formed, parameters_formed, types_formed}
use Rattle.fed_json.specs.Trees.{is_null}
use Rattle.fed_base.specs.Values.{if_there}
use Rattle.policy_merge.specs.declared.fault.PolicyShape.{PolicyShape}
use Rattle.policy_merge.specs.declared.fault.PolicyShape.TheVariants.{Shape, Memory}
use Rattle.policy_merge.specs.Shapes.{Reads, as_default, as_truth, at, operators_of, operators_shape, table_of, table_shape, policy_shape}
use Rattle.fed_json.proofs.Booleans.{left_true, right_true, both_true}
use Rattle.fed_json.proofs.Accessors.{whole-items, whole-members}
use Rattle.fed_json.proofs.Options.{and_then_some, option_map_some}

-- ---- the whole tree

pub shape-odd : (t : Json) → well_formed t ≡ true → whole t ≡ false → policy_shape t ≡ None
unfolding policy_shape
shape-odd t formed not_whole = by (has_odd t) refl
  where
    by : (b : Bool) → has_odd t ≡ b → policy_shape t ≡ None
    by true e = rw e refl
    by false e = absurd (true≢false (sym (ap₂ (λ x y. x && not y) formed e) ∙ not_whole))

pub shape-whole : (t : Json) → whole t ≡ true → policy_shape t ≡ table_shape (table_shape operators_shape) t
unfolding policy_shape
shape-whole t good = by (has_odd t) refl
  where
    by : (b : Bool) → has_odd t ≡ b → policy_shape t ≡ table_shape (table_shape operators_shape) t
    by true e = absurd (true≢false (sym (right_true (well_formed t) (not (has_odd t)) good) ∙ ap not e))
    by false e = rw e refl

-- ---- tables

module _ {T : Type 0} (shape : Json → Option T) (formed : T → Bool) (each : (t : Json) (v : T) → whole t ≡ true → shape t ≡ Some v → formed v ≡ true) where
  table-formed : (ms : List Member) (table : List (Named T)) → list_all (λ m. is_utf8 m.name && whole m.value) ms ≡ true → table_of shape ms ≡ Some table
      → (map (λ e. e.name) table ≡ map (λ m. m.name) ms) × (list_all (λ e. is_utf8 e.name && formed e.value) table ≡ true)
  table-formed [] table good e = let is : ◌≡◌ {A = List (Named T)} [] table = (cc) in subst (λ (es : List (Named T)). (map (λ e. e.name) es ≡ []) × (list_all (λ e. is_utf8 e.name && formed e.value) es ≡ true)) is (refl, refl)
  table-formed (m ∷ ms) table good e =
      by (shape m.value) (table_of shape ms) refl refl e (λ rest r. table-formed ms rest (right_true (is_utf8 m.name && whole m.value) _ good) r)
    where
      here : (is_utf8 m.name && whole m.value) ≡ true
      here = left_true (is_utf8 m.name && whole m.value) (list_all (λ (m : Member). is_utf8 m.name && whole m.value) ms) good

      by : (v : Option T) (r : Option (List (Named T))) → shape m.value ≡ v → table_of shape ms ≡ r
          → option_and_then (λ x. option_map (λ xs. x ∷ xs) r) (option_map (named m.name) v) ≡ Some table
          → ((rest : List (Named T)) → table_of shape ms ≡ Some rest
          → (map (λ e. e.name) rest ≡ map (λ m. m.name) ms) × (list_all (λ e. is_utf8 e.name && formed e.value) rest ≡ true))
          → (map (λ e. e.name) table ≡ m.name ∷ map (λ m. m.name) ms) × (list_all (λ e. is_utf8 e.name && formed e.value) table ≡ true)
      by None r is_v is_r e later = absurd (cc)
      by (Some v) None is_v is_r e later = absurd (cc)
      by (Some v) (Some rest) is_v is_r e later =
          let l = later rest is_r in
          let good_v = each m.value v (right_true (is_utf8 m.name) _ here) is_v in
          let utf8 = left_true (is_utf8 m.name) _ here in
          let is : named m.name v ∷ rest ≡ table = (cc) in
          subst (λ (es : List (Named T)). (map (λ e. e.name) es ≡ m.name ∷ map (λ m. m.name) ms) × (list_all (λ e. is_utf8 e.name && formed e.value) es ≡ true)) is
          (ap (λ names. m.name ∷ names) l.0, both_true (both_true utf8 good_v) l.1)

  pub table_shape-formed : (t : Json) (table : List (Named T)) → whole t ≡ true → table_shape shape t ≡ Some table → table_formed formed table ≡ true
  unfolding table_shape
  table_shape-formed t table good e = by (as_object t) refl e
    where
      by : (o : Option (List Member)) → as_object t ≡ o → option_and_then (table_of shape) o ≡ Some table → table_formed formed table ≡ true
      by None is e = absurd (cc)
      by (Some ms) is e =
          let all = whole-members t ms good is in
          let l = table-formed ms table (right_true (rising (map (λ m. m.name) ms)) _ all) e in
          both_true (ap rising l.0 ∙ left_true (rising (map (λ m. m.name) ms)) _ all) l.1

-- ---- operators

-- the value under a name can be written
found-whole : (name : Name) (ms : List Member) → list_all (λ m. is_utf8 m.name && whole m.value) ms ≡ true → if_there whole (find name ms) ≡ true
found-whole name [] good = refl
found-whole name (m ∷ ms) good =
    by (bytes_eq m.name name) (right_true (is_utf8 m.name) (whole m.value) (left_true (is_utf8 m.name && whole m.value) _ good)) (found-whole name ms (right_true (is_utf8 m.name && whole m.value) _ good))
  where
    by : (b : Bool) → whole m.value ≡ true → if_there whole (find name ms) ≡ true → if_there whole (cond b (Some m.value) (find name ms)) ≡ true
    by true here rest = here
    by false here rest = rest

-- what is of the shape passes the test
optional-formed : {X : Type 0} (shape : Json → Option X) (p : X → Bool) → ((t : Json) (v : X) → whole t ≡ true → shape t ≡ Some v → p v ≡ true) → (found : Option Json) (got : Option X)
    → if_there whole found ≡ true → optional shape found ≡ Some got → if_there p got ≡ true
optional-formed {X} shape p each None got good e = let is : ◌≡◌ {A = Option X} None got = (cc) in subst (λ o. if_there p o ≡ true) is refl
optional-formed {X} shape p each (Some t) got good e = by (shape t) refl e
  where
    by : (o : Option X) → shape t ≡ o → option_map Some o ≡ Some got → if_there p got ≡ true
    by None is e = absurd (cc)
    by (Some v) is e = let same : Some v ≡ got = (cc) in subst (λ o. if_there p o ≡ true) same (each t v good is)

at-formed : {X : Type 0} (shape : Json → Option X) (p : X → Bool) → ((t : Json) (v : X) → whole t ≡ true → shape t ≡ Some v → p v ≡ true) → (operator : Operator) (ms : List Member) (got : Option X)
    → list_all (λ m. is_utf8 m.name && whole m.value) ms ≡ true → at shape operator ms ≡ Some got → if_there p got ≡ true
at-formed shape p each operator ms got good e = optional-formed shape p each (find (operator_name operator) ms) got (found-whole (operator_name operator) ms good) e

value-formed : (t v : Json) → whole t ≡ true → Some t ≡ Some v → whole v ≡ true
value-formed t v good e = let is : t ≡ v = (cc) in ap whole (sym is) ∙ good

default-formed : (t v : Json) → whole t ≡ true → as_default t ≡ Some v → (whole v && not (is_null v)) ≡ true
default-formed t v good e = by (is_null t) refl e
  where
    by : (b : Bool) → is_null t ≡ b → cond b None (Some t) ≡ Some v → (whole v && not (is_null v)) ≡ true
    by true is e = absurd (cc)
    by false is e = let same : t ≡ v = (cc) in subst (λ x. (whole x && not (is_null x)) ≡ true) same (both_true good (ap not is))

operators-formed : (ms : List Member) (o : Operators) → list_all (λ m. is_utf8 m.name && whole m.value) ms ≡ true → operators_of ms ≡ Some o → operators_formed o ≡ true
operators-formed ms o good e =
    let a = and_then_some _ (at Some Value ms) o e in
    let b = and_then_some _ (at as_list Add ms) o a.2 in
    let c = and_then_some _ (at as_default Default ms) o b.2 in
    let d = and_then_some _ (at as_list OneOf ms) o c.2 in
    let f = and_then_some _ (at as_list SubsetOf ms) o d.2 in
    let g = and_then_some _ (at as_list SupersetOf ms) o f.2 in
    let h = option_map_some _ (at as_truth Essential ms) o g.2 in
    let items = λ (t : Json) (v : List Json) (w : whole t ≡ true) (is : as_list t ≡ Some v). whole-items t v w is in
    subst (λ x. operators_formed x ≡ true) h.2
    (both_true
    (both_true
    (both_true
    (both_true
    (both_true (at-formed Some whole value-formed Value ms a.0 good a.1) (at-formed as_list (list_all whole) items Add ms b.0 good b.1))
    (at-formed as_default (λ tree. whole tree && not (is_null tree)) default-formed Default ms c.0 good c.1))
    (at-formed as_list (list_all whole) items OneOf ms d.0 good d.1))
    (at-formed as_list (list_all whole) items SubsetOf ms f.0 good f.1))
    (at-formed as_list (list_all whole) items SupersetOf ms g.0 good g.1))

operators_shape-formed : (t : Json) (o : Operators) → whole t ≡ true → operators_shape t ≡ Some o → operators_formed o ≡ true
unfolding operators_shape
operators_shape-formed t o good e =
    let a = and_then_some operators_of (as_object t) o e in
    operators-formed a.0 o (right_true (rising (map (λ m. m.name) a.0)) _ (whole-members t a.0 good a.1)) a.2

-- a policy that was read is formed
pub policy-formed : (t : Json) (types : Types) → whole t ≡ true → table_shape (table_shape operators_shape) t ≡ Some types → types_formed types ≡ true
policy-formed t types good e =
    table_shape-formed (table_shape operators_shape) parameters_formed (λ t table good e. table_shape-formed operators_shape operators_formed operators_shape-formed t table good e) t types good e

-- ---- answers

pub reads_on : {T U : Type 0} (f : PolicyShape) (o : Option T) (o' : Option U) → (o ≡ None → o' ≡ None) → Reads (Err f) o → Reads (Err f) o'
reads_on Shape o o' on none = on none
reads_on Memory o o' on none = tt

-- a test that says the same answers no where the other does
pub decides_false : (r b : Bool) → (r ≡ true → b ≡ true) × (b ≡ true → r ≡ true) → r ≡ false → b ≡ false
decides_false r true d e = absurd (true≢false (sym (d.1 refl) ∙ e))
decides_false r false d e = refl
