-- Tables that are merged: what every side has, and what the merged table is.
use Rattle.std.proofs.Common.{◌≡◌, List, [], ◌∷◌, Option, Some, None, Bool, true, ◌&&◌, not, map, refl, ap, ◌∙◌}
use Rattle.std.specs.List.{list_all}
use Rattle.std.specs.Str.{is_utf8}
use Rattle.fed_json.specs.Forms.{rising, whole}
use Rattle.fed_json.specs.Sets.{union_of, intersection_of}
use Rattle.fed_json.specs.declared.named.Named.{Named}
use Rattle.policy_merge.specs.declared.operators.Operators.{Operators}
use Rattle.fed_json.specs.Tables.{Side}
use Rattle.policy_merge.specs.Policies.{Parameters, Types, named, no_operators, operators_formed, table_formed, parameters_formed, types_formed}
use Rattle.fed_json.specs.Trees.{is_null}
use Rattle.fed_base.specs.Values.{if_there}
use Rattle.policy_merge.specs.Merging.{met, merged_operators, value_or, name_of, beside, merged_parameters, merged}
use Rattle.fed_json.proofs.Booleans.{left_true, right_true, both_true}
use Rattle.fed_json.proofs.Among.{all-union, all-intersection}
use Rattle.fed_json.proofs.NamesOfBoth.{rising-names_of_both, side_passes, sides-pass, name-sides}

-- ---- what is formed

-- the parts of a formed table
pub table-rises : {T : Type 0} (formed : T → Bool) (table : List (Named T)) → table_formed formed table ≡ true → rising (map name_of table) ≡ true
table-rises formed table good = left_true (rising (map name_of table)) _ good

split_all : {T : Type 0} (formed : T → Bool) (table : List (Named T)) → list_all (λ e. is_utf8 e.name && formed e.value) table ≡ true
    → (list_all is_utf8 (map name_of table) ≡ true) × (list_all (λ e. formed e.value) table ≡ true)
split_all formed [] good = (refl, refl)
split_all formed (e ∷ table) good =
    let here = left_true (is_utf8 e.name && formed e.value) _ good in
    let rest = split_all formed table (right_true (is_utf8 e.name && formed e.value) _ good) in
    (both_true (left_true (is_utf8 e.name) _ here) rest.0, both_true (right_true (is_utf8 e.name) _ here) rest.1)

pub table-names : {T : Type 0} (formed : T → Bool) (table : List (Named T)) → table_formed formed table ≡ true → list_all is_utf8 (map name_of table) ≡ true
table-names formed table good = (split_all formed table (right_true (rising (map name_of table)) _ good)).0

pub table-values : {T : Type 0} (formed : T → Bool) (table : List (Named T)) → table_formed formed table ≡ true → list_all (λ e. formed e.value) table ≡ true
table-values formed table good = (split_all formed table (right_true (rising (map name_of table)) _ good)).1

module _ {T : Type 0} (formed : T → Bool) where
  -- a side whose name is UTF-8 and whose values are formed
  abbrev pub side_formed : Side (Named T) (Named T) → Bool
  side_formed = side_passes name_of name_of is_utf8 (λ e. formed e.value) (λ e. formed e.value)

  pub beside-formed : (us ls : List (Named T)) → table_formed formed us ≡ true → table_formed formed ls ≡ true → list_all side_formed (beside us ls) ≡ true
  beside-formed us ls good_u good_l =
      sides-pass name_of name_of is_utf8 (λ (e : Named T). formed e.value) (λ (e : Named T). formed e.value) us ls (table-names formed us good_u) (table-names formed ls good_l) (table-values formed us good_u) (table-values formed ls good_l)

  formed_map : (f : Side (Named T) (Named T) → T) → ((s : Side (Named T) (Named T)) → side_formed s ≡ true → formed (f s) ≡ true) → (ss : List (Side (Named T) (Named T))) → list_all side_formed ss ≡ true
      → (map name_of (map (λ s. named s.name (f s)) ss) ≡ map (λ s. s.name) ss) × (list_all (λ e. is_utf8 e.name && formed e.value) (map (λ s. named s.name (f s)) ss) ≡ true)
  formed_map f each [] all = (refl, refl)
  formed_map f each (s ∷ ss) all =
      let here = left_true (side_formed s) _ all in
      let rest = formed_map f each ss (right_true (side_formed s) _ all) in
      (ap (λ names. s.name ∷ names) rest.0, both_true (both_true (left_true (is_utf8 s.name) _ here) (each s here)) rest.1)

  pub merged_table-formed : (f : Side (Named T) (Named T) → T) → ((s : Side (Named T) (Named T)) → side_formed s ≡ true → formed (f s) ≡ true) → (us ls : List (Named T))
      → table_formed formed us ≡ true → table_formed formed ls ≡ true → table_formed formed (map (λ s. named s.name (f s)) (beside us ls)) ≡ true
  merged_table-formed f each us ls good_u good_l =
      let both = formed_map f each (beside us ls) (beside-formed us ls good_u good_l) in
      both_true (ap rising (both.0 ∙ name-sides name_of name_of us ls) ∙ rising-names_of_both (map name_of us) (map name_of ls) (table-rises formed ls good_l)) both.1

  -- what a side has, or nothing
  pub value_or-formed : (none : T) → formed none ≡ true → (o : Option (Named T)) → if_there (λ e. formed e.value) o ≡ true → formed (value_or none o) ≡ true
  value_or-formed none good None there = good
  value_or-formed none good (Some e) there = there

-- ---- operators

if_there-met : {X : Type 0} (p : X → Bool) (both : X → X → X) → ((a b : X) → p a ≡ true → p b ≡ true → p (both a b) ≡ true) → (a b : Option X)
    → if_there p a ≡ true → if_there p b ≡ true → if_there p (met both a b) ≡ true
if_there-met p both each None b good_a good_b = good_b
if_there-met p both each (Some a) None good_a good_b = good_a
if_there-met p both each (Some a) (Some b) good_a good_b = each a b good_a good_b

pub merged_operators-formed : (u l : Operators) → operators_formed u ≡ true → operators_formed l ≡ true → operators_formed (merged_operators u l) ≡ true
merged_operators-formed u l good_u good_l =
    let u5 = left_true _ (if_there (list_all whole) u.superset_of) good_u in
    let l5 = left_true _ (if_there (list_all whole) l.superset_of) good_l in
    let u4 = left_true _ (if_there (list_all whole) u.subset_of) u5 in
    let l4 = left_true _ (if_there (list_all whole) l.subset_of) l5 in
    let u3 = left_true _ (if_there (list_all whole) u.one_of) u4 in
    let l3 = left_true _ (if_there (list_all whole) l.one_of) l4 in
    let u2 = left_true _ (if_there (λ tree. whole tree && not (is_null tree)) u.default) u3 in
    let l2 = left_true _ (if_there (λ tree. whole tree && not (is_null tree)) l.default) l3 in
    both_true
    (both_true
    (both_true
    (both_true
    (both_true (if_there-met whole (λ a b. a) (λ a b e f. e) u.value l.value (left_true _ (if_there (list_all whole) u.add) u2) (left_true _ (if_there (list_all whole) l.add) l2))
    (if_there-met (list_all whole) union_of (all-union whole) u.add l.add (right_true (if_there whole u.value) _ u2) (right_true (if_there whole l.value) _ l2)))
    (if_there-met (λ tree. whole tree && not (is_null tree)) (λ a b. a) (λ a b e f. e) u.default l.default (right_true _ (if_there (λ tree. whole tree && not (is_null tree)) u.default) u3) (right_true _ (if_there (λ tree. whole tree && not (is_null tree)) l.default) l3)))
    (if_there-met (list_all whole) intersection_of (λ a b e f. all-intersection whole a b e) u.one_of l.one_of (right_true _ (if_there (list_all whole) u.one_of) u4) (right_true _ (if_there (list_all whole) l.one_of) l4)))
    (if_there-met (list_all whole) intersection_of (λ a b e f. all-intersection whole a b e) u.subset_of l.subset_of (right_true _ (if_there (list_all whole) u.subset_of) u5) (right_true _ (if_there (list_all whole) l.subset_of) l5)))
    (if_there-met (list_all whole) union_of (all-union whole) u.superset_of l.superset_of (right_true _ (if_there (list_all whole) u.superset_of) good_u) (right_true _ (if_there (list_all whole) l.superset_of) good_l))

-- ---- policies

pub merged_parameters-formed : (us ls : Parameters) → parameters_formed us ≡ true → parameters_formed ls ≡ true → parameters_formed (merged_parameters us ls) ≡ true
unfolding merged_parameters
merged_parameters-formed us ls good_u good_l =
    merged_table-formed operators_formed (λ (s : Side (Named Operators) (Named Operators)). merged_operators (value_or no_operators s.upper) (value_or no_operators s.lower))
    (λ s good.
    let values = right_true (is_utf8 s.name) _ good in
    merged_operators-formed (value_or no_operators s.upper) (value_or no_operators s.lower) (value_or-formed operators_formed no_operators refl s.upper (left_true _ (if_there (λ (e : Named Operators). operators_formed e.value) s.lower) values))
    (value_or-formed operators_formed no_operators refl s.lower (right_true (if_there (λ (e : Named Operators). operators_formed e.value) s.upper) _ values)))
    us ls good_u good_l

pub merged-formed : (us ls : Types) → types_formed us ≡ true → types_formed ls ≡ true → types_formed (merged us ls) ≡ true
unfolding merged
merged-formed us ls good_u good_l =
    merged_table-formed parameters_formed (λ (s : Side (Named Parameters) (Named Parameters)). merged_parameters (value_or [] s.upper) (value_or [] s.lower))
    (λ s good.
    let values = right_true (is_utf8 s.name) _ good in
    merged_parameters-formed (value_or [] s.upper) (value_or [] s.lower) (value_or-formed parameters_formed [] refl s.upper (left_true _ (if_there (λ (e : Named Parameters). parameters_formed e.value) s.lower) values))
    (value_or-formed parameters_formed [] refl s.lower (right_true (if_there (λ (e : Named Parameters). parameters_formed e.value) s.upper) _ values)))
    us ls good_u good_l
