-- What stands under a name in a tree that has a text has one too.
use Rattle.std.proofs.Common.{◌≡◌, ℕ, List, [], ◌∷◌, Bool, true, false, ◌&&◌, map, cond, Option, Some, None, IfSome, Bor, bytes_eq, refl, sym, subst}
use Rattle.std.specs.List.{list_all}
use Rattle.std.specs.Option.{option_copied}
use Rattle.std.specs.Str.{is_utf8}
use Rattle.fed_base.specs.Values.{if_there}
use Rattle.fed_json.specs.declared.tree.Json.{Json}
use Rattle.fed_json.specs.declared.tree.Member.{Member}
use Rattle.fed_json.specs.Forms.{IsWhole, rising, whole}
use Rattle.fed_json.specs.Trees.{find, object_members}
use Rattle.fed_json.proofs.Booleans.{left_true, right_true}
use Rattle.policy_apply.proofs.Walking.{object_members-whole}

among : (name : List ℕ) (ms : List Member) → list_all (λ m. is_utf8 m.name && whole m.value) ms ≡ true → if_there whole (find name ms) ≡ true
among name [] good = refl
among name (m ∷ ms) good =
    by (bytes_eq m.name name) (right_true (is_utf8 m.name) (whole m.value) (left_true (is_utf8 m.name && whole m.value) _ good)) (among name ms (right_true (is_utf8 m.name && whole m.value) _ good))
  where
    by : (b : Bool) → whole m.value ≡ true → if_there whole (find name ms) ≡ true → if_there whole (cond b (Some m.value) (find name ms)) ≡ true
    by true here rest = here
    by false here rest = rest

pub found : (tree : Json) (name : List ℕ) (members : List Member) (value : Json) → IsWhole tree → members ≡ object_members tree → Some value ≡ find name members → IsWhole value
found tree name members value good are is =
    subst (λ o. if_there whole o ≡ true) (sym is)
    (subst (λ ms. if_there whole (find name ms) ≡ true) (sym are)
    (among name (object_members tree) (right_true (rising (map (λ (m : Member). m.name) (object_members tree))) _ (object_members-whole tree good))))

pub found-whole : (tree : Json) (name : List ℕ) (members : List Member) (result : Option (Bor Json)) → IsWhole tree → members ≡ object_members tree → option_copied result ≡ find name members
    → IfSome result (λ value. IsWhole value.now)
found-whole tree name members None good are is = tt
found-whole tree name members (Some value) good are is = found tree name members value.now good are is
