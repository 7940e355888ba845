-- What has become of a trust mark.
use Rattle.std.proofs.Common.{◌≡◌, ℕ, List, Bool, true, false, cond, Option, Some, None, Result, Ok, Err, refl, sym, ap, ◌∙◌, subst, arith}
use Rattle.std.specs.Prelude.{IfOk, IfSome, MatchResult, is_some}
use Rattle.fed_base.specs.declared.faults.Memory.{Memory}
use Rattle.fed_json.specs.declared.tree.Json.{Json}
use Rattle.fed_json.specs.Forms.{IsWhole}
use Rattle.fed_json.proofs.Accessors.{as_object-Object}
use Rattle.sealed.specs.Sealing.{IsObject}
use Rattle.trust_mark.specs.Statuses.{status_tree}
use Rattle.trust_mark.specs.declared.status.StatusAnswer.{StatusAnswer}
use Rattle.std.specs.Option.{option_and_then, option_map_or}
use Rattle.std.specs.Result.{result_ok}
use Rattle.fed_base.specs.Values.{◌>>=◌}
use Rattle.fed_base.specs.Counts.{CountsAtMost, counted}
use Rattle.jws_form.specs.declared.compact.Compact.{Compact}
use Rattle.jws_form.specs.Compact.{IsCompact}
use Rattle.jws_form.specs.Splitting.{splitting}
use Rattle.jwk_set.specs.declared.jwk.Jwk.{Jwk}
use Rattle.sealed.specs.Deciding.{is_sealed_by}
use Rattle.sealed.specs.Tests.{tests_under}
use Rattle.entity_statement.specs.Claims.{Identifier}
use Rattle.key_ring.specs.Sets.{kept_set}
use Rattle.trust_mark.specs.Claims.{mark_claims}
use Rattle.trust_mark.specs.Marks.{mark_of}
use Rattle.trust_mark.specs.declared.mark.Mark.{Mark}
use Rattle.authority_core.specs.Nodes.{Node}
use Rattle.authority_core.specs.Statuses.{if_issued_by, mark_by, own_mark, status_tests}

-- ---- the mark that a text reads as

pub mark-read : (id : Identifier) (text : List ℕ) (compact : Compact) (o : Option Mark) → Some compact ≡ result_ok (splitting text) → o ≡ (result_ok (mark_claims compact) >>= if_issued_by id) → mark_by id text ≡ o
unfolding mark_by mark_of
mark-read id text compact o parts is =
    ap (λ r. option_and_then (λ (c : Compact). result_ok (mark_claims c)) r >>= if_issued_by id) (sym parts) ∙ sym is

pub mark-none : (id : Identifier) (text : List ℕ) → None ≡ result_ok (splitting text) → mark_by id text ≡ None
unfolding mark_by mark_of
mark-none id text parts = ap (λ r. option_and_then (λ (c : Compact). result_ok (mark_claims c)) r >>= if_issued_by id) (sym parts)

-- the parts of a text
pub parts-some : (text : List ℕ) (o : Option Compact) (compact : Compact) → o ≡ Some compact → o ≡ result_ok (splitting text) → IfSome o (IsCompact text)
    → (Some compact ≡ result_ok (splitting compact.whole)) × IsCompact compact.whole compact × (compact.whole ≡ text)
parts-some text o compact is exact found =
    let form : IsCompact text compact = subst (λ p. IfSome p (IsCompact text)) is found in (
      subst (λ x. Some compact ≡ result_ok (splitting x)) (sym form.whole_is) (sym is ∙ exact),
      subst (λ x. IsCompact x compact) (sym form.whole_is) form,
      form.whole_is,
    )

-- ---- the node's own mark

neither : (b : Bool) (o : Option Mark) → o ≡ None → None ≡ cond b o None
neither true o none = sym none
neither false o none = refl

pub own-none : (node : Node) (text : List ℕ) → mark_by node.settings.id text ≡ None → None ≡ own_mark node text
unfolding own_mark
own-none node text none = neither (is_sealed_by text (kept_set node.ring)) (mark_by node.settings.id text) none

pub own-some : (node : Node) (text whole : List ℕ) (kept : List Jwk) (sealed : Bool) (mark : Mark) → mark_by node.settings.id text ≡ Some mark → whole ≡ text → kept ≡ kept_set node.ring
    → sealed ≡ is_sealed_by whole kept → cond sealed (Some mark) None ≡ own_mark node text
unfolding own_mark
own-some node text whole kept sealed mark reads same keys test =
    (λ i. cond (test i) (sym reads i) None) ∙ (λ i. cond (is_sealed_by (same i) (keys i)) (mark_by node.settings.id text) None)

-- ---- the signatures that are tested

pub tests-none : (node : Node) (text : List ℕ) (before now : ℕ) → mark_by node.settings.id text ≡ None → now ≡ before → now ≡ counted (status_tests node text) before
unfolding status_tests
tests-none node text before now none same =
    same ∙ sym (ap (λ o. counted (option_map_or (λ (mark : Mark). tests_under (kept_set node.ring) text) o 0) before) none)

pub tests-some : (node : Node) (text whole : List ℕ) (kept : List Jwk) (mark : Mark) (before now : ℕ) → mark_by node.settings.id text ≡ Some mark → whole ≡ text → kept ≡ kept_set node.ring
    → now ≡ counted (tests_under kept whole) before → now ≡ counted (status_tests node text) before
unfolding status_tests
tests-some node text whole kept mark before now reads same keys count =
    count ∙ (λ i. counted (tests_under (keys i) (same i)) before)
    ∙ sym (ap (λ o. counted (option_map_or (λ (m : Mark). tests_under (kept_set node.ring) text) o 0) before) reads)

-- ---- counts of calls that want memory later

pub none-at-most : (most before now : ℕ) → now ≡ before → CountsAtMost most before now
none-at-most most before now same = record { steps = 0; within = omega arith; counts = same }

pub all-at-most : (most before now : ℕ) → now ≡ counted most before → CountsAtMost most before now
all-at-most most before now count = record { steps = most; within = omega arith; counts = count }

pub either-counted : {X E : Type 0} (r : Result X E) (most before now : ℕ) → now ≡ counted most before
    → MatchResult r (λ _. now ≡ counted most before) (λ _. CountsAtMost most before now)
either-counted (Ok x) most before now count = count
either-counted (Err e) most before now count = all-at-most most before now count

-- ---- the claims of an answer

abbrev Written : Type 0
Written = Result Json Memory

pub answer-tree : (r : Written) (a b : StatusAnswer) → a ≡ b → IfOk r (λ tree. tree ≡ status_tree a) → IfOk r (λ tree. tree ≡ status_tree b)
answer-tree r a b same made = subst (λ x. IfOk r (λ tree. tree ≡ status_tree x)) same made

pub answer-whole : (r : Written) (P : Type 0) → P → IfOk r (λ tree. P → IsWhole tree) → IfOk r IsWhole
answer-whole (Err e) P p whole = tt
answer-whole (Ok tree) P p whole = whole p

status-object : (a : StatusAnswer) → IsObject (status_tree a)
unfolding status_tree
status-object a = ap is_some (as_object-Object _)

pub answer-object : (r : Written) (a : StatusAnswer) → IfOk r (λ tree. tree ≡ status_tree a) → IfOk r IsObject
answer-object (Err e) a made = tt
answer-object (Ok tree) a made = subst IsObject (sym made) (status-object a)
