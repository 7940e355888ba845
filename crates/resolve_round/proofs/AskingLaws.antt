-- Asks that are counted.
use Rattle.std.proofs.Common.{◌≡◌, ◌+◌, ℕ, List, [], ◌∷◌, ◌++◌, Bool, true, false, cond, Option, Some, None, sym, ap, ◌∙◌, arith, bytes_eq}
use Rattle.std.specs.Prelude.{count_by, find}
use Rattle.std.specs.Option.{option_and_then, option_or}
use Rattle.std.proofs.lemmas.List.Sums.{sum_by-append}
use Rattle.std.proofs.lemmas.List.Folds.{find-append}
use Rattle.resolve_round.specs.declared.trace.Ask.{Ask}
use Rattle.resolve_round.specs.declared.trace.Search.{Search}
use Rattle.resolve_round.specs.Asking.{one_if, with_ask}
use Rattle.resolve_round.specs.Courses.{Counts, is_call, is_fault, is_hit, pages_of, text_got}

add_test : (n : ℕ) (b : Bool) → n + (0 + cond b 1 0) ≡ one_if b n
add_test n true = omega arith
add_test n false = omega arith

-- one more is counted where it passes
pub count-last : {X : Type 0} (p : X → Bool) (xs : List X) (x : X) → count_by p (xs ++ x ∷ []) ≡ one_if (p x) (count_by p xs)
count-last p xs x = sum_by-append (λ y. cond (p y) 1 0) xs (x ∷ []) ∙ add_test (count_by p xs) (p x)

-- an ask more leaves the counts those of the asks
pub counts-ask : (search : Search) (ask : Ask) → Counts search → Counts (with_ask search ask)
counts-ask search ask counts = record {
  hits = ap (one_if (is_hit ask)) counts.hits ∙ sym (count-last is_hit search.asks ask);
  faults = ap (one_if (is_fault ask)) counts.faults ∙ sym (count-last is_fault search.asks ask);
  calls = ap (one_if (is_call ask)) counts.calls ∙ sym (count-last is_call search.asks ask);
}

found_first : (o p : Option Ask) (ask : Ask) → o ≡ Some ask → option_or o p ≡ Some ask
found_first (Some a) p ask is = is
found_first None p ask is = cc is

-- what an earlier ask got stays
pub page-kept : (asks more : List Ask) (url : List ℕ) (ask : Ask) → find (λ a. bytes_eq a.url url) asks ≡ Some ask → pages_of (asks ++ more) url ≡ pages_of asks url
unfolding pages_of
page-kept asks more url ask is =
    ap (option_and_then (λ a. text_got a.got)) (find-append (λ a. bytes_eq a.url url) asks more ∙ found_first (find (λ a. bytes_eq a.url url) asks) _ ask is)
    ∙ ap (option_and_then (λ a. text_got a.got)) (sym is)
