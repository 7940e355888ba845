-- What the parts of a head say of the body.
use Rattle.std.proofs.Common.{◌≡◌, ◌≤◌, ◌==◌, ◌||◌, ℕ, zero, suc, Bool, true, false, List, [], map, take, codes, cond, Option, Some, None, refl, sym, ap, ◌∙◌, arith}
use Rattle.httparse.specs.Grammar.{RequestHead}
use Rattle.httparse.specs.Spans.{IsRequestAt, header_bytes, name_and_value, span_bytes}
use Rattle.httparse.specs.declared.spans.HeaderSpan.{HeaderSpan}
use Rattle.httparse.specs.declared.spans.RequestSpans.{RequestSpans}
use Rattle.httparse.proofs.GrammarLemmas.{request_unique}
use Rattle.http_messages.specs.declared.request.Method.{Method}
use Rattle.http_messages.specs.declared.request.Method.TheVariants.{Get, Post}
use Rattle.http_messages.specs.Connections.{asks_close, closes}
use Rattle.http_messages.specs.Cuts.{has_stray_body, is_stray}
use Rattle.http_messages.specs.Fields.{values_named, stated}
use Rattle.http_messages.specs.Requests.{IsHead, IsRefused, size_by, body_limit, body_size, body_by, method_of}
use Rattle.std.proofs.lemmas.Bool.Decides.{nat_tests}

pub same_head : (x : List ℕ) (h k : RequestHead) → IsHead x h → IsHead x k → h ≡ k
same_head x h k a b = (request_unique x h k [] [] a.reads b.reads).0

pub size_at : (x : List ℕ) (lines : List HeaderSpan) (r : RequestSpans) (h : RequestHead) → IsRequestAt x lines r h
    → body_size (span_bytes x r.method) (span_bytes x r.path) (map (header_bytes x) (take r.headers lines)) ≡ size_by h
size_at x lines r h is = rw (is.method, is.path, is.fields) refl

pub stray_at : (x : List ℕ) (lines : List HeaderSpan) (r : RequestSpans) (h : RequestHead) → IsRequestAt x lines r h
    → has_stray_body (span_bytes x r.method) (map (header_bytes x) (take r.headers lines)) ≡ is_stray h
stray_at x lines r h is = rw (is.method, is.fields) refl

close_at : (x : List ℕ) (lines : List HeaderSpan) (r : RequestSpans) (h : RequestHead) → IsRequestAt x lines r h → asks_close (map (header_bytes x) (take r.headers lines)) ≡ asks_close (map name_and_value h.fields)
close_at x lines r h is = rw is.fields refl

not_zero : (n : ℕ) → (n ≡ 0 → ⊥) → (n == 0) ≡ false
not_zero zero f = absurd (f refl)
not_zero (suc n) f = grind (arith, nat_tests)

-- a sender of HTTP/1.0 closes
pub old_closes : (x : List ℕ) (lines : List HeaderSpan) (r : RequestSpans) (h : RequestHead) → IsRequestAt x lines r h → r.version ≡ 0 → true ≡ closes h
old_closes x lines r h is old = sym (ap (λ m. (m == 0) || asks_close (map name_and_value h.fields)) (sym is.version ∙ old))

-- any other does where its lines say so
pub new_closes : (x : List ℕ) (lines : List HeaderSpan) (r : RequestSpans) (h : RequestHead) → IsRequestAt x lines r h → (r.version ≡ 0 → ⊥)
    → asks_close (map (header_bytes x) (take r.headers lines)) ≡ closes h
new_closes x lines r h is other =
    close_at x lines r h is ∙ sym (ap (λ m. (m == 0) || asks_close (map name_and_value h.fields)) (sym is.version) ∙ ap (λ b. b || asks_close (map name_and_value h.fields)) (not_zero r.version other))

pub refused_by : (x : List ℕ) (h : RequestHead) → IsHead x h → size_by h ≡ None → IsRefused x
refused_by x h is none k other = ap size_by (same_head x k h other is) ∙ none

by_small : (m : Option Method) (s : Option (Option ℕ)) (n : ℕ) → body_by m s ≡ Some n → n ≤ body_limit
by_small None s n e = cc
by_small (Some m) None n e = cc
by_small (Some Get) (Some None) n e = let k : 0 ≡ n = cc in omega arith
by_small (Some Post) (Some None) n e = cc
by_small (Some Get) (Some (Some k)) n e = grind arith
by_small (Some Post) (Some (Some k)) n e = grind (arith, nat_tests)

of_cond : (b : Bool) (o : Option ℕ) (n : ℕ) → cond b None o ≡ Some n → o ≡ Some n
of_cond true o n e = cc
of_cond false o n e = e

pub size_small : (m t : List ℕ) (ls : List (List ℕ × List ℕ)) (n : ℕ) → body_size m t ls ≡ Some n → n ≤ body_limit
unfolding body_size
size_small m t ls n e = by_small (method_of m) (stated 6 (values_named (codes "content-length") ls)) n (of_cond _ _ n e)

by_none : (s : Option (Option ℕ)) (n : ℕ) (o : Option Method) → o ≡ None → body_by o s ≡ Some n → ⊥
by_none s n None e f = cc
by_none s n (Some m) e f = cc

pub size_method : (m t : List ℕ) (ls : List (List ℕ × List ℕ)) (n : ℕ) → body_size m t ls ≡ Some n → method_of m ≡ None → ⊥
unfolding body_size
size_method m t ls n e none = by_none (stated 6 (values_named (codes "content-length") ls)) n (method_of m) none (of_cond _ _ n e)
