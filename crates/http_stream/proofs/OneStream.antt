-- Bytes are one stream of requests.
use Rattle.std.proofs.Common.{◌≡◌, ◌<◌, ◌⊎◌, ◌&&◌, ◌||◌, inl, inr, ℕ, zero, suc, Bool, true, false, List, [], ◌∷◌, ◌++◌, length, map, codes, cond, bytes_eq, nat_eq, nat_lt, Option, Some, None, if◌then◌else◌, refl, sym, ap, ap₂, ◌∙◌, subst, arith}
use Rattle.std.specs.Prelude.{MatchBool}
use Rattle.std.proofs.lemmas.Bool.Decides.{nat_tests}
use Rattle.std.proofs.lemmas.List.{length-append}
use Rattle.httparse.specs.Spans.{name_and_value}
use Rattle.http_messages.specs.declared.cut.Cut.{Cut}
use Rattle.http_messages.specs.declared.cut.Cut.TheVariants.{Whole}
use Rattle.http_messages.specs.declared.request.Incoming.{Incoming}
use Rattle.http_messages.specs.declared.request.Incoming.TheVariants.{Asked, NotARequest}
use Rattle.http_messages.specs.declared.request.Method.{Method}
use Rattle.http_messages.specs.declared.request.Method.TheVariants.{Get, Post}
use Rattle.http_messages.specs.declared.request.Request.{Request}
use Rattle.http_messages.specs.Cuts.{BeginsStream, IsNoStreamRequest, StreamText, has_stray_body, is_stray, states_bytes}
use Rattle.http_messages.specs.Fields.{Line, stated, values_named}
use Rattle.http_messages.specs.Requests.{EndsEarly, IsHead, body_by, body_limit, body_size, method_of, size_by}
use Rattle.http_messages.proofs.Cutting.{not_refused_there, one_begin}
use Rattle.http_messages.proofs.Ends.{four_in}
use Rattle.http_messages.proofs.Texts.{no_head, not_ended, one_head, refused_not_ended, some_is}
use Rattle.http_stream.specs.Streams.{EndsInside, IsWhole, Stream}
use Rattle.http_stream.proofs.Streaming.{match_false, match_true}

begins : (x text behind : List ℕ) (r : Request) (closes : Bool) → x ≡ text ++ behind → StreamText text r closes → BeginsStream x r closes (length text)
begins x text behind r closes bytes is = record { text = text; rest = behind; bytes = bytes; is_text = is; size = refl }

-- two texts of the same length at the front have the same rest
same_rest : (s t u v : List ℕ) → s ++ u ≡ t ++ v → length s ≡ length t → u ≡ v
same_rest [] [] u v e n = e
same_rest [] (b ∷ t) u v e n = absurd (omega (arith, n))
same_rest (a ∷ s) [] u v e n = absurd (omega (arith, n))
same_rest (a ∷ s) (b ∷ t) u v e n = same_rest s t u v (cc) (omega (arith, n))

whole_asked : (r s : Request) (l m : Bool) (u v : ℕ) → Whole (Asked r) l u ≡ Whole (Asked s) m v → (r ≡ s) × (l ≡ m) × (u ≡ v)
whole_asked r s l m u v e = (cc, cc, cc)

pub record SameFront (r s : Request) (l m : Bool) (behind behind' : List ℕ) : Type 0 where
  pub request : r ≡ s
  pub closes : l ≡ m
  pub rest : behind ≡ behind'

same_front : (x text behind text' behind' : List ℕ) (r s : Request) (l m : Bool) → x ≡ text ++ behind → StreamText text r l → x ≡ text' ++ behind' → StreamText text' s m → SameFront r s l m behind behind'
same_front x text behind text' behind' r s l m e is f is' =
    let w = whole_asked r s l m (length text) (length text') (one_begin x r s l m (length text) (length text') (begins x text behind r l e is) (begins x text' behind' s m f is')) in
    record { request = w.0; closes = w.1; rest = same_rest text text' behind behind' (sym e ∙ f) w.2 }

match_both : (X Y Z : Type 0) (b : Bool) → MatchBool b X Y → (b ≡ true → X → Z) → (b ≡ false → Y → Z) → Z
match_both X Y Z true m f g = f refl m
match_both X Y Z false m f g = g refl m

text_some : (text : List ℕ) (r : Request) (l : Bool) → StreamText text r l → 0 < length text
text_some text r l is =
    let t = is.is_text in
    let four = four_in t.head (length t.head) t.is_head.ends in
    omega (arith, four, ap length t.spelled, length-append t.head r.body)

both_ways : (b : Bool) → b ≡ true → b ≡ false → ⊥
both_ways true e f = cc
both_ways false e f = cc

empty_text : (x text behind : List ℕ) (r : Request) (l : Bool) → x ≡ [] → x ≡ text ++ behind → StreamText text r l → ⊥
empty_text x text behind r l none e is = let some = text_some text r l is in omega (arith, some, ap length none, ap length e, length-append text behind)

-- no bytes aren't a request yet
empty_no : (x : List ℕ) → x ≡ [] → IsNoStreamRequest x → ⊥
empty_no x none (inl refused) = omega (arith, refused.1, ap length none)
empty_no x none (inr refused) =
    let four = four_in refused.0 (length refused.0) refused.1.is_head.ends in
    omega (arith, four, ap length none, ap length refused.1.bytes, length-append refused.0 refused.1.rest)

pub one_whole : (n : ℕ) (x : List ℕ) (rs ss : List Incoming) → IsWhole n x rs → IsWhole n x ss → rs ≡ ss
one_whole n x [] [] a b = refl
one_whole zero x [] (s ∷ ss) a b = absurd b
one_whole (suc n) x [] (NotARequest ∷ ss) a b = absurd (empty_no x a b.0)
one_whole (suc n) x [] (Asked s ∷ ss) a b = absurd (empty_text x b.0 b.1 s b.2 a b.3 b.4)
one_whole zero x (r ∷ rs) [] a b = absurd a
one_whole (suc n) x (NotARequest ∷ rs) [] a b = absurd (empty_no x b a.0)
one_whole (suc n) x (Asked r ∷ rs) [] a b = absurd (empty_text x a.0 a.1 r a.2 b a.3 a.4)
one_whole zero x (r ∷ rs) (s ∷ ss) a b = absurd a
one_whole (suc n) x (NotARequest ∷ rs) (NotARequest ∷ ss) a b = ap (λ y. NotARequest ∷ y) (a.1 ∙ sym b.1)
one_whole (suc n) x (NotARequest ∷ rs) (Asked s ∷ ss) a b = absurd (not_refused_there x s b.2 (length b.0) (begins x b.0 b.1 s b.2 b.3 b.4) a.0)
one_whole (suc n) x (Asked r ∷ rs) (NotARequest ∷ ss) a b = absurd (not_refused_there x r a.2 (length a.0) (begins x a.0 a.1 r a.2 a.3 a.4) b.0)
one_whole (suc n) x (Asked r ∷ rs) (Asked s ∷ ss) a b =
    let w = same_front x a.0 a.1 b.0 b.1 r s a.2 b.2 a.3 a.4 b.3 b.4 in
    let tails = match_both _ _ (rs ≡ ss) (a.2 || nat_eq n 0) a.5
    (λ is none. match_both _ _ (rs ≡ ss) (b.2 || nat_eq n 0) b.5 (λ i no. none ∙ sym no) (λ i more. absurd (both_ways _ is (ap (λ l. l || nat_eq n 0) w.closes ∙ i))))
    (λ is more. match_both _ _ (rs ≡ ss) (b.2 || nat_eq n 0) b.5 (λ i no. absurd (both_ways _ (ap (λ l. l || nat_eq n 0) w.closes ∙ i) is)) (λ i other. one_whole n a.1 rs ss more (subst (λ y. IsWhole n y ss) (sym w.rest) other))) in
    ap₂ (λ p q. Asked p ∷ q) w.request tails

early_text : (x text behind : List ℕ) (r : Request) (l : Bool) → x ≡ text ++ behind → StreamText text r l → EndsEarly x → ⊥
early_text x text behind r l e is early = not_ended x r (record { text = text; rest = behind; bytes = e; is_text = is.is_text }) early

more_than : (n : ℕ) → 0 < n → (false || nat_eq n 0) ≡ false
more_than zero h = absurd (omega (arith, h))
more_than (suc n) h = grind (arith, nat_tests)

size_of_none : (b : Bool) (o : Option ℕ) (n : ℕ) → (if b then None else o) ≡ None → o ≡ Some n → b ≡ true
size_of_none true o n e f = refl
size_of_none false o n e f = cc

first_true : (b c : Bool) → (b && c) ≡ true → b ≡ true
first_true true c e = refl
first_true false c e = cc

get_by : (b : Bool) (o : Option Method) → b ≡ true → (if b then Some Get else o) ≡ Some Get
get_by true o e = refl
get_by false o e = cc

of_cond : (b : Bool) (o : Option ℕ) (n : ℕ) → cond b None o ≡ Some n → o ≡ Some n
of_cond true o n e = cc
of_cond false o n e = e

get_none : (s : Option (Option ℕ)) (n : ℕ) → body_by (Some Get) s ≡ Some n → n ≡ 0
get_none None n e = cc
get_none (Some None) n e = let k : 0 ≡ n = cc in sym k
get_none (Some (Some k)) n e = let z : 0 ≡ n = some_is 0 n (of_cond (nat_lt body_limit k) (Some 0) n e) in sym z

-- the body of a GET that states one isn't awaited
stray_size : (m t : List ℕ) (ls : List Line) (n : ℕ) → has_stray_body m ls ≡ true → body_size m t ls ≡ Some n → n ≡ 0
unfolding body_size
stray_size m t ls n stray is =
    let get : method_of m ≡ Some Get = get_by (bytes_eq m (codes "GET")) (if bytes_eq m (codes "POST") then Some Post else None) (first_true (bytes_eq m (codes "GET")) (states_bytes (stated 6 (values_named (codes "content-length") ls))) stray) in
    get_none (stated 6 (values_named (codes "content-length") ls)) n (ap (λ o. body_by o (stated 6 (values_named (codes "content-length") ls))) (sym get) ∙ of_cond _ _ n is)

-- what is no request of a stream doesn't end early
no_early : (x : List ℕ) → IsNoStreamRequest x → EndsEarly x → ⊥
no_early x (inl none) early = refused_not_ended x (inl none) early
no_early x (inr refused) (inl none) = no_head x refused.0 refused.1 none.0
no_early x (inr refused) (inr body) =
    let head = one_head x body.head refused.0 body.begins refused.1 in
    let e = refused.2 body.parts (subst (λ y. IsHead y body.parts) head body.reads) in
    let stray = size_of_none (is_stray body.parts) (size_by body.parts) body.size e body.sized in
    let zero_size = stray_size body.parts.method body.parts.target (map name_and_value body.parts.fields) body.size stray body.sized in
    let all = ap length body.begins.bytes ∙ length-append body.head body.begins.rest in
    omega (arith, body.short, zero_size, all)

pub one_part : (n : ℕ) (x : List ℕ) (rs ss : List Incoming) → EndsInside n x rs → EndsInside n x ss → rs ≡ ss
one_part zero x rs ss a b = absurd a
one_part (suc n) x [] [] a b = refl
one_part (suc n) x [] (NotARequest ∷ ss) a b = absurd b
one_part (suc n) x [] (Asked s ∷ ss) a b = absurd (early_text x b.0 b.1 s false b.2 b.3 a.0)
one_part (suc n) x (NotARequest ∷ rs) ss a b = absurd a
one_part (suc n) x (Asked r ∷ rs) [] a b = absurd (early_text x a.0 a.1 r false a.2 a.3 b.0)
one_part (suc n) x (Asked r ∷ rs) (NotARequest ∷ ss) a b = absurd b
one_part (suc n) x (Asked r ∷ rs) (Asked s ∷ ss) a b =
    let w = same_front x a.0 a.1 b.0 b.1 r s false false a.2 a.3 b.2 b.3 in
    ap₂ (λ p q. Asked p ∷ q) w.request (one_part n a.1 rs ss a.5 (subst (λ y. EndsInside n y ss) (sym w.rest) b.5))

-- nothing is left of what was served to its end
pub not_both : (n : ℕ) (x : List ℕ) (rs ss : List Incoming) → IsWhole n x rs → EndsInside n x ss → ⊥
not_both zero x rs ss a b = absurd b
not_both (suc n) x [] [] a b = omega (arith, b.1, ap length a)
not_both (suc n) x [] (NotARequest ∷ ss) a b = absurd b
not_both (suc n) x [] (Asked s ∷ ss) a b = empty_text x b.0 b.1 s false a b.2 b.3
not_both (suc n) x (NotARequest ∷ rs) [] a b = no_early x a.0 b.0
not_both (suc n) x (NotARequest ∷ rs) (NotARequest ∷ ss) a b = absurd b
not_both (suc n) x (NotARequest ∷ rs) (Asked s ∷ ss) a b = not_refused_there x s false (length b.0) (begins x b.0 b.1 s false b.2 b.3) a.0
not_both (suc n) x (Asked r ∷ rs) [] a b = early_text x a.0 a.1 r a.2 a.3 a.4 b.0
not_both (suc n) x (Asked r ∷ rs) (NotARequest ∷ ss) a b = absurd b
not_both (suc n) x (Asked r ∷ rs) (Asked s ∷ ss) a b =
    let w = same_front x a.0 a.1 b.0 b.1 r s a.2 false a.3 a.4 b.2 b.3 in
    match_both _ _ ⊥ (a.2 || nat_eq n 0) a.5 (λ is none. both_ways _ is (ap (λ l. l || nat_eq n 0) w.closes ∙ more_than n b.4)) (λ is more. not_both n a.1 rs ss more (subst (λ y. EndsInside n y ss) (sym w.rest) b.5))

pub is_stream : (n : ℕ) (x : List ℕ) (rs : List Incoming) → IsWhole n x rs → (rest : List ℕ) × Stream n x rs rest
is_stream n x [] a = (x, refl)
is_stream zero x (r ∷ rs) a = absurd a
is_stream (suc n) x (NotARequest ∷ rs) a = ([], (a.0, a.1, refl))
is_stream (suc n) x (Asked r ∷ rs) a =
    match_both _ _ ((rest : List ℕ) × Stream (suc n) x (Asked r ∷ rs) rest) (a.2 || nat_eq n 0) a.5
    (λ is none. (a.1, (a.0, a.1, a.2, a.3, a.4, match_true _ _ (a.2 || nat_eq n 0) is (none, refl))))
    (λ is more. let s = is_stream n a.1 rs more in (s.0, (a.0, a.1, a.2, a.3, a.4, match_false _ _ (a.2 || nat_eq n 0) is s.1)))
