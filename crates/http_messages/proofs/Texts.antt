-- Texts of requests, and the bytes that begin with them.
use Rattle.std.proofs.Common.{◌≡◌, ◌≤◌, inl, inr, ℕ, ◌+◌, ◌-◌, List, [], ◌∷◌, ◌++◌, length, take, drop, Some, Result, Ok, Err, refl, sym, ap, ap₂, ◌∙◌, subst, append_assoc, append-nil, arith}
use Rattle.std.proofs.Math.Seq.{take-append-add, take-append_seam}
use Rattle.std.proofs.lemmas.List.{length-append}
use Rattle.httparse.specs.Grammar.{RequestHead}
use Rattle.http_messages.specs.declared.read.ReadEnd.{ReadEnd}
use Rattle.http_messages.specs.declared.read.ReadEnd.TheVariants.{ReadFault, Ended, Memory}
use Rattle.http_messages.specs.declared.request.Incoming.{Incoming}
use Rattle.http_messages.specs.declared.request.Incoming.TheVariants.{Asked, NotARequest}
use Rattle.http_messages.specs.declared.request.Request.{Request}
use Rattle.http_messages.specs.Heads.{head_end, head_limit, BeginsWithHead, HasNoHead}
use Rattle.http_messages.specs.Readings.{Fits}
use Rattle.http_messages.specs.Requests.{IsHead, IsNoRequest, EndsEarly, RequestText, Begins, size_by, method_of, path_of, query_of, pairs_of}
use Rattle.http_messages.proofs.Ends.{found_more}
use Rattle.http_messages.proofs.Sizes.{same_head}

pub within : (t rest : List ℕ) → length t ≤ head_limit → take head_limit (t ++ rest) ≡ t ++ take (head_limit - length t) rest
within t rest h =
    let n : head_limit ≡ length t + (head_limit - length t) = omega arith in
    ap (λ k. take k (t ++ rest)) n ∙ take-append-add t rest (head_limit - length t)

-- where bytes begin with a head, it is found
pub head_at : (x head : List ℕ) → BeginsWithHead x head → head_end (take head_limit x) ≡ Some (length head)
head_at x head b = ap head_end (ap (take head_limit) b.bytes ∙ within head b.rest b.is_head.small) ∙ found_more head _ (length head) b.is_head.ends

front_of : (x head rest : List ℕ) → x ≡ head ++ rest → take (length head) x ≡ head
front_of x head rest e = ap (take (length head)) e ∙ take-append_seam head rest

pub some_is : {X : Type 0} (a b : X) → Some a ≡ Some b → a ≡ b
some_is a b e = cc

-- bytes begin with one head
pub one_head : (x a b : List ℕ) → BeginsWithHead x a → BeginsWithHead x b → a ≡ b
one_head x a b p q =
    let size = some_is (length a) (length b) (sym (head_at x a p) ∙ head_at x b q) in
    sym (front_of x a p.rest p.bytes) ∙ ap (λ n. take n x) size ∙ front_of x b q.rest q.bytes

pub no_head : (x head : List ℕ) → BeginsWithHead x head → HasNoHead x → ⊥
no_head x head b none = let e = sym (head_at x head b) ∙ none in cc

-- the head of a text
pub head_in : (text rest : List ℕ) (r : Request) (t : RequestText text r) → BeginsWithHead (text ++ rest) t.head
head_in text rest r t = record { rest = r.body ++ rest; bytes = ap (λ y. y ++ rest) t.spelled ∙ append_assoc t.head r.body rest; is_head = t.is_head }

pub head_of : (x : List ℕ) (r : Request) (b : Begins x r) → BeginsWithHead x b.is_text.head
head_of x r b = subst (λ y. BeginsWithHead y b.is_text.head) (sym b.bytes) (head_in b.text b.rest r b.is_text)

parts_agree : (g h : List ℕ) (a b : RequestHead) → g ≡ h → IsHead g a → IsHead h b → a ≡ b
parts_agree g h a b e p q = same_head h a b (subst (λ y. IsHead y a) e p) q

-- what stands behind a text
pub back_of : (head body : List ℕ) → drop (length head) (head ++ body) ≡ body
back_of [] body = refl
back_of (b ∷ head) body = back_of head body

size_agree : (a b : RequestHead) (m n : ℕ) → a ≡ b → size_by a ≡ Some m → size_by b ≡ Some n → m ≡ n
size_agree a b m n e p q = some_is m n (sym p ∙ ap size_by e ∙ q)

same_parts : (a b : Request) (p q : RequestHead) → p ≡ q → method_of p.method ≡ Some a.method → method_of q.method ≡ Some b.method
    → a.path ≡ path_of p.target → b.path ≡ path_of q.target → a.pairs ≡ pairs_of (query_of p.target) → b.pairs ≡ pairs_of (query_of q.target) → a.body ≡ b.body → a ≡ b
same_parts a b p q e am bm ap_ bp aq bq body =
    let method = some_is a.method b.method (sym am ∙ ap (λ h. method_of h.method) e ∙ bm) in
    let path = ap_ ∙ ap (λ h. path_of h.target) e ∙ sym bp in
    let pairs = aq ∙ ap (λ h. pairs_of (query_of h.target)) e ∙ sym bq in
    ap (λ m. record a { method = m }) method ∙ ap (λ y. record { method = b.method; path = y; pairs = a.pairs; body = a.body }) path
    ∙ ap₂ (λ y z. record { method = b.method; path = b.path; pairs = y; body = z }) pairs body

-- two requests with which the same bytes begin
same_request : (x s t : List ℕ) (a b : Request) (p : RequestText s a) (q : RequestText t b) (u v : List ℕ) → x ≡ s ++ u → x ≡ t ++ v → a ≡ b
same_request x s t a b p q u v e f =
    let head = one_head x p.head q.head (subst (λ y. BeginsWithHead y p.head) (sym e) (head_in s u a p)) (subst (λ y. BeginsWithHead y q.head) (sym f) (head_in t v b q)) in
    let parts = parts_agree p.head q.head p.parts q.parts head p.reads q.reads in
    let size = size_agree p.parts q.parts (length a.body) (length b.body) parts p.sized q.sized in
    let first = ap (drop (length p.head)) (e ∙ ap (λ y. y ++ u) p.spelled ∙ append_assoc p.head a.body u) ∙ back_of p.head (a.body ++ u) in
    let second = ap (drop (length q.head)) (f ∙ ap (λ y. y ++ v) q.spelled ∙ append_assoc q.head b.body v) ∙ back_of q.head (b.body ++ v) in
    let both = sym first ∙ ap (λ h. drop (length h) x) head ∙ second in
    let body = sym (take-append_seam a.body u) ∙ ap₂ take size both ∙ take-append_seam b.body v in
    same_parts a b p.parts q.parts parts p.method q.method p.path q.path p.pairs q.pairs body

pub one_request : (x : List ℕ) (a b : Request) → Begins x a → Begins x b → a ≡ b
one_request x a b p q = same_request x p.text q.text a b p.is_text q.is_text p.rest q.rest p.bytes q.bytes

pub one_text : (text : List ℕ) (a b : Request) → RequestText text a → RequestText text b → a ≡ b
one_text text a b p q = same_request text text text a b p q [] [] (sym (append-nil text)) (sym (append-nil text))

not_refused : (x : List ℕ) (r : Request) → Begins x r → IsNoRequest x → ⊥
not_refused x r b (inl n) = no_head x b.is_text.head (head_of x r b) n.0
not_refused x r b (inr n) =
    let head = one_head x b.is_text.head n.0 (head_of x r b) n.1 in
    let none = n.2 b.is_text.parts (subst (λ y. IsHead y b.is_text.parts) head b.is_text.reads) in
    let e = sym b.is_text.sized ∙ none in cc

pub not_ended : (x : List ℕ) (r : Request) → Begins x r → EndsEarly x → ⊥
not_ended x r b (inl n) = no_head x b.is_text.head (head_of x r b) n.0
not_ended x r b (inr n) =
    let t = b.is_text in
    let head = one_head x t.head n.head (head_of x r b) n.begins in
    let parts = parts_agree t.head n.head t.parts n.parts head t.reads n.reads in
    let size = size_agree t.parts n.parts (length r.body) n.size parts t.sized n.sized in
    let whole = ap length b.bytes ∙ length-append b.text b.rest in
    let text = ap length t.spelled ∙ length-append t.head r.body in
    omega (arith, n.short, whole, text, size, ap length head)

pub refused_not_ended : (x : List ℕ) → IsNoRequest x → EndsEarly x → ⊥
refused_not_ended x (inl a) (inl b) = omega (arith, a.1, b.1)
refused_not_ended x (inl a) (inr b) = no_head x b.head b.begins a.0
refused_not_ended x (inr a) (inl b) = no_head x a.0 a.1 b.0
refused_not_ended x (inr a) (inr b) =
    let head = one_head x b.head a.0 b.begins a.1 in
    let none = a.2 b.parts (subst (λ y. IsHead y b.parts) head b.reads) in
    let e = sym b.sized ∙ none in cc

-- bytes have one answer
pub one_answer : (x : List ℕ) (a b : Result Incoming ReadEnd) → Fits x a → Fits x b → a ≡ b
one_answer x (Ok (Asked a)) (Ok (Asked b)) p q = ap (λ r. Ok (Asked r)) (one_request x a b p q)
one_answer x (Ok (Asked a)) (Ok NotARequest) p q = absurd (not_refused x a p q)
one_answer x (Ok (Asked a)) (Err Ended) p q = absurd (not_ended x a p q)
one_answer x (Ok NotARequest) (Ok (Asked b)) p q = absurd (not_refused x b q p)
one_answer x (Ok NotARequest) (Ok NotARequest) p q = refl
one_answer x (Ok NotARequest) (Err Ended) p q = absurd (refused_not_ended x p q)
one_answer x (Err Ended) (Ok (Asked b)) p q = absurd (not_ended x b q p)
one_answer x (Err Ended) (Ok NotARequest) p q = absurd (refused_not_ended x q p)
one_answer x (Err Ended) (Err Ended) p q = refl
one_answer x (Err ReadFault) b p q = absurd p
one_answer x (Err Memory) b p q = absurd p
one_answer x (Ok (Asked a)) (Err ReadFault) p q = absurd q
one_answer x (Ok (Asked a)) (Err Memory) p q = absurd q
one_answer x (Ok NotARequest) (Err ReadFault) p q = absurd q
one_answer x (Ok NotARequest) (Err Memory) p q = absurd q
one_answer x (Err Ended) (Err ReadFault) p q = absurd q
one_answer x (Err Ended) (Err Memory) p q = absurd q
