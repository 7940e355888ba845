-- From what was taken to what it shows.
use Rattle.std.proofs.Common.{◌≡◌, ◌≤◌, ◌<◌, ◌⊎◌, inl, inr, ℕ, ◌+◌, ◌-◌, Bool, true, false, List, [], ◌++◌, length, cond, nat_lt, take, drop, Option, Some, None, Result, Ok, Err, refl, sym, ap, ap₂, ◌∙◌, subst, append_assoc, append-nil, arith, take_all, slice_range}
use Rattle.std.proofs.Math.Seq.{take-add}
use Rattle.std.proofs.lemmas.List.{length-append, length-drop, length-take-le, take-append-le, take-append-drop}
use Rattle.std.proofs.lemmas.Bool.Decides.{nat_tests}
use Rattle.fed_ports.specs.Inputs.{AtEnd}
use Rattle.fed_ports.specs.Lists.{Gave}
use Rattle.http_messages.specs.declared.inflow.Break.{Break}
use Rattle.http_messages.specs.declared.inflow.Break.TheVariants.{Failed, Memory}
use Rattle.http_messages.specs.declared.plan.Plan.{Plan}
use Rattle.http_messages.specs.declared.read.ReadEnd.{ReadEnd}
use Rattle.http_messages.specs.declared.read.ReadEnd.TheVariants.{ReadFault, Ended, Memory as NoMemory}
use Rattle.http_messages.specs.declared.request.Incoming.{Incoming}
use Rattle.http_messages.specs.declared.request.Incoming.TheVariants.{Asked, NotARequest}
use Rattle.http_messages.specs.declared.request.Method.{Method}
use Rattle.http_messages.specs.declared.request.Request.{Request}
use Rattle.http_messages.specs.FlowLaws.{few_given_on, given_on}
use Rattle.http_messages.specs.Flows.{Broken, Given, HeadBroken, HeadComes, OnFailed, TakenFew}
use Rattle.http_messages.specs.Heads.{head_end, head_limit, BeginsWithHead, IsHeadText}
use Rattle.http_messages.specs.Plans.{IsAsked, SaysPlan, end_of, without_head}
use Rattle.http_messages.specs.Readings.{Fits, IsTheAnswer, Reads, Taken}
use Rattle.http_messages.specs.Requests.{EndsInBody, IsRefused, path_of, pairs_of, query_of, request_limit}
use Rattle.http_messages.proofs.Ends.{end_inside, found_alone}
use Rattle.http_messages.proofs.Texts.{one_answer}

-- reading broke off for want of memory
broke : (a b : Option (List ℕ)) (n : ℕ) → TakenFew a b n → n ≤ request_limit → Taken a b (Err NoMemory)
broke a b n t h = record { got = t.got; few = omega (arith, t.few); left = t.gave; shown = tt }

-- without memory, behind what came before
broke_later : (a b c : Option (List ℕ)) (t : List ℕ) (m : ℕ) → Given a b t false → TakenFew b c m → length t + m ≤ request_limit → Taken a c (Err NoMemory)
broke_later a b c t m p q h = broke a c request_limit (few_given_on a b c t m request_limit p q h) (omega arith)

-- what a source gave before a call failed, with its other side as it was
abbrev pub Lost : Option (List ℕ) → Option (List ℕ) → Option (List ℕ) × ℕ → Option (List ℕ) × ℕ → List ℕ → Type 0
Lost a b s t x = Given a b x false × (t ≡ s)

-- reading broke off before a head was there
pub broke_early : (T : Type 0) (a b : Option (List ℕ)) (s t : Option (List ℕ) × ℕ) (text : List ℕ) (f : Break) → OnFailed {T = T} (Err f) (HeadBroken (Lost a b s t) text) → TakenFew a b head_limit
    → Taken a b (Err (end_of f))
broke_early T a b s t text Failed h few = record {
  got = text;
  few = omega (arith, h.1);
  left = h.0.0.gave;
  shown = inl (ap head_end (take_all head_limit text (omega (arith, h.1))) ∙ h.2, h.1);
}
broke_early T a b s t text Memory h few = broke a b head_limit few (omega arith)

-- memory was wanting
pub wanting : (a c : Option (List ℕ)) (u : List ℕ) (e : Bool) → Given a c u e → length u ≤ request_limit → Taken a c (Err NoMemory)
wanting a c u e g few = record { got = u; few = few; left = g.gave; shown = tt }

cut_head : (a b : Option (List ℕ)) (t : List ℕ) (e : Bool) → Given a b t e → head_end t ≡ None → length t < head_limit → (length t ≡ head_limit) ⊎ (e ≡ true) → Taken a b (Err Ended)
cut_head a b t e g none few (inl full) = absurd (omega (arith, full, few))
cut_head a b t e g none few (inr ended) = record {
  got = t;
  few = omega (arith, few);
  left = g.gave;
  shown = (inl (ap head_end (take_all head_limit t (omega (arith, few))) ∙ none, few), g.at_end ended);
}

long_head : (a b : Option (List ℕ)) (t : List ℕ) (e : Bool) → Given a b t e → head_end t ≡ None → length t ≤ head_limit → head_limit ≤ length t → Taken a b (Ok NotARequest)
long_head a b t e g none most full = record {
  got = t;
  few = omega (arith, most);
  left = g.gave;
  shown = inl (ap head_end (take_all head_limit t most) ∙ none, full);
}

headless_case : (a b : Option (List ℕ)) (t : List ℕ) (e : Bool) (b2 : Bool) → nat_lt (length t) head_limit ≡ b2 → Given a b t e → head_end t ≡ None → length t ≤ head_limit → (length t ≡ head_limit) ⊎ (e ≡ true)
    → Taken a b (cond b2 (Err Ended) (Ok NotARequest))
headless_case a b t e true is g none most end = cut_head a b t e g none (grind (arith, nat_tests, is)) end
headless_case a b t e false is g none most end = long_head a b t e g none most (grind (arith, nat_tests, is))

headless : (a b : Option (List ℕ)) (t : List ℕ) (e : Bool) → Given a b t e → head_end t ≡ None → length t ≤ head_limit → (length t ≡ head_limit) ⊎ (e ≡ true) → Taken a b (without_head (length t))
headless a b t e g none most end = headless_case a b t e (nat_lt (length t) head_limit) refl g none most end

-- what a source gave, with its other side as it was
abbrev pub Flow : Option (List ℕ) → Option (List ℕ) → Option (List ℕ) × ℕ → Option (List ℕ) × ℕ → List ℕ → Bool → Type 0
Flow a b s t x e = Given a b x e × (t ≡ s)

-- a head came whole
pub one_came : (a b : Option (List ℕ)) (s t : Option (List ℕ) × ℕ) (text : List ℕ) (end : Option ℕ) (len : ℕ) → end ≡ Some len → HeadComes (Flow a b s t) text end
    → Given a b text false × (length text ≤ head_limit) × (head_end text ≡ Some len)
one_came a b s t text end len e h = let i = subst (HeadComes (Flow a b s t) text) e h in (i.0.0, i.1, i.2)

-- no head came and none will
pub none_came : (a b : Option (List ℕ)) (s t : Option (List ℕ) × ℕ) (text : List ℕ) (end : Option ℕ) (n : ℕ) → end ≡ None → n ≡ length text → HeadComes (Flow a b s t) text end → Taken a b (without_head n)
none_came a b s t text end n e size h =
    let i = subst (HeadComes (Flow a b s t) text) e h in
    subst (λ m. Taken a b (without_head m)) (sym size) (headless a b text i.0 i.1.0 i.3 i.2 i.4)

-- the text up to the end that was found is a head
pub head_text : (t : List ℕ) (len : ℕ) → length t ≤ head_limit → head_end t ≡ Some len → IsHeadText (take len t)
head_text t len few e =
    let size = length-take-le len t (end_inside t len e) in
    record {
      ends = found_alone t len e ∙ ap Some (sym size);
      small = omega (arith, size, few, end_inside t len e);
    }

unfoldable pub begins : (t more : List ℕ) (len : ℕ) → length t ≤ head_limit → head_end t ≡ Some len → BeginsWithHead (t ++ more) (take len t)
begins t more len few e = record {
  rest = drop len t ++ more;
  bytes = ap (λ y. y ++ more) (sym (take-append-drop len t)) ∙ append_assoc (take len t) (drop len t) more;
  is_head = head_text t len few e;
}

-- the head is no request's
pub refused : (a b : Option (List ℕ)) (t : List ℕ) (len : ℕ) → Given a b t false → length t ≤ head_limit → head_end t ≡ Some len → IsRefused (take len t) → Taken a b (Ok NotARequest)
refused a b t len g few e none = record {
  got = t;
  few = omega (arith, few);
  left = g.gave;
  shown = inr (take len t, subst (λ y. BeginsWithHead y (take len t)) (append-nil t) (begins t [] len few e), none);
}

-- bytes that end inside the body
in_body : (t u more : List ℕ) (len : ℕ) (p : Plan) → u ≡ t ++ more → length t ≤ head_limit → head_end t ≡ Some len → SaysPlan (take len t) p → length u < len + p.size → EndsInBody u
in_body t u more len p whole few found says short = record {
  head = take len t;
  begins = subst (λ y. BeginsWithHead y (take len t)) (sym whole) (begins t more len few found);
  parts = says.parts;
  reads = says.reads;
  size = p.size;
  sized = says.sized;
  short = omega (arith, short, length-take-le len t (end_inside t len found));
}

-- the bytes end inside the body
pub cut_body : (a c : Option (List ℕ)) (t u more : List ℕ) (len : ℕ) (e : Bool) (p : Plan) → Given a c u e → u ≡ t ++ more → length t ≤ head_limit → head_end t ≡ Some len
    → SaysPlan (take len t) p → length u < len + p.size → e ≡ true → Taken a c (Err Ended)
cut_body a c t u more len e p g whole few found says short ended = record {
  got = u;
  few = omega (arith, short, says.small, few, end_inside t len found);
  left = g.gave;
  shown = (inr (in_body t u more len p whole few found says short), g.at_end ended);
}

-- reading broke off inside the body
pub broke_body : (T : Type 0) (a b c : Option (List ℕ)) (s v : Option (List ℕ) × ℕ) (t u : List ℕ) (len n : ℕ) (f : Break) (p : Plan) → Given a b t false → length t ≤ head_limit → head_end t ≡ Some len
    → SaysPlan (take len t) p → n ≡ len + p.size → OnFailed {T = T} (Err f) (Broken (Lost b c s v) t u) → OnFailed {T = T} (Err f) (length u < n) → TakenFew b c (n - length t) → Taken a c (Err (end_of f))
broke_body T a b c s v t u len n Failed p g few found says until h short taken =
    let under : length u < len + p.size = omega (arith, until, short) in
    let inside = end_inside t len found in
    let all = given_on a b c t h.got false g h.broke.0 in
    record {
      got = u;
      few = omega (arith, under, says.small, few, inside);
      left = subst (λ y. Gave a y c) (sym h.adds) all.gave;
      shown = inr (in_body t u h.got len p h.adds few found says under);
    }
broke_body T a b c s v t u len n Memory p g few found says until h short taken =
    broke_later a b c t (n - length t) g taken (omega (arith, until, few, says.small, end_inside t len found))

-- the whole request came
pub whole_request : (a c : Option (List ℕ)) (t u more : List ℕ) (len : ℕ) (e : Bool) (p : Plan) (r : Request) → Given a c u e → u ≡ t ++ more → length t ≤ head_limit → head_end t ≡ Some len
    → SaysPlan (take len t) p → len + p.size ≤ length u → length u ≤ request_limit
    → IsAsked r p.method (slice_range (take len u) p.target.start p.target.end) (take p.size (drop len u)) → Taken a c (Ok (Asked r))
whole_request a c t u more len e p r g whole few found says enough most asked =
    let inside = end_inside t len found in
    let first : take len u ≡ take len t = ap (take len) whole ∙ take-append-le len t more inside in
    let target = ap (λ y. slice_range y p.target.start p.target.end) first ∙ says.target in
    let size : length (take p.size (drop len u)) ≡ p.size = length-take-le p.size (drop len u) (omega (arith, length-drop len u, enough)) in
    record {
      got = u;
      few = most;
      left = g.gave;
      shown = record {
        text = take (len + p.size) u;
        rest = drop (len + p.size) u;
        bytes = sym (take-append-drop (len + p.size) u);
        is_text = record {
          head = take len t;
          spelled = take-add len p.size u ∙ ap₂ (λ y z. y ++ z) first (sym asked.body_is);
          is_head = head_text t len few found;
          parts = says.parts;
          reads = says.reads;
          sized = says.sized ∙ ap Some (sym size ∙ ap length (sym asked.body_is));
          method = says.method ∙ ap Some (sym asked.method_is);
          path = asked.path ∙ ap path_of target;
          pairs = asked.pairs ∙ ap (λ y. pairs_of (query_of y)) target;
        };
      };
    }

left_nothing : (x got : List ℕ) (new : Option (List ℕ)) → Gave (Some x) got new → AtEnd new → x ≡ got
left_nothing x got None g e = cc
left_nothing x got (Some left) g e = let s : x ≡ got ++ left = cc in s ∙ ap (λ y. got ++ y) e ∙ append-nil got

more_bytes : (x got : List ℕ) (new : Option (List ℕ)) → Gave (Some x) got new → (rest : List ℕ) × (x ≡ got ++ rest)
more_bytes x got None g = cc
more_bytes x got (Some left) g = (left, cc)

-- an answer stays, however the bytes go on
goes_on : (got rest : List ℕ) (i : Incoming) → Fits got (Ok i) → Fits (got ++ rest) (Ok i)
goes_on got rest (Asked r) b = record { text = b.text; rest = b.rest ++ rest; bytes = ap (λ y. y ++ rest) b.bytes ∙ append_assoc b.text b.rest rest; is_text = b.is_text }
goes_on got rest NotARequest (inl n) = inl (ap head_end (take-append-le head_limit got rest n.1) ∙ n.0, omega (arith, n.1, length-append got rest))
goes_on got rest NotARequest (inr n) = inr (n.0, record { rest = n.1.rest ++ rest; bytes = ap (λ y. y ++ rest) n.1.bytes ∙ append_assoc n.0 n.1.rest rest; is_head = n.1.is_head }, n.2)

the_answer : (x : List ℕ) (r : Result Incoming ReadEnd) → Fits x r → IsTheAnswer x r
the_answer x r fits = record { fits = fits; only = λ other o. one_answer x other r o fits }

-- what was taken tells the answer of all the bytes
pub reads_of : (old new : Option (List ℕ)) (x : List ℕ) (r : Result Incoming ReadEnd) → Taken old new r → old ≡ Some x → Reads x r
reads_of old new x (Ok i) t is =
    let m = more_bytes x t.got new (subst (λ o. Gave o t.got new) is t.left) in
    the_answer x (Ok i) (subst (λ y. Fits y (Ok i)) (sym m.1) (goes_on t.got m.0 i t.shown))
reads_of old new x (Err Ended) t is =
    let same = left_nothing x t.got new (subst (λ o. Gave o t.got new) is t.left) t.shown.1 in
    the_answer x (Err Ended) (subst (λ y. Fits y (Err Ended)) (sym same) t.shown.0)
reads_of old new x (Err ReadFault) t is = tt
reads_of old new x (Err NoMemory) t is = tt

-- the same request of a target and a body that are written otherwise
pub asked_as : (r : Request) (m : Method) (t u b d : List ℕ) → t ≡ u → b ≡ d → IsAsked r m t b → IsAsked r m u d
asked_as r m t u b d e f asked = record {
  method_is = asked.method_is;
  path = asked.path ∙ ap path_of e;
  pairs = asked.pairs ∙ ap (λ y. pairs_of (query_of y)) e;
  body_is = asked.body_is ∙ f;
}

-- what came before and after a head
pub came_on : (a b c : Option (List ℕ)) (t u got : List ℕ) (e : Bool) → Given a b t false → Given b c got e → u ≡ t ++ got → Given a c u e
came_on a b c t u got e p q adds = subst (λ y. Given a c y e) (sym adds) (given_on a b c t got e p q)

pub not_false : (b : Bool) → (b ≡ false → ⊥) → b ≡ true
not_false true f = refl
not_false false f = absurd (f refl)
