-- What came up to a head, and up to the end of a request.
use Rattle.std.proofs.Common.{◌≡◌, ◌≤◌, ◌<◌, ◌⊎◌, inl, inr, ℕ, ◌+◌, ◌-◌, Bool, true, false, List, [], ◌∷◌, ◌++◌, length, max, min, take, Option, Some, None, Result, Ok, Err, refl, sym, ap, ◌∙◌, subst, arith, take_all, drop, map, is_some, append-nil, append_assoc, MatchBool}
use Rattle.std.proofs.lemmas.List.{length-append, take-append-drop}
use Rattle.httparse.specs.Spans.{name_and_value}
use Rattle.fed_ports.specs.Inputs.{AtEnd}
use Rattle.fed_ports.specs.Lists.{Gave}
use Rattle.http_messages.specs.declared.cut.Cut.{Cut}
use Rattle.http_messages.specs.declared.cut.Cut.TheVariants.{Whole, More}
use Rattle.http_messages.specs.declared.inflow.Break.{Break}
use Rattle.http_messages.specs.declared.inflow.Break.TheVariants.{Failed, Memory as Broke}
use Rattle.http_messages.specs.declared.request.Incoming.{Incoming}
use Rattle.http_messages.specs.Cuts.{IsCut, Needs}
use Rattle.http_messages.specs.Flows.{Broken, Comes, Given, HeadBrokenOn, HeadComesOn, OnFailed, TakenFew}
use Rattle.http_messages.specs.FlowLaws.{given_none, given_on, few_given_on}
use Rattle.http_messages.specs.Heads.{head_end, head_limit}
use Rattle.http_messages.specs.Requests.{EndsEarly, body_limit, request_limit}
use Rattle.http_messages.proofs.Cutting.{begins_on, early_head, enough, full_head}
use Rattle.http_messages.proofs.Ends.{found_more}
use Rattle.http_messages.proofs.Sizes.{size_small}
use Rattle.http_messages.proofs.Takings.{not_false}
use Rattle.http_stream.specs.Cuttings.{BodyReached, BreaksEarly, CutsNext, Cutting, HasHead, HeadReached, IsAtEnd, fault_of}

-- what a source says of a reading that failed: these bytes were taken, and the other side is as it was
abbrev pub Fails : Option (List ℕ) → Option (List ℕ) → Option (List ℕ) × ℕ → Option (List ℕ) × ℕ → List ℕ → Type 0
Fails a b s t x = Given a b x false × (t ≡ s)

-- what the parts of a source say: these bytes came, and the other side is as it was
abbrev pub Flow : Option (List ℕ) → Option (List ℕ) → Option (List ℕ) × ℕ → Option (List ℕ) × ℕ → List ℕ → Bool → Type 0
Flow a b s t x e = Given a b x e × (t ≡ s)

some_none : (n : ℕ) → Some n ≡ None → ⊥
some_none n e = cc

or_else : {A B C : Type 0} → A ⊎ B → (A → C) → (B → C) → C
or_else (inl a) f g = f a
or_else (inr b) f g = g b

-- bytes that end early and have no head are few
found_of : (x : List ℕ) (o : Option ℕ) → head_end (take head_limit x) ≡ o → (HasHead x) ⊎ (head_end (take head_limit x) ≡ None)
found_of x None e = inr e
found_of x (Some n) e = inl (n, e)

pub early_short : (x : List ℕ) → EndsEarly x → head_end x ≡ None → length x ≤ head_limit
early_short x early none =
    or_else (found_of x (head_end (take head_limit x)) refl) (λ has. let f = found_more (take head_limit x) (drop head_limit x) has.0 has.1 in absurd (some_none has.0 (sym f ∙ ap head_end (take-append-drop head_limit x) ∙ none)))
    (λ no. let h = early_head x early no in omega (arith, h.1))

-- where they have one it stands among the first
pub early_found : (x : List ℕ) (n : ℕ) → EndsEarly x → head_end x ≡ Some n → HasHead x
early_found x n early found =
    or_else (found_of x (head_end (take head_limit x)) refl) (λ has. has)
    (λ no. let h = early_head x early no in absurd (some_none n (sym found ∙ h.0)))

pub found_there : (x : List ℕ) (o : Option ℕ) → EndsEarly x → o ≡ head_end x → is_some o ≡ true → HasHead x
found_there x None early is e = cc
found_there x (Some n) early is e = early_found x n early (sym is)

pub not_some : (o : Option ℕ) → is_some o ≡ false → o ≡ None
not_some None e = refl
not_some (Some n) e = cc

pub head_there : (a : Option (List ℕ)) (x : List ℕ) → HasHead x → HeadReached a a x x true
head_there a x has = record { got = []; gave = (given_none a).gave; few = omega arith; adds = sym (append-nil x); head = has }

few_got : (before after got : List ℕ) (n : ℕ) → after ≡ before ++ got → length after ≤ n → length got ≤ n
few_got before after got n e h = omega (arith, ap length e, length-append before got, h)

-- a head came, or none will
pub head_comes : (a b : Option (List ℕ)) (s t : Option (List ℕ) × ℕ) (before after : List ℕ) (end : Option ℕ) (found : Bool) → found ≡ is_some end → HeadComesOn (Flow a b s t) before after end
    → HeadReached a b before after found
head_comes a b s t before after (Some len) found is h = subst (HeadReached a b before after) (sym is) (record {
  got = h.0.got;
  gave = h.0.came.0.gave;
  few = few_got before after h.0.got head_limit h.0.adds h.1;
  adds = h.0.adds;
  head = (len, ap head_end (take_all head_limit after h.1) ∙ h.2);
})
head_comes a b s t before after None found is h = subst (HeadReached a b before after) (sym is) (record {
  got = h.1.got;
  gave = h.1.came.0.gave;
  few = few_got before after h.1.got head_limit h.1.adds h.2;
  adds = h.1.adds;
  head = λ early. or_else h.4 (λ full. absurd (full_head after h.3 full early)) (λ ended. h.1.came.0.at_end ended);
})

-- ---- a request

limit_of : (head : List ℕ) (m n : ℕ) → length head ≤ head_limit → m ≤ body_limit → n ≡ length head + m → n ≤ request_limit
limit_of head m n h k e = omega (arith, h, k, e)

-- how much is needed at most
pub needs_few : (x : List ℕ) (n : ℕ) → Needs x n → n ≤ request_limit
needs_few x n (inl none) = omega (arith, none.1)
needs_few x n (inr (inl need)) = limit_of need.head need.size n need.begins.is_head.small (size_small need.parts.method need.parts.target (map name_and_value need.parts.fields) need.size need.sized) need.all
needs_few x n (inr (inr none)) = let small = none.1.is_head.small in omega (arith, small, none.3)

pub body_comes : (a b : Option (List ℕ)) (s t : Option (List ℕ) × ℕ) (before after : List ℕ) (until : ℕ) (ended : Bool) → HasHead before → Needs before until
    → Comes (Flow a b s t) before after ended → (ended ≡ false → until ≤ length after) → length after ≤ max until (length before) → BodyReached a b before after
body_comes a b s t before after until ended has needs h full most = record {
  got = h.got;
  gave = h.came.0.gave;
  few = (let few = needs_few before until needs in let size = ap length h.adds ∙ length-append before h.got in omega (arith, few, size, most));
  adds = h.adds;
  at_end = λ early. h.came.0.at_end (not_false ended (λ goes. enough before h.got has.0 until has.1 needs (subst (λ y. until ≤ length y) h.adds (full goes)) (subst EndsEarly h.adds early)));
}

-- ---- a cut

pub cut_now : (a : Option (List ℕ)) (x : List ℕ) (cut : Cut) (asked : Incoming) (last : Bool) (used : ℕ) → IsCut x cut → cut ≡ Whole asked last used → CutsNext a a x x cut
cut_now a x cut asked last used is whole = record {
  got = [];
  gave = (given_none a).gave;
  few = omega arith;
  adds = sym (append-nil x);
  is_cut = is;
  at_end = subst (IsAtEnd a) (sym whole) tt;
}

-- none more of it will come
end_case : (b : Option (List ℕ)) (x : List ℕ) (cut : Cut) → IsCut x cut → (EndsEarly x → AtEnd b) → IsAtEnd b cut
end_case b x (Whole asked last used) is f = tt
end_case b x More is f = f is

given_of : (a b : Option (List ℕ)) (x : List ℕ) → Gave a x b → Given a b x false
given_of a b x gave = record { gave = gave; at_end = λ e. cc }

pub cut_body : (a b d : Option (List ℕ)) (old mid new : List ℕ) (found : Bool) (cut : Cut) → HeadReached a b old mid found → BodyReached b d mid new → IsCut new cut → CutsNext a d old new cut
cut_body a b d old mid new found cut h k c = record {
  got = h.got ++ k.got;
  gave = (given_on a b d h.got k.got false (given_of a b h.got h.gave) (given_of b d k.got k.gave)).gave;
  few =
      let size = length-append h.got k.got in
      let mids = ap length h.adds ∙ length-append old h.got in
      let first = h.few in
      let second = k.few in
      omega (arith, size, mids, first, second);
  adds = k.adds ∙ ap (λ y. y ++ k.got) h.adds ∙ append_assoc old h.got k.got;
  is_cut = c;
  at_end = end_case d new cut c k.at_end;
}

-- no head came, and nothing more will
pub cut_short : (a b : Option (List ℕ)) (old new : List ℕ) (found : Bool) (cut : Cut) → found ≡ false → HeadReached a b old new found → IsCut new cut → CutsNext a b old new cut
cut_short a b old new found cut none h c = record {
  got = h.got;
  gave = h.gave;
  few = let few = h.few in omega (arith, few);
  adds = h.adds;
  is_cut = c;
  at_end = end_case b new cut c (subst (λ f. MatchBool f (HasHead new) (EndsEarly new → AtEnd b)) none h.head);
}

-- ---- reading that broke off

pub few_more : (a b : Option (List ℕ)) (m n : ℕ) → m ≤ n → TakenFew a b m → TakenFew a b n
few_more a b m n le t = record { got = t.got; few = (let few = t.few in omega (arith, few, le)); gave = t.gave }

pub few_body : (a b d : Option (List ℕ)) (old mid new : List ℕ) (found : Bool) → HeadReached a b old mid found → BodyReached b d mid new → TakenFew a d request_limit
few_body a b d old mid new found h k = record {
  got = h.got ++ k.got;
  few =
      let size = length-append h.got k.got in
      let mids = ap length h.adds ∙ length-append old h.got in
      let first = h.few in
      let second = k.few in
      omega (arith, size, mids, first, second);
  gave = (given_on a b d h.got k.got false (given_of a b h.got h.gave) (given_of b d k.got k.gave)).gave;
}

few_later : (a b d : Option (List ℕ)) (old mid : List ℕ) (found : Bool) → HeadReached a b old mid found → TakenFew b d (request_limit - length mid) → TakenFew a d request_limit
few_later a b d old mid found h t =
    let mids = ap length h.adds ∙ length-append old h.got in
    let first = h.few in
    few_given_on a b d h.got (request_limit - length mid) request_limit (given_of a b h.got h.gave) t (omega (arith, mids, first))

-- where reading failed before a head was there, none is
pub head_broken : (a b : Option (List ℕ)) (s t : Option (List ℕ) × ℕ) (before after : List ℕ) → HeadBrokenOn (Fails a b s t) before after → BreaksEarly a b before
head_broken a b s t before after h = record {
  got = h.0.got;
  gave = h.0.broke.0.gave;
  few = (let short = h.1 in omega (arith, short, ap length h.0.adds));
  early = subst EndsEarly h.0.adds (inl (ap head_end (take_all head_limit after (let short = h.1 in omega (arith, short))) ∙ h.2, h.1));
}

-- bytes with a head that are fewer than are needed end early
early_until : (x more : List ℕ) (len n : ℕ) → head_end (take head_limit x) ≡ Some len → Needs x n → length (x ++ more) < n → EndsEarly (x ++ more)
early_until x more len n found (inl none) short = let e = sym found ∙ none.0 in cc
early_until x more len n found (inr (inl need)) short = inr (record {
  head = need.head;
  begins = begins_on x more need.head need.begins;
  parts = need.parts;
  reads = need.reads;
  size = need.size;
  sized = need.sized;
  short = (let all = need.all in omega (arith, short, all));
})
early_until x more len n found (inr (inr none)) short =
    let bytes = ap length none.1.bytes in
    let all = none.3 in
    absurd (omega (arith, short, all, bytes, length-append none.0 none.1.rest, length-append x more))

-- where reading failed before all that is needed was there
pub body_broken : (a b : Option (List ℕ)) (s t : Option (List ℕ) × ℕ) (before after : List ℕ) (until : ℕ) → HasHead before → Needs before until → Broken (Fails a b s t) before after → length after < until → BreaksEarly a b before
body_broken a b s t before after until has needs h short = record {
  got = h.got;
  gave = h.broke.0.gave;
  few = (let few = needs_few before until needs in omega (arith, few, short, ap length h.adds));
  early = early_until before h.got has.0 until has.1 needs (subst (λ y. length y < until) h.adds short);
}

-- the same behind a head that was reached
broken_later : (a b d : Option (List ℕ)) (old mid : List ℕ) (found : Bool) → HeadReached a b old mid found → BreaksEarly b d mid → BreaksEarly a d old
broken_later a b d old mid found h k =
    let whole : mid ++ k.got ≡ old ++ (h.got ++ k.got) = ap (λ y. y ++ k.got) h.adds ∙ append_assoc old h.got k.got in
    record {
      got = h.got ++ k.got;
      gave = (given_on a b d h.got k.got false (given_of a b h.got h.gave) (given_of b d k.got k.gave)).gave;
      few = (let few = k.few in omega (arith, few, ap length whole));
      early = subst EndsEarly whole k.early;
    }

-- a fault of reading, of those that a stream may have
pub broke_cut : (T : Type 0) (a b : Option (List ℕ)) (old new : List ℕ) (fault : Break) → TakenFew a b request_limit → OnFailed {T = T} (Err fault) (BreaksEarly a b old) → Cutting a b old new (Err (fault_of fault))
broke_cut T a b old new Failed few early = early
broke_cut T a b old new Broke few early = few

pub broke_later : (T : Type 0) (a b d : Option (List ℕ)) (old mid new : List ℕ) (found : Bool) (fault : Break) → HeadReached a b old mid found → TakenFew b d (request_limit - length mid)
    → OnFailed {T = T} (Err fault) (BreaksEarly b d mid) → Cutting a d old new (Err (fault_of fault))
broke_later T a b d old mid new found Failed h few early = broken_later a b d old mid found h early
broke_later T a b d old mid new found Broke h few early = few_later a b d old mid found h few

pub few_until : (a b : Option (List ℕ)) (x : List ℕ) (until : ℕ) → Needs x until → TakenFew a b (until - length x) → TakenFew a b (request_limit - length x)
few_until a b x until needs t = few_more a b (until - length x) (request_limit - length x) (let few = needs_few x until needs in omega (arith, few)) t
