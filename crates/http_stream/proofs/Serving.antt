-- How a conversation goes on, request by request, and how it ends.
use Rattle.std.proofs.Common.{◌≡◌, ◌≤◌, ◌<◌, ◌⊎◌, ◌||◌, inl, inr, ℕ, zero, suc, ◌+◌, ◌-◌, ◌*◌, Bool, true, false, List, [], ◌∷◌, ◌++◌, length, take, drop, nat_eq, Option, Some, None, IfSome, Result, Ok, Err, refl, sym, ap, ap₂, ◌∙◌, subst, arith, append-nil, append_assoc, option_map}
use Rattle.std.proofs.lemmas.List.{length-append, take-append-le}
use Rattle.fed_base.specs.Counts.{Rose}
use Rattle.fed_ports.specs.Bytes.{Appends}
use Rattle.fed_ports.specs.Inputs.{AtEnd}
use Rattle.fed_ports.specs.Lists.{Gave}
use Rattle.http_messages.specs.declared.cut.Cut.{Cut}
use Rattle.http_messages.specs.declared.cut.Cut.TheVariants.{Whole, More}
use Rattle.http_messages.specs.declared.request.Incoming.{Incoming}
use Rattle.http_messages.specs.declared.request.Incoming.TheVariants.{Asked, NotARequest}
use Rattle.http_messages.specs.declared.response.Response.{Response}
use Rattle.http_messages.specs.Cuts.{IsCut, IsNoStreamRequest}
use Rattle.http_messages.specs.Heads.{head_end, head_limit}
use Rattle.http_messages.specs.Requests.{EndsEarly, request_limit}
use Rattle.http_messages.specs.Responses.{ResponseText, SaidText, out_of_memory}
use Rattle.http_messages.proofs.Cutting.{begins_on}
use Rattle.http_stream.specs.declared.fault.StreamFault.{StreamFault}
use Rattle.http_stream.specs.declared.fault.StreamFault.TheVariants.{ReadFault, WriteFault, Ended, Memory}
use Rattle.http_stream.specs.Conversations.{Answers, AnswersOne, Breaks, Comes, Ends, Faults, Goes, Point, Serves, StreamAt, Wants, connection_word, point}
use Rattle.http_stream.specs.Cuttings.{CutsNext, Cutting, IsAtEnd, ReadCause, WriteCause}

-- ---- bytes that are added

pub appends_none : (a : Option (List ℕ)) → Appends a a []
appends_none None = refl
appends_none (Some x) = ap Some (sym (append-nil x))

pub appends_on : (a b c : Option (List ℕ)) (x y : List ℕ) → Appends a b x → Appends b c y → Appends a c (x ++ y)
appends_on None None c x y p q = q
appends_on None (Some b) c x y p q = cc
appends_on (Some a) None c x y p q = cc
appends_on (Some a) (Some b) c x y p q = let e : b ≡ a ++ x = cc in q ∙ ap Some (ap (λ z. z ++ y) e ∙ append_assoc a x y)

pub gave_more : (a b c : Option (List ℕ)) (x y : List ℕ) → Gave a x b → Gave b y c → Gave a (x ++ y) c
gave_more a b None x y p q = rw (p, q) refl
gave_more a b (Some left) x y p q = rw (p, q) (ap Some (sym (append_assoc x y left)))

pub gave_nothing : (a : Option (List ℕ)) → Gave a [] a
gave_nothing None = refl
gave_nothing (Some x) = refl

room_after : (left a b c most : ℕ) → 1 ≤ left → b ≤ request_limit → c ≡ a + b → a + left * request_limit ≤ most → c + (left - 1) * request_limit ≤ most
room_after zero a b c most some few sum h = absurd (omega (arith, some))
room_after (suc k) a b c most some few sum h = omega (arith, few, sum, h)

-- what isn't taken, where that is told
abbrev pub behind_of : Option (List ℕ) → List ℕ
behind_of None = []
behind_of (Some rest) = rest

told_of : (o : Option (List ℕ)) → IfSome o (λ rest. rest ≡ behind_of o)
told_of None = tt
told_of (Some rest) = refl

-- ---- what stands at the front

no_more : (x more : List ℕ) → IsNoStreamRequest x → IsNoStreamRequest (x ++ more)
no_more x more (inl none) = inl (ap head_end (take-append-le head_limit x more none.1) ∙ none.0, omega (arith, none.1, length-append x more))
no_more x more (inr none) = inr (none.0, begins_on x more none.0 none.1, none.2)

pub used_within : (x : List ℕ) (asked : Incoming) (last : Bool) (used : ℕ) → IsCut x (Whole asked last used) → used ≤ length x
used_within x (Asked r) last used is = omega (arith, is.size, ap length is.bytes, length-append is.text is.rest)
used_within x NotARequest last used is = omega (arith, is.2)

drop_front : (text rest : List ℕ) → drop (length text) (text ++ rest) ≡ rest
drop_front [] rest = refl
drop_front (b ∷ bs) rest = drop_front bs rest

drop_text : (text rest : List ℕ) (n : ℕ) → n ≡ length text → drop n (text ++ rest) ≡ rest
drop_text text rest n e = ap (λ k. drop k (text ++ rest)) e ∙ drop_front text rest

both : true ≡ false → ⊥
both e = cc

or_true : (b c : Bool) → b ≡ true → (b || c) ≡ true
or_true true c e = refl
or_true false c e = cc

-- a request comes, the last or not
pub comes : (left : ℕ) (x behind : List ℕ) (asked : Incoming) (last : Bool) (used : ℕ) → IsCut x (Whole asked last used) → (rest : List ℕ) × Comes left (x ++ behind) asked (last || nat_eq left 1) rest
comes left x behind (Asked r) last used is = (is.rest ++ behind, (is.text, last, ap (λ y. y ++ behind) is.bytes ∙ append_assoc is.text is.rest behind, is.is_text, refl))
comes left x behind NotARequest last used is = ([], (no_more x behind is.0, or_true last (nat_eq left 1) is.1, refl))

pub comes_kept : (left : ℕ) (x behind : List ℕ) (asked : Incoming) (last : Bool) (used : ℕ) → IsCut x (Whole asked last used) → (last || nat_eq left 1) ≡ false
    → Comes left (x ++ behind) asked false (drop used x ++ behind)
comes_kept left x behind (Asked r) last used is kept =
    let rest : drop used x ≡ is.rest = ap (drop used) is.bytes ∙ drop_text is.text is.rest used is.size in
    (is.text, last, ap (λ y. y ++ behind) is.bytes ∙ append_assoc is.text is.rest behind ∙ ap (λ y. is.text ++ (y ++ behind)) (sym rest), is.is_text, sym kept)
comes_kept left x behind NotARequest last used is kept = absurd (both (sym (or_true last (nat_eq left 1) is.1) ∙ kept))

module _ {S : Type 0} (step : S → Incoming → Response → S → Type 0) where
  -- so many requests were answered, none of them the last
  pub record SoFar (most left room : ℕ) (before now : StreamAt S) (unread : List ℕ) : Type 0 where
    pub taken : List ℕ
    pub gave : Gave before.left taken now.left
    pub few : length taken + room * request_limit ≤ most * request_limit
    pub said : List ℕ
    pub held : Appends before.held now.held said
    pub goes : (behind : List ℕ) → (asked : List Incoming) × (length asked + left ≡ most) × Goes step (point most (taken ++ behind) before.at []) asked (point left (unread ++ behind) now.at said)

  goes_on : (p q : Point S) (asked : List Incoming) (one : Incoming) (r : Point S) → Goes step p asked q → Answers step false q one r → Goes step p (asked ++ one ∷ []) r
  goes_on p q [] one r same is = (r, subst (λ m. Answers step false m one r) same is, refl)
  goes_on p q (first ∷ more) one r goes is = (goes.0, goes.1, goes_on goes.0 q more one r goes.2 is)

  -- more was taken
  pub so_read : (most left : ℕ) (before now after : StreamAt S) (unread new got : List ℕ) → 1 ≤ left → SoFar most left left before now unread → Gave now.left got after.left
      → after.held ≡ now.held → after.at ≡ now.at → new ≡ unread ++ got → length got ≤ request_limit → SoFar most left (left - 1) before after new
  so_read most left before now after unread new got some s gave held at adds few = record {
    taken = s.taken ++ got;
    gave = gave_more before.left now.left after.left s.taken got s.gave gave;
    few = room_after left (length s.taken) (length got) (length (s.taken ++ got)) (most * request_limit) some few (length-append s.taken got) s.few;
    said = s.said;
    held = subst (λ h. Appends before.held h s.said) (sym held) s.held;
    goes = λ behind. let h = s.goes (got ++ behind) in (
      h.0,
      h.1,
      subst (λ x. Goes step (point most x before.at []) h.0 (point left (new ++ behind) after.at s.said)) (sym (append_assoc s.taken got behind))
          (subst (λ a. Goes step (point most (s.taken ++ (got ++ behind)) before.at []) h.0 (point left (new ++ behind) a s.said)) (sym at)
          (subst (λ x. Goes step (point most (s.taken ++ (got ++ behind)) before.at []) h.0 (point left x now.at s.said)) (sym (append_assoc unread got behind) ∙ ap (λ y. y ++ behind) (sym adds)) h.2)),
    );
  }

  -- a request was answered, and others may come
  pub so_answered : (most left : ℕ) (before now after : StreamAt S) (unread : List ℕ) (asked : Incoming) (last : Bool) (used : ℕ) → 1 ≤ left → SoFar most left (left - 1) before now unread
      → IsCut unread (Whole asked last used) → (last || nat_eq left 1) ≡ false → after.left ≡ now.left
      → (response : Response) (reply : List ℕ) → step now.at asked response after.at → SaidText (connection_word false) reply response
      → Appends now.held after.held reply → SoFar most (left - 1) (left - 1) before after (drop used unread)
  so_answered most left before now after unread asked last used some s is kept same response reply steps says held = record {
    taken = s.taken;
    gave = subst (λ l. Gave before.left s.taken l) (sym same) s.gave;
    few = s.few;
    said = s.said ++ reply;
    held = appends_on before.held now.held after.held s.said reply s.held held;
    goes = λ behind. let h = s.goes behind in (
      h.0 ++ asked ∷ [],
      omega (arith, h.1, some, length-append h.0 (asked ∷ [])),
      goes_on _ (point left (unread ++ behind) now.at s.said) h.0 asked (point (left - 1) (drop used unread ++ behind) after.at (s.said ++ reply)) h.2 (record {
        comes = comes_kept left unread behind asked last used is kept;
        left = omega (arith, some);
        response = response;
        steps = steps;
        reply = reply;
        is_reply = says;
        said = refl;
      }),
    );
  }

module _ {S : Type 0} (step : S → Incoming → Response → S → Type 0) (gives_up : S → Incoming → S → Type 0) where
  -- how it ends behind them
  pub serves : (most left : ℕ) (before now after : StreamAt S) (unread behind reply rest : List ℕ) (k : ℕ) (result : Result ℕ StreamFault) (s : SoFar step most left (left - 1) before now unread)
      → after.left ≡ now.left → IfSome after.left (λ left. left ≡ behind) → Appends now.held after.held reply
      → ((n : ℕ) → n + left ≡ most → Ends step gives_up behind n (point left (unread ++ behind) now.at s.said) result (point k rest after.at (s.said ++ reply)))
      → ReadCause {T = ℕ} before.read_faults after.read_faults result → WriteCause {T = ℕ} before.write_faults after.write_faults result → Serves step gives_up most before after result
  serves most left before now after unread behind reply rest k result s same told held ends reads writes =
      let h = s.goes behind in
      let few = s.few in
      record {
        taken = s.taken;
        behind = behind;
        gave = subst (λ l. Gave before.left s.taken l) (sym same) s.gave;
        told = told;
        few = omega (arith, few);
        answered = h.0;
        reached = point left (unread ++ behind) now.at s.said;
        goes = h.2;
        gone = point k rest after.at (s.said ++ reply);
        ends = ends (length h.0) h.1;
        at = refl;
        held = appends_on before.held now.held after.held s.said reply s.held held;
        read_cause = reads;
        write_cause = writes;
      }

  same_point : (left : ℕ) (bytes : List ℕ) (a b : S) (said : List ℕ) → b ≡ a → point left bytes b (said ++ []) ≡ point left bytes a said
  same_point left bytes a b said e = ap₂ (λ s t. point left bytes s t) e (append-nil said)

  nothing_left : (a : Option (List ℕ)) → AtEnd a → IfSome a (λ rest. rest ≡ [])
  nothing_left None e = tt
  nothing_left (Some x) e = e

  -- reading broke off behind these bytes
  pub serves_fault : (most left : ℕ) (before now after : StreamAt S) (unread got : List ℕ) (fault : StreamFault) → 1 ≤ left → SoFar step most left left before now unread
      → Gave now.left got after.left → length got ≤ request_limit → after.held ≡ now.held → after.at ≡ now.at
      → ((p q : Point S) → q ≡ p → p.bytes ≡ (unread ++ got) ++ behind_of after.left → Faults step gives_up (behind_of after.left) p fault q)
      → ReadCause {T = ℕ} before.read_faults after.read_faults (Err fault) → WriteCause {T = ℕ} before.write_faults after.write_faults (Err fault) → Serves step gives_up most before after (Err fault)
  serves_fault most left before now after unread got fault some s gave few held at breaks reads writes =
      let read = so_read step most left before now after unread (unread ++ got) got some s gave held at refl few in
      let behind = behind_of after.left in
      serves most left before after after (unread ++ got) behind [] ((unread ++ got) ++ behind) left (Err fault) read refl (told_of after.left) (appends_none after.held)
      (λ n is. breaks (point left ((unread ++ got) ++ behind) after.at read.said) (point left ((unread ++ got) ++ behind) after.at (read.said ++ [])) (same_point left ((unread ++ got) ++ behind) after.at after.at read.said refl) refl)
      reads writes

  few_got : (old got : List ℕ) → length (old ++ got) ≤ request_limit → length got ≤ request_limit
  few_got old got h = omega (arith, h, length-append old got)

  -- the bytes end behind a request
  pub serves_all : (most left m : ℕ) (before now : StreamAt S) (unread : List ℕ) → SoFar step most left (left - 1) before now unread → AtEnd now.left → unread ≡ [] → m ≡ most - left
      → ReadCause {T = ℕ} before.read_faults now.read_faults (Ok m) → WriteCause {T = ℕ} before.write_faults now.write_faults (Ok m) → Serves step gives_up most before now (Ok m)
  serves_all most left m before now unread s ended none count reads writes =
      serves most left before now now unread [] [] (unread ++ []) left (Ok m) s refl (nothing_left now.left ended) (appends_none now.held)
      (λ n is. inl (omega (arith, is, count), same_point left (unread ++ []) now.at now.at s.said refl, append-nil unread ∙ none)) reads writes

  -- the bytes end inside a request
  pub serves_part : (most left : ℕ) (before now : StreamAt S) (unread : List ℕ) → SoFar step most left (left - 1) before now unread → AtEnd now.left → EndsEarly unread → 0 < length unread
      → ReadCause {T = ℕ} before.read_faults now.read_faults (Err Ended) → WriteCause {T = ℕ} before.write_faults now.write_faults (Err Ended) → Serves step gives_up most before now (Err Ended)
  serves_part most left before now unread s ended early some reads writes =
      serves most left before now now unread [] [] (unread ++ []) left (Err Ended) s refl (nothing_left now.left ended) (appends_none now.held)
      (λ n is. (same_point left (unread ++ []) now.at now.at s.said refl, subst EndsEarly (sym (append-nil unread)) early, subst (λ x. 0 < length x) (sym (append-nil unread)) some)) reads writes

  -- the last request was answered
  pub serves_last : (most left m : ℕ) (before now after : StreamAt S) (unread : List ℕ) (asked : Incoming) (last : Bool) (used : ℕ) → 1 ≤ left → SoFar step most left (left - 1) before now unread
      → IsCut unread (Whole asked last used) → (last || nat_eq left 1) ≡ true → after.left ≡ now.left → m ≡ (most - left) + 1 → left ≤ most
      → AnswersOne step gives_up true now.held after.held now.at asked after.at (Ok tt)
      → ReadCause {T = ℕ} before.read_faults after.read_faults (Ok m) → WriteCause {T = ℕ} before.write_faults after.write_faults (Ok m) → Serves step gives_up most before after (Ok m)
  serves_last most left m before now after unread asked last used some s is ends same count within h reads writes =
      let behind = behind_of after.left in
      let c = comes left unread behind asked last used is in
      serves most left before now after unread behind h.1 c.0 (left - 1) (Ok m) s same (told_of after.left) h.4
      (λ n sum. inr (
        omega (arith, sum, count),
        (
          asked,
          record {
            comes = subst (λ b. Comes left (unread ++ behind) asked b c.0) ends c.1;
            left = omega (arith, some);
            response = h.0;
            steps = h.2;
            reply = h.1;
            is_reply = h.3;
            said = refl;
          },
        ),
      )) reads writes

  -- a request wasn't answered, or not whole
  pub serves_broken : (most left : ℕ) (before now after : StreamAt S) (unread : List ℕ) (asked : Incoming) (last is_last : Bool) (used : ℕ) (fault : StreamFault) → SoFar step most left (left - 1) before now unread
      → IsCut unread (Whole asked last used) → is_last ≡ (last || nat_eq left 1) → after.left ≡ now.left
      → AnswersOne step gives_up is_last now.held after.held now.at asked after.at (Err fault)
      → after.read_faults ≡ before.read_faults → now.write_faults ≡ before.write_faults → WriteCause {T = Unit} now.write_faults after.write_faults (Err fault) → Serves step gives_up most before after (Err fault)
  serves_broken most left before now after unread asked last is_last used WriteFault s is word same h reads steady writes =
      let behind = behind_of after.left in
      let c = comes left unread behind asked last used is in
      serves most left before now after unread behind (take h.2.0 h.0) c.0 (left - 1) (Err WriteFault) s same (told_of after.left) h.2.2
      (λ n sum. (
        asked,
        record {
          last = is_last;
          comes = subst (λ b. Comes left (unread ++ behind) asked b c.0) (sym word) c.1;
          reply = h.0;
          makes = h.1;
          count = h.2.0;
          part = h.2.1;
          said = refl;
        },
      )) reads (subst (λ n. (n ≤ after.write_faults) × Rose n after.write_faults) steady writes)
  serves_broken most left before now after unread asked last is_last used Memory s is word same (inl h) reads steady writes =
      let behind = behind_of after.left in
      let c = comes left unread behind asked last used is in
      serves most left before now after unread behind [] c.0 (left - 1) (Err Memory) s same (told_of after.left) (subst (λ o. Appends now.held o []) (sym h.2) (appends_none now.held))
      (λ n sum. inr (
        asked,
        record {
          last = is_last;
          comes = subst (λ b. Comes left (unread ++ behind) asked b c.0) (sym word) c.1;
          how = inl (h.0, h.1, append-nil s.said);
        },
      )) reads (writes ∙ steady)
  serves_broken most left before now after unread asked last is_last used Memory s is word same (inr h) reads steady writes =
      let behind = behind_of after.left in
      let c = comes left unread behind asked last used is in
      serves most left before now after unread behind h.1.0 c.0 (left - 1) (Err Memory) s same (told_of after.left) h.1.2
      (λ n sum. inr (
        asked,
        record {
          last = is_last;
          comes = subst (λ b. Comes left (unread ++ behind) asked b c.0) (sym word) c.1;
          how = inr (h.0, (h.1.0, h.1.1, refl));
        },
      )) reads (writes ∙ steady)
  serves_broken most left before now after unread asked last is_last used ReadFault s is word same h reads steady writes = absurd h
  serves_broken most left before now after unread asked last is_last used Ended s is word same h reads steady writes = absurd h

  -- nothing was cut off
  pub serves_cut : (most left : ℕ) (before now after : StreamAt S) (unread new : List ℕ) (fault : StreamFault) → 1 ≤ left → SoFar step most left left before now unread
      → Cutting now.left after.left unread new (Err fault) → after.held ≡ now.held → after.at ≡ now.at → now.read_faults ≡ before.read_faults → ReadCause {T = Cut} now.read_faults after.read_faults (Err fault)
      → after.write_faults ≡ before.write_faults → Serves step gives_up most before after (Err fault)
  serves_cut most left before now after unread new ReadFault some s cut held at steady cause writes =
      serves_fault most left before now after unread cut.got ReadFault some s cut.gave (few_got unread cut.got cut.few) held at (λ p q same bytes. (same, record { got = unread ++ cut.got; bytes = bytes; early = cut.early }))
      (subst (λ n. (n ≤ after.read_faults) × Rose n after.read_faults) steady cause) writes
  serves_cut most left before now after unread new Memory some s cut held at steady cause writes =
      serves_fault most left before now after unread cut.got Memory some s cut.gave cut.few held at (λ p q same bytes. inl same) (cause ∙ steady) writes
  serves_cut most left before now after unread new WriteFault some s cut held at steady cause writes = absurd cut
  serves_cut most left before now after unread new Ended some s cut held at steady cause writes = absurd cut

  -- the bytes end
  pub serves_end : (most left : ℕ) (before now after : StreamAt S) (unread new : List ℕ) (cut : Cut) (result : Result ℕ StreamFault) → 1 ≤ left → SoFar step most left left before now unread
      → CutsNext now.left after.left unread new cut → cut ≡ More → after.held ≡ now.held → after.at ≡ now.at → after.read_faults ≡ before.read_faults → after.write_faults ≡ before.write_faults
      → ((new ≡ []) × (result ≡ Ok (most - left))) ⊎ ((0 < length new) × (result ≡ Err Ended)) → Serves step gives_up most before after result
  serves_end most left before now after unread new cut result some s cuts more held at reads writes (inl none) =
      let read = so_read step most left before now after unread new cuts.got some s cuts.gave held at cuts.adds cuts.few in
      subst (λ r. Serves step gives_up most before after r) (sym none.1)
      (serves_all most left (most - left) before after new read (subst (IsAtEnd after.left) more cuts.at_end) none.0 refl reads writes)
  serves_end most left before now after unread new cut result some s cuts more held at reads writes (inr part) =
      let read = so_read step most left before now after unread new cuts.got some s cuts.gave held at cuts.adds cuts.few in
      subst (λ r. Serves step gives_up most before after r) (sym part.1)
      (serves_part most left before after new read (subst (IsAtEnd after.left) more cuts.at_end) (subst (IsCut new) more cuts.is_cut) part.0 reads writes)

-- two sides of one peer
pub sides : {A B : Type 0} (a a' : A) (b b' : B) (s t : A × B) → s ≡ (a, b) → t ≡ (a', b') → t ≡ s → (a' ≡ a) × (b' ≡ b)
sides a a' b b' s t e f same = let p = sym f ∙ same ∙ e in (ap (λ q. q.0) p, ap (λ q. q.1) p)

-- the last but one leaves one
pub one_left : (b : Bool) (n : ℕ) → (b || nat_eq n 1) ≡ false → 1 ≤ n → 1 ≤ n - 1
one_left true n e h = cc
one_left false zero e h = absurd (omega (arith, h))
one_left false (suc zero) e h = cc
one_left false (suc (suc k)) e h = omega arith
