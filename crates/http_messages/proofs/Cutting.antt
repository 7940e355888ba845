-- What stands at the front of a stream of requests.
use Rattle.std.proofs.Common.{◌≡◌, ◌≤◌, ◌<◌, inl, inr, ℕ, ◌+◌, Bool, true, false, List, [], ◌++◌, length, min, take, drop, Option, Some, None, if◌then◌else◌, IfOk, IfSome, Result, Ok, Err, refl, sym, ap, ap₂, ◌∙◌, subst, append_assoc, arith, take_all, slice_range}
use Rattle.std.proofs.Math.Seq.{take-add}
use Rattle.std.proofs.lemmas.List.{length-append, length-drop, length-take, length-take-le, take-append-drop, take-take}
use Rattle.http_messages.specs.declared.cut.Cut.TheVariants.{Whole}
use Rattle.http_messages.specs.declared.inflow.Break.{Break}
use Rattle.http_messages.specs.declared.inflow.Break.TheVariants.{Failed, Memory}
use Rattle.http_messages.specs.declared.plan.Plan.{Plan}
use Rattle.http_messages.specs.declared.request.Incoming.TheVariants.{Asked, NotARequest}
use Rattle.http_messages.specs.declared.request.Request.{Request}
use Rattle.http_messages.specs.Connections.{closes}
use Rattle.http_messages.specs.Cuts.{BeginsStream, IsCut, IsNoStreamRequest, IsRefusedThere, Needs, is_stray, stream_size_by}
use Rattle.http_messages.specs.Flows.{HeadBroken, HeadBrokenOn, HeadComes, HeadComesOn, OnFailed}
use Rattle.http_messages.specs.Heads.{BeginsWithHead, IsHeadText, head_end, head_limit}
use Rattle.http_messages.specs.Plans.{IsAsked, SaysPlan}
use Rattle.http_messages.specs.Requests.{Begins, EndsEarly, IsHead, IsRefused, pairs_of, path_of, query_of, size_by}
use Rattle.http_messages.proofs.Ends.{end_inside}
use Rattle.http_messages.proofs.Sizes.{same_head}
use Rattle.http_messages.proofs.Takings.{head_text}
use Rattle.http_messages.proofs.Texts.{head_at, head_of, no_head, one_head, one_request, refused_not_ended, some_is}

-- how far a head goes that was found
pub front_inside : (x : List ℕ) (len : ℕ) → head_end (take head_limit x) ≡ Some len → (len ≤ length x) × (len ≤ head_limit)
front_inside x len e = let inside = end_inside (take head_limit x) len e in (omega (arith, inside, length-take head_limit x), omega (arith, inside, length-take head_limit x))

pub front_within : (x : List ℕ) (o : Option ℕ) → o ≡ head_end (take head_limit x) → IfSome o (λ len. (len ≤ length x) × (len ≤ head_limit))
front_within x None e = tt
front_within x (Some len) e = front_inside x len (sym e)

-- it stands at the front
pub front_head : (x : List ℕ) (len : ℕ) → head_end (take head_limit x) ≡ Some len → BeginsWithHead x (take len x)
front_head x len e =
    let few : length (take head_limit x) ≤ head_limit = omega (arith, length-take head_limit x) in
    let within = front_inside x len e in
    record {
      rest = drop len x;
      bytes = sym (take-append-drop len x);
      is_head = subst IsHeadText (take-take len head_limit x within.1) (head_text (take head_limit x) len few e);
    }

size_case : (b : Bool) (o : Option ℕ) → o ≡ None → (if b then None else o) ≡ None
size_case true o e = refl
size_case false o e = e

stray_case : (b : Bool) (o : Option ℕ) → b ≡ true → (if b then None else o) ≡ None
stray_case true o e = refl
stray_case false o e = cc

-- what isn't a request is none on a stream
pub refused_there : (head : List ℕ) → IsRefused head → IsRefusedThere head
refused_there head none h is = size_case (is_stray h) (size_by h) (none h is)

-- a GET that states a body is none there
pub stray_there : (head : List ℕ) (p : Plan) → SaysPlan head p → p.is_stray ≡ true → IsRefusedThere head
stray_there head p says e h is = stray_case (is_stray h) (size_by h) (ap is_stray (sym (same_head head says.parts h says.reads is)) ∙ sym says.stray ∙ e)

pub short_of_head : (x : List ℕ) → head_end (take head_limit x) ≡ None → length x < head_limit → EndsEarly x
short_of_head x none short = inl (none, short)

pub past_head : (x : List ℕ) (used : ℕ) → head_end (take head_limit x) ≡ None → head_limit ≤ length x → used ≡ length x → IsCut x (Whole NotARequest true used)
past_head x used none long all = (inl (none, long), refl, all)

pub cut_refused : (x : List ℕ) (len : ℕ) → head_end (take head_limit x) ≡ Some len → IsRefused (take len x) → IsCut x (Whole NotARequest true (length x))
cut_refused x len e none = (inr (take len x, front_head x len e, refused_there (take len x) none), refl, refl)

pub cut_stray : (x : List ℕ) (len : ℕ) (p : Plan) → head_end (take head_limit x) ≡ Some len → SaysPlan (take len x) p → p.is_stray ≡ true → IsCut x (Whole NotARequest true (length x))
cut_stray x len p e says stray = (inr (take len x, front_head x len e, stray_there (take len x) p says stray), refl, refl)

-- what bytes need by what their head says
pub needs_head : (x : List ℕ) → head_end (take head_limit x) ≡ None → Needs x (min head_limit (length x + 1))
needs_head x none = inl (none, omega arith)

pub needs_plan : (x : List ℕ) (len : ℕ) (p : Plan) → head_end (take head_limit x) ≡ Some len → SaysPlan (take len x) p → Needs x (len + p.size)
needs_plan x len p e says = inr (inl (record {
  head = take len x;
  begins = front_head x len e;
  parts = says.parts;
  reads = says.reads;
  size = p.size;
  sized = says.sized;
  all = let within = front_inside x len e in omega (arith, length-take-le len x within.0);
}))

pub needs_refused : (x : List ℕ) (len : ℕ) → head_end (take head_limit x) ≡ Some len → IsRefused (take len x) → Needs x len
needs_refused x len e none = inr (inr (take len x, front_head x len e, none, (let within = front_inside x len e in sym (length-take-le len x within.0))))

-- the bytes end inside the body
pub cut_short : (x : List ℕ) (len : ℕ) (p : Plan) → head_end (take head_limit x) ≡ Some len → SaysPlan (take len x) p → length x < len + p.size → EndsEarly x
cut_short x len p e says short = inr (record {
  head = take len x;
  begins = front_head x len e;
  parts = says.parts;
  reads = says.reads;
  size = p.size;
  sized = says.sized;
  short = let within = front_inside x len e in omega (arith, short, length-take-le len x within.0);
})

-- a request stands there whole
pub cut_whole : (x : List ℕ) (len : ℕ) (p : Plan) (r : Request) → head_end (take head_limit x) ≡ Some len → SaysPlan (take len x) p → p.is_stray ≡ false → len + p.size ≤ length x
    → IsAsked r p.method (slice_range (take len x) p.target.start p.target.end) (take p.size (drop len x)) → BeginsStream x r p.is_last (len + p.size)
cut_whole x len p r e says kept enough asked =
    let within = front_inside x len e in
    let size : length (take p.size (drop len x)) ≡ p.size = length-take-le p.size (drop len x) (omega (arith, length-drop len x, enough)) in
    let begins = front_head x len e in
    record {
      text = take (len + p.size) x;
      rest = drop (len + p.size) x;
      bytes = sym (take-append-drop (len + p.size) x);
      is_text = record {
        is_text = record {
          head = take len x;
          spelled = take-add len p.size x ∙ ap (λ y. take len x ++ y) (sym asked.body_is);
          is_head = begins.is_head;
          parts = says.parts;
          reads = says.reads;
          sized = says.sized ∙ ap Some (sym size ∙ ap length (sym asked.body_is));
          method = says.method ∙ ap Some (sym asked.method_is);
          path = asked.path ∙ ap path_of says.target;
          pairs = asked.pairs ∙ ap (λ y. pairs_of (query_of y)) says.target;
        };
        bodiless = sym says.stray ∙ kept;
        is_last = says.last;
      };
      size = sym (length-take-le (len + p.size) x enough);
    }

-- ---- bytes that go on

pub begins_on : (x more head : List ℕ) → BeginsWithHead x head → BeginsWithHead (x ++ more) head
begins_on x more head b = record { rest = b.rest ++ more; bytes = ap (λ y. y ++ more) b.bytes ∙ append_assoc head b.rest more; is_head = b.is_head }

-- what needs so many bytes doesn't end early with as many, once its head is there
pub enough : (x more : List ℕ) (len n : ℕ) → head_end (take head_limit x) ≡ Some len → Needs x n → n ≤ length (x ++ more) → EndsEarly (x ++ more) → ⊥
enough x more len n found (inl none) all early = let e = sym found ∙ none.0 in cc
enough x more len n found (inr (inl need)) all (inl none) = no_head (x ++ more) need.head (begins_on x more need.head need.begins) none.0
enough x more len n found (inr (inl need)) all (inr early) =
    let head = one_head (x ++ more) early.head need.head early.begins (begins_on x more need.head need.begins) in
    let parts = same_head need.head early.parts need.parts (subst (λ y. IsHead y early.parts) head early.reads) need.reads in
    let size = some_is early.size need.size (sym early.sized ∙ ap size_by parts ∙ need.sized) in
    omega (arith, early.short, size, ap length head, need.all, all)
enough x more len n found (inr (inr none)) all early = refused_not_ended (x ++ more) (inr (none.0, begins_on x more none.0 none.1, none.2)) early

-- bytes that end early have no head where none was found
pub early_head : (x : List ℕ) → EndsEarly x → head_end (take head_limit x) ≡ None → (head_end x ≡ None) × (length x < head_limit)
early_head x (inl none) e = (ap head_end (sym (take_all head_limit x (omega (arith, none.1)))) ∙ e, none.1)
early_head x (inr body) e = let found = sym (head_at x body.head body.begins) ∙ e in cc

-- a full head's length without a head isn't early
pub full_head : (x : List ℕ) → head_end x ≡ None → length x ≡ head_limit → EndsEarly x → ⊥
full_head x none full (inl short) = omega (arith, full, short.1)
full_head x none full (inr body) = let found = sym (head_at x body.head body.begins) ∙ (ap head_end (take_all head_limit x (omega (arith, full))) ∙ none) in cc

-- a head that came behind what a text had before is that of all of it, where it had nothing
pub head_all : (came : List ℕ → Bool → Type 0) (before after : List ℕ) (r : Result (Option ℕ) Break) → before ≡ [] → IfOk r (λ end. HeadComesOn came before after end) → IfOk r (λ end. HeadComes came after end)
head_all came before after (Ok (Some len)) e h = (subst (λ t. came t false) (sym (h.0.adds ∙ ap (λ y. y ++ h.0.got) e)) h.0.came, h.1, h.2)
head_all came before after (Ok None) e h = (h.0, subst (λ t. came t h.0) (sym (h.1.adds ∙ ap (λ y. y ++ h.1.got) e)) h.1.came, h.2, h.3, h.4)
head_all came before after (Err fault) e h = tt

-- the same where a call failed before a head was there
pub broken_all : {T : Type 0} (broke : List ℕ → Type 0) (before after : List ℕ) (r : Result T Break) → before ≡ [] → OnFailed r (HeadBrokenOn broke before after) → OnFailed r (HeadBroken broke after)
broken_all broke before after (Ok x) e h = tt
broken_all broke before after (Err Failed) e h = (subst broke (sym (h.0.adds ∙ ap (λ y. y ++ h.0.got) e)) h.0.broke, h.1, h.2)
broken_all broke before after (Err Memory) e h = tt

-- ---- one cut

abbrev begins_of : (x : List ℕ) (r : Request) (last : Bool) (used : ℕ) → BeginsStream x r last used → Begins x r
begins_of x r last used b = record { text = b.text; rest = b.rest; bytes = b.bytes; is_text = b.is_text.is_text }

pub one_begin : (x : List ℕ) (r s : Request) (l m : Bool) (u v : ℕ) → BeginsStream x r l u → BeginsStream x s m v → Whole (Asked r) l u ≡ Whole (Asked s) m v
one_begin x r s l m u v a b =
    let p = a.is_text.is_text in
    let q = b.is_text.is_text in
    let request = one_request x r s (begins_of x r l u a) (begins_of x s m v b) in
    let head = one_head x p.head q.head (head_of x r (begins_of x r l u a)) (head_of x s (begins_of x s m v b)) in
    let parts = same_head q.head p.parts q.parts (subst (λ y. IsHead y p.parts) head p.reads) q.reads in
    let last = a.is_text.is_last ∙ ap closes parts ∙ sym b.is_text.is_last in
    let first : u ≡ length p.head + length r.body = a.size ∙ ap length p.spelled ∙ length-append p.head r.body in
    let second : v ≡ length q.head + length s.body = b.size ∙ ap length q.spelled ∙ length-append q.head s.body in
    let used : u ≡ v = omega (arith, first, second, ap length head, ap (λ z. length z.body) request) in
    ap (λ z. Whole (Asked z) l u) request ∙ ap₂ (λ y z. Whole (Asked s) y z) last used

pub not_refused_there : (x : List ℕ) (r : Request) (l : Bool) (u : ℕ) → BeginsStream x r l u → IsNoStreamRequest x → ⊥
not_refused_there x r l u b (inl none) = no_head x b.is_text.is_text.head (head_of x r (begins_of x r l u b)) none.0
not_refused_there x r l u b (inr none) =
    let p = b.is_text.is_text in
    let head = one_head x p.head none.0 (head_of x r (begins_of x r l u b)) none.1 in
    let e = none.2 p.parts (subst (λ y. IsHead y p.parts) head p.reads) in
    let whole : stream_size_by p.parts ≡ size_by p.parts = ap (λ t. if t then None else size_by p.parts) b.is_text.bodiless in
    let f = sym p.sized ∙ sym whole ∙ e in cc
