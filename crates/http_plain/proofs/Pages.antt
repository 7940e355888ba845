-- Bytes show one page, and so does an exchange.
use Rattle.std.proofs.Common.{◌≡◌, ◌<◌, inl, inr, ℕ, Bool, true, false, List, [], length, drop, None, sym, ap, ◌∙◌, subst, arith, take_all}
use Rattle.chunked_body.specs.declared.reader.Chunked.{Chunked}
use Rattle.chunked_body.specs.Answers.{IsChunked}
use Rattle.chunked_body.proofs.Decided.{only}
use Rattle.fed_ports.specs.declared.page.Page.{Page}
use Rattle.fed_ports.specs.Exchanges.{Exchange}
use Rattle.httparse.specs.Grammar.{ResponseHead}
use Rattle.httparse.proofs.GrammarLemmas.{response_unique}
use Rattle.http_plain.specs.declared.form.Form.{Form}
use Rattle.http_plain.specs.declared.form.Form.TheVariants.{Bad, Refused, Sized, Chunked as InChunks, ToEnd}
use Rattle.http_plain.specs.declared.route.Route.{Route}
use Rattle.http_plain.specs.Clients.{ClientPage}
use Rattle.http_messages.specs.Heads.{BeginsWithHead, head_end, head_limit}
use Rattle.http_plain.specs.Pages.{IsAnswerHead, IsForm, IsBodyPage, IsPage, chunked_page, form_by}
use Rattle.http_messages.proofs.Texts.{back_of, no_head, one_head}

one_answer_head : (text : List ℕ) (h k : ResponseHead) → IsAnswerHead text h → IsAnswerHead text k → h ≡ k
one_answer_head text h k a b = (response_unique text h k [] [] a.reads b.reads).0

-- a head says one form of the body
one_form : (text : List ℕ) (f g : Form) → IsForm text f → IsForm text g → f ≡ g
one_form text f g (inl a) (inl b) = a.2 ∙ ap form_by (one_answer_head text a.0 b.0 a.1 b.1) ∙ sym b.2
one_form text f g (inl a) (inr b) = absurd (b.0 a.0 a.1)
one_form text f g (inr a) (inl b) = absurd (a.0 b.0 b.1)
one_form text f g (inr a) (inr b) = a.1 ∙ sym b.1

one_chunked : (y : List ℕ) (ended : Bool) (c d : Chunked) → IsChunked y ended c → IsChunked y ended d → c ≡ d
one_chunked y ended c d a b = only y ended c a ∙ sym (only y ended d b)

-- what stands behind a head shows one page
one_body_page : (f : Form) (y : List ℕ) (ended : Bool) (p q : Page) → IsBodyPage f y ended p → IsBodyPage f y ended q → p ≡ q
one_body_page Bad y ended p q a b = a ∙ sym b
one_body_page (Refused status) y ended p q a b = a ∙ sym b
one_body_page (Sized n) y ended p q (inl a) (inl b) = a.1 ∙ sym b.1
one_body_page (Sized n) y ended p q (inl a) (inr (inl b)) = absurd (omega (arith, a.0, b.0))
one_body_page (Sized n) y ended p q (inl a) (inr (inr b)) = absurd (omega (arith, a.0, b.0))
one_body_page (Sized n) y ended p q (inr (inl a)) (inl b) = absurd (omega (arith, a.0, b.0))
one_body_page (Sized n) y ended p q (inr (inl a)) (inr (inl b)) = a.2 ∙ sym b.2
one_body_page (Sized n) y ended p q (inr (inl a)) (inr (inr b)) = absurd (omega (arith, a.1, b.1))
one_body_page (Sized n) y ended p q (inr (inr a)) (inl b) = absurd (omega (arith, a.0, b.0))
one_body_page (Sized n) y ended p q (inr (inr a)) (inr (inl b)) = absurd (omega (arith, a.1, b.1))
one_body_page (Sized n) y ended p q (inr (inr a)) (inr (inr b)) = a.3 ∙ sym b.3
one_body_page InChunks y ended p q a b = a.2 ∙ ap chunked_page (one_chunked y ended a.0 b.0 a.1 b.1) ∙ sym b.2
one_body_page ToEnd y ended p q (inl a) (inl b) = a.1 ∙ sym b.1
one_body_page ToEnd y ended p q (inl a) (inr b) = absurd (omega (arith, a.0, b.0))
one_body_page ToEnd y ended p q (inr a) (inl b) = absurd (omega (arith, a.0, b.0))
one_body_page ToEnd y ended p q (inr a) (inr b) = a.2 ∙ sym b.2

-- one thing stands behind a head
one_rest : (x h k : List ℕ) (a : BeginsWithHead x h) (b : BeginsWithHead x k) → h ≡ k → a.rest ≡ b.rest
one_rest x h k a b e =
    sym (ap (drop (length h)) a.bytes ∙ back_of h a.rest) ∙ ap (λ t. drop (length t) x) e ∙ ap (drop (length k)) b.bytes ∙ back_of k b.rest

same_page : (f g : Form) (y z : List ℕ) (ended : Bool) (p q : Page) → f ≡ g → y ≡ z
    → IsBodyPage f y ended p → IsBodyPage g z ended q → p ≡ q
same_page f g y z ended p q e r a b =
    one_body_page g z ended p q (subst (λ t. IsBodyPage g t ended p) r (subst (λ t. IsBodyPage t y ended p) e a)) b

-- bytes show one page
pub one_page : (x : List ℕ) (ended : Bool) (a b : Page) → IsPage x ended a → IsPage x ended b → a ≡ b
one_page x ended a b (inl p) (inl q) = p.2 ∙ sym q.2
one_page x ended a b (inl p) (inr q) = absurd (no_head x q.head q.begins p.0)
one_page x ended a b (inr p) (inl q) = absurd (no_head x p.head p.begins q.0)
one_page x ended a b (inr p) (inr q) =
    let head = one_head x p.head q.head p.begins q.begins in
    let form = one_form q.head p.form q.form (subst (λ t. IsForm t p.form) head p.is_form) q.is_form in
    same_page p.form q.form p.begins.rest q.begins.rest ended a b form (one_rest x p.head q.head p.begins q.begins head) p.page q.page

-- bytes without a head are no page yet
pub early_none : (x : List ℕ) → head_end x ≡ None → length x < head_limit → (p : Page) → IsPage x false p → ⊥
early_none x none short p (inl h) = elim h.1 [ inl full ↦ omega (arith, short, full) | inr e ↦ (let no : false ≡ true = e in cc) ]
early_none x none short p (inr h) = no_head x h.head h.begins (ap head_end (take_all head_limit x (omega (arith, short))) ∙ none)

-- nor are those with a head behind which nothing is one
pub behind_none : (x head : List ℕ) (b : BeginsWithHead x head) (form : Form) → IsForm head form → ((p : Page) → IsBodyPage form b.rest false p → ⊥) → (p : Page) → IsPage x false p → ⊥
behind_none x head b form is none p (inl h) = no_head x head b h.0
behind_none x head b form is none p (inr h) =
    let heads = one_head x head h.head b h.begins in
    let forms = one_form h.head form h.form (subst (λ t. IsForm t form) heads is) h.is_form in
    let rests = one_rest x head h.head b h.begins heads in
    none p (subst (λ f. IsBodyPage f b.rest false p) (sym forms) (subst (λ y. IsBodyPage h.form y false p) (sym rests) h.page))

-- for a URL, by the routes, an exchange shows one page
pub one_client_page : (text : List ℕ) (routes : List Route) (x : Exchange) (a b : Page)
    → ClientPage text routes x a → ClientPage text routes x b → a ≡ b
one_client_page text routes x a b p q = one_page x.received x.ended a b p.page q.page
