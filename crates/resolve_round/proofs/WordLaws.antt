-- What is good by the tests is good in words.
use Rattle.std.proofs.Common.{◌≡◌, ◌≢◌, ℕ, List, Bool, true, false, cond, ◌&&◌, Some, None, refl, sym, ap, ◌∙◌, subst, bytes_eq}
use Rattle.fed_json.proofs.Order.{bytes_eq-itself, equal-bytes_eq}
use Rattle.sealed.specs.Deciding.{Splits, is_sealed_by}
use Rattle.sealed.proofs.DecidingLaws.{IsSealedBy-from_is_sealed_by, is_sealed_by-from_IsSealedBy}
use Rattle.entity_statement.specs.Claims.{Claims, Identifier}
use Rattle.entity_statement.specs.Signed.{statement_of}
use Rattle.entity_statement.specs.Use.{current_at}
use Rattle.chain_climb.specs.Climbs.{Need, configuration_of}
use Rattle.resolve_round.specs.Pages.{GoodConfiguration, GoodStatement, Pages, findings, good_text, is_good, named_statement}
use Rattle.resolve_round.proofs.HintLaws.{and-left, and-right, kept-some, then-some}

same-bytes : (a b : List ℕ) → a ≡ b → bytes_eq a b ≡ true
same-bytes a b same = ap (λ x. bytes_eq x b) same ∙ bytes_eq-itself b

pub words-configuration : (pages : Pages) (entity : Identifier) (t : ℕ) (s : Claims) → GoodConfiguration pages entity t s → findings pages t (configuration_of entity) ≡ Some s
unfolding findings good_text named_statement
words-configuration pages entity t s good =
    let iss : bytes_eq s.iss entity ≡ true = same-bytes s.iss entity good.names.0 in
    let sub : bytes_eq s.sub entity ≡ true = same-bytes s.sub entity good.names.1 in
    let seal : is_sealed_by good.text s.keys ≡ true = is_sealed_by-from_IsSealedBy good.text s.keys good.sealed in
    rw (good.page, good.reads, iss, sub, bytes_eq-itself entity, good.current, seal) refl

pub words-statement : (pages : Pages) (t : ℕ) (page : Need) (s : Claims) → page.issuer ≢ page.subject → GoodStatement pages page s → findings pages t page ≡ Some s
unfolding findings good_text named_statement
words-statement pages t page s apart good =
    let iss : bytes_eq s.iss page.issuer ≡ true = same-bytes s.iss page.issuer good.names.0 in
    let sub : bytes_eq s.sub page.subject ≡ true = same-bytes s.sub page.subject good.names.1 in
    let other : bytes_eq page.issuer page.subject ≡ false = Rattle.chain_climb.proofs.ClimbLaws.false-from (bytes_eq page.issuer page.subject) (λ same. apart (equal-bytes_eq page.issuer page.subject same)) in
    rw (good.there, good.reads, iss, sub, other) refl

kept-test : {X : Type 0} (b : Bool) (x y : X) → cond b (Some x) None ≡ Some y → b ≡ true
kept-test true x y is = refl
kept-test false x y is = cc is

-- what a finding was made of
record Made (pages : Pages) (t : ℕ) (page : Need) (s : Claims) : Type 0 where
  text : List ℕ
  there : pages page.url ≡ Some text
  reads : statement_of text ≡ Some s
  names : (s.iss ≡ page.issuer) × (s.sub ≡ page.subject)
  good : is_good t page text s ≡ true

finding-made : (pages : Pages) (t : ℕ) (page : Need) (s : Claims) → findings pages t page ≡ Some s → Made pages t page s
unfolding findings good_text named_statement
finding-made pages t page s is =
    let text = then-some (good_text t page) (pages page.url) s is in
    let kept = then-some (λ c. cond (is_good t page text.0 c) (Some c) None) (named_statement page text.0) s text.2 in
    let named = then-some (λ c. cond (bytes_eq c.iss page.issuer && bytes_eq c.sub page.subject) (Some c) None) (statement_of text.0) kept.0 kept.1 in
    let one : kept.0 ≡ s = kept-some (is_good t page text.0 kept.0) kept.0 s kept.2 in
    let two : named.0 ≡ kept.0 = kept-some (bytes_eq (named.0).iss page.issuer && bytes_eq (named.0).sub page.subject) named.0 kept.0 named.2 in
    let fit : (bytes_eq (named.0).iss page.issuer && bytes_eq (named.0).sub page.subject) ≡ true = kept-test (bytes_eq (named.0).iss page.issuer && bytes_eq (named.0).sub page.subject) named.0 kept.0 named.2 in
    let whole : named.0 ≡ s = two ∙ one in
    record {
      text = text.0;
      there = text.1;
      reads = named.1 ∙ ap Some whole;
      names = (
        sym (ap (λ (c : Claims). c.iss) whole) ∙ equal-bytes_eq (named.0).iss page.issuer (and-left (bytes_eq (named.0).iss page.issuer) (bytes_eq (named.0).sub page.subject) fit),
        sym (ap (λ (c : Claims). c.sub) whole) ∙ equal-bytes_eq (named.0).sub page.subject (and-right (bytes_eq (named.0).iss page.issuer) (bytes_eq (named.0).sub page.subject) fit),
      );
      good = subst (λ c. is_good t page text.0 c ≡ true) one (kept-test (is_good t page text.0 kept.0) kept.0 s kept.2);
    }

pub configuration-words : (pages : Pages) (entity : Identifier) (t : ℕ) (s : Claims) → ((url text : List ℕ) → pages url ≡ Some text → Splits text)
    → findings pages t (configuration_of entity) ≡ Some s → GoodConfiguration pages entity t s
configuration-words pages entity t s splits is =
    let made = finding-made pages t (configuration_of entity) s is in
    let own : (current_at s.iat s.exp t && is_sealed_by made.text s.keys) ≡ true = rw (bytes_eq-itself entity) at made.good in
    record {
      text = made.text;
      page = made.there;
      reads = made.reads;
      names = made.names;
      current = and-left (current_at s.iat s.exp t) (is_sealed_by made.text s.keys) own;
      sealed = IsSealedBy-from_is_sealed_by made.text s.keys (splits (configuration_of entity).url made.text made.there) (and-right (current_at s.iat s.exp t) (is_sealed_by made.text s.keys) own);
    }

pub statement-words : (pages : Pages) (t : ℕ) (page : Need) (s : Claims) → findings pages t page ≡ Some s → GoodStatement pages page s
statement-words pages t page s is =
    let made = finding-made pages t page s is in
    record { text = made.text; there = made.there; reads = made.reads; names = made.names }
