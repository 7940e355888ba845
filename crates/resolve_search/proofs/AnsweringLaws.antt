-- What an answer to the want of a page says.
use Rattle.std.proofs.Common.{◌≡◌, ℕ, List, [], ◌∷◌, ◌&&◌, Bool, true, false, cond, Option, Some, None, refl, sym, ap, ◌∙◌, subst, inl, bytes_eq, true≢false}
use Rattle.std.specs.List.{cons_option}
use Rattle.std.specs.Option.{option_and_then}
use Rattle.sealed.specs.Deciding.{is_sealed_by}
use Rattle.entity_statement.specs.Claims.{Claims, Identifier}
use Rattle.entity_statement.specs.Signed.{IsSplit, statement_of}
use Rattle.entity_statement.specs.Told.{told}
use Rattle.entity_statement.specs.Use.{current_at}
use Rattle.entity_statement.specs.declared.signed.SignedStatement.{SignedStatement}
use Rattle.entity_statement.specs.declared.statement.Statement.{Statement}
use Rattle.chain_climb.specs.declared.answer.Answer.{Answer}
use Rattle.chain_climb.specs.declared.answer.Answer.TheVariants.{Good as GoodAnswer, Useless as UselessAnswer}
use Rattle.chain_climb.specs.declared.answer.Origin.{Origin}
use Rattle.chain_climb.specs.declared.answer.Origin.TheVariants.{Shelf, Link}
use Rattle.chain_climb.specs.declared.answer.Report.TheVariants.{Good, Useless}
use Rattle.chain_climb.specs.Climbs.{Need, page_named}
use Rattle.chain_climb.specs.Elements.{Among}
use Rattle.chain_climb.specs.Sessions.{is_call as is_answered_call}
use Rattle.chain_climb.proofs.Elements.{among-flat_map, among-right}
use Rattle.fed_ports.specs.declared.page.Page.{Page}
use Rattle.resolve_round.specs.declared.trace.Ask.{Ask}
use Rattle.resolve_round.specs.declared.trace.Got.{Got}
use Rattle.resolve_round.specs.declared.trace.Got.TheVariants.{Hit, Fetched, Fault}
use Rattle.resolve_round.specs.declared.trace.Search.{Search}
use Rattle.resolve_round.specs.declared.trace.Trace.{Trace}
use Rattle.resolve_search.specs.Answering.{IsRead, IsUseless, TellsAsk, is_link, passes_as, put_of, was_called}
use Rattle.resolve_round.specs.Courses.{document_in, fetched, is_call, is_hit, text_got}
use Rattle.resolve_round.specs.Keeping.{IsFetchedPage, kept_here, kept_new}
use Rattle.resolve_round.specs.Knowing.{with_search}
use Rattle.resolve_round.specs.Pages.{good_text, is_good, named_statement}
use Rattle.resolve_round.specs.Reading.{IsGotReading}
use Rattle.resolve_round.specs.Told.{Obtained}
use Rattle.resolve_round.proofs.GettingLaws.{earlier}
use Rattle.resolve_round.proofs.KeepingLaws.{keeps}
use Rattle.resolve_round.specs.Traces.{Kept, asks_in, kept_text, kept_until}

-- ---- what was got

called_by : (url : List ℕ) (got : Got) → was_called got ≡ is_call (record { url = url; got = got })
called_by url (Hit proven) = refl
called_by url (Fetched page) = refl
called_by url Fault = refl

pub called-ask : (ask : Ask) → was_called ask.got ≡ is_call ask
called-ask ask = called_by ask.url ask.got

called_good : (statement : Statement) (origin : Origin) → is_answered_call (Good statement origin) ≡ is_link origin
called_good statement Shelf = refl
called_good statement Link = refl

called_useless : (origin : Origin) → is_answered_call (Useless origin) ≡ is_link origin
called_useless Shelf = refl
called_useless Link = refl

-- ---- whether a statement of the names is good

-- a superior's is
pub passes-other : (own : Bool) (t : ℕ) (text : List ℕ) (s : Claims) → own ≡ false → true ≡ passes_as own t text s
passes-other own t text s nay = ap (λ b. passes_as b t text s) (sym nay)

-- a configuration that isn't current isn't
pub passes-old : (own : Bool) (t : ℕ) (text : List ℕ) (s : Claims) → own ≡ true → current_at s.iat s.exp t ≡ false → false ≡ passes_as own t text s
passes-old own t text s aye old = ap (λ b. b && is_sealed_by text s.keys) (sym old) ∙ ap (λ b. passes_as b t text s) (sym aye)

-- one that is current is where it is sealed by its own keys
pub passes-own : (own : Bool) (t : ℕ) (text : List ℕ) (s : Claims) (good : Bool) → own ≡ true → current_at s.iat s.exp t ≡ true → good ≡ is_sealed_by text s.keys → good ≡ passes_as own t text s
passes-own own t text s good aye current is = is ∙ ap (λ b. b && is_sealed_by text s.keys) (sym current) ∙ ap (λ b. passes_as b t text s) (sym aye)

-- ---- named statements

-- a reading says nothing of the URL
pub named-anywhere : (issuer subject : Identifier) (url other text : List ℕ) → named_statement (page_named issuer subject url) text ≡ named_statement (page_named issuer subject other) text
unfolding named_statement
named-anywhere issuer subject url other text = refl

named_by : (b : Bool) (read s : Claims) → cond b (Some read) None ≡ Some s → read ≡ s
named_by true read s is = cc is
named_by false read s is = cc is

named_from : (page : Need) (o : Option Claims) (s : Claims) → option_and_then (λ (c : Claims). cond (bytes_eq c.iss page.issuer && bytes_eq c.sub page.subject) (Some c) None) o ≡ Some s → o ≡ Some s
named_from page None s is = cc is
named_from page (Some read) s is = ap Some (named_by (bytes_eq read.iss page.issuer && bytes_eq read.sub page.subject) read s is)

pub named-reads : (page : Need) (text : List ℕ) (s : Claims) → named_statement page text ≡ Some s → statement_of text ≡ Some s
unfolding named_statement
named-reads page text s is = named_from page (statement_of text) s is

good_none : (t : ℕ) (page : Need) (text : List ℕ) → named_statement page text ≡ None → good_text t page text ≡ None
unfolding good_text
good_none t page text none = ap (option_and_then (λ (s : Claims). cond (is_good t page text s) (Some s) None)) none

good_some : (t : ℕ) (page : Need) (text : List ℕ) (s : Claims) (good : Bool) → named_statement page text ≡ Some s → good ≡ is_good t page text s → good_text t page text ≡ cond good (Some s) None
unfolding good_text
good_some t page text s good reads is = ap (option_and_then (λ (c : Claims). cond (is_good t page text c) (Some c) None)) reads ∙ ap (λ b. cond b (Some s) None) (sym is)

-- nothing good was got where nothing of the names reads
none_got : (t : ℕ) (issuer subject : Identifier) (url : List ℕ) (o : Option (List ℕ)) → IsGotReading issuer subject o None → option_and_then (good_text t (page_named issuer subject url)) o ≡ None
none_got t issuer subject url None read = refl
none_got t issuer subject url (Some text) read = good_none t (page_named issuer subject url) text (named-anywhere issuer subject url [] text ∙ read)

pub tells-useless : (t : ℕ) (issuer subject : Identifier) (ask : Ask) (answer : Answer) (read : Option SignedStatement) → IsGotReading issuer subject (text_got ask.got) read → read ≡ None → IsUseless ask.got answer
    → TellsAsk t (page_named issuer subject ask.url) ask answer
tells-useless t issuer subject ask answer read reading none is = record {
  report = is.report;
  is = is.is;
  ok = is.ok;
  says = is.none ∙ sym (none_got t issuer subject ask.url (text_got ask.got) (subst (IsGotReading issuer subject (text_got ask.got)) none reading));
  called = is.called ∙ called-ask ask;
}

-- ---- a statement that was read

read_by : (issuer subject : Identifier) (ask : Ask) (signed : SignedStatement) (o : Option (List ℕ)) → text_got ask.got ≡ o → IsGotReading issuer subject o (Some signed) → IsRead issuer subject ask signed
read_by issuer subject ask signed None is reading = cc reading
read_by issuer subject ask signed (Some text) is reading = record {
  got = is ∙ ap Some (sym reading.1);
  named = named-anywhere issuer subject ask.url [] signed.compact.whole ∙ ap (named_statement (page_named issuer subject [])) reading.1 ∙ reading.0;
}

pub read-is : (issuer subject : Identifier) (ask : Ask) (signed : SignedStatement) (read : Option SignedStatement) → IsGotReading issuer subject (text_got ask.got) read → read ≡ Some signed → IsRead issuer subject ask signed
read-is issuer subject ask signed read reading is = read_by issuer subject ask signed (text_got ask.got) refl (subst (IsGotReading issuer subject (text_got ask.got)) is reading)

split_by : (issuer subject : Identifier) (signed : SignedStatement) (o : Option (List ℕ)) → IsGotReading issuer subject o (Some signed) → IsSplit signed
split_by issuer subject signed None reading = cc reading
split_by issuer subject signed (Some text) reading = reading.2

pub read-split : (issuer subject : Identifier) (ask : Ask) (signed : SignedStatement) (read : Option SignedStatement) → IsGotReading issuer subject (text_got ask.got) read → read ≡ Some signed
    → IsSplit signed
read-split issuer subject ask signed read reading is = split_by issuer subject signed (text_got ask.got) (subst (IsGotReading issuer subject (text_got ask.got)) is reading)

module _ (t : ℕ) (issuer subject : Identifier) (ask : Ask) (signed : SignedStatement) (is : IsRead issuer subject ask signed) where
  abbrev page : Need
  page = page_named issuer subject ask.url

  says : (good : Bool) → good ≡ passes_as (bytes_eq issuer subject) t signed.compact.whole (told signed.statement) → option_and_then (good_text t page) (text_got ask.got) ≡ cond good (Some (told signed.statement)) None
  says good passes = ap (option_and_then (good_text t page)) is.got ∙ good_some t page signed.compact.whole (told signed.statement) good is.named passes

  pub tells-good : (good : Bool) (origin : Origin) → good ≡ true → good ≡ passes_as (bytes_eq issuer subject) t signed.compact.whole (told signed.statement) → is_link origin ≡ was_called ask.got
      → TellsAsk t page ask (GoodAnswer signed.statement origin)
  tells-good good origin aye passes called = record {
    report = Good signed.statement origin;
    is = refl;
    ok = tt;
    says = sym (says good passes ∙ ap (λ b. cond b (Some (told signed.statement)) None) aye);
    called = called_good signed.statement origin ∙ called ∙ called-ask ask;
  }

  pub tells-bad : (good : Bool) (origin : Origin) → good ≡ false → good ≡ passes_as (bytes_eq issuer subject) t signed.compact.whole (told signed.statement) → is_link origin ≡ was_called ask.got
      → TellsAsk t page ask (UselessAnswer origin)
  tells-bad good origin nay passes called = record {
    report = Useless origin;
    is = refl;
    ok = tt;
    says = sym (says good passes ∙ ap (λ b. cond b (Some (told signed.statement)) None) nay);
    called = called_useless origin ∙ called ∙ called-ask ask;
  }

  -- ---- what is kept of it

  page_got : (got : Got) → (got ≡ ask.got) → is_hit ask ≡ false → text_got got ≡ Some signed.compact.whole → (page : Page) × (fetched got ≡ Some page) × (document_in page ≡ Some signed.compact.whole)
  page_got (Hit proven) same nay text = let e : true ≡ false = ap (λ g. is_hit (record { url = ask.url; got = g })) same ∙ nay in absurd (true≢false e)
  page_got (Fetched p) same nay text = (p, refl, text)
  page_got Fault same nay text = cc text

  ask_among : (trace : Trace) (search : Search) → Among ask search.asks → Among ask (asks_in (with_search trace search).searches)
  ask_among trace search among = among-flat_map (λ (s : Search). s.asks) search ask (with_search trace search).searches (among-right search (earlier trace) (search ∷ []) (inl refl)) among

  pub read-obtained : (trace : Trace) (search : Search) → Among ask search.asks → Obtained (with_search trace search).searches ask.url signed.compact.whole
  read-obtained trace search among = (ask, ask_among trace search among, refl, is.got)

  pub read-fetched : (trace : Trace) (search : Search) → Among ask search.asks → is_hit ask ≡ false → IsFetchedPage trace search ask.url signed.compact.whole (told signed.statement)
  read-fetched trace search among nay = record {
    page = page;
    at = refl;
    reads = is.named;
    fetched = (ask, ask_among trace search among, refl, page_got ask.got refl nay is.got);
  }

  kept_from : (age : ℕ) (got : Got) → got ≡ ask.got → is_hit ask ≡ false → option_and_then (kept_text t age page) (option_and_then document_in (fetched got)) ≡ kept_text t age page signed.compact.whole
  kept_from age got same nay =
      let p = page_got got same nay (ap text_got same ∙ is.got) in
      ap (λ o. option_and_then (kept_text t age page) (option_and_then document_in o)) p.1 ∙ ap (option_and_then (kept_text t age page)) p.2

  kept_cons : (b : Bool) (k : Kept) → cons_option (cond b (Some k) None) [] ≡ cond b (k ∷ []) []
  kept_cons true k = refl
  kept_cons false k = refl

  -- what is put of an ask that was fetched now
  pub put-now : (age : ℕ) → is_hit ask ≡ false → kept_here t age ask.url signed.compact.whole (told signed.statement) ≡ put_of true t age page ask
  put-now age nay =
      let s = told signed.statement in
      let k : Kept = keeps ask.url signed.compact.whole (kept_until t age s.exp) in
      sym (ap (λ o. cons_option o [])
      (kept_from age ask.got refl nay
      ∙ ap (option_and_then (λ (c : Claims). cond (current_at c.iat c.exp t) (Some (keeps ask.url signed.compact.whole (kept_until t age c.exp))) None)) is.named)
      ∙ kept_cons (current_at s.iat s.exp t) k)

  -- what is put of an ask, by whether it was fetched now
  pub put-new : (now : Bool) (age : ℕ) → (now ≡ true → is_hit ask ≡ false) → kept_new now t age ask.url signed.compact.whole (told signed.statement) ≡ put_of now t age page ask
  put-new true age apart = put-now age (apart refl)
  put-new false age apart = refl

-- ---- nothing is kept where nothing reads

none_kept : (t age : ℕ) (issuer subject : Identifier) (url : List ℕ) (got : Got) → IsGotReading issuer subject (text_got got) None → option_and_then (kept_text t age (page_named issuer subject url)) (option_and_then document_in (fetched got)) ≡ None
none_kept t age issuer subject url (Hit proven) read = refl
none_kept t age issuer subject url Fault read = refl
none_kept t age issuer subject url (Fetched page) read = by_text (document_in page) read
  where
    by_text : (o : Option (List ℕ)) → IsGotReading issuer subject o None → option_and_then (kept_text t age (page_named issuer subject url)) o ≡ None
    by_text None r = refl
    by_text (Some text) r =
        ap (option_and_then (λ (c : Claims). cond (current_at c.iat c.exp t) (Some (keeps url text (kept_until t age c.exp))) None))
        (named-anywhere issuer subject url [] text ∙ r)

pub put-useless : (now : Bool) (t age : ℕ) (issuer subject : Identifier) (ask : Ask) (read : Option SignedStatement) → IsGotReading issuer subject (text_got ask.got) read → read ≡ None
    → put_of now t age (page_named issuer subject ask.url) ask ≡ []
put-useless true t age issuer subject ask read reading none =
    ap (λ o. cons_option o []) (none_kept t age issuer subject ask.url ask.got (subst (IsGotReading issuer subject (text_got ask.got)) none reading))
put-useless false t age issuer subject ask read reading none = refl
