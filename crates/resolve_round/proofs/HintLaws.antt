-- No statement hints a superior twice.
use Rattle.std.proofs.Common.{◌≡◌, ℕ, List, [], ◌∷◌, Bool, true, false, cond, not, ◌&&◌, Option, Some, None, Result, Ok, Err, refl, sym, ap, ◌∙◌, subst, bytes_eq, true≢false}
use Rattle.std.specs.List.{list_any}
use Rattle.std.specs.Option.{option_and_then, ok_or}
use Rattle.std.specs.Result.{result_ok}
use Rattle.fed_json.specs.Reading.{tree_in}
use Rattle.fed_json.specs.Trees.{as_object}
use Rattle.jws_form.specs.declared.compact.Compact.{Compact}
use Rattle.jws_form.specs.Splitting.{splitting}
use Rattle.entity_statement.specs.declared.fault.StatementFault.{StatementFault}
use Rattle.entity_statement.specs.declared.fault.StatementFault.TheVariants.{Tree}
use Rattle.entity_statement.specs.Claims.{Claims, Identifier}
use Rattle.entity_statement.specs.Forms.{all_differ}
use Rattle.entity_statement.specs.Signed.{statement_of}
use Rattle.entity_statement.specs.Table.{claims_in, claims_of, claims_of_tree, is_statement_type}
use Rattle.entity_statement.proofs.Answers.{then-ok}
use Rattle.entity_statement.proofs.Facts.{hints-differ}
use Rattle.entity_statement.proofs.Rows.{rows}
use Rattle.chain_climb.specs.Elements.{NoneTwice}
use Rattle.chain_climb.proofs.ClimbLaws.{any-among}
use Rattle.chain_climb.specs.Climbs.{configuration_of}
use Rattle.chain_climb.specs.Paths.{HintsDiffer}
use Rattle.resolve_round.specs.Pages.{Pages, findings, good_text, is_good, named_statement}

if-ok : (b : Bool) (r : Result Claims StatementFault) (fault : StatementFault) (s : Claims) → cond b r (Err fault) ≡ Ok s → r ≡ Ok s
if-ok true r fault s is = is
if-ok false r fault s is = cc is

statement-hints : (compact : Compact) (s : Claims) → claims_of compact ≡ Ok s → all_differ s.hints ≡ true
unfolding claims_of claims_of_tree
statement-hints compact s is =
    let tree = then-ok (ok_or (tree_in compact.payload) Tree) claims_of_tree s (if-ok (is_statement_type compact.typ) _ _ s is) in
    let members = then-ok (ok_or (as_object tree.0) Tree) claims_in s tree.2 in
    hints-differ (bytes_eq s.iss s.sub) members.0 s.hints (rows members.0 s members.2).hints

ok-some : {X E : Type 0} (r : Result X E) (x : X) → result_ok r ≡ Some x → r ≡ Ok x
ok-some (Ok y) x is = let one : y ≡ x = cc is in ap Ok one
ok-some (Err fault) x is = cc is

pub then-some : {X Y : Type 0} (f : X → Option Y) (o : Option X) (y : Y) → option_and_then f o ≡ Some y → (x : X) × (o ≡ Some x) × (f x ≡ Some y)
then-some f None y is = cc is
then-some f (Some x) y is = (x, refl, is)

text-hints : (text : List ℕ) (s : Claims) → statement_of text ≡ Some s → all_differ s.hints ≡ true
unfolding statement_of
text-hints text s is =
    let compact = then-some (λ c. result_ok (claims_of c)) (result_ok (splitting text)) s is in
    statement-hints compact.0 s (ok-some (claims_of compact.0) s compact.2)

pub kept-some : {X : Type 0} (b : Bool) (x y : X) → cond b (Some x) None ≡ Some y → x ≡ y
kept-some true x y is = cc is
kept-some false x y is = cc is

found-hints : (pages : Pages) (t : ℕ) (entity : Identifier) (s : Claims) → findings pages t (configuration_of entity) ≡ Some s → all_differ s.hints ≡ true
unfolding findings good_text named_statement
found-hints pages t entity s is =
    let text = then-some (good_text t (configuration_of entity)) (pages (configuration_of entity).url) s is in
    let good = then-some (λ c. cond (is_good t (configuration_of entity) text.0 c) (Some c) None) (named_statement (configuration_of entity) text.0) s text.2 in
    let named = then-some (λ c. cond (bytes_eq c.iss entity && bytes_eq c.sub entity) (Some c) None) (statement_of text.0) good.0 good.1 in
    let one : good.0 ≡ s = kept-some (is_good t (configuration_of entity) text.0 good.0) good.0 s good.2 in
    let two : named.0 ≡ good.0 = kept-some (bytes_eq (named.0).iss entity && bytes_eq (named.0).sub entity) named.0 good.0 named.2 in
    subst (λ (c : Claims). all_differ c.hints ≡ true) (two ∙ one) (text-hints text.0 named.0 named.1)

pub and-left : (a b : Bool) → (a && b) ≡ true → a ≡ true
and-left true b both = refl
and-left false b both = both

pub and-right : (a b : Bool) → (a && b) ≡ true → b ≡ true
and-right true b both = both
and-right false b both = absurd (true≢false (sym both))

differ-once : (ids : List Identifier) → all_differ ids ≡ true → NoneTwice ids
differ-once [] differ = tt
differ-once (id ∷ ids) differ = (
  λ among. true≢false (sym (and-left (not (list_any (bytes_eq id) ids)) (all_differ ids) differ) ∙ ap not (any-among id ids among)),
  differ-once ids (and-right (not (list_any (bytes_eq id) ids)) (all_differ ids) differ),
)

by_found : (o : Option Claims) → ((s : Claims) → o ≡ Some s → all_differ s.hints ≡ true) → NoneTwice (Rattle.std.specs.Option.option_map_or (λ (own : Claims). own.hints) o [])
by_found None differ = tt
by_found (Some s) differ = differ-once s.hints (differ s refl)

-- what is good of pages hints no superior twice
pub hints-once : (pages : Pages) (t : ℕ) → HintsDiffer (findings pages t)
hints-once pages t entity = by_found (findings pages t (configuration_of entity)) (found-hints pages t entity)
