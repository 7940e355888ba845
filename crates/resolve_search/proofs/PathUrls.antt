-- The URLs of a path that is judged were all needed.
use Rattle.std.proofs.Common.{◌≡◌, ℕ, List, [], ◌∷◌, ◌++◌, length, Bool, true, false, cond, Option, Some, None, refl, sym, subst, ⊎_elim}
use Rattle.std.specs.Prelude.{nat_lt}
use Rattle.std.specs.Option.{option_and_then}
use Rattle.entity_id.specs.Urls.{well_known_of}
use Rattle.entity_statement.specs.Claims.{Claims, Identifier}
use Rattle.chain_climb.specs.declared.answer.PageAnswer.{PageAnswer}
use Rattle.chain_climb.specs.declared.answer.Report.{Report}
use Rattle.chain_climb.specs.declared.path.Path.{Path}
use Rattle.chain_climb.specs.Climbs.{Findings, Need, chain_urls, configuration_of, last_in, last_of}
use Rattle.chain_climb.specs.Elements.{Among}
use Rattle.chain_climb.specs.Paths.{IsPath, begins, goes_on}
use Rattle.chain_climb.specs.Sessions.{answer_to, finding_in, findings_of}
use Rattle.chain_climb.proofs.Elements.{among-split}

last_snoc : (xs : List Identifier) (x : Identifier) → last_in (xs ++ x ∷ []) ≡ x
last_snoc [] x = refl
last_snoc (y ∷ []) x = refl
last_snoc (y ∷ z ∷ xs) x = last_snoc (z ∷ xs) x

module _ (found : Findings) (leaf anchor : Identifier) (depth : ℕ) (Q : List ℕ → Type 0) (asked : (page : Need) (s : Claims) → found page ≡ Some s → Q page.url) where
  on_path : {q : Path} → IsPath found leaf anchor depth q → ((url : List ℕ) → Among url q.urls → Q url) × Q (well_known_of (last_of q))
  on_path (begins own good) =
      let here : Q (well_known_of leaf) = asked (configuration_of leaf) own good in
      (λ url among. ⊎_elim (λ same. subst Q (sym same) here) (λ none. absurd none) among, here)
  on_path (goes_on path statement before leads) =
      let rest = on_path before in
      let here : Q statement.url = asked statement leads.claims leads.good in (
        λ url among.
            ⊎_elim (λ old. rest.0 url old) (λ last. ⊎_elim (λ same. subst Q (sym same) here) (λ none. absurd none) last) (among-split url path.urls (statement.url ∷ []) among),
        subst (λ e. Q (well_known_of e)) (sym (last_snoc path.entities statement.issuer)) (asked (configuration_of statement.issuer) leads.superior leads.superior_good),
      )

  in_chain : (b : Bool) (urls : List (List ℕ)) (last : List ℕ) → ((url : List ℕ) → Among url urls → Q url) → Q last → (url : List ℕ) → Among url (cond b (urls ++ last ∷ []) urls) → Q url
  in_chain true urls last each here url among = ⊎_elim (λ old. each url old) (λ end. ⊎_elim (λ same. subst Q (sym same) here) (λ none. absurd none) end) (among-split url urls (last ∷ []) among)
  in_chain false urls last each here url among = each url among

  -- those of its chain too
  pub chain-asked : (q : Path) → IsPath found leaf anchor depth q → (url : List ℕ) → Among url (chain_urls q) → Q url
  chain-asked q path url among = let each = on_path path in in_chain (nat_lt 1 (length q.entities)) q.urls (well_known_of (last_of q)) each.0 each.1 url among

found_by : (o : Option Report) (s : Claims) → option_and_then finding_in o ≡ Some s → (answer : Report) × (o ≡ Some answer)
found_by None s is = cc is
found_by (Some answer) s is = (answer, refl)

-- what was found of a page was answered
pub found-answered : (pages : List PageAnswer) (page : Need) (s : Claims) → findings_of pages page ≡ Some s → (answer : Report) × (answer_to pages page ≡ Some answer)
unfolding findings_of
found-answered pages page s is = found_by (answer_to pages page) s is
