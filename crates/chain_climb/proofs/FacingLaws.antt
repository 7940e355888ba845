-- What a hint comes to is what the search does at it.
use Rattle.std.proofs.Common.{◌≡◌, ℕ, List, [], ◌∷◌, Bool, true, false, cond, Option, Some, None, refl, sym, ap, subst, arith, bytes_eq, length-append}
use Rattle.std.specs.List.{list_any}
use Rattle.std.specs.Option.{option_map_or}
use Rattle.fed_json.proofs.Order.{bytes_eq-itself, equal-bytes_eq}
use Rattle.entity_id.specs.Urls.{fetch_url_of}
use Rattle.entity_statement.specs.Claims.{Claims, Identifier}
use Rattle.entity_statement.specs.Use.{fetch_endpoint_in}
use Rattle.chain_climb.specs.Elements.{Among}
use Rattle.chain_climb.specs.declared.path.Path.{Path}
use Rattle.chain_climb.specs.declared.facing.Facing.{Facing}
use Rattle.chain_climb.specs.declared.facing.Facing.TheVariants.{Passed, Wants, Spent as AllSpent, Adds}
use Rattle.chain_climb.specs.declared.answer.Report.{Report}
use Rattle.chain_climb.specs.declared.answer.Report.TheVariants.{Good, Useless, Fault, Spent}
use Rattle.chain_climb.specs.declared.want.Want.TheVariants.{Config, Superior}
use Rattle.chain_climb.specs.declared.answer.PageAnswer.{PageAnswer}
use Rattle.chain_climb.specs.Climbs.{Findings, Need, Step, add, configuration_of, last_of, longer, need, page_named, statement_about, through_hint, through_statement, through_superior}
use Rattle.chain_climb.specs.Facings.{after_config, after_endpoint, after_statement, face_of}
use Rattle.chain_climb.specs.Sessions.{Extends, IsAnswered, answer_to, finding_in, want_of}
use Rattle.chain_climb.specs.Walks.{IsKnown, Walked, from_to}
use Rattle.chain_climb.proofs.ClimbLaws.{any-among, false-from, last-append}
use Rattle.chain_climb.proofs.PathLaws.{last-among}
use Rattle.chain_climb.proofs.WalkLaws.{walked-need, walked-none, walked-same, walked-then}

-- the steps stop at the need of a page
pub record Needs (pages : List PageAnswer) (most : ℕ) (steps : Findings → List Step) (page : Need) : Type 0 where
  pub rest : Findings → List Step
  pub walked : (paths : List Path) → Walked pages most [] steps (λ found. need page ∷ rest found) (from_to paths paths)

module _ (pages : List PageAnswer) (most : ℕ) (path : Path) (known : IsKnown pages path) (hint : Identifier) where
  abbrev new_path : List ℕ → Path
  new_path url = longer path (page_named hint hint url)

  -- what the steps are, by what the hint comes to
  abbrev pub Faces : (Findings → List Step) → Facing → Type 0
  Faces steps Passed = (paths : List Path) → Walked pages most [] steps (λ found. []) (from_to paths paths)
  Faces steps (Wants want) = (page : Need) × (want ≡ want_of page) × (answer_to pages page ≡ None) × Needs pages most steps page
  Faces steps AllSpent = (page : Need) × (answer_to pages page ≡ Some Spent) × Needs pages most steps page
  Faces steps (Adds url) = IsKnown pages (new_path url) × ((paths : List Path) → Walked pages most [] steps (λ found. add (new_path url) ∷ []) (from_to paths paths))

  needs_behind : (A B : Findings → List Step) (page : Need) → ((paths : List Path) → Walked pages most [] A B (from_to paths paths)) → Needs pages most B page → Needs pages most A page
  needs_behind A B page walk needs = record {
    rest = needs.rest;
    walked = λ paths. walked-then pages most [] [] A B (λ found. need page ∷ needs.rest found) paths paths paths (walk paths) (needs.walked paths);
  }

  -- steps that come behind answered pages
  behind : (A B : Findings → List Step) (facing : Facing) → ((paths : List Path) → Walked pages most [] A B (from_to paths paths)) → Faces B facing → Faces A facing
  behind A B Passed walk faces = λ paths. walked-then pages most [] [] A B (λ found. []) paths paths paths (walk paths) (faces paths)
  behind A B (Wants want) walk faces = (faces.0, faces.1, faces.2, needs_behind A B faces.0 walk faces.3)
  behind A B AllSpent walk faces = (faces.0, faces.1, needs_behind A B faces.0 walk faces.2)
  behind A B (Adds url) walk faces =
      (faces.0, λ paths. walked-then pages most [] [] A B (λ found. add (new_path url) ∷ []) paths paths paths (walk paths) (faces.1 paths))

  same_steps : (A B : Findings → List Step) → ((found : Findings) → Extends found pages → A found ≡ B found) → (paths : List Path) → Walked pages most [] A B (from_to paths paths)
  same_steps A B same paths = walked-same pages most [] B B A paths paths same (walked-none pages most B paths)

  -- after a page that was answered, what it says is found
  after_need : (page : Need) (answer : Report) (rest : Findings → Option Claims → List Step) → answer_to pages page ≡ Some answer → IsAnswered pages page
      → ((found : Findings) → Extends found pages → found page ≡ finding_in answer)
      → (paths : List Path) → Walked pages most [] (λ found. need page ∷ rest found (found page)) (λ found. rest found (finding_in answer)) (from_to paths paths)
  after_need page answer rest is answered finds paths =
      walked-then pages most [] [] (λ found. need page ∷ rest found (found page)) (λ found. rest found (found page)) (λ found. rest found (finding_in answer)) paths paths paths
      (walked-need pages most page (λ found. rest found (found page)) paths answered)
      (same_steps (λ found. rest found (found page)) (λ found. rest found (finding_in answer)) (λ found extends. ap (rest found) (finds found extends)) paths)

  module _ (fresh : list_any (bytes_eq hint) path.entities ≡ false) where
    -- the hint isn't the last entity
    other : bytes_eq hint (last_of path) ≡ false
    other = false-from (bytes_eq hint (last_of path)) (λ same.
        let there : Among (last_of path) path.entities = last-among path.entities known.some in
        let here : Among hint path.entities = subst (λ e. Among e path.entities) (sym (equal-bytes_eq hint (last_of path) same)) there in
        let any : list_any (bytes_eq hint) path.entities ≡ true = any-among hint path.entities here in
        cc)

    superior_want : (url : List ℕ) → Superior hint (last_of path) url ≡ want_of (page_named hint (last_of path) url)
    superior_want url = sym (ap (λ b. cond b (Config hint url) (Superior hint (last_of path) url)) other)

    abbrev statement : List ℕ → Need
    statement endpoint = statement_about hint (last_of path) endpoint

    abbrev statement_rest : List ℕ → Findings → Option Claims → List Step
    statement_rest endpoint found o = option_map_or (λ _. add (longer path (statement endpoint)) ∷ []) o []

    module _ (known_new : (url : List ℕ) → IsKnown pages (new_path url)) where
      by_statement : (endpoint : List ℕ) (o : Option Report) → answer_to pages (statement endpoint) ≡ o
          → Faces (λ found. through_statement found path (statement endpoint)) (after_statement hint (last_of path) (fetch_url_of endpoint (last_of path)) o)
      by_statement endpoint None is = (
        statement endpoint,
        superior_want (fetch_url_of endpoint (last_of path)),
        is,
        record { rest = λ found. statement_rest endpoint found (found (statement endpoint)); walked = λ paths. walked-none pages most (λ found. through_statement found path (statement endpoint)) paths },
      )
      by_statement endpoint (Some Spent) is = (
        statement endpoint,
        is,
        record { rest = λ found. statement_rest endpoint found (found (statement endpoint)); walked = λ paths. walked-none pages most (λ found. through_statement found path (statement endpoint)) paths },
      )
      by_statement endpoint (Some (Good claims origin)) is = (
        known_new (fetch_url_of endpoint (last_of path)),
        after_need (statement endpoint) (Good claims origin) (statement_rest endpoint) is (Good claims origin, is, tt) (λ found extends. extends.agrees (statement endpoint) (Good claims origin) is tt),
      )
      by_statement endpoint (Some (Useless origin)) is =
          after_need (statement endpoint) (Useless origin) (statement_rest endpoint) is (Useless origin, is, tt) (λ found extends. extends.agrees (statement endpoint) (Useless origin) is tt)
      by_statement endpoint (Some Fault) is =
          after_need (statement endpoint) Fault (statement_rest endpoint) is (Fault, is, tt) (λ found extends. extends.agrees (statement endpoint) Fault is tt)

      by_endpoint : (e : Option (List ℕ)) → Faces (λ found. through_superior found path hint e) (after_endpoint pages path hint e)
      by_endpoint None = λ paths. walked-none pages most (λ found. []) paths
      by_endpoint (Some endpoint) = by_statement endpoint (answer_to pages (statement endpoint)) refl

    -- the longer path ends at the hint, whose configuration is good
    known_new : (own : Rattle.entity_statement.specs.declared.statement.Statement.Statement) (origin : Rattle.chain_climb.specs.declared.answer.Origin.Origin)
        → answer_to pages (configuration_of hint) ≡ Some (Good own origin) → (url : List ℕ) → IsKnown pages (new_path url)
    known_new own origin is url = record {
      some = let g = length-append path.entities (hint ∷ []) in omega (arith, g);
      own = own;
      origin = origin;
      good = subst (λ e. answer_to pages (configuration_of e) ≡ Some (Good own origin)) (sym (last-append path.entities hint)) is;
    }

    abbrev own_rest : Findings → Option Claims → List Step
    own_rest found o = option_map_or (λ own. through_superior found path hint (fetch_endpoint_in own.metadata)) o []

    abbrev fresh_steps : Findings → List Step
    fresh_steps found = need (configuration_of hint) ∷ own_rest found (found (configuration_of hint))

    pub config_want : Config hint (configuration_of hint).url ≡ want_of (configuration_of hint)
    config_want = sym (ap (λ b. cond b (Config hint (configuration_of hint).url) (Superior hint hint (configuration_of hint).url)) (bytes_eq-itself hint))

    by_config : (o : Option Report) → answer_to pages (configuration_of hint) ≡ o → Faces fresh_steps (after_config pages path hint o)
    by_config None is = (
      configuration_of hint,
      config_want,
      is,
      record { rest = λ found. own_rest found (found (configuration_of hint)); walked = λ paths. walked-none pages most fresh_steps paths },
    )
    by_config (Some Spent) is = (
      configuration_of hint,
      is,
      record { rest = λ found. own_rest found (found (configuration_of hint)); walked = λ paths. walked-none pages most fresh_steps paths },
    )
    by_config (Some (Good own origin)) is =
        behind fresh_steps (λ found. through_superior found path hint (fetch_endpoint_in own.metadata)) (after_endpoint pages path hint (fetch_endpoint_in own.metadata))
        (after_need (configuration_of hint) (Good own origin) own_rest is (Good own origin, is, tt) (λ found extends. extends.agrees (configuration_of hint) (Good own origin) is tt))
        (by_endpoint (known_new own origin is) (fetch_endpoint_in own.metadata))
    by_config (Some (Useless origin)) is =
        after_need (configuration_of hint) (Useless origin) own_rest is (Useless origin, is, tt) (λ found extends. extends.agrees (configuration_of hint) (Useless origin) is tt)
    by_config (Some Fault) is =
        after_need (configuration_of hint) Fault own_rest is (Fault, is, tt) (λ found extends. extends.agrees (configuration_of hint) Fault is tt)

  abbrev all_steps : Bool → Findings → List Step
  all_steps b found = cond b [] (need (configuration_of hint) ∷ option_map_or (λ (own : Claims). through_superior found path hint (fetch_endpoint_in own.metadata)) (found (configuration_of hint)) [])

  by_fresh : (b : Bool) → list_any (bytes_eq hint) path.entities ≡ b
      → Faces (all_steps b) (cond b Passed (after_config pages path hint (answer_to pages (configuration_of hint))))
  by_fresh true is = λ paths. walked-none pages most (λ found. []) paths
  by_fresh false is = by_config is (answer_to pages (configuration_of hint)) refl

  pub hint-faces : Faces (λ found. through_hint found path hint) (face_of pages path hint)
  unfolding face_of
  hint-faces = by_fresh (list_any (bytes_eq hint) path.entities) refl
