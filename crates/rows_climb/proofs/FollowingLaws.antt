-- Answers fit what is wanted, and the program goes on knowing the URLs.
use Rattle.std.proofs.Common.{◌≡◌, ℕ, List, [], ◌∷◌, ◌++◌, map, Bool, true, false, not, ◌&&◌, ◌||◌, Option, Some, None, refl, sym, ap, ◌∙◌, subst, bytes_eq, nat_le, leb-true, leb-false}
use Rattle.std.specs.List.{list_any}
use Rattle.entity_statement.specs.declared.statement.Statement.{Statement}
use Rattle.entity_statement.specs.Claims.{Identifier}
use Rattle.chain_climb.specs.declared.want.Bounds.{Bounds}
use Rattle.chain_climb.specs.declared.want.Want.{Want}
use Rattle.chain_climb.specs.declared.want.Want.TheVariants.{Config, Superior, Judge, Done}
use Rattle.chain_climb.specs.declared.path.Path.{Path}
use Rattle.chain_climb.specs.declared.answer.Answer.{Answer}
use Rattle.chain_climb.specs.declared.answer.Origin.TheVariants.{Shelf, Link}
use Rattle.chain_climb.specs.declared.answer.PageAnswer.{PageAnswer}
use Rattle.chain_climb.specs.declared.answer.Report.{Report}
use Rattle.chain_climb.specs.declared.answer.Report.TheVariants.{Good, Useless, Fault, Spent}
use Rattle.chain_climb.specs.Climbs.{Need, page_named}
use Rattle.chain_climb.specs.Sessions.{Fits, FitsPage, IsVerdict, Search, begun, calls_in, report_in, was_asked}
use Rattle.chain_climb.specs.Wants.{given, given_to, next_want, url_of, with_page}
use Rattle.rows_climb.specs.Following.{Follows, WantsUrl}

-- ---- answers that fit

pub shelf-good : (s : Statement) (known : Bool) (calls most : ℕ) → FitsPage known calls most (Some (Good s Shelf))
shelf-good s true calls most = tt
shelf-good s false calls most = tt

pub shelf-useless : (known : Bool) (calls most : ℕ) → FitsPage known calls most (Some (Useless Shelf))
shelf-useless true calls most = tt
shelf-useless false calls most = tt

pub link-good : (s : Statement) (known : Bool) (calls most : ℕ) → (not known && nat_le most calls) ≡ false → FitsPage known calls most (Some (Good s Link))
link-good s true calls most left = tt
link-good s false calls most left = leb-false most calls left

pub link-useless : (known : Bool) (calls most : ℕ) → (not known && nat_le most calls) ≡ false → FitsPage known calls most (Some (Useless Link))
link-useless true calls most left = tt
link-useless false calls most left = leb-false most calls left

pub link-fault : (known : Bool) (calls most : ℕ) → (not known && nat_le most calls) ≡ false → FitsPage known calls most (Some Fault)
link-fault true calls most left = tt
link-fault false calls most left = leb-false most calls left

pub spent-fits : (known : Bool) (calls most : ℕ) → (not known && nat_le most calls) ≡ true → FitsPage known calls most (Some Spent)
spent-fits true calls most spent = absurd (cc spent)
spent-fits false calls most spent = leb-true most calls spent

-- ---- the URLs

any-url : (url : List ℕ) (pages : List PageAnswer) → list_any (bytes_eq url) (map url_of pages) ≡ was_asked pages url
any-url url [] = refl
any-url url (a ∷ pages) = ap (λ b. bytes_eq url a.url || b) (any-url url pages)

url-last : (pages : List PageAnswer) (x : PageAnswer) → map url_of (pages ++ x ∷ []) ≡ map url_of pages ++ x.url ∷ []
url-last [] x = refl
url-last (a ∷ pages) x = ap (λ us. a.url ∷ us) (url-last pages x)

no-report : (known : Bool) (calls most : ℕ) → FitsPage known calls most None → ⊥
no-report true calls most fits = fits
no-report false calls most fits = fits

module _ (s : Search) (urls : List (List ℕ)) (most : ℕ) (follows : Follows s urls most) where
  known-is : (url : List ℕ) → list_any (bytes_eq url) urls ≡ was_asked s.pages url
  known-is url = ap (list_any (bytes_eq url)) follows.urls_are ∙ any-url url s.pages

  fits_page : (url at : List ℕ) (known : Bool) (calls : ℕ) (o : Option Report) → at ≡ url → known ≡ list_any (bytes_eq url) urls → calls ≡ calls_in s.pages
      → FitsPage known calls most o → FitsPage (was_asked s.pages at) (calls_in s.pages) s.bounds.calls o
  fits_page url at known calls o same is counted fits =
      subst (λ m. FitsPage (was_asked s.pages at) (calls_in s.pages) m o) (sym follows.calls_are)
      (subst (λ n. FitsPage (was_asked s.pages at) n most o) counted
      (subst (λ k. FitsPage k calls most o) (is ∙ known-is url ∙ ap (was_asked s.pages) (sym same)) fits))

  pub fits-url : (want : Want) (url : List ℕ) (known : Bool) (calls : ℕ) (answer : Answer) → WantsUrl want url → known ≡ list_any (bytes_eq url) urls → calls ≡ calls_in s.pages
      → FitsPage known calls most (report_in answer) → Fits s want answer
  fits-url (Config entity at) url known calls answer wants is counted fits = fits_page url at known calls (report_in answer) wants is counted fits
  fits-url (Superior superior subject at) url known calls answer wants is counted fits = fits_page url at known calls (report_in answer) wants is counted fits
  fits-url (Judge path) url known calls answer wants is counted fits = absurd wants
  fits-url (Done end) url known calls answer wants is counted fits = absurd wants

  follows_page : (page : Need) (url : List ℕ) (o : Option Report) → page.url ≡ url → FitsPage (was_asked s.pages page.url) (calls_in s.pages) s.bounds.calls o
      → Follows (with_page s page o) (urls ++ url ∷ []) most
  follows_page page url None same fits = absurd (no-report (was_asked s.pages page.url) (calls_in s.pages) s.bounds.calls fits)
  follows_page page url (Some report) same fits = record {
    urls_are = ap (λ us. us ++ url ∷ []) follows.urls_are ∙ ap (λ u. map url_of s.pages ++ u ∷ []) (sym same)
        ∙ sym (url-last s.pages (record { issuer = page.issuer; subject = page.subject; url = page.url; answer = report }));
    calls_are = follows.calls_are;
  }

  pub follows-url : (want : Want) (url : List ℕ) (answer : Answer) → WantsUrl want url → Fits s want answer → Follows (given_to s want answer) (urls ++ url ∷ []) most
  follows-url (Config entity at) url answer wants fits = follows_page (page_named entity entity at) url (report_in answer) wants fits
  follows-url (Superior superior subject at) url answer wants fits = follows_page (page_named superior subject at) url (report_in answer) wants fits
  follows-url (Judge path) url answer wants fits = absurd wants
  follows-url (Done end) url answer wants fits = absurd wants

  pub follows-verdict : (want : Want) (path : Path) (answer : Answer) → want ≡ next_want s → want ≡ Judge path → Follows (given s answer) urls most
  follows-verdict want path answer same is =
      subst (λ w. Follows (given_to s w answer) urls most) (sym is ∙ same) (record { urls_are = follows.urls_are; calls_are = follows.calls_are })

  pub fits-verdict : (want : Want) (path : Path) (answer : Answer) → want ≡ next_want s → want ≡ Judge path → IsVerdict answer → Fits s (next_want s) answer
  fits-verdict want path answer same is verdict = subst (λ w. Fits s w answer) (sym is ∙ same) verdict

pub wants-config : (want next : Want) (entity : Identifier) (url : List ℕ) → want ≡ next → want ≡ Config entity url → WantsUrl next url
wants-config want next entity url same is = subst (λ w. WantsUrl w url) (sym is ∙ same) refl

pub wants-superior : (want next : Want) (superior subject : Identifier) (url : List ℕ) → want ≡ next → want ≡ Superior superior subject url → WantsUrl next url
wants-superior want next superior subject url same is = subst (λ w. WantsUrl w url) (sym is ∙ same) refl

pub followed : (s now : Search) (urls more : List (List ℕ)) (most : ℕ) → Follows s urls most → (url : List ℕ) (answer : Answer) → WantsUrl (next_want s) url → Fits s (next_want s) answer
    → now ≡ given s answer → more ≡ urls ++ url ∷ [] → Follows now more most
followed s now urls more most follows url answer wants fits is pushed =
    subst (λ us. Follows now us most) (sym pushed) (subst (λ x. Follows x (urls ++ url ∷ []) most) (sym is) (follows-url s urls most follows (next_want s) url answer wants fits))

pub begun-follows : (s : Search) (leaf anchor : Identifier) (bounds : Bounds) (most : ℕ) → s ≡ begun leaf anchor bounds → bounds.calls ≡ most → Follows s [] most
begun-follows s leaf anchor bounds most is same = subst (λ x. Follows x [] most) (sym is) (record { urls_are = refl; calls_are = same })
