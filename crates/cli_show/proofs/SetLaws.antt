-- The lines of a key set.
use Rattle.std.proofs.Common.{◌≡◌, ℕ, List, [], ◌∷◌, ◌++◌, length, codes, decimal, false, Result, Ok, Err, ap, ap₂, ◌∙◌, append_assoc}
use Rattle.std.specs.Prelude.{IfOk}
use Rattle.fed_json.specs.declared.tree.Json.{Json}
use Rattle.jwk_set.specs.Trees.{set_tree}
use Rattle.jwk_set.specs.declared.jwk.Jwk.{Jwk}
use Rattle.cli_show.specs.Indented.{indented}
use Rattle.cli_show.specs.KeyViews.{view}
use Rattle.cli_show.specs.Views.{set_found, unverified}
use Rattle.cli_show.specs.declared.view.View.{View}

-- how many keys there are, behind them
abbrev pub counted : ℕ → List ℕ
counted n = 10 ∷ (codes "key set of " ++ decimal n)

pub keys-shown : {E : Type 0} (r : Result View E) (keys : List Jwk) (tree : Json) (shown text : List ℕ) (n : ℕ) → tree ≡ set_tree keys → shown ≡ indented (view tree) → text ≡ shown ++ counted n
    → n ≡ length keys → IfOk r (λ v. v ≡ record { refused = false; text = unverified (text ++ 10 ∷ []) }) → IfOk r (λ v. v ≡ set_found (Ok keys))
keys-shown (Err e) keys tree shown text n is seen more size made = tt
keys-shown (Ok v) keys tree shown text n is seen more size made =
    let lines : List ℕ = indented (view (set_tree keys)) in
    made ∙ ap (λ t. record { refused = false; text = unverified t })
    (ap (λ t. t ++ 10 ∷ []) (more ∙ ap₂ (λ s m. s ++ counted m) (seen ∙ ap (λ t. indented (view t)) is) size) ∙ append_assoc lines (counted (length keys)) (10 ∷ []))
