-- The last entity of a path.
use Rattle.std.proofs.Common.{◌≡◌, ◌-◌, ◌<◌, ℕ, suc, List, [], ◌∷◌, length, get_or, refl, sym, ap, ◌∙◌, arith, inl, inr}
use Rattle.entity_statement.specs.Claims.{Identifier}
use Rattle.chain_climb.specs.Elements.{Among}
use Rattle.chain_climb.specs.Climbs.{last_in}

last_index : (n : ℕ) → suc (suc n) - 1 ≡ suc (suc n - 1)
last_index n = omega arith

pub last-read : (es : List Identifier) (d : Identifier) → 0 < length es → last_in es ≡ get_or es (length es - 1) d
last-read [] d some = absurd (omega (arith, some))
last-read (e ∷ []) d some = refl
last-read (e ∷ f ∷ es) d some =
    last-read (f ∷ es) d (omega arith) ∙ ap (λ n. get_or (e ∷ f ∷ es) n d) (sym (last_index (length es)))

pub last-among : (es : List Identifier) → 0 < length es → Among (last_in es) es
last-among [] some = absurd (omega (arith, some))
last-among (e ∷ []) some = inl refl
last-among (e ∷ f ∷ es) some = inr (last-among (f ∷ es) (omega arith))
