-- What a loop has gathered from the first parts of a list.
use Rattle.std.proofs.Common.{◌≡◌, ◌<◌, ℕ, suc, ◌+◌, List, [], ◌∷◌, ◌++◌, length, map, drop, get_or, Option, Some, None, option_map, Err, refl, sym, ap, ◌∙◌, subst, drop-cons, add-one, append_assoc}
use Rattle.std.specs.List.{AllByRecursion}
use Rattle.std.specs.Option.{option_and_then}
use Rattle.std.proofs.lemmas.List.{map-append}
use Rattle.fed_json.specs.Trees.{each}
use Rattle.node_config.specs.declared.fault.FormFault.{FormFault}
use Rattle.node_config.specs.declared.fault.FormFault.TheVariants.{Shape, Memory}
use Rattle.node_config.specs.Answers.{ReadsBy}

module _ {A X Y : Type 0} (form : A → Option Y) (view : X → Y) where
  abbrev pub Gathered : List A → List X → ℕ → Type 0
  Gathered parts done k = each form parts ≡ option_map (λ rest. map view done ++ rest) (each form (drop k parts))

  one_more : (o : Option (List Y)) (done more : List X) (x : X) → more ≡ done ++ x ∷ []
      → option_map (λ rest. map view done ++ rest) (option_map (λ rest. view x ∷ rest) o) ≡ option_map (λ rest. map view more ++ rest) o
  one_more None done more x made = refl
  one_more (Some rest) done more x made =
      ap Some (sym (append_assoc (map view done) (view x ∷ []) rest) ∙ ap (λ xs. xs ++ rest) (sym (map-append view done (x ∷ [])) ∙ ap (map view) (sym made)))

  -- the parts from one place on
  from_place : (parts : List A) (k : ℕ) (part : A) → k < length parts → part ≡ get_or parts k part → drop k parts ≡ part ∷ drop (k + 1) parts
  from_place parts k part within at =
      drop-cons parts k part within ∙ ap (λ x. x ∷ drop (suc k) parts) (sym at) ∙ ap (λ n. part ∷ drop n parts) (sym (add-one k))

  pub gathered_more : (parts : List A) (done more : List X) (k : ℕ) (part : A) (x : X) → Gathered parts done k → k < length parts
      → part ≡ get_or parts k part → form part ≡ Some (view x) → more ≡ done ++ x ∷ [] → Gathered parts more (k + 1)
  gathered_more parts done more k part x gathered within at read made =
      let rest = each form (drop (k + 1) parts) in
      gathered
      ∙ ap (λ ps. option_map (λ xs. map view done ++ xs) (each form ps)) (from_place parts k part within at)
      ∙ ap (λ r. option_map (λ xs. map view done ++ xs) (option_and_then (λ y. option_map (λ xs. y ∷ xs) rest) r)) read
      ∙ one_more rest done more x made

  gathered_none : (parts : List A) (done : List X) (k : ℕ) (part : A) → Gathered parts done k → k < length parts
      → part ≡ get_or parts k part → form part ≡ None → each form parts ≡ None
  gathered_none parts done k part gathered within at none =
      gathered
      ∙ ap (λ ps. option_map (λ xs. map view done ++ xs) (each form ps)) (from_place parts k part within at)
      ∙ ap (λ r. option_map (λ xs. map view done ++ xs) (option_and_then (λ y. option_map (λ xs. y ∷ xs) (each form (drop (k + 1) parts))) r)) none

  -- a part that isn't read ends the loop
  pub gathered_fault : (fault : FormFault) (parts : List A) (done : List X) (k : ℕ) (part : A) → Gathered parts done k → k < length parts
      → part ≡ get_or parts k part → ReadsBy view (Err fault) (form part) → ReadsBy (map view) (Err fault) (each form parts)
  gathered_fault Shape parts done k part gathered within at none = gathered_none parts done k part gathered within at none
  gathered_fault Memory parts done k part gathered within at none = tt

pushed : {X : Type 0} (P : X → Type 0) (xs : List X) (x : X) → AllByRecursion P xs → P x → AllByRecursion P (xs ++ x ∷ [])
pushed P [] x all last = (last, tt)
pushed P (y ∷ ys) x all last = (all.0, pushed P ys x all.1 last)

-- a fact of each item of a list, and of one more
pub all_pushed : {X : Type 0} (P : X → Type 0) (xs more : List X) (x : X) → AllByRecursion P xs → P x → more ≡ xs ++ x ∷ [] → AllByRecursion P more
all_pushed P xs more x all last made = subst (AllByRecursion P) (sym made) (pushed P xs x all last)
