-- The test `same` says whether two trees are equal.
use Rattle.std.proofs.Common.{◌≡◌, ℕ, List, [], ◌∷◌, Bool, true, ◌&&◌, map, bytes_eq, refl, sym, ap, ap₂, ◌∙◌, subst, true≢false, rules}
use Rattle.std.specs.Cmp.{signed_Decides, booleans_Decides}
use Rattle.std.proofs.lemmas.Slice.Eq.{bytes_eq-Decides}
use Rattle.std.specs.Bool.{Decides}
use Rattle.fed_json.specs.declared.tree.Json.{Json, out-Json, the_lemmas}
use Rattle.fed_json.specs.declared.tree.Json.TheFolds.{ind-Json, fold-Member, fold-roll-Json, fold-roll-Member, map-Json}
use Rattle.fed_json.specs.declared.tree.Json.TheOpen.{Json-F, Member-F}
use Rattle.fed_json.specs.declared.tree.Json.TheViews.{roll-Json, roll-Member}
use Rattle.fed_json.specs.declared.tree.Member.{Member}
use Rattle.fed_json.specs.Sets.{same, same_step, same_member_step, same_layer, each_passes}
use Rattle.fed_json.proofs.Booleans.{left_true, right_true, both_true}

-- the test of a member
abbrev same_member : Member → Member → Bool
same_member = fold-Member (Json → Bool) (Member → Bool) same_step same_member_step

-- the test of this value holds of itself alone
abbrev Exact : Json → Type 0
Exact a = (same a a ≡ true) × ((b : Json) → same a b ≡ true → a ≡ b)

abbrev ExactMember : Member → Type 0
ExactMember m = (same_member m m ≡ true) × ((n : Member) → same_member m n ≡ true → m ≡ n)

items_exact : (es : List ((j : Json) × Exact j)) (us : List Json) → each_passes (map same (map (λ e. e.0) es)) us ≡ true → map (λ e. e.0) es ≡ us
items_exact [] [] e = refl
items_exact [] (u ∷ us) e = absurd (true≢false (sym e))
items_exact (t ∷ es) [] e = absurd (true≢false (sym e))
items_exact (t ∷ es) (u ∷ us) e = ap₂ (λ x xs. x ∷ xs) (t.1.1 u (left_true (same t.0 u) _ e)) (items_exact es us (right_true (same t.0 u) _ e))

items_themselves : (es : List ((j : Json) × Exact j)) → each_passes (map same (map (λ e. e.0) es)) (map (λ e. e.0) es) ≡ true
items_themselves [] = refl
items_themselves (t ∷ es) = both_true t.1.0 (items_themselves es)

members_exact : (es : List ((m : Member) × ExactMember m)) (us : List Member) → each_passes (map same_member (map (λ e. e.0) es)) us ≡ true → map (λ e. e.0) es ≡ us
members_exact [] [] e = refl
members_exact [] (u ∷ us) e = absurd (true≢false (sym e))
members_exact (t ∷ es) [] e = absurd (true≢false (sym e))
members_exact (t ∷ es) (u ∷ us) e = ap₂ (λ x xs. x ∷ xs) (t.1.1 u (left_true (same_member t.0 u) _ e)) (members_exact es us (right_true (same_member t.0 u) _ e))

members_themselves : (es : List ((m : Member) × ExactMember m)) → each_passes (map same_member (map (λ e. e.0) es)) (map (λ e. e.0) es) ≡ true
members_themselves [] = refl
members_themselves (t ∷ es) = both_true t.1.0 (members_themselves es)

-- one level, with each part's test beside it
abbrev Known : Type 0
Known = Json-F ((j : Json) × Exact j) ((m : Member) × ExactMember m)

abbrev plain : Known → Json-F Json Member
plain = map-Json _ _ Json Member (λ e. e.0) (λ e. e.0)

abbrev tests : Json-F Json Member → Json-F (Json → Bool) (Member → Bool)
tests = map-Json Json Member (Json → Bool) (Member → Bool) same same_member

layer_exact : (y : Known) (l : Json-F Json Member) → same_layer (tests (plain y)) l ≡ true → plain y ≡ l
layer_exact Json-F.Null Json-F.Null e = refl
layer_exact (Json-F.Bool a) (Json-F.Bool b) e = ap Json-F.Bool ((booleans_Decides a b).0 e)
layer_exact (Json-F.Int a) (Json-F.Int b) e = ap Json-F.Int ((signed_Decides a b).0 e)
layer_exact Json-F.Odd Json-F.Odd e = refl
layer_exact (Json-F.Text a) (Json-F.Text b) e = ap Json-F.Text ((bytes_eq-Decides a b).0 e)
layer_exact (Json-F.List a) (Json-F.List b) e = ap Json-F.List (items_exact a b e)
layer_exact (Json-F.Object a) (Json-F.Object b) e = ap Json-F.Object (members_exact a b e)
layer_exact _ _ e = absurd (true≢false (sym e))

layer_itself : (y : Known) → same_layer (tests (plain y)) (plain y) ≡ true
layer_itself Json-F.Null = refl
layer_itself (Json-F.Bool a) = (booleans_Decides a a).1 refl
layer_itself (Json-F.Int a) = (signed_Decides a a).1 refl
layer_itself Json-F.Odd = refl
layer_itself (Json-F.Text a) = (bytes_eq-Decides a a).1 refl
layer_itself (Json-F.List a) = items_themselves a
layer_itself (Json-F.Object a) = members_themselves a

same-roll : (x : Json-F Json Member) (b : Json) → same (roll-Json x) b ≡ same_layer (tests x) (out-Json b)
same-roll x b = ap (λ f. f b) (fold-roll-Json (Json → Bool) (Member → Bool) same_step same_member_step x)

out_roll : (x : Json-F Json Member) → out-Json (roll-Json x) ≡ x
out_roll x = search (rules, the_lemmas)

roll_out : (b : Json) → roll-Json (out-Json b) ≡ b
roll_out b = search (rules, the_lemmas)

exact_layer : (y : Known) → Exact (roll-Json (plain y))
exact_layer y = (
  same-roll (plain y) _ ∙ ap (same_layer (tests (plain y))) (out_roll (plain y)) ∙ layer_itself y,
  λ b e. ap roll-Json (layer_exact y (out-Json b) (sym (same-roll (plain y) b) ∙ e)) ∙ roll_out b,
)

same_member-roll : (x : Member-F Json Member) (n : Member) → same_member (roll-Member x) n ≡ (bytes_eq x.name n.name && same x.value n.value)
same_member-roll x n = ap (λ f. f n) (fold-roll-Member (Json → Bool) (Member → Bool) same_step same_member_step x)

exact_member : (name : List ℕ) (value : Json) → Exact value → ExactMember (roll-Member (record { name = name; value = value }))
exact_member name value exact = (
  same_member-roll _ _ ∙ both_true ((bytes_eq-Decides name name).1 refl) exact.0,
  λ n e.
      let both = sym (same_member-roll (record { name = name; value = value }) n) ∙ e in
      ap₂ (λ a b. roll-Member (record { name = a; value = b })) ((bytes_eq-Decides name n.name).0 (left_true _ _ both)) (exact.1 n.value (right_true (bytes_eq name n.name) _ both)),
)

exact : (a : Json) → Exact a
exact = ind-Json Exact ExactMember
    (λ x y is. subst (λ (l : Json-F Json Member). Exact (roll-Json l)) is (exact_layer y))
    (λ x y is. subst (λ (l : Member-F Json Member). ExactMember (roll-Member l)) is (exact_member y.name y.value.0 y.value.1))

-- `same` says whether two trees are equal
pub same-Decides : (a b : Json) → Decides (same a b) (a ≡ b)
same-Decides a b = ((exact a).1 b, λ e. subst (λ x. same a x ≡ true) e (exact a).0)
