-- One level of a tree as it is shown.
use Rattle.std.proofs.Common.{◌≡◌, ℕ, List, [], ◌∷◌, ◌++◌, map, Bool, true, false, None, Result, option_map, unwrap_or, cond, refl, sym, ap, ap₂, ◌∙◌, subst, append_assoc, rules}
use Rattle.std.specs.Prelude.{OnOk}
use Rattle.fed_base.specs.Moments.{moment_limit}
use Rattle.fed_json.specs.declared.tree.Json.{Json, Odd, Text, List as ListOf, Object, out-Json, the_lemmas}
use Rattle.fed_json.specs.declared.tree.Json.TheOpen.{Json-F}
use Rattle.fed_json.specs.declared.tree.Json.TheViews.{roll-Json}
use Rattle.fed_json.specs.declared.tree.Member.{Member}
use Rattle.fed_json.specs.Trees.{count_below}
use Rattle.plain_notes.specs.Moments.{moment_text}
use Rattle.cli_show.specs.Indented.{Shown, alone, block, indented, inset_by, is_moment, member_text, moment_under, odd_text, shown, value_under}
use Rattle.plain_notes.specs.Strings.{string}
use Rattle.cli_show.proofs.MarginLaws.{inset-append}
use Rattle.cli_show.proofs.StringLaws.{string-line}

-- ---- one level

shown-List : (ts : List Json) → shown (ListOf ts) ≡ alone (block 91 93 (map (λ item. item.plain) (map shown ts)))
shown-List ts = search (rules, the_lemmas)

shown-Object : (ms : List Member) → shown (Object ms) ≡ alone (block 123 125 (map member_text ms))
shown-Object ms = search (rules, the_lemmas)

plain-shown : (ts : List Json) → map (λ (item : Shown). item.plain) (map shown ts) ≡ map indented ts
plain-shown [] = refl
plain-shown (t ∷ ts) = ap (λ rest. indented t ∷ rest) (plain-shown ts)

pub indented-List : (ts : List Json) → indented (ListOf ts) ≡ block 91 93 (map indented ts)
indented-List ts = ap (λ (s : Shown). s.plain) (shown-List ts) ∙ ap (block 91 93) (plain-shown ts)

pub indented-Object : (ms : List Member) → indented (Object ms) ≡ block 123 125 (map member_text ms)
indented-Object ms = ap (λ (s : Shown). s.plain) (shown-Object ms)

-- ---- what stands under a name

-- each value but a number is shown the same as a moment
dated-layer : (layer : Json-F Json Member) → (shown (roll-Json layer)).dated
    ≡ unwrap_or (option_map moment_text (count_below moment_limit (roll-Json layer))) (indented (roll-Json layer))
dated-layer Json-F.Null = search (rules, the_lemmas)
dated-layer (Json-F.Bool b) = search (rules, the_lemmas)
dated-layer (Json-F.Int n) = search (rules, the_lemmas)
dated-layer Json-F.Odd = search (rules, the_lemmas)
dated-layer (Json-F.Text bytes) = search (rules, the_lemmas)
dated-layer (Json-F.List items) = search (rules, the_lemmas)
dated-layer (Json-F.Object members) = search (rules, the_lemmas)

roll_out : (tree : Json) → roll-Json (out-Json tree) ≡ tree
roll_out tree = search (rules, the_lemmas)

dated : (tree : Json) → (shown tree).dated ≡ unwrap_or (option_map moment_text (count_below moment_limit tree)) (indented tree)
dated tree = subst (λ t. (shown t).dated ≡ unwrap_or (option_map moment_text (count_below moment_limit t)) (indented t)) (roll_out tree) (dated-layer (out-Json tree))

under : (b : Bool) (tree : Json) → cond b (shown tree).dated (shown tree).plain ≡ unwrap_or (option_map moment_text (cond b (count_below moment_limit tree) None)) (indented tree)
under true tree = dated tree
under false tree = refl

-- the value of a member is its moment, or the value by itself
pub value-under : (m : Member) → value_under m.name (shown m.value) ≡ unwrap_or (option_map moment_text (moment_under m)) (indented m.value)
value-under m = under (is_moment m.name) m.value

-- ---- what is appended

-- the same bytes in another form
pub shown-as : {E : Type 0} → (result : Result Unit E) (old new bytes wanted : List ℕ) → wanted ≡ bytes → OnOk result (new ≡ old ++ bytes) → OnOk result (new ≡ old ++ wanted)
shown-as result old new bytes wanted same made = subst (λ b. OnOk result (new ≡ old ++ b)) (sym same) made

pub indented-Odd : indented Odd ≡ odd_text
indented-Odd = search (rules, the_lemmas)

pub indented-Text : (bytes : List ℕ) → indented (Text bytes) ≡ string bytes
indented-Text bytes = search (rules, the_lemmas)

regrouped : (a b c d e : List ℕ) → (((a ++ b) ++ c) ++ d) ++ e ≡ a ++ (b ++ (c ++ (d ++ e)))
regrouped a b c d e = simp append_assoc

-- a member on a line of its own
pub member-shown : {E : Type 0} → (result : Result Unit E) (m : List ℕ) (member : Member) (before : ℕ) (old begun named parted new name : List ℕ) → name ≡ member.name
    → begun ≡ old ++ (before ∷ 10 ∷ m) → named ≡ begun ++ string name → parted ≡ named ++ (58 ∷ 32 ∷ [])
    → OnOk result (new ≡ parted ++ inset_by m (value_under member.name (shown member.value)))
    → OnOk result (new ≡ old ++ (before ∷ 10 ∷ (m ++ inset_by m (member_text member))))
member-shown result m member before old begun named parted new name is begins names parts made =
    let under : List ℕ = value_under member.name (shown member.value) in
    let whole : inset_by m (member_text member) ≡ string member.name ++ (58 ∷ 32 ∷ inset_by m under) =
    inset-append m (string member.name) (58 ∷ 32 ∷ under) ∙ ap (λ x. x ++ (58 ∷ 32 ∷ inset_by m under)) (string-line m member.name) in
    let so_far : parted ≡ ((old ++ (before ∷ 10 ∷ m)) ++ string member.name) ++ (58 ∷ 32 ∷ []) =
    parts ∙ ap (λ x. x ++ (58 ∷ 32 ∷ [])) (names ∙ ap₂ (λ x y. x ++ string y) begins is) in
    subst (λ y. OnOk result (new ≡ y)) (ap (λ x. x ++ inset_by m under) so_far ∙ regrouped old (before ∷ 10 ∷ m) (string member.name) (58 ∷ 32 ∷ []) (inset_by m under)
    ∙ sym (ap (λ x. old ++ (before ∷ 10 ∷ (m ++ x))) whole)) made
