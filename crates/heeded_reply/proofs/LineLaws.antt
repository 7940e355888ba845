-- A line for each mark, one after the other.
use Rattle.std.proofs.Common.{◌≡◌, ◌<◌, ◌+◌, ℕ, List, [], ◌∷◌, ◌++◌, length, take, get_or, sym, ap, ◌∙◌, arith, append-nil, append_assoc, add-one}
use Rattle.std.proofs.Math.Seq.{take-suc}
use Rattle.std.proofs.lemmas.List.{length-take-le, take_all}
use Rattle.mark_status.specs.declared.tell.Tell.{Tell}
use Rattle.heeded_reply.specs.Lines.{mark_line, mark_lines}

-- one line more
lines-more : (place : ℕ) (tells : List Tell) (tell : Tell) → mark_lines place (tells ++ tell ∷ []) ≡ mark_lines place tells ++ mark_line (place + length tells) tell
lines-more place [] tell =
    let same : place ≡ place + 0 = omega arith in
    append-nil (mark_line place tell) ∙ ap (λ n. mark_line n tell) same
lines-more place (t ∷ ts) tell =
    let same : (place + 1) + length ts ≡ place + length (t ∷ ts) = omega arith in
    ap (λ lines. mark_line place t ++ lines) (lines-more (place + 1) ts tell ∙ ap (λ n. mark_lines (place + 1) ts ++ mark_line n tell) same)
    ∙ sym (append_assoc (mark_line place t) (mark_lines (place + 1) ts) (mark_line (place + length (t ∷ ts)) tell))

module _ (before : List ℕ) (tells : List Tell) where
  pub lines-none : before ≡ before ++ mark_lines 0 (take 0 tells)
  lines-none = sym (append-nil before)

  pub lines-next : (place : ℕ) (tell other : Tell) (lines more : List ℕ) → place < length tells → tell ≡ get_or tells place other → lines ≡ before ++ mark_lines 0 (take place tells)
      → more ≡ lines ++ mark_line place tell → more ≡ before ++ mark_lines 0 (take (place + 1) tells)
  lines-next place tell other lines more within is are added =
      let next : take (place + 1) tells ≡ take place tells ++ tell ∷ [] =
      ap (λ n. take n tells) (add-one place) ∙ take-suc tells place other within ∙ ap (λ t. take place tells ++ t ∷ []) (sym is) in
      let short : length (take place tells) ≡ place = length-take-le place tells (omega (arith, within)) in
      let long : 0 + length (take place tells) ≡ place = omega (arith, short) in
      added
      ∙ ap (λ l. l ++ mark_line place tell) are
      ∙ append_assoc before (mark_lines 0 (take place tells)) (mark_line place tell)
      ∙ ap (λ l. before ++ l) (sym (lines-more 0 (take place tells) tell ∙ ap (λ n. mark_lines 0 (take place tells) ++ mark_line n tell) long))
      ∙ ap (λ ts. before ++ mark_lines 0 ts) (sym next)

  pub lines-all : (place : ℕ) (lines : List ℕ) → place ≡ length tells → lines ≡ before ++ mark_lines 0 (take place tells) → lines ≡ before ++ mark_lines 0 tells
  lines-all place lines end are = are ∙ ap (λ n. before ++ mark_lines 0 (take n tells)) end ∙ ap (λ ts. before ++ mark_lines 0 ts) (take_all (length tells) tells (omega arith))
