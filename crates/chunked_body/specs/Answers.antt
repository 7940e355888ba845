-- What the bytes of a body in chunks are: the first of too long, not of the form or cut short, and a body.
use Rattle.std.specs.Prelude.{◌≡◌, ◌<◌, ◌⊎◌, ℕ, ◌+◌, Bool, true, List, ◌++◌, length}
use Rattle.std.specs.List.{concat}
use Rattle.chunked_body.specs.declared.reader.Chunked.{Chunked}
use Rattle.chunked_body.specs.declared.reader.Chunked.TheVariants.{Whole, TooLong, Broken}
use Rattle.chunked_body.specs.Grammar.{AreChunks, Begins, IsBody, IsLine, body_limit, form_limit}

-- whole chunks, and the line of one with which the body passes its limit, whether its bytes come or not
pub record HasLargeChunk (x : List ℕ) : Type 0 where
  pub contents : List (List ℕ)
  pub chunks : List ℕ
  pub line : List ℕ
  pub size : ℕ
  pub rest : List ℕ
  pub are_chunks : AreChunks contents chunks
  pub is_line : IsLine line size
  pub some : 0 < size
  pub large : body_limit < length (concat contents) + size
  pub bytes : x ≡ (chunks ++ line) ++ rest

-- more bytes of the form than may be
pub record HasLongForm (x : List ℕ) : Type 0 where
  pub form : List ℕ
  pub rest : List ℕ
  pub begins : Begins form
  pub long : form_limit < length form
  pub bytes : x ≡ form ++ rest

abbrev pub IsTooLong : List ℕ → Type 0
IsTooLong x = HasLargeChunk x ⊎ HasLongForm x

-- the bytes begin with a body
pub record BeginsWithBody (x body : List ℕ) : Type 0 where
  pub text : List ℕ
  pub rest : List ℕ
  pub is_body : IsBody text body
  pub bytes : x ≡ text ++ rest

-- no body: the bytes end before it does, or they can't go on to one
pub record IsCut (x : List ℕ) (ended : Bool) : Type 0 where
  pub none : (body : List ℕ) → BeginsWithBody x body → ⊥
  pub cut : (ended ≡ true) ⊎ (Begins x → ⊥)

-- what the bytes are, which are all where the end came
abbrev pub IsChunked : List ℕ → Bool → Chunked → Type 0
IsChunked x ended (Whole body) = (IsTooLong x → ⊥) × BeginsWithBody x body
IsChunked x ended TooLong = IsTooLong x
IsChunked x ended Broken = (IsTooLong x → ⊥) × IsCut x ended
