-- What came shows a page.
use Rattle.std.specs.Prelude.{◌≡◌, ◌≤◌, ◌<◌, ℕ, ◌+◌, Bool, false, List, ◌++◌, drop, length}
use Rattle.chunked_body.specs.declared.reader.ChunkReader.{ChunkReader}
use Rattle.chunked_body.specs.Readers.{HasRead, is_over, room_of}
use Rattle.fed_ports.specs.declared.page.Page.{Page}
use Rattle.http_plain.specs.declared.form.Form.{Form}
use Rattle.http_plain.specs.declared.form.Form.TheVariants.{Chunked}
use Rattle.http_messages.specs.Heads.{head_limit}
use Rattle.http_plain.specs.Pages.{IsPage, IsBodyPage, answer_limit, chunks_limit, piece_limit}

-- what came is that page
pub record Shows (flow : List ℕ → Bool → Type 0) (p : Page) : Type 0 where
  pub got : List ℕ
  pub ended : Bool
  pub came : flow got ended
  pub few : length got ≤ answer_limit
  pub page : IsPage got ended p

-- with what came behind a text, the page of the body behind its first bytes is this
pub record ShowsBody (flow : List ℕ → Bool → Type 0) (text : List ℕ) (len : ℕ) (form : Form) (p : Page) : Type 0 where
  pub got : List ℕ
  pub ended : Bool
  pub came : flow got ended
  pub few : length (text ++ got) ≤ answer_limit
  pub page : IsBodyPage form (drop len (text ++ got)) ended p

-- with what came behind these bytes, the page of the body in chunks that they begin is this
pub record ShowsRest (flow : List ℕ → Bool → Type 0) (rest : List ℕ) (p : Page) : Type 0 where
  pub got : List ℕ
  pub ended : Bool
  pub came : flow got ended
  pub few : length (rest ++ got) ≤ chunks_limit
  pub page : IsBodyPage Chunked (rest ++ got) ended p

-- what came before a call failed is no page: what it is was still open
pub record Lacks (broke : List ℕ → Type 0) : Type 0 where
  pub got : List ℕ
  pub came : broke got
  pub none : (p : Page) → IsPage got false p → ⊥

-- with what came behind a text before a call failed, the body behind its first bytes is no page
pub record LacksBody (broke : List ℕ → Type 0) (text : List ℕ) (len : ℕ) (form : Form) : Type 0 where
  pub got : List ℕ
  pub came : broke got
  pub none : (p : Page) → IsBodyPage form (drop len (text ++ got)) false p → ⊥

-- with what came behind these bytes before a call failed, the body in chunks that they begin is no page
pub record LacksRest (broke : List ℕ → Type 0) (rest : List ℕ) : Type 0 where
  pub got : List ℕ
  pub came : broke got
  pub none : (p : Page) → IsBodyPage Chunked (rest ++ got) false p → ⊥

-- what came, at most so many bytes, was given to a reading of chunks; while it goes on, each has taken one of those that may come
pub record Reaches (flow : List ℕ → Bool → Type 0) (most : ℕ) (old new : ChunkReader) (ended : Bool) : Type 0 where
  pub got : List ℕ
  pub came : flow got ended
  pub few : length got ≤ most
  pub spends : is_over new ≡ false → room_of new + length got ≤ room_of old
  pub reads : (x : List ℕ) → HasRead old x → HasRead new (x ++ got)

-- a reading that goes on has room for fewer bytes
abbrev pub TakesRoom : ChunkReader → ChunkReader → Type 0
TakesRoom old new = (room_of new ≤ room_of old) × (is_over new ≡ false → room_of new < room_of old)

-- a text begins with a head of that length, and there is a buffer for what comes behind it
pub record HasHead (buffer text : List ℕ) (len : ℕ) : Type 0 where
  pub room : 0 < length buffer
  pub piece : length buffer ≤ piece_limit
  pub inside : len ≤ length text
  pub small : length text ≤ head_limit
