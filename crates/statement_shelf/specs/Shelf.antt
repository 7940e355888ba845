-- What each call on a part of the cache replies, and what it leaves.
use Rattle.std.specs.Prelude.{◌≡◌, ◌<◌, ◌≤◌, ◌-◌, ℕ, List, ◌∷◌, ◌++◌, length, All, Some, IfSome, slice_get}
use Rattle.sealed.specs.Seals.{IsSealed}
use Rattle.statement_shelf.specs.Entries.{Entry, Part, entry_at, without, put_first, unproved, with_key, written}
use Rattle.statement_shelf.specs.declared.calls.Proven.{Proven}
use Rattle.statement_shelf.specs.declared.calls.ShelfCall.{ShelfCall}
use Rattle.statement_shelf.specs.declared.calls.ShelfCall.TheVariants.{Look, Put, Prove, Purge}
use Rattle.statement_shelf.specs.declared.calls.ShelfReply.{ShelfReply}
use Rattle.statement_shelf.specs.declared.calls.ShelfReply.TheVariants.{Hit, Miss, Done, Gone, Dropped, Memory}

-- the part has an entry of the URL that hasn't ended at the moment
abbrev pub IsLive : Part → List ℕ → ℕ → Entry → Type 0
IsLive part url moment e = (entry_at url part ≡ Some e) × (moment < e.until)

-- the reply shows the entry
abbrev pub Shows : Entry → Proven → Type 0
Shows e proven = (proven.text ≡ e.text) × (proven.keys ≡ e.keys)

-- an entry of the URL has the text
abbrev pub Holds : Part → List ℕ → List ℕ → Entry → Type 0
Holds part url text e = (entry_at url part ≡ Some e) × (e.text ≡ text)

-- so many entries were taken from the back, all of which had ended; the last that is left hasn't
pub record IsPurged (old : Part) (moment n : ℕ) (new : Part) : Type 0 where
  pub gone : Part
  pub split : old ≡ new ++ gone
  pub count : length gone ≡ n
  pub ended : All (λ p. p.1.until ≤ moment) gone
  pub live : IfSome (slice_get new (length new - 1)) (λ p. moment < p.1.until)

-- the old part, the call, its reply and the new part; a Prove is made only with a pair that verifies
abbrev pub ShelfStep : Part → ShelfCall → ShelfReply → Part → Type 0
ShelfStep old (Look url moment) (Hit proven) new = (e : Entry) × IsLive old url moment e × Shows e proven × (new ≡ (url, e) ∷ without url old)
ShelfStep old (Look url moment) Miss new = ((e : Entry) → ¬ IsLive old url moment e) × (new ≡ old)
ShelfStep old (Look url moment) Memory new = new ≡ old
ShelfStep old (Put url text until) Done new = new ≡ put_first url (unproved text until) old
ShelfStep old (Put url text until) Memory new = new ≡ old
ShelfStep old (Prove url seal) Done new = (e : Entry) × Holds old url seal.text e × (new ≡ written url (with_key seal.public e) old) × IsSealed seal
ShelfStep old (Prove url seal) Gone new = ((e : Entry) → ¬ Holds old url seal.text e) × (new ≡ old) × IsSealed seal
ShelfStep old (Purge moment) (Dropped n) new = IsPurged old moment n new
ShelfStep old call reply new = ⊥
