-- What a store holds, and what its calls do to it.
use Rattle.std.specs.Prelude.{◌≡◌, ◌≢◌, ◌≤◌, ◌<◌, ◌⊎◌, ℕ, List, length, Option, Some, None, Result, Ok, Err, OnOk, OnErr, IfSome}
use Rattle.fed_base.specs.Counts.{Rose}
use Rattle.fed_ports.specs.declared.store.StoreFault.{StoreFault}
use Rattle.fed_ports.specs.declared.store.StoreFault.TheVariants.{Failed, TooLong, Memory}

-- the bytes of the file of each name, where there is one
abbrev pub Files : Type 0
Files = List ℕ → Option (List ℕ)

-- the most bytes that a file or an input may have
abbrev pub file_limit : ℕ
file_limit = 4194304

-- the file that was read, or none, is the file of that name, where that is told
abbrev pub IsFile : Option Files → List ℕ → Option (List ℕ) → Type 0
IsFile None name file = Unit {0}
IsFile (Some files) name file = files name ≡ file

-- what a loading finds: the file's bytes, none, or that it passes the limit
abbrev pub Loads : Option Files → List ℕ → Result (Option (List ℕ)) StoreFault → Type 0
Loads files name (Ok file) = IsFile files name file × IfSome file (λ bytes. length bytes ≤ file_limit)
Loads files name (Err TooLong) = (bytes : List ℕ) × IsFile files name (Some bytes) × (file_limit < length bytes)
Loads files name (Err Failed) = Unit {0}
Loads files name (Err Memory) = Unit {0}

-- the whole file is the new one, or after a failure maybe still the old one, and every other file is as before
pub record IsKept {E : Type 0} (old new : Files) (name bytes : List ℕ) (result : Result Unit E) : Type 0 where
  pub kept : OnOk result (new name ≡ Some bytes)
  pub torn : OnErr result ((new name ≡ old name) ⊎ (new name ≡ Some bytes))
  pub others : (other : List ℕ) → other ≢ name → new other ≡ old other

-- the same, where the files are told
abbrev pub Keeps : {E : Type 0} → Option Files → Option Files → List ℕ → List ℕ → Result Unit E → Type 0
Keeps None new name bytes result = new ≡ None
Keeps (Some old) new name bytes result = (files : Files) × (new ≡ Some files) × IsKept old files name bytes result

-- the count rose, or stands at its last value, where the answer is a failure of the store; any other answer leaves it
abbrev pub Counted : {T : Type 0} → ℕ → ℕ → Result T StoreFault → Type 0
Counted before now (Ok value) = now ≡ before
Counted before now (Err Failed) = Rose before now
Counted before now (Err TooLong) = now ≡ before
Counted before now (Err Memory) = now ≡ before

-- the count never falls, and a failure comes only where it rose
pub record HasStoreCause {T : Type 0} (before now : ℕ) (result : Result T StoreFault) : Type 0 where
  pub later : before ≤ now
  pub counted : Counted before now result
