-- Files that were kept, one behind the other.
use Rattle.std.proofs.Common.{◌≡◌, ◌≢◌, ◌<◌, ◌≤◌, ℕ, ◌+◌, List, [], ◌∷◌, ◌++◌, Bool, true, false, cond, bytes_eq, Option, Some, None, Result, Ok, Err, refl, sym, ap, ap₂, ◌∙◌, subst, inr, length, take, drop, get_or, arith}
use Rattle.std.proofs.lemmas.Slice.Eq.{bytes_eq-Decides}
use Rattle.std.proofs.lemmas.List.{drop_more, drop-drop, length-append, take-append-le, drop-append-le, length-drop, nil_from_length}
use Rattle.std.proofs.Math.ListN.{drop_of_length-le}
use Rattle.std.proofs.Math.Seq.{take-append_seam, drop-append_seam, take-length}
use Rattle.fed_ports.specs.NamedFiles.{first_of, file_of}
use Rattle.fed_ports.specs.KeptFiles.{kept_here, kept_of, kept_size, files_of}
use Rattle.fed_ports.specs.Stores.{IsKept}
use Rattle.fed_ports.specs.declared.kept_file.KeptFile.{KeptFile}
use Rattle.fed_ports.specs.declared.named_file.NamedFile.{NamedFile}
use Rattle.fed_ports.proofs.FileLaws.{first_first, first_none}

-- a file is where it was when more bytes stand behind all
here_more : (f : KeptFile) (bytes more name : List ℕ) → f.name + f.bytes ≤ length bytes → kept_here f (bytes ++ more) name ≡ kept_here f bytes name
here_more f bytes more name within =
    let n : f.name ≤ length bytes = omega (arith, within) in
    let rest : f.bytes ≤ length (drop f.name bytes) = omega (arith, within, length-drop f.name bytes) in
    let named = take-append-le f.name bytes more n in
    let behind = drop-append-le f.name bytes more n in
    let held = ap (take f.bytes) behind ∙ take-append-le f.bytes (drop f.name bytes) more rest in
    ap₂ (λ a b. cond (bytes_eq a name) (Some b) None) named held

-- a file behind the others counts first
kept_behind : (fs : List KeptFile) (f : KeptFile) (bytes more name : List ℕ) → kept_size fs ≡ length bytes
    → kept_of (fs ++ f ∷ []) (bytes ++ more) name ≡ first_of (kept_here f more name) (kept_of fs bytes name)
unfolding kept_of kept_size
kept_behind [] f bytes more name size =
    let none : bytes ≡ [] = nil_from_length bytes (sym size) in
    ap (λ b. kept_here f (b ++ more) name) none ∙ first_none (kept_here f more name)
kept_behind (g ∷ fs) f bytes more name size =
    let within : g.name + g.bytes ≤ length bytes = omega (arith, size) in
    let rest = drop (g.name + g.bytes) bytes in
    let same : kept_size fs ≡ length rest = omega (arith, size, length-drop (g.name + g.bytes) bytes) in
    ap₂ first_of (ap (λ b. kept_of (fs ++ f ∷ []) b name) (drop-append-le (g.name + g.bytes) bytes more within) ∙ kept_behind fs f rest more name same) (here_more g bytes more name within)
    ∙ first_first (kept_here f more name) (kept_of fs rest name) (kept_here g bytes name)

-- the bytes of a name and of its file
abbrev pub entry : List ℕ → List ℕ → KeptFile
entry name bytes = record { name = length name; bytes = length bytes }

here_entry : (name bytes other : List ℕ) → kept_here (entry name bytes) (name ++ bytes) other ≡ cond (bytes_eq name other) (Some bytes) None
here_entry name bytes other =
    ap₂ (λ a b. cond (bytes_eq a other) (Some b) None) (take-append_seam name bytes) (ap (take (length bytes)) (drop-append_seam name bytes) ∙ take-length bytes)

other_name : (name bytes other : List ℕ) (b : Bool) (files : Option (List ℕ)) → bytes_eq name other ≡ b → other ≢ name → first_of (cond b (Some bytes) None) files ≡ files
other_name name bytes other true files e differs = absurd (differs (sym ((bytes_eq-Decides name other).0 e)))
other_name name bytes other false files e differs = refl

-- how many bytes there are with a file more
size_more : (fs : List KeptFile) (f : KeptFile) → kept_size (fs ++ f ∷ []) ≡ kept_size fs + (f.name + f.bytes)
unfolding kept_size
size_more [] f = omega arith
size_more (g ∷ fs) f = omega (arith, size_more fs f)

-- their size once a file was put behind them
pub sized_more : (kept new : List KeptFile) (all more name bytes : List ℕ) → kept_size kept ≡ length all → new ≡ kept ++ entry name bytes ∷ [] → more ≡ all ++ (name ++ bytes) → kept_size new ≡ length more
sized_more kept new all more name bytes sized entries whole =
    ap kept_size entries ∙ size_more kept (entry name bytes) ∙ ap (λ n. n + (length name + length bytes)) sized ∙ ap (λ n. length all + n) (sym (length-append name bytes)) ∙ sym (length-append all (name ++ bytes)) ∙ ap length (sym whole)

put_at : (kept : List KeptFile) (all : List ℕ) (files : List NamedFile) (name bytes other : List ℕ) → kept_size kept ≡ length all
    → files_of (kept ++ entry name bytes ∷ []) (all ++ (name ++ bytes)) files other ≡ first_of (cond (bytes_eq name other) (Some bytes) None) (files_of kept all files other)
put_at kept all files name bytes other sized =
    ap (λ o. first_of o (file_of files other)) (kept_behind kept (entry name bytes) all (name ++ bytes) other sized ∙ ap (λ o. first_of o (kept_of kept all other)) (here_entry name bytes other))
    ∙ first_first (cond (bytes_eq name other) (Some bytes) None) (kept_of kept all other) (file_of files other)

puts : {E : Type 0} (kept new : List KeptFile) (all more : List ℕ) (files : List NamedFile) (name bytes : List ℕ) (result : Result Unit E) → kept_size kept ≡ length all
    → new ≡ kept ++ entry name bytes ∷ [] → more ≡ all ++ (name ++ bytes) → IsKept (files_of kept all files) (files_of new more files) name bytes result
puts kept new all more files name bytes result sized entries whole =
    let at : (other : List ℕ) → files_of new more files other ≡ first_of (cond (bytes_eq name other) (Some bytes) None) (files_of kept all files other) =
    λ other. ap₂ (λ fs bs. files_of fs bs files other) entries whole ∙ put_at kept all files name bytes other sized in
    let now : files_of new more files name ≡ Some bytes = at name ∙ ap (λ b. first_of (cond b (Some bytes) None) (files_of kept all files name)) ((bytes_eq-Decides name name).1 refl) in
    is_kept now (λ other differs. at other ∙ other_name name bytes other _ (files_of kept all files other) refl differs) result
  where
    is_kept : {E : Type 0} → files_of new more files name ≡ Some bytes → ((other : List ℕ) → other ≢ name → files_of new more files other ≡ files_of kept all files other) → (r : Result Unit E) → IsKept (files_of kept all files) (files_of new more files) name bytes r
    is_kept now others (Ok x) = record { kept = now; torn = tt; others = others }
    is_kept now others (Err e) = record { kept = tt; torn = inr now; others = others }

-- putting a file behind the others keeps it, whether the call fails or not
pub keeps : {E : Type 0} (kept new : List KeptFile) (all more : List ℕ) (files : List NamedFile) (name named bytes : List ℕ) (result : Result Unit E) → kept_size kept ≡ length all
    → new ≡ kept ++ entry name bytes ∷ [] → more ≡ all ++ (name ++ bytes) → name ≡ named → IsKept (files_of kept all files) (files_of new more files) named bytes result
keeps kept new all more files name named bytes result sized entries whole is =
    subst (λ n. IsKept (files_of kept all files) (files_of new more files) n bytes result) is (puts kept new all more files name bytes result sized entries whole)

-- the file that was put is there
pub put_there : (kept new : List KeptFile) (all more : List ℕ) (files : List NamedFile) (name named bytes : List ℕ) → kept_size kept ≡ length all
    → new ≡ kept ++ entry name bytes ∷ [] → more ≡ all ++ (name ++ bytes) → name ≡ named → files_of new more files named ≡ Some bytes
put_there kept new all more files name named bytes sized entries whole is =
    let k : IsKept {E = Unit {0}} (files_of kept all files) (files_of new more files) name bytes (Ok tt) = puts kept new all more files name bytes (Ok tt) sized entries whole in
    ap (files_of new more files) (sym is) ∙ k.kept

kept_on : (fs : List KeptFile) (i : ℕ) (d f : KeptFile) (rest name : List ℕ) (found files : Option (List ℕ)) → i < length fs → f ≡ get_or fs i d
    → first_of (kept_of (drop i fs) rest name) found ≡ files
    → first_of (kept_of (drop (i + 1) fs) (drop f.bytes (drop f.name rest)) name) (first_of (kept_here f rest name) found) ≡ files
unfolding kept_of
kept_on fs i d f rest name found files less is so =
    let front : drop i fs ≡ f ∷ drop (i + 1) fs = drop_more fs i d less ∙ ap (λ g. g ∷ drop (i + 1) fs) (sym is) in
    ap (λ b. first_of (kept_of (drop (i + 1) fs) b name) (first_of (kept_here f rest name) found)) (drop-drop f.bytes f.name rest)
    ∙ sym (first_first (kept_of (drop (i + 1) fs) (drop (f.name + f.bytes) rest) name) (kept_here f rest name) found) ∙ sym (ap (λ gs. first_of (kept_of gs rest name) found) front) ∙ so

-- one file more was looked at
pub kept_next : (fs : List KeptFile) (i : ℕ) (d f : KeptFile) (rest name : List ℕ) (found files : Option (List ℕ)) (named behind bytes left : List ℕ) (b : Bool) → i < length fs → f ≡ get_or fs i d
    → named ≡ take f.name rest → behind ≡ drop f.name rest → bytes ≡ take f.bytes behind → left ≡ drop f.bytes behind → b ≡ bytes_eq named name
    → first_of (kept_of (drop i fs) rest name) found ≡ files
    → first_of (kept_of (drop (i + 1) fs) left name) (first_of (cond b (Some bytes) None) found) ≡ files
kept_next fs i d f rest name found files named behind bytes left b less is front back held after test so =
    rw (test, held, after, back, front) (kept_on fs i d f rest name found files less is so)

-- all files were looked at
pub kept_at_all : (fs : List KeptFile) (i : ℕ) (rest name : List ℕ) (found files : Option (List ℕ)) → length fs ≤ i → first_of (kept_of (drop i fs) rest name) found ≡ files → found ≡ files
unfolding kept_of
kept_at_all fs i rest name found files all so = sym (ap (λ gs. first_of (kept_of gs rest name) found) (drop_of_length-le fs all)) ∙ so
