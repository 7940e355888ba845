-- The files of a store in memory.
use Rattle.std.proofs.Common.{◌≡◌, ◌≢◌, ℕ, List, [], ◌∷◌, ◌++◌, Bool, true, false, cond, bytes_eq, Option, Some, None, Result, Ok, Err, OnOk, OnErr, refl, sym, ap, ◌∙◌, subst, inl, ◌<◌, ◌≤◌, ◌+◌, length, drop, get_or}
use Rattle.std.proofs.lemmas.Slice.Eq.{bytes_eq-Decides}
use Rattle.std.proofs.Math.ListN.{drop_of_length-le}
use Rattle.std.proofs.lemmas.List.{drop_more}
use Rattle.fed_ports.specs.NamedFiles.{file_of, first_of}
use Rattle.fed_ports.specs.Stores.{IsKept}
use Rattle.fed_ports.specs.declared.named_file.NamedFile.{NamedFile}

-- of three files the first that is there, whichever two are compared first
pub first_first : (x y z : Option (List ℕ)) → first_of (first_of x y) z ≡ first_of x (first_of y z)
first_first None y z = refl
first_first (Some bytes) y z = refl

-- the file itself where there is no other
pub first_none : (x : Option (List ℕ)) → x ≡ first_of x None
first_none None = refl
first_none (Some bytes) = refl

-- a file behind the others counts first
pub file_behind : (fs : List NamedFile) (f : NamedFile) (name : List ℕ) → file_of (fs ++ f ∷ []) name ≡ first_of (cond (bytes_eq f.name name) (Some f.bytes) None) (file_of fs name)
unfolding file_of
file_behind [] f name = first_none _
file_behind (g ∷ fs) f name = ap (λ x. first_of x (cond (bytes_eq g.name name) (Some g.bytes) None)) (file_behind fs f name) ∙ first_first (cond (bytes_eq f.name name) (Some f.bytes) None) (file_of fs name) (cond (bytes_eq g.name name) (Some g.bytes) None)

file_here : (fs : List NamedFile) (f : NamedFile) → file_of (fs ++ f ∷ []) f.name ≡ Some f.bytes
file_here fs f = file_behind fs f f.name ∙ ap (λ b. first_of (cond b (Some f.bytes) None) (file_of fs f.name)) ((bytes_eq-Decides f.name f.name).1 refl)

other_name : (fs : List NamedFile) (f : NamedFile) (name : List ℕ) (b : Bool) → bytes_eq f.name name ≡ b → name ≢ f.name → first_of (cond b (Some f.bytes) None) (file_of fs name) ≡ file_of fs name
other_name fs f name true e differs = absurd (differs (sym ((bytes_eq-Decides f.name name).0 e)))
other_name fs f name false e differs = refl

file_away : (fs : List NamedFile) (f : NamedFile) (name : List ℕ) → name ≢ f.name → file_of (fs ++ f ∷ []) name ≡ file_of fs name
file_away fs f name differs = file_behind fs f name ∙ other_name fs f name _ refl differs

is_put : {E : Type 0} (fs gs : List NamedFile) (f : NamedFile) (result : Result Unit E) → OnOk result (gs ≡ fs ++ f ∷ []) → OnErr result (gs ≡ fs) → IsKept (file_of fs) (file_of gs) f.name f.bytes result
is_put fs gs f (Ok x) ok err = record {
  kept = ap (λ hs. file_of hs f.name) ok ∙ file_here fs f;
  torn = tt;
  others = λ other differs. ap (λ hs. file_of hs other) ok ∙ file_away fs f other differs;
}
is_put fs gs f (Err e) ok err = record {
  kept = tt;
  torn = inl (ap (λ hs. file_of hs f.name) err);
  others = λ other differs. ap (λ hs. file_of hs other) err;
}

-- one file more was looked at
pub looked_on : (fs : List NamedFile) (i : ℕ) (f : NamedFile) (name : List ℕ) (found : Option (List ℕ)) → i < length fs → f ≡ get_or fs i f
    → first_of (file_of (drop i fs) name) found ≡ file_of fs name
    → first_of (file_of (drop (i + 1) fs) name) (first_of (cond (bytes_eq f.name name) (Some f.bytes) None) found) ≡ file_of fs name
unfolding file_of
looked_on fs i f name found less is so =
    let rest : drop i fs ≡ f ∷ drop (i + 1) fs = drop_more fs i f less ∙ ap (λ g. g ∷ drop (i + 1) fs) (sym is) in
    sym (first_first (file_of (drop (i + 1) fs) name) (cond (bytes_eq f.name name) (Some f.bytes) None) found) ∙ sym (ap (λ gs. first_of (file_of gs name) found) rest) ∙ so

-- all files were looked at
pub looked_at_all : (fs : List NamedFile) (i : ℕ) (name : List ℕ) (found : Option (List ℕ)) → length fs ≤ i → first_of (file_of (drop i fs) name) found ≡ file_of fs name → found ≡ file_of fs name
unfolding file_of
looked_at_all fs i name found all so = sym (ap (λ gs. first_of (file_of gs name) found) (drop_of_length-le fs all)) ∙ so

-- no file was looked at
pub looked_at_none : (fs : List NamedFile) (name : List ℕ) → first_of (file_of fs name) None ≡ file_of fs name
looked_at_none fs name = sym (first_none _)

-- the file behind the others, or no change, is what `keep` does
pub puts : {E : Type 0} (fs gs : List NamedFile) (f : NamedFile) (name bytes : List ℕ) (result : Result Unit E) → f.name ≡ name → f.bytes ≡ bytes → OnOk result (gs ≡ fs ++ f ∷ []) → OnErr result (gs ≡ fs) → IsKept (file_of fs) (file_of gs) name bytes result
puts fs gs f name bytes result named same ok err = subst (λ n. IsKept (file_of fs) (file_of gs) n bytes result) named (subst (λ b. IsKept (file_of fs) (file_of gs) f.name b result) same (is_put fs gs f result ok err))
