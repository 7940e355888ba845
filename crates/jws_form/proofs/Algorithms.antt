-- Each algorithm has one name, and each name one algorithm.
use Rattle.std.proofs.Common.{◌≡◌, ◌≢◌, ℕ, List, Bool, true, false, cond, bytes_eq, Some, None, refl, sym, ap, ◌∙◌}
use Rattle.std.proofs.lemmas.Slice.Eq.{bytes_eq-Decides}
use Rattle.fed_base.specs.declared.algorithm.Alg.{Alg}
use Rattle.fed_base.specs.declared.algorithm.Alg.TheVariants.{Small, Fast}
use Rattle.jws_form.specs.Header.{algorithm, algorithm_of}

pub algorithm_of-algorithm : (alg : Alg) → algorithm_of (algorithm alg) ≡ Some alg
unfolding algorithm_of
algorithm_of-algorithm Small = refl
algorithm_of-algorithm Fast = refl

by_name : (name : List ℕ) (alg : Alg) (small fast : Bool) → bytes_eq name (algorithm Small) ≡ small → bytes_eq name (algorithm Fast) ≡ fast
    → cond small (Some Small) (cond fast (Some Fast) None) ≡ Some alg → name ≡ algorithm alg
by_name name alg true fast is other e = let same : Small ≡ alg = cc e in (bytes_eq-Decides name (algorithm Small)).0 is ∙ ap algorithm same
by_name name alg false true other is e = let same : Fast ≡ alg = cc e in (bytes_eq-Decides name (algorithm Fast)).0 is ∙ ap algorithm same
by_name name alg false false other neither e = cc e

pub algorithm_of-only : (name : List ℕ) (alg : Alg) → algorithm_of name ≡ Some alg → name ≡ algorithm alg
unfolding algorithm_of
algorithm_of-only name alg e = by_name name alg _ _ refl refl e

pub one_algorithm : (a b : Alg) → algorithm a ≡ algorithm b → a ≡ b
one_algorithm a b e = let same = sym (algorithm_of-algorithm a) ∙ ap algorithm_of e ∙ algorithm_of-algorithm b in cc same

pub names_differ : algorithm Small ≢ algorithm Fast
names_differ e = let same = one_algorithm Small Fast e in cc same
