use Rattle.std.proofs.Common.{◌++◌, ap, ap₂, ◌∙◌}
use Rattle.slh_dsa.specs.Algorithms.{set_of}
use Rattle.slh_dsa.specs.Keys.{Keys, pk_root_of}
use Rattle.slh_dsa.proofs.key_pair.KeyPair.secret.Goals as goal

pub returns : goal.returns
returns c =
    let rest = ap₂ (λ a b. a ++ b) c.copy_from_slice-2.ensures.after c.copy_from_slice-3.ensures.after in
    let seeds = ap₂ (λ a b. a ++ b) c.copy_from_slice.ensures.after rest ∙ ap (λ (k : Keys). k.seeds) c.self.view_is in
    let root = c.copy_from_slice-4.ensures.after ∙ (c.self.invariant ∙ ap (λ (k : Keys). pk_root_of (set_of k.alg) k.seeds) c.self.view_is) in
    ap₂ (λ a b. a ++ b) seeds root
