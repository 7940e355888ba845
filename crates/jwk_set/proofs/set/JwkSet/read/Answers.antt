use Rattle.std.proofs.Common.{◌≡◌, Ok, Err, sym, ◌∙◌, subst, rules}
use Rattle.jwk_set.specs.declared.fault.SetFault.TheVariants.{NotSet}
use Rattle.jwk_set.specs.declared.set.JwkSet.{JwkSet}
use Rattle.jwk_set.specs.KeySets.{GivesBy, key_set_in}
use Rattle.jwk_set.proofs.Sets.{only, found}
use Rattle.jwk_set.proofs.set.JwkSet.read.Goals as goal

pub returns-clause-found : goal.returns-clause-found
unfolding key_set_in
returns-clause-found c = let exact : key_set_in c.args.tree.now ≡ Ok c.in_ok-keys.keys = search rules in found c.args.tree.now c.in_ok-keys.keys exact

pub returns-clause-only : goal.returns-clause-only
unfolding key_set_in
returns-clause-only c = λ keys is. let exact : key_set_in c.args.tree.now ≡ Ok c.in_ok-keys.keys = search rules in sym (only c.args.tree.now keys is) ∙ exact

pub returns-in_default-clause-only : goal.returns-in_default-clause-only
unfolding key_set_in
returns-in_default-clause-only c = λ keys is. let exact : key_set_in c.args.tree.now ≡ Err NotSet = search rules in sym (only c.args.tree.now keys is) ∙ exact

pub returns-in_err-keys-clause-only : goal.returns-in_err-keys-clause-only
unfolding key_set_in
returns-in_err-keys-clause-only c = λ keys is. let exact : GivesBy (λ (set : JwkSet). set.keys) c.from_residual.result (key_set_in c.args.tree.now) = search rules in subst (GivesBy (λ (set : JwkSet). set.keys) c.from_residual.result) (only c.args.tree.now keys is) exact
