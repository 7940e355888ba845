-- The settings where the members behind the claims aren't of their form.
use Rattle.std.proofs.Common.{◌≡◌, List, Ok, Err, ap, ◌∙◌}
use Rattle.fed_base.specs.Answers.{◌>>=◌}
use Rattle.fed_json.specs.declared.tree.Member.{Member}
use Rattle.node_config.specs.declared.fault.ConfigFault.{ConfigFault}
use Rattle.node_config.specs.declared.fault.ConfigFault.TheVariants.{Shape, Memory}
use Rattle.node_config.specs.declared.settings.Basics.{Basics}
use Rattle.node_config.specs.declared.settings.OwnClaims.{OwnClaims}
use Rattle.node_config.specs.Answers.{GivesBy}
use Rattle.node_config.specs.Configurations.{basics_in, further_in, own_claims_in, settings_in}
use Rattle.node_config.specs.Nodes.{Further, Settings}
use Rattle.node_config.specs.Told.{told, told_further}

pub further_fault : (members : List Member) (basics : Basics) (claims : OwnClaims) (fault : ConfigFault) → basics_in members ≡ Ok basics → own_claims_in members ≡ Ok claims
    → GivesBy told_further (Err fault) (further_in basics.id members) → GivesBy told (Err fault) (settings_in members)
unfolding settings_in
further_fault members basics claims Memory first second third = tt
further_fault members basics claims (Shape name) first second third =
    ap (λ r. r >>= λ b. own_claims_in members >>= λ c. further_in b.id members >>= λ f. Ok (made b c f)) first
    ∙ ap (λ r. r >>= λ c. further_in basics.id members >>= λ f. Ok (made basics c f)) second
    ∙ ap (λ r. r >>= λ f. Ok (made basics claims f)) third
  where
    made : Basics → OwnClaims → Further → Settings
    made b c f = record {
      id = b.id;
      ring = b.ring;
      lifetime = b.lifetime;
      claims = c;
      subordinates = f.subordinates;
      revoked = f.revoked;
      resolver = f.resolver;
    }
