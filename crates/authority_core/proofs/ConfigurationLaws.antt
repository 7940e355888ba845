-- What a configuration file and a ring give.
use Rattle.std.proofs.Common.{◌≡◌, ℕ, List, codes, Bool, true, false, cond, Result, Ok, Err, sym, ap, ◌∙◌}
use Rattle.fed_base.specs.Answers.{◌>>=◌}
use Rattle.fed_json.specs.declared.tree.Json.{Json}
use Rattle.key_ring.specs.Rings.{Ring}
use Rattle.node_config.specs.Answers.{Gives, GivesBy}
use Rattle.node_config.specs.Configurations.{configuration_in}
use Rattle.node_config.specs.Nodes.{Settings}
use Rattle.node_config.specs.Told.{told}
use Rattle.node_config.specs.declared.fault.ConfigFault.{ConfigFault}
use Rattle.node_config.specs.declared.fault.ConfigFault.TheVariants.{Shape, Memory}
use Rattle.authority_core.specs.Configurations.{if_short, node_in, sizes_of}
use Rattle.authority_core.specs.Issued.{states_all_shortly, states_itself_shortly}
use Rattle.authority_core.specs.Nodes.{Node}
use Rattle.authority_core.specs.Stages.{IsFaultOf}

-- the node of settings and a ring
abbrev pub with_ring : Ring → Settings → Node
with_ring ring settings = record { settings = settings; ring = ring }

-- ---- sizes

pub fault-told : {X : Type 0} (name : List ℕ) (e : ConfigFault) (expected : Result X ConfigFault) → IsFaultOf name e → expected ≡ Err (Shape name) → Gives (Err e) expected
fault-told name Memory expected is same = tt
fault-told name (Shape other) expected is same = same ∙ ap (λ n. Err (Shape n)) (sym is)

pub sizes-itself : (node : Node) (short : Bool) → short ≡ states_itself_shortly node → short ≡ false → sizes_of node ≡ Err (Shape (codes "metadata"))
unfolding sizes_of
sizes-itself node short is long =
    ap (λ (b : Bool). cond b (cond (states_all_shortly node.settings) (Ok tt) (Err (Shape (codes "subordinates")))) (Err (Shape (codes "metadata")))) (sym is ∙ long)

pub sizes-all : (node : Node) (short all : Bool) → short ≡ states_itself_shortly node → short ≡ true → all ≡ states_all_shortly node.settings → all ≡ false → sizes_of node ≡ Err (Shape (codes "subordinates"))
unfolding sizes_of
sizes-all node short all is brief each long =
    ap (λ (b : Bool). cond b (cond (states_all_shortly node.settings) (Ok tt) (Err (Shape (codes "subordinates")))) (Err (Shape (codes "metadata")))) (sym is ∙ brief)
    ∙ ap (λ (b : Bool). cond b (Ok tt) (Err (Shape (codes "subordinates")))) (sym each ∙ long)

pub sizes-good : (node : Node) (short all : Bool) → short ≡ states_itself_shortly node → short ≡ true → all ≡ states_all_shortly node.settings → all ≡ true → sizes_of node ≡ Ok tt
unfolding sizes_of
sizes-good node short all is brief each every =
    ap (λ (b : Bool). cond b (cond (states_all_shortly node.settings) (Ok tt) (Err (Shape (codes "subordinates")))) (Err (Shape (codes "metadata")))) (sym is ∙ brief)
    ∙ ap (λ (b : Bool). cond b (Ok tt) (Err (Shape (codes "subordinates")))) (sym each ∙ every)

-- ---- the whole file

pub read-is : (tree : Json) (ring : Ring) (settings : Settings) → configuration_in tree ≡ Ok settings → sizes_of (with_ring ring settings) ≡ Ok tt → node_in tree ring ≡ Ok (with_ring ring settings)
unfolding node_in
read-is tree ring settings reads short =
    ap (λ r. r >>= (λ s. if_short (with_ring ring s))) reads ∙ ap (λ r. r >>= (λ is. Ok (with_ring ring settings))) short

pub read-fault : (tree : Json) (ring : Ring) (e : ConfigFault) → GivesBy told (Err e) (configuration_in tree) → Gives (Err e) (node_in tree ring)
unfolding node_in
read-fault tree ring Memory given = tt
read-fault tree ring (Shape name) given = ap (λ r. r >>= (λ s. if_short (with_ring ring s))) given

pub short-fault : (tree : Json) (ring : Ring) (settings : Settings) (e : ConfigFault) → configuration_in tree ≡ Ok settings → Gives (Err e) (sizes_of (with_ring ring settings)) → Gives (Err e) (node_in tree ring)
unfolding node_in
short-fault tree ring settings Memory reads given = tt
short-fault tree ring settings (Shape name) reads given =
    ap (λ r. r >>= (λ s. if_short (with_ring ring s))) reads ∙ ap (λ r. r >>= (λ is. Ok (with_ring ring settings))) given
