-- How the federation is made, entity by entity.
use Rattle.std.proofs.Common.{◌≡◌, ℕ, List, [], ◌∷◌, ◌++◌, ap, ◌∙◌, subst, append_assoc}
use Rattle.fed_net.specs.declared.named_page.NamedPage.{NamedPage}
use Rattle.key_ring.specs.Rings.{Ring}
use Rattle.authority_core.specs.Nodes.{Node}
use Rattle.rehearsal.specs.declared.configurations.Role.{Role}
use Rattle.rehearsal.specs.declared.configurations.Role.TheVariants.{Anchor, Upper, Lower}
use Rattle.rehearsal.specs.declared.federation.Entity.{Entity}
use Rattle.rehearsal.specs.Configurations.{IsConfigured, configured_above}
use Rattle.rehearsal.specs.Federations.{AddsFederation, AddsLeaf, AddsSuperior, own_page, pages_of}
use Rattle.rehearsal.specs.Keys.{keys_text, ring_of}

-- a superior above keys that are known
above : (role : Role) (params : ℕ) (keys known : List ℕ) (ring : Ring) (node : Node) → keys ≡ known → IsConfigured (configured_above role keys params) ring node → IsConfigured (configured_above role known params) ring node
above role params keys known ring node same = subst (λ ks. IsConfigured (configured_above role ks params) ring node) same

four : (p0 p1 p2 p3 p4 a b c d : List NamedPage) → p1 ≡ p0 ++ a → p2 ≡ p1 ++ b → p3 ≡ p2 ++ c → p4 ≡ p3 ++ d → p4 ≡ p0 ++ (a ++ (b ++ (c ++ d)))
four p0 p1 p2 p3 p4 a b c d first second third fourth =
    fourth ∙ ap (λ p. p ++ d) third ∙ append_assoc p2 c d ∙ ap (λ p. p ++ (c ++ d)) second ∙ append_assoc p1 b (c ++ d) ∙ ap (λ p. p ++ (b ++ (c ++ d))) first ∙ append_assoc p0 a (b ++ (c ++ d))

pub adds-federation : (params : ℕ) (p0 p1 p2 p3 p4 : List NamedPage) (leaf lower upper anchor : Entity) → AddsLeaf params p0 p1 leaf → AddsSuperior Lower params leaf p1 p2 lower
    → AddsSuperior Upper params lower p2 p3 upper → AddsSuperior Anchor params upper p3 p4 anchor → AddsFederation params p0 p4 anchor
adds-federation params p0 p1 p2 p3 p4 leaf lower upper anchor a b c d = record {
  federation = record { anchor = d.node; upper = c.node; lower = b.node; leaf = a.node };
  is = record {
    anchor = above Anchor params upper.keys (keys_text 1) (ring_of 0) d.node c.known.keys d.configured;
    upper = above Upper params lower.keys (keys_text 3) (ring_of 1) c.node b.known.keys c.configured;
    leaf = a.configured;
    lower = above Lower params leaf.keys (keys_text 2) (ring_of 3) b.node a.known.keys b.configured;
  };
  known = d.known;
  pages =
      four p0 p1 p2 p3 p4 (own_page a.node ∷ []) (pages_of b.node a.node.settings.id) (pages_of c.node b.node.settings.id) (pages_of d.node c.node.settings.id) a.pages
      (b.pages ∙ ap (λ id. p1 ++ pages_of b.node id) a.known.id) (c.pages ∙ ap (λ id. p2 ++ pages_of c.node id) b.known.id) (d.pages ∙ ap (λ id. p3 ++ pages_of d.node id) c.known.id);
}
