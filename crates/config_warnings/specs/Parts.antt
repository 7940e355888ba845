-- The members that mean something, by the object of the configuration that they stand in.
use Rattle.std.specs.Prelude.{ℕ, List, codes, bytes_eq, Bool, ◌||◌}
use Rattle.entity_statement.specs.Table.{is_operator}
use Rattle.config_warnings.specs.declared.part.Part.{Part}
use Rattle.config_warnings.specs.declared.part.Part.TheVariants.{Node, Subordinate, Operators, Constraints, Naming, Resolver, Anchor, Route, Mark, Owner}

-- what a node is and whom it knows
abbrev pub knows_basic : List ℕ → Bool
knows_basic name =
    bytes_eq name (codes "entity_id") || (bytes_eq name (codes "ring") || (bytes_eq name (codes "lifetime") || (bytes_eq name (codes "subordinates")
    || (bytes_eq name (codes "revoked_marks") || bytes_eq name (codes "resolver")))))

-- what it claims of itself (OpenID Federation 1.0 sections 3.1.1 and 3.1.2)
abbrev pub knows_claim : List ℕ → Bool
knows_claim name =
    bytes_eq name (codes "metadata") || (bytes_eq name (codes "authority_hints") || (bytes_eq name (codes "trust_marks")
    || (bytes_eq name (codes "trust_mark_issuers") || bytes_eq name (codes "trust_mark_owners"))))

-- a member of that name means something there: in a node, a subordinate, the operators of a parameter (section 6.1.3.1), constraints and
-- those of names (section 6.2), a resolver, its anchors and routes, marks (section 7.1) and their owners (section 7.2)
unfoldable pub knows : Part → List ℕ → Bool
knows Node name = knows_basic name || knows_claim name
knows Subordinate name =
    bytes_eq name (codes "entity_id") || (bytes_eq name (codes "jwks") || (bytes_eq name (codes "metadata") || (bytes_eq name (codes "metadata_policy")
    || (bytes_eq name (codes "metadata_policy_crit") || (bytes_eq name (codes "constraints") || (bytes_eq name (codes "entity_types")
    || (bytes_eq name (codes "mark_types") || bytes_eq name (codes "intermediate"))))))))
knows Operators name = is_operator name
knows Constraints name = bytes_eq name (codes "max_path_length") || (bytes_eq name (codes "naming_constraints") || bytes_eq name (codes "allowed_entity_types"))
knows Naming name = bytes_eq name (codes "permitted") || bytes_eq name (codes "excluded")
knows Resolver name =
    bytes_eq name (codes "anchors") || (bytes_eq name (codes "age") || (bytes_eq name (codes "workers") || (bytes_eq name (codes "control") || bytes_eq name (codes "routes"))))
knows Anchor name =
    bytes_eq name (codes "entity_id") || (bytes_eq name (codes "jwks") || (bytes_eq name (codes "depth") || (bytes_eq name (codes "calls") || bytes_eq name (codes "paths"))))
knows Route name = bytes_eq name (codes "host") || (bytes_eq name (codes "ip") || bytes_eq name (codes "port"))
knows Mark name = bytes_eq name (codes "trust_mark_type") || bytes_eq name (codes "trust_mark")
knows Owner name = bytes_eq name (codes "sub") || bytes_eq name (codes "jwks")
