use Rattle.std.proofs.Common.{rules, ◌≡◌, map, Some, refl, ap, ◌∙◌}
use Rattle.node_config.specs.Told.{told_anchor, told_resolver}
use Rattle.resolve_reply.specs.Bounds.{bounds_for}
use Rattle.node_files.specs.ResolvingParts.{anchor_keys, booked_entity, booked_keys, bounds_of, part_bounds}
use Rattle.node_files.proofs.AnchorLaws.{booked, bounded, bounds-configured, listed}
use Rattle.node_files.proofs.parts.parts_of.Goals as goal

pub returns : goal.returns
returns c =
    let is : c.args.registry.now.settings.resolver ≡ Some (told_resolver c.in-Some.part.now) = search (rules, c.resolver_config.ensures, c.in-Some.is) in
    let reach : c.in_ok-bounds.bounds ≡ map bounds_of (map told_anchor c.in-Some.part.now.anchors) =
    c.in_ok-bounds.ensures ∙ ap (map part_bounds) c.as_slice.ensures ∙ bounded c.in-Some.part.now.anchors in
    record {
      resolver = told_resolver c.in-Some.part.now;
      resolves = is;
      keys = c.signer.result.now;
      signs = c.signer.ensures;
      signer = search (rules, c.in_ok-iss.ensures, c.id.ensures, c.twin.ensures, reach);
      listed = ap (map booked_entity) (c.in_ok-anchors.ensures ∙ ap (map anchor_keys) c.as_slice-2.ensures) ∙ listed c.in-Some.part.now.anchors;
      anchors = λ anchor. ap (booked_keys anchor) (c.in_ok-anchors.ensures ∙ ap (map anchor_keys) c.as_slice-2.ensures) ∙ booked anchor c.in-Some.part.now.anchors;
      bounds = λ anchor. ap (λ entries. bounds_for entries anchor) reach ∙ bounds-configured anchor (map told_anchor c.in-Some.part.now.anchors);
      routes = c.in_ok-routes.ensures;
      control = search (rules, c.in_ok-control.ensures);
      workers = refl;
    }
