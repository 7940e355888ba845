use Rattle.std.proofs.Common.{◌≡◌, Result, Ok, Err}
use Rattle.std.specs.Prelude.{IfOk}
use Rattle.authority_core.specs.Nodes.{Node as Authority}
use Rattle.node_files.specs.declared.parts.Parts.{Parts}
use Rattle.node_files.specs.ResolvingParts.{ArePartsOf}
use Rattle.fed_serve.specs.declared.part.ResolverPart.{ResolverPart}
use Rattle.statement_shelf.specs.Book.{opened_with}
use Rattle.statement_shelf.specs.Passes.{opened_book}
use Rattle.rehearsal.specs.Requests.{IsPartOf}
use Rattle.rehearsal.proofs.resolver.part_of.Goals as goal

-- a part that was opened with the parts of a node is of that node
part_made : {X E : Type 0} (result : Result X E) (part : X → ResolverPart) (node : Authority) (parts : Parts) → ArePartsOf node parts
    → IfOk result (λ r. (part r).signer ≡ parts.signer) → IfOk result (λ r. (part r).control ≡ parts.control)
    → IfOk result (λ r. opened_book (part r).commons ≡ opened_with parts.anchors) → IfOk result (λ r. IsPartOf node (part r))
part_made (Ok r) part node parts are signer control opened = record { parts = parts; are = are; signer = signer; control = control; opened = opened }
part_made (Err e) part node parts are signer control opened = tt

pub returns-clause-part : goal.returns-clause-part
returns-clause-part c =
    part_made c.open_parts.result (λ r. r.0) c.args.registry.now c.in_ok-parts.parts c.in_ok-parts.ensures c.open_parts.ensures.signer
    c.open_parts.ensures.control c.open_parts.ensures.opened
