use Rattle.std.proofs.Common.{sym, ◌∙◌, ap}
use Rattle.std.specs.Prelude.{option_map}
use Rattle.std.proofs.lemmas.Result.{err_from_is_err_and}
use Rattle.jwk_set.specs.declared.set.JwkSet.{JwkSet}
use Rattle.node_files.specs.ResolvingParts.{booked_keys}
use Rattle.register_once.specs.declared.opening.Opened.{Opened}
use Rattle.register_once.proofs.StopLaws.{input-source, input-store}
use Rattle.register_once.proofs.opening.open_registration.Goals as goal

pub returns-in_err-posted-clause-source : goal.returns-in_err-posted-clause-source
returns-in_err-posted-clause-source g c =
    let p = err_from_is_err_and c.from_residual-in_err-posted.result c.from_residual-in_err-posted.ensures.1 in
    rw (p.1, p.2) (input-source Opened c.in_err-posted.field-0.0 _ _ c.in_err-posted.ensures.stops)

pub returns-in_err-posted-clause-store : goal.returns-in_err-posted-clause-store
returns-in_err-posted-clause-store g c =
    let p = err_from_is_err_and c.from_residual-in_err-posted.result c.from_residual-in_err-posted.ensures.1 in
    rw (p.1, p.2) (input-store Opened c.in_err-posted.field-0.0 _ _ _ _ c.in_err-posted.ensures.stops c.in_ok-parts.ensures.counts)

pub returns-in_default-2-clause-stopped : goal.returns-in_default-2-clause-stopped
returns-in_default-2-clause-stopped g c = λ call.
    let made = c.in_ok-parts.ensures.node in
    record {
      posted = c.in-Some.posted;
      is_read = record {
        node = made.node;
        is_node = made.is_node;
        resolver = made.are.resolver;
        resolves = made.are.resolves;
        pair = made.are.keys;
        signs = made.are.signs;
        read = rw c.in-Some.is at c.in_ok-posted.ensures.read;
      };
      none = sym (made.are.anchors c.args.order.anchor.now) ∙ ap (booked_keys c.args.order.anchor.now) (sym c.as_slice.ensures) ∙ sym c.in_ok-keys.ensures ∙ ap (option_map (λ (set : JwkSet). set.keys)) c.in_default-2.is;
    }
