use Rattle.std.proofs.Common.{◌==◌, ◌∙◌, ap, sym, arith, subst, ap₂, map, take}
use Rattle.httparse.specs.Spans.{header_bytes}
use Rattle.http_messages.specs.Cuts.{has_stray_body}
use Rattle.http_messages.specs.Plans.{IsPlan}
use Rattle.http_messages.specs.Requests.{method_of, body_size}
use Rattle.http_messages.proofs.Sizes.{new_closes, old_closes, refused_by, size_at, size_method, size_small, stray_at}
use Rattle.http_messages.proofs.plan.read_plan.Goals as goal

pub returns-in_err-size : goal.returns-in_err-size
returns-in_err-size c =
    let x = c.args.head.now in
    let h = c.in_ok-found.ensures.2 in
    let at = size_at x c.heading.new.lines c.in_ok-found.found h.0 h.2 in
    let none = sym at ∙ ap₂ (λ v t. body_size v t (map (header_bytes x) (take c.in_ok-found.found.headers c.heading.new.lines))) (sym c.of-verb.ensures) (sym c.of.ensures) ∙ sym c.in_err-size.ensures in
    subst (IsPlan x) (sym c.from_residual-in_err-size.ensures) (refused_by x h.0 h.1 none)

pub returns-in_err-method : goal.returns-in_err-method
returns-in_err-method c =
    let size = sym c.in_ok-size.ensures in
    absurd (size_method _ _ _ _ size (sym c.method.ensures ∙ c.in_err-method.was))

pub returns-then-found-eq0 : goal.returns-then-found-eq0
returns-then-found-eq0 c =
    let x = c.args.head.now in
    let h = c.in_ok-found.ensures.2 in
    let w = c.in_ok-found.ensures.0 in
    let at = size_at x c.heading.new.lines c.in_ok-found.found h.0 h.2 in
    let size = sym at ∙ ap₂ (λ v t. body_size v t (map (header_bytes x) (take c.in_ok-found.found.headers c.heading.new.lines))) (sym c.of-verb.ensures) (sym c.of.ensures) ∙ sym c.in_ok-size.ensures in
    record {
      parts = h.0;
      reads = h.1;
      sized = size;
      small = size_small _ _ _ c.in_ok-size.size (sym c.in_ok-size.ensures);
      method = ap method_of (sym h.2.method ∙ sym c.of-verb.ensures) ∙ sym c.method.ensures ∙ c.in_ok-method.was;
      ordered = w.path.0;
      in_range = omega (arith, w.path.1, c.in_ok-found.ensures.1);
      target = h.2.path;
      stray = c.has_stray_body.ensures ∙ ap (λ v. has_stray_body v (map (header_bytes x) (take c.in_ok-found.found.headers c.heading.new.lines))) c.of-verb.ensures ∙ stray_at x c.heading.new.lines c.in_ok-found.found h.0 h.2;
      last = ap (λ v. v == 0) c.if-found-eq0.true ∙ old_closes x c.heading.new.lines c.in_ok-found.found h.0 h.2 c.if-found-eq0.true;
    }

pub returns-else-found-eq0 : goal.returns-else-found-eq0
returns-else-found-eq0 c =
    let x = c.args.head.now in
    let h = c.in_ok-found.ensures.2 in
    let w = c.in_ok-found.ensures.0 in
    let at = size_at x c.heading.new.lines c.in_ok-found.found h.0 h.2 in
    let size = sym at ∙ ap₂ (λ v t. body_size v t (map (header_bytes x) (take c.in_ok-found.found.headers c.heading.new.lines))) (sym c.of-verb.ensures) (sym c.of.ensures) ∙ sym c.in_ok-size.ensures in
    record {
      parts = h.0;
      reads = h.1;
      sized = size;
      small = size_small _ _ _ c.in_ok-size.size (sym c.in_ok-size.ensures);
      method = ap method_of (sym h.2.method ∙ sym c.of-verb.ensures) ∙ sym c.method.ensures ∙ c.in_ok-method.was;
      ordered = w.path.0;
      in_range = omega (arith, w.path.1, c.in_ok-found.ensures.1);
      target = h.2.path;
      stray = c.has_stray_body.ensures ∙ ap (λ v. has_stray_body v (map (header_bytes x) (take c.in_ok-found.found.headers c.heading.new.lines))) c.of-verb.ensures ∙ stray_at x c.heading.new.lines c.in_ok-found.found h.0 h.2;
      last = c.asks_close.ensures ∙ new_closes x c.heading.new.lines c.in_ok-found.found h.0 h.2 c.if-found-eq0.false;
    }
