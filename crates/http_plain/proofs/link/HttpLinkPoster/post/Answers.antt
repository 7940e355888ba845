use Rattle.std.proofs.Common.{refl}
use Rattle.http_plain.specs.Clients.{post_of}
use Rattle.http_plain.specs.Links.{link_routes}
use Rattle.http_plain.proofs.Exchanging.{answers_by}
use Rattle.http_plain.proofs.link.HttpLinkPoster.post.Goals as goal

pub returns-clause-posted : goal.returns-clause-posted
returns-clause-posted g c =
    (refl, answers_by (post_of c.args.form.now) (link_routes c.args.self.now) c.args.url.now _ _ _ c.post_form.ensures.page c.post_form.ensures.left, c.post_form.ensures.still)
