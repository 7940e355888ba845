use Rattle.fed_resolver.proofs.SampleLaws.{refused-whole, self-whole, unlisted-whole}
use Rattle.fed_resolver.proofs.laws.samples.Goals as goal

pub returns : goal.returns
returns c = record { refused = refused-whole; unlisted = unlisted-whole; itself = self-whole }
