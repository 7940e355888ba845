use Rattle.http_plain.proofs.Pages.{one_page}
use Rattle.http_plain.proofs.laws.one_page.Goals as goal

pub returns : goal.returns
returns c = one_page
