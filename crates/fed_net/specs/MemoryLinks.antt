-- The pages of a link in memory.
use Rattle.std.specs.Prelude.{ℕ, List, [], ◌∷◌, Some, None, if◌then◌else◌, bytes_eq}
use Rattle.fed_base.specs.Plans.{Plan, plan_of}
use Rattle.fed_ports.specs.Webs.{Web}
use Rattle.fed_net.specs.declared.memory_link.MemoryLink.{MemoryLink}
use Rattle.fed_net.specs.declared.named_page.NamedPage.{NamedPage}

-- the first page of that URL
unfoldable pub page_of : List NamedPage → Web
page_of [] url = None
page_of (p ∷ ps) url = if bytes_eq p.url url then Some p.page else page_of ps url

-- its pages
abbrev pub link_web : MemoryLink → Web
link_web link = page_of link.pages

-- the calls that are to fail
abbrev pub link_plan : MemoryLink → Plan
link_plan link = plan_of link.plan

-- how often a call has failed
abbrev pub link_faults : MemoryLink → ℕ
link_faults link = link.faults

-- how many calls there were
abbrev pub link_calls : MemoryLink → ℕ
link_calls link = (plan_of link.plan).made
